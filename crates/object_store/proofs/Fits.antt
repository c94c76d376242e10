-- Extents taken by first fit, one after another.
use Rattle.std.proofs.Common.{◌≡◌, ⊎_elim, ℕ, ◌+◌, ◌^◌, ◌<◌, List, [], ◌∷◌, ◌++◌, length, map, take, get_or, Bor, refl}
use Rattle.std.proofs.Common.{sym, ◌∙◌, ap, subst, arith}
use Rattle.std.proofs.lemmas.List.{map-append, length-append, length-map, take_at, take_more, take-map, take-append-le}
use Rattle.std.proofs.lemmas.List.{get_or-map, get_or_append_left, get_or_at}
use Rattle.std.proofs.lemmas.List.Elements.{All-nil, All-push}
use Rattle.std.proofs.lemmas.List.Quantifiers.{all_pairs_push}
use Rattle.extents.specs.declared.extent.Extent.{Extent}
use Rattle.extents.specs.Extents.{Holds, SomeHolds, AreApart, IsInRange, AreLaidOut}
use Rattle.extents.specs.Runs.{FreeSectors, IsFree, AreFreeFrom, IsFirstFit, TakesAway}
use Rattle.superblock.specs.Superblock.{sectors_of}
use Rattle.object_store.specs.declared.catalogue.entry.Entry.{Entry}
use Rattle.object_store.specs.Commit.{put_size, puts_of, IsObject, ArePuts}
use Rattle.object_store.specs.Places.{extent_of, extents_of, size_at}
use Rattle.object_store.specs.Room.{AreFirstFits, FitsFail, lengths_of}
use Rattle.object_store.specs.Placing.{ArePlaced}
use Rattle.object_store.proofs.Lists.{AllPairs-nil}
use Rattle.object_store.proofs.Extents.{one_holds, in_either}

pub fits_more : (first now next : FreeSectors) (lens : List ℕ) (extents : List Extent) (len : ℕ) (e : Extent)
    → AreFirstFits first lens extents now → IsFirstFit now len e → TakesAway now e next
    → AreFirstFits first (lens ++ len ∷ []) (extents ++ e ∷ []) next
fits_more first now next [] [] len e same fit away = (
  next,
  subst (λ (f : FreeSectors). IsFirstFit f len e) same fit,
  subst (λ (f : FreeSectors). TakesAway f e next)
      same away,
  refl,
)
fits_more first now next [] (x ∷ extents) len e none fit away = absurd none
fits_more first now next (l ∷ lens) [] len e none fit away = absurd none
fits_more first now next (l ∷ lens) (x ∷ extents) len e fits fit away =
    (fits.0, fits.1, fits.2, fits_more fits.0 now next lens extents len e fits.3 fit away)

-- before the first
pub placed_none : (first : FreeSectors) → ArePlaced first [] [] first
placed_none first = record {
  places = refl;
  fits = refl;
  ids_fit = All-nil (λ (e : Entry). e.id < 2 ^ 32);
  laid_out = record { in_range = All-nil (IsInRange first.count); apart = AllPairs-nil AreApart };
  were_free = λ i held. absurd held;
  still_free = λ i free. (free, λ held. held);
  count = refl;
}

-- an extent that is taken next lies apart from those before it
module _ (first mid : FreeSectors) (puts : List (ℕ × List ℕ)) (entries : List Entry)
    (so_far : ArePlaced first puts entries mid) (len : ℕ) (e : Extent) (fit : IsFirstFit mid len e) where
  pub is_free : (i : ℕ) → Holds e i → IsFree mid i
  is_free i here =
      let asked : e.len ≡ len = fit.asked in
      fit.free_sectors i here.0 (omega (arith, here.1, asked))

  pub was_free : (i : ℕ) → Holds e i → IsFree first i
  was_free i here = (so_far.still_free i (is_free i here)).0

  pub not_placed : (i : ℕ) → Holds e i → SomeHolds (extents_of entries) i → ⊥
  not_placed i here there = (so_far.still_free i (is_free i here)).1 there

-- one more
pub placed_more : (first mid next : FreeSectors) (puts : List (ℕ × List ℕ)) (entries : List Entry) (put : ℕ × List ℕ)
    (x : Entry) (e : Extent) → ArePlaced first puts entries mid
    → x.id < 2 ^ 32 → size_at x ≡ put_size put → e ≡ extent_of x.first x.bytes
    → IsFirstFit mid (sectors_of (length put.1)) e → IsInRange mid.count e → TakesAway mid e next
    → ArePlaced first (puts ++ put ∷ []) (entries ++ x ∷ []) next
placed_more first mid next puts entries put x e so_far id_fits size is_extent fit in_range away =
    let es : List Extent = extents_of entries in
    let extents : es ++ e ∷ [] ≡ extents_of (entries ++ x ∷ []) =
    ap (λ (y : Extent). es ++ y ∷ []) is_extent
    ∙ sym (map-append (λ (y : Entry). extent_of y.first y.bytes) entries (x ∷ [])) in record {
      places =
          map-append size_at entries (x ∷ []) ∙ ap (λ (l : List (ℕ × ℕ)). l ++ size_at x ∷ []) so_far.places
          ∙ ap (λ (s : ℕ × ℕ). map put_size puts ++ s ∷ []) size ∙ sym (map-append put_size puts (put ∷ []));
      fits = subst (λ (l : List ℕ). AreFirstFits first l (extents_of (entries ++ x ∷ [])) next)
          (sym (map-append (λ (p : ℕ × List ℕ). sectors_of (length p.1)) puts (put ∷ [])))
          (subst (λ (l : List Extent). AreFirstFits first (lengths_of puts ++ sectors_of (length put.1) ∷ []) l next)
          extents
          (fits_more first mid next (lengths_of puts) es (sectors_of (length put.1)) e so_far.fits fit away));
      ids_fit = All-push (λ (y : Entry). y.id < 2 ^ 32) entries x so_far.ids_fit id_fits;
      laid_out = subst (AreLaidOut first.count) extents (record {
        in_range = All-push (IsInRange first.count) es e so_far.laid_out.in_range
            (subst (λ (n : ℕ). IsInRange n e) so_far.count in_range);
        apart = all_pairs_push AreApart es e so_far.laid_out.apart (λ k d lt i there here.
            not_placed first mid puts entries so_far (sectors_of (length put.1)) e fit i here
            (one_holds es k d lt i there));
      });
      were_free =
          λ i held. ⊎_elim (so_far.were_free i)
          (λ last. ⊎_elim (was_free first mid puts entries so_far (sectors_of (length put.1)) e fit i)
          (λ none. absurd none) last)
          (in_either es (e ∷ []) i (subst (λ (l : List Extent). SomeHolds l i) (sym extents) held));
      still_free = λ i free.
          let here = (away.sectors i).0 free in (
            (so_far.still_free i here.0).0,
            λ held. ⊎_elim ((so_far.still_free i here.0).1) (λ last. ⊎_elim (λ there. here.1 there) (λ none. none) last)
                (in_either es (e ∷ []) i (subst (λ (l : List Extent). SomeHolds l i) (sym extents) held)),
          );
      count = away.count ∙ so_far.count;
    }

-- a place that is not found among the first ones
pub fail_here : (first now : FreeSectors) (puts : List (ℕ × List ℕ)) (k : ℕ) (d : ℕ × List ℕ) (entries : List Entry)
    (lens : List ℕ) → k < length puts → ArePlaced first (take k puts) entries now
    → lens ≡ lengths_of puts → ((at : ℕ) → ¬ AreFreeFrom now (sectors_of (length (get_or puts k d).1)) at)
    → FitsFail first lens
fail_here first now puts k d entries lens lt so_far are none = record {
  before = k;
  extents = extents_of entries;
  left = now;
  within = subst (λ (l : List ℕ). k < length l) (sym are)
      (omega (arith, lt, length-map puts (λ (p : ℕ × List ℕ). sectors_of (length p.1))));
  fits = subst (λ (l : List ℕ). AreFirstFits first l (extents_of entries) now)
      (sym (take-map (λ (p : ℕ × List ℕ). sectors_of (length p.1)) k puts) ∙ ap (λ (l : List ℕ). take k l) (sym are))
      so_far.fits;
  none = λ at. subst (λ (n : ℕ). ¬ AreFreeFrom now n at)
      (sym (ap (λ (l : List ℕ). get_or l k 0) are
      ∙ get_or-map (λ (p : ℕ × List ℕ). sectors_of (length p.1)) puts k d 0 lt)) (none at);
}

-- and with more to be placed after them
pub fail_more : (first : FreeSectors) (lens : List ℕ) (len : ℕ) → FitsFail first lens
    → FitsFail first (lens ++ len ∷ [])
fail_more first lens len fail = record {
  before = fail.before;
  extents = fail.extents;
  left = fail.left;
  within = omega (arith, fail.within, length-append lens (len ∷ []));
  fits = subst (λ (l : List ℕ). AreFirstFits first l fail.extents fail.left)
      (sym (take-append-le fail.before lens (len ∷ []) (omega (arith, fail.within)))) fail.fits;
  none = λ at. subst (λ (n : ℕ). ¬ AreFreeFrom fail.left n at)
      (sym (get_or_append_left lens (len ∷ []) 0 fail.before fail.within)) (fail.none at);
}

-- the last place is not found
pub fail_last : (first now : FreeSectors) (puts : List (ℕ × List ℕ)) (entries : List Entry) (len : ℕ)
    → ArePlaced first puts entries now → ((at : ℕ) → ¬ AreFreeFrom now len at)
    → FitsFail first (lengths_of puts ++ len ∷ [])
fail_last first now puts entries len placed none = record {
  before = length (lengths_of puts);
  extents = extents_of entries;
  left = now;
  within = omega (arith, length-append (lengths_of puts) (len ∷ []));
  fits = subst (λ (l : List ℕ). AreFirstFits first l (extents_of entries) now)
      (sym (take_at (lengths_of puts) (len ∷ []) (length (lengths_of puts)) refl)) placed.fits;
  none = λ at. subst (λ (n : ℕ). ¬ AreFreeFrom now n at)
      (sym (get_or_at (lengths_of puts) len [] 0 (length (lengths_of puts)) refl)) (none at);
}

-- a put keeps the limits of objects
pub put_object : (raw : List (ℕ × Bor (List ℕ))) (k : ℕ) (d : ℕ × Bor (List ℕ)) → ArePuts (puts_of raw) → k < length raw
    → IsObject ((get_or raw k d).0, (get_or raw k d).1.now)
put_object raw k d puts lt =
    let many : length (puts_of raw) ≡ length raw = length-map raw (λ put. (put.0, put.1.now)) in
    subst IsObject (get_or-map (λ put. (put.0, put.1.now)) raw k d (d.0, d.1.now) lt)
    (puts.each k (d.0, d.1.now) (omega (arith, lt, many)))

-- one put of a loop over them
pub placed_step : (first mid next : FreeSectors) (raw : List (ℕ × Bor (List ℕ))) (k : ℕ) (d : ℕ × Bor (List ℕ))
    (entries new : List Entry) (x : Entry) (e : Extent) (len : ℕ) → k < length raw
    → ArePlaced first (take k (puts_of raw)) entries mid
    → x ≡ record { id = (get_or raw k d).0; first = e.first; bytes = length (get_or raw k d).1.now } → x.id < 2 ^ 32
    → new ≡ entries ++ x ∷ [] → len ≡ sectors_of (length (get_or raw k d).1.now)
    → IsFirstFit mid len e → IsInRange mid.count e → TakesAway mid e next
    → ArePlaced first (take (k + 1) (puts_of raw)) new next
placed_step first mid next raw k d entries new x e len lt so_far is id_fits grown asked fit in_range away =
    let put : ℕ × List ℕ = ((get_or raw k d).0, (get_or raw k d).1.now) in
    let many : length (puts_of raw) ≡ length raw = length-map raw (λ put. (put.0, put.1.now)) in
    let next_put : take (k + 1) (puts_of raw) ≡ take k (puts_of raw) ++ put ∷ [] =
    take_more (puts_of raw) k (d.0, d.1.now) (omega (arith, lt, many))
    ∙ ap (λ (p : ℕ × List ℕ). take k (puts_of raw) ++ p ∷ [])
    (get_or-map (λ put. (put.0, put.1.now)) raw k d (d.0, d.1.now) lt) in
    let fit' : IsFirstFit mid (sectors_of (length put.1)) e = subst (λ (n : ℕ). IsFirstFit mid n e) asked fit in
    let is_extent : e ≡ extent_of x.first x.bytes =
    ap (λ (n : ℕ). record { first = e.first; len = n }) fit'.asked
    ∙ sym (ap (λ (y : Entry). extent_of y.first y.bytes) is) in
    subst (λ (l : List (ℕ × List ℕ)). ArePlaced first l new next) (sym next_put)
    (subst (λ (l : List Entry). ArePlaced first (take k (puts_of raw) ++ put ∷ []) l next) (sym grown)
    (placed_more first mid next (take k (puts_of raw)) entries put x e so_far id_fits (ap size_at is) is_extent fit'
    in_range away))

-- a put for which no place is found
pub fail_put : (first now : FreeSectors) (raw : List (ℕ × Bor (List ℕ))) (k : ℕ) (d : ℕ × Bor (List ℕ))
    (entries : List Entry) (len : ℕ) → k < length raw → ArePlaced first (take k (puts_of raw)) entries now
    → len ≡ sectors_of (length (get_or raw k d).1.now) → ((at : ℕ) → ¬ AreFreeFrom now len at)
    → FitsFail first (lengths_of (puts_of raw))
fail_put first now raw k d entries len lt so_far asked none =
    let many : length (puts_of raw) ≡ length raw = length-map raw (λ put. (put.0, put.1.now)) in
    let put_is : get_or (puts_of raw) k (d.0, d.1.now) ≡ ((get_or raw k d).0, (get_or raw k d).1.now) =
    get_or-map (λ put. (put.0, put.1.now)) raw k d (d.0, d.1.now) lt in
    fail_here first now (puts_of raw) k (d.0, d.1.now) entries (lengths_of (puts_of raw)) (omega (arith, lt, many))
    so_far refl
    (λ at. subst (λ (n : ℕ). ¬ AreFreeFrom now n at)
    (asked ∙ sym (ap (λ (p : ℕ × List ℕ). sectors_of (length p.1)) put_is)) (none at))
