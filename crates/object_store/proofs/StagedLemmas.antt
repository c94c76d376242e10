-- What a staged commit is made of.
use Rattle.std.proofs.Common.{◌≡◌, ⊎_elim, ℕ, ◌+◌, ◌*◌, ◌^◌, ◌<◌, ◌≤◌, List, [], ◌∷◌, length, map, get_or, refl, sym}
use Rattle.std.proofs.Common.{◌∙◌, ap, subst, arith}
use Rattle.std.specs.List.{All}
use Rattle.std.proofs.lemmas.List.{length-map, get_or-map}
use Rattle.std.proofs.lemmas.List.Elements.{All-cons, All-get_or}
use Rattle.std.proofs.lemmas.List.Kept.{AllPairs-cons}
use Rattle.extents.specs.declared.extent.Extent.{Extent}
use Rattle.extents.specs.Extents.{Holds, SomeHolds, AreApart, IsInRange, AreLaidOut}
use Rattle.extents.specs.Runs.{FreeSectors, AreFreeFrom, IsFirstFit, IsFreeOutside}
use Rattle.superblock.specs.Superblock as superblocks
use Rattle.superblock.specs.Superblock.{sectors_of}
use Rattle.wire.specs.Limits.{least_sectors, most_objects}
use Rattle.object_store.specs.declared.catalogue.entry.Entry.{Entry}
use Rattle.object_store.specs.Catalogue as catalogues
use Rattle.object_store.specs.Catalogue.{FitsFields, IsProperEntry, IdsAscend, IsCatalogue, catalogue_of}
use Rattle.object_store.proofs.Catalogues.{length-catalogue_of}
use Rattle.object_store.specs.declared.staged.Staged.{Staged}
use Rattle.object_store.specs.Commit.{IsLayout, FitsRoot, IsObject, ArePuts, put_each, put_size}
use Rattle.object_store.specs.Places.{extent_of, extents_of, size_at, sizes_at}
use Rattle.object_store.specs.Room.{FitsFail, LacksPlaces, sectors_asked_for, lengths_of, catalogue_bytes}
use Rattle.object_store.specs.Publish.{AreFor, IsStagedForPuts}
use Rattle.object_store.specs.Placing.{ArePlaced}
use Rattle.object_store.proofs.Lists.{All-put_each, ascending-put_each, map-put_each}
use Rattle.object_store.proofs.Extents.{apart_each, held_put_each, laid_out_put_each}
use Rattle.object_store.proofs.Fits.{was_free, not_placed, fail_more, fail_last}

-- how many objects there are after it
pub objects_after : (placed kept : List Entry) (puts : List (ℕ × List ℕ)) → AreFor placed puts
    → length (put_each (λ e. e.id) placed kept) ≡ length (put_each (λ o. o.0) (map put_size puts) (sizes_at kept))
objects_after placed kept puts are_for =
    sym (length-map (put_each (λ (e : Entry). e.id) placed kept) size_at)
    ∙ ap (λ (l : List (ℕ × ℕ)). length l)
    (map-put_each size_at (λ (e : Entry). e.id) (λ (o : ℕ × ℕ). o.0) (λ e. refl) placed kept)
    ∙ ap (λ (l : List (ℕ × ℕ)). length (put_each (λ o. o.0) l (sizes_at kept))) are_for

-- an entry that was placed keeps the rules
placed_size : (placed : List Entry) (puts : List (ℕ × List ℕ)) → AreFor placed puts → ArePuts puts → (k : ℕ) (d : Entry)
    → k < length placed → (1 ≤ (get_or placed k d).bytes) × ((get_or placed k d).bytes ≤ 134217728)
placed_size placed puts are_for good k d lt =
    let many : length placed ≡ length puts = sym (length-map placed size_at)
    ∙ ap (λ (l : List (ℕ × ℕ)). length l) are_for ∙ length-map puts put_size in
    let below : k < length puts = omega (arith, lt, many) in
    let o : IsObject (get_or puts k (0, [])) = good.each k (0, []) below in
    let size : size_at (get_or placed k d) ≡ put_size (get_or puts k (0, [])) =
    sym (get_or-map size_at placed k d (0, 0) lt) ∙ ap (λ (l : List (ℕ × ℕ)). get_or l k (0, 0)) are_for
    ∙ get_or-map put_size puts k (0, []) (0, 0) below in
    let bytes : (get_or placed k d).bytes ≡ length (get_or puts k (0, [])).1 = ap (λ (s : ℕ × ℕ). s.1) size in
    (omega (arith, o.least, bytes), omega (arith, o.most, bytes))

-- where an entry's extent lies in range, its first sector is that of a small device
placed_first : (sectors : ℕ) (placed : List Entry) → sectors < 2 ^ 32 → AreLaidOut sectors (extents_of placed)
    → (k : ℕ) (d : Entry) → k < length placed → (get_or placed k d).first < 2 ^ 32
placed_first sectors placed few laid k d lt =
    let many : length (extents_of placed) ≡ length placed =
    length-map placed (λ (e : Entry). extent_of e.first e.bytes) in
    let r : IsInRange sectors (extent_of (get_or placed k d).first (get_or placed k d).bytes) =
    subst (IsInRange sectors)
    (get_or-map (λ (e : Entry). extent_of e.first e.bytes) placed k d (extent_of d.first d.bytes) lt)
    (All-get_or (IsInRange sectors) (extents_of placed) k (extent_of d.first d.bytes) (omega (arith, lt, many))
    laid.in_range) in
    let some = r.not_empty in
    let ends = r.ends in
    omega (arith, few)

module _ (sectors : ℕ) (used : List Extent) (kept : List Entry) (puts : List (ℕ × List ℕ)) (root : List ℕ)
    (generation layout : ℕ) (staged : Staged)
    (free mid next : FreeSectors) (e : Extent)
    (large : least_sectors ≤ sectors) (few_sectors : sectors < 2 ^ 32) (counted : 1 ≤ generation)
    (fits : generation < 2 ^ 64) (known : IsLayout layout)
    (kept_laid : AreLaidOut sectors (extents_of kept)) (in_use : (sector : ℕ) → SomeHolds (extents_of kept) sector
    → SomeHolds used sector)
    (kept_fit : All FitsFields kept) (kept_proper : All IsProperEntry kept) (ascending : IdsAscend kept)
    (good : ArePuts puts) (is_root : FitsRoot root)
    (few : length (put_each (λ o. o.0) (map put_size puts) (sizes_at kept)) ≤ most_objects)
    (outside : IsFreeOutside sectors used free) (placed : ArePlaced free puts staged.placed.items mid)
    (entries : staged.entries.items ≡ put_each (λ e. e.id) staged.placed.items kept)
    (same_root : staged.root.items ≡ root)
    (spelled : staged.catalogue.items ≡ catalogue_of staged.entries.items root)
    (fit : IsFirstFit mid (sectors_of (length staged.catalogue.items)) e) (in_range : IsInRange mid.count e)
    (sized : staged.superblock.sectors ≡ sectors) (numbered : staged.superblock.generation ≡ generation)
    (of_layout : staged.superblock.layout ≡ layout)
    (first : staged.superblock.catalogue ≡ e.first) (bytes : staged.superblock.bytes ≡ length staged.catalogue.items)
  where
    placed_laid : AreLaidOut sectors (extents_of staged.placed.items)
    placed_laid = subst (λ (n : ℕ). AreLaidOut n (extents_of staged.placed.items)) outside.of_device placed.laid_out

    extent_is : e ≡ extent_of staged.superblock.catalogue staged.superblock.bytes
    extent_is =
        ap (λ (n : ℕ). record { first = e.first; len = n }) (fit.asked ∙ sym (ap (λ (n : ℕ). sectors_of n) bytes))
        ∙ sym (ap (λ (n : ℕ). extent_of n staged.superblock.bytes) first)

    range : IsInRange sectors (extent_of staged.superblock.catalogue staged.superblock.bytes)
    range = subst (IsInRange sectors) extent_is
        (subst (λ (n : ℕ). IsInRange n e) (placed.count ∙ outside.of_device) in_range)

    free_there : (i : ℕ) → Holds (extent_of staged.superblock.catalogue staged.superblock.bytes) i → SomeHolds used i
        → ⊥
    free_there i here held =
        (((outside.sectors i).0
        (was_free free mid puts staged.placed.items placed (sectors_of (length staged.catalogue.items)) e fit i
        (subst (λ (x : Extent). Holds x i) (sym extent_is) here))).2) held

    apart_there : (i : ℕ) → Holds (extent_of staged.superblock.catalogue staged.superblock.bytes) i
        → SomeHolds (extents_of staged.placed.items) i → ⊥
    apart_there i here =
        not_placed free mid puts staged.placed.items placed (sectors_of (length staged.catalogue.items))
        e
        fit i (subst (λ (x : Extent). Holds x i) (sym extent_is) here)

    placed_free : (i : ℕ) → SomeHolds (extents_of staged.placed.items) i → SomeHolds used i → ⊥
    placed_free i there held = ((outside.sectors i).0 (placed.were_free i there)).2 held

    entries_laid : AreLaidOut sectors (extents_of staged.entries.items)
    entries_laid = subst (λ (l : List Entry). AreLaidOut sectors (extents_of l)) (sym entries)
        (laid_out_put_each sectors (λ (x : Entry). x.id) staged.placed.items kept placed_laid kept_laid
        (λ i there held. placed_free i there (in_use i held)))

    -- the catalogue and what it names
    with_catalogue : (l : List Entry) → AreLaidOut sectors (extents_of l)
        → ((i : ℕ) → Holds (extent_of staged.superblock.catalogue staged.superblock.bytes) i
        → SomeHolds (extents_of l) i
        → ⊥)
        → AreLaidOut sectors (extent_of staged.superblock.catalogue staged.superblock.bytes ∷ extents_of l)
    with_catalogue l laid none = record {
      in_range = All-cons (IsInRange sectors) (extent_of staged.superblock.catalogue staged.superblock.bytes)
          (extents_of l)
          range laid.in_range;
      apart = AllPairs-cons AreApart (extent_of staged.superblock.catalogue staged.superblock.bytes) (extents_of l)
          (apart_each (extent_of staged.superblock.catalogue staged.superblock.bytes) (extents_of l) none) laid.apart;
    }

    many_bytes : length staged.catalogue.items ≡ 12 + 16 * length staged.entries.items + length root
    many_bytes = ap (λ (l : List ℕ). length l) spelled ∙ length-catalogue_of staged.entries.items root

    many_entries : length staged.entries.items ≤ 65536
    many_entries =
        omega (
          arith,
          few,
          ap (λ (l : List Entry). length l) entries,
          objects_after staged.placed.items kept puts
              placed.places,
        )

    proper : superblocks.IsProperSuperblock staged.superblock
    proper =
        let begins = range.begins in
        let ends = range.ends in record {
          first_layout = omega (arith, known.0, of_layout);
          newest_layout = omega (arith, known.1, of_layout);
          sectors_fit = omega (arith, sized, few_sectors);
          generation_fits = omega (arith, numbered, fits);
          least_sectors = omega (arith, large, sized);
          first_generation = omega (arith, counted, numbered);
          after = begins;
          within = omega (arith, ends, sized);
          least_bytes = omega (arith, bytes, many_bytes);
          most_bytes = omega (arith, bytes, many_bytes, many_entries, is_root);
        }

    proper_catalogue : catalogues.IsProperCatalogue staged.entries.items root
    proper_catalogue = record {
      fit = subst (λ (l : List Entry). All FitsFields l) (sym entries)
          (All-put_each FitsFields (λ (x : Entry). x.id) staged.placed.items kept (λ k d lt. record {
            id = placed.ids_fit k d lt;
            first = placed_first sectors staged.placed.items few_sectors placed_laid k d lt;
            bytes = let size = placed_size staged.placed.items puts placed.places good k d lt in omega (arith, size.1);
          }) kept_fit);
      each = subst (λ (l : List Entry). All IsProperEntry l) (sym entries)
          (All-put_each IsProperEntry (λ (x : Entry). x.id) staged.placed.items kept (λ k d lt. record {
            least_bytes = (placed_size staged.placed.items puts placed.places good k d lt).0;
            most_bytes = (placed_size staged.placed.items puts placed.places good k d lt).1;
          }) kept_proper);
      ascending =
          subst IdsAscend (sym entries) (ascending-put_each (λ (x : Entry). x.id) staged.placed.items kept ascending);
      most_entries = many_entries;
      most_root = is_root;
    }

    pub is_staged : IsStagedForPuts sectors used kept puts root generation layout staged
    is_staged = record {
      sized = sized;
      numbered = numbered;
      of_layout = of_layout;
      proper = proper;
      places = placed.places;
      entries = entries;
      same_root = same_root;
      spelled = record { spelled = spelled; proper = proper_catalogue };
      bytes = bytes;
      written = with_catalogue staged.placed.items placed_laid apart_there;
      apart = λ i held in_it. ⊎_elim (λ here. free_there i here in_it) (λ there. placed_free i there in_it) held;
      laid_out = with_catalogue staged.entries.items entries_laid (λ i here held.
          ⊎_elim (λ new. apart_there i here new) (λ was. free_there i here (in_use i was))
          (held_put_each (λ (x : Entry). x.id) staged.placed.items kept i
          (subst (λ (l : List Entry). SomeHolds (extents_of l) i) entries held)));
    }

-- where no place is found for a put
pub lacks_put : (sectors : ℕ) (used : List Extent) (kept : List Entry) (puts : List (ℕ × List ℕ)) (root : List ℕ)
    (free : FreeSectors) → IsFreeOutside sectors used free → FitsFail free (lengths_of puts)
    → LacksPlaces sectors used (sectors_asked_for (sizes_at kept) puts root)
lacks_put sectors used kept puts root free outside fail = record {
  free = free;
  outside = outside;
  fail = fail_more free (lengths_of puts)
      (sectors_of (catalogue_bytes (length (put_each (λ o. o.0) (map put_size puts) (sizes_at kept))) (length root)))
      fail;
}

-- where none is found for the catalogue
pub lacks_catalogue : (sectors : ℕ) (used : List Extent) (kept placed entries : List Entry) (puts : List (ℕ × List ℕ))
    (root catalogue : List ℕ) (free mid : FreeSectors) (len : ℕ) → IsFreeOutside sectors used free
    → ArePlaced free puts placed mid
    → entries ≡ put_each (λ e. e.id) placed kept → catalogue ≡ catalogue_of entries root
    → len ≡ sectors_of (length catalogue) → ((at : ℕ) → ¬ AreFreeFrom mid len at)
    → LacksPlaces sectors used (sectors_asked_for (sizes_at kept) puts root)
lacks_catalogue sectors used kept placed entries puts root catalogue free mid len outside are merged spelled asked
    none =
    let many : length catalogue ≡ catalogue_bytes (length (put_each (λ o. o.0) (map put_size puts) (sizes_at kept)))
    (length root) =
    ap (λ (l : List ℕ). length l) spelled ∙ length-catalogue_of entries root
    ∙ ap (λ (n : ℕ). catalogue_bytes n (length root)) (ap (λ (l : List Entry). length l) merged
    ∙ objects_after placed kept puts are.places) in record {
      free = free;
      outside = outside;
      fail = fail_last free mid puts placed
          (sectors_of
          (catalogue_bytes (length (put_each (λ o. o.0) (map put_size puts) (sizes_at kept))) (length root)))
          are
          (λ at. subst (λ (n : ℕ). ¬ AreFreeFrom mid n at) (asked ∙ ap (λ (n : ℕ). sectors_of n) many) (none at));
    }
