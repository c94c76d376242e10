-- What is found in the lists that a cache makes of another.
use Rattle.std.proofs.Common.{◌≡◌, ◌≢◌, ℕ, zero, suc, ◌-◌, true, false, cond, List, [], ◌∷◌, take, Option, Some, None}
use Rattle.std.proofs.Common.{IfSome, nat_eq, refl, sym, ◌∙◌, ap, subst}
use Rattle.std.proofs.lemmas.Bool.{eqb-true, eqb-false, eq-eqb, ne_eqb}
use Rattle.std.proofs.lemmas.Map.{lookup-remove_entry}
use Rattle.std.specs.Cmp.{nat_eq_equiv}
use Rattle.std.specs.List.{IsDistinct}
use Rattle.std.specs.Option.{option_map_or}
use Rattle.std.specs.Map.{keys_of, lookup_entry, remove_entry}
use Rattle.lru.specs.LruCache.{LruCache, promoted, put_entries}
use Rattle.lru.proofs.CallerLemmas.{lookup-put_entries}
use Rattle.sector_cache.specs.Kept.{Kept, kept_at, Keeps, Forgets}

-- another number does not pass the test of a key
other_key : (at i k : ℕ) → nat_eq at k ≡ true → i ≢ at → nat_eq i k ≡ false
other_key at i k is ne = ne_eqb i k (λ e. ne (e ∙ sym (eqb-true at k is)))

pub kept-removed : (at i : ℕ) → i ≢ at → (es : Kept) → kept_at (remove_entry (nat_eq at) es) i ≡ kept_at es i
kept-removed at i ne [] = refl
kept-removed at i ne (e ∷ es) =
    (elim (nat_eq at e.0) as (λ b. nat_eq at e.0 ≡ b → kept_at (cond b es (e ∷ remove_entry (nat_eq at) es)) i
    ≡ cond (nat_eq i e.0) (Some e.1) (kept_at es i)) [
      | true ↦ λ is. ap (λ b. cond b (Some e.1) (kept_at es i)) (sym (other_key at i e.0 is ne))
      | false ↦ λ is. ap (λ o. cond (nat_eq i e.0) (Some e.1) o) (kept-removed at i ne es)
    ]) refl

-- an entry that a look-up finds has that key, and its value is what is kept
found : (at : ℕ) (es : Kept) (e : ℕ × List ℕ) → lookup_entry (nat_eq at) es ≡ Some e → (nat_eq at e.0 ≡ true)
    × (kept_at es at ≡ Some e.1)
found at [] e is = cc
found at (f ∷ es) e is =
    (elim (nat_eq at f.0) as (λ b. nat_eq at f.0 ≡ b → cond b (Some f) (lookup_entry (nat_eq at) es) ≡ Some e
    → (nat_eq at e.0 ≡ true) × (cond b (Some f.1) (kept_at es at) ≡ Some e.1)) [
      | true ↦ λ t is. let same : f ≡ e = cc in (subst (λ g. nat_eq at g.0 ≡ true) same t, ap (λ g. Some g.1) same)
      | false ↦ λ t is. found at es e is
    ]) refl is

-- the entry of a key in front of the others
pub kept-front : (at i : ℕ) (es : Kept) (e : ℕ × List ℕ) → nat_eq at e.0 ≡ true → i ≢ at
    → kept_at (e ∷ remove_entry (nat_eq at) es) i ≡ kept_at es i
kept-front at i es e is ne =
    ap (λ b. cond b (Some e.1) (kept_at (remove_entry (nat_eq at) es) i)) (other_key at i e.0 is ne)
    ∙ kept-removed at i ne es

kept_here : (at : ℕ) (es : Kept) (o : Option (ℕ × List ℕ)) → lookup_entry (nat_eq at) es ≡ o
    → kept_at (option_map_or (λ e. e ∷ remove_entry (nat_eq at) es) o es) at ≡ kept_at es at
kept_here at es None is = refl
kept_here at es (Some e) is = let at_key = found at es e is in
    ap (λ b. cond b (Some e.1) (kept_at (remove_entry (nat_eq at) es) at)) at_key.0 ∙ sym at_key.1

kept_there : (at i : ℕ) (es : Kept) (o : Option (ℕ × List ℕ)) → lookup_entry (nat_eq at) es ≡ o → i ≢ at
    → kept_at (option_map_or (λ e. e ∷ remove_entry (nat_eq at) es) o es) i ≡ kept_at es i
kept_there at i es None is ne = refl
kept_there at i es (Some e) is ne = kept-front at i es e (found at es e is).0 ne

-- a sector that is used last is kept as before, and so is each other
pub kept-promoted : (at : ℕ) (es : Kept) (i : ℕ) → kept_at (promoted (nat_eq at) es) i ≡ kept_at es i
kept-promoted at es i =
    (elim (nat_eq i at) as (λ b. nat_eq i at ≡ b → kept_at (promoted (nat_eq at) es) i ≡ kept_at es i) [
      | true ↦ λ is. subst (λ (k : ℕ). kept_at (promoted (nat_eq at) es) k ≡ kept_at es k) (sym (eqb-true i at is))
          (kept_here at es (lookup_entry (nat_eq at) es) refl)
      | false ↦ λ is. kept_there at i es (lookup_entry (nat_eq at) es) refl (eqb-false i at is)
    ]) refl

kept-take : (n i : ℕ) (es : Kept) (b : List ℕ) → kept_at (take n es) i ≡ Some b → kept_at es i ≡ Some b
kept-take zero i es b is = cc
kept-take (suc n) i [] b is = is
kept-take (suc n) i (e ∷ es) b is =
    (elim (nat_eq i e.0) as (λ t. cond t (Some e.1) (kept_at (take n es) i) ≡ Some b
    → cond t (Some e.1) (kept_at es i) ≡ Some b) [
      | true ↦ λ is. is
      | false ↦ λ is. kept-take n i es b is
    ]) is

module _ (c : LruCache ℕ (List ℕ)) (at : ℕ) (bytes : List ℕ) where
  put_there : (i : ℕ) (o : Option (ℕ × List ℕ)) (b : List ℕ) → lookup_entry (nat_eq at) c.entries ≡ o → i ≢ at
      → kept_at (option_map_or (λ e. (e.0, bytes) ∷ remove_entry (nat_eq at) c.entries) o
      ((at, bytes) ∷ take (c.cap - 1) c.entries)) i ≡ Some b → kept_at c.entries i ≡ Some b
  put_there i None b is ne kept =
      kept-take (c.cap - 1) i c.entries b
      (ap (λ t. cond t (Some bytes) (kept_at (take (c.cap - 1) c.entries) i)) (sym (ne_eqb i at ne)) ∙ kept)
  put_there i (Some e) b is ne kept = sym (kept-front at i c.entries (e.0, bytes) (found at c.entries e is).0 ne) ∙ kept

  pub keeps_put : Keeps at bytes c.entries (put_entries nat_eq c at bytes)
  keeps_put =
      let here : kept_at (put_entries nat_eq c at bytes) at ≡ Some bytes =
      lookup-put_entries nat_eq c at bytes nat_eq_equiv in record {
        here = subst (λ o. IfSome o (λ b. b ≡ bytes)) (sym here) refl;
        stays = λ was. here;
        others = λ i b ne. put_there i (lookup_entry (nat_eq at) c.entries) b refl ne;
      }

pub forgets_removed : (c : LruCache ℕ (List ℕ)) (at : ℕ) → IsDistinct nat_eq (keys_of c.entries)
    → Forgets at c.entries (remove_entry (nat_eq at) c.entries)
forgets_removed c at distinct = record {
  here = lookup-remove_entry nat_eq_equiv (nat_eq at) (λ x y is. ap (λ k. nat_eq k y) (eqb-true at x is)) at c.entries
      distinct ∙ ap (λ b. cond b None (kept_at c.entries at)) (eq-eqb at at refl);
  others = λ i ne. kept-removed at i ne c.entries;
}
