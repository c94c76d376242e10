-- A map of keys in order says which list it is.
use Rattle.std.proofs.Common.{◌≡◌, ◌∙◌, sym, ap, refl, subst, Bool, true, false, cond, T, List, [], ◌∷◌, map, Some}
use Rattle.std.proofs.Common.{None, ◌&&◌, ◌||◌}
use Rattle.std.specs.List.{list_any, AllByRecursion}
use Rattle.std.specs.List.Sorted.{IsStrictlySortedBy}
use Rattle.std.specs.declared.cmp.Ordering.{Ordering}
use Rattle.std.specs.declared.cmp.Ordering.TheVariants.{Less, Equal, Greater}
use Rattle.std.specs.Ordering.{eq_by_cmp, is_eq, is_lt}
use Rattle.std.specs.Cmp.{IsTotalOrder}
use Rattle.std.specs.Map.{lookup}
use Rattle.std.specs.BTreeMap.{is_at}
use Rattle.std.specs.FinMap.{IsAntisymmetric}
use Rattle.std.specs.FinMap.Entries.{is_sorted, below_all, find, same_entries}
use Rattle.cube_model.specs.Ascending.{ascending, IsAscending}
use Rattle.cube_model.proofs.Ascending.{IsAscending-ascending, list_any-ascending}

both : (a b : Bool) → T a → T b → T (a && b)
both true b p q = q
both false b p q = p

module _ {K : Type 0} (R : K → K → Ordering) (o : IsTotalOrder R) (same : IsAntisymmetric R) where
  IsAscending-from_sorted : (ks : List K) → IsStrictlySortedBy R ks → IsAscending R ks
  unfolding IsStrictlySortedBy
  IsAscending-from_sorted [] sorted = tt
  IsAscending-from_sorted (k ∷ ks) sorted = (sorted.0, IsAscending-from_sorted ks sorted.1)

  module _ {X : Type 0} where
    below : (k : K) (es : List (K × X)) → AllByRecursion (λ other. R k other ≡ Less) (map (λ e. e.0) es)
        → T (below_all R k es)
    below k [] all = tt
    below k (e ∷ es) all = subst (λ r. T (is_lt r && below_all R k es)) (sym all.0) (below k es all.1)

    pub sorted_entries : (es : List (K × X)) → IsAscending R (map (λ e. e.0) es) → T (is_sorted R es)
    sorted_entries [] sorted = tt
    sorted_entries (e ∷ es) sorted = both _ _ (below e.0 es sorted.0) (sorted_entries es sorted.1)

    pub find-lookup : (q : K) (es : List (K × X)) → find R q es ≡ lookup (is_at (R q)) es
    find-lookup q [] = refl
    find-lookup q (e ∷ es) = ap (cond (is_eq (R q e.0)) (Some e.1)) (find-lookup q es)

    pub keys-map : (g : K → X) (ks : List K) → map (λ (e : K × X). e.0) (map (λ k. (k, g k)) ks) ≡ ks
    keys-map g [] = refl
    keys-map g (k ∷ ks) = ap (λ rest. k ∷ rest) (keys-map g ks)

    pub find-map : (g : K → X) (q : K) (ks : List K)
        → find R q (map (λ k. (k, g k)) ks) ≡ cond (list_any (eq_by_cmp R q) ks) (Some (g q)) None
    find-map g q [] = refl
    find-map g q (k ∷ ks) =
        elim (R q k) as (λ r. R q k ≡ r → cond (is_eq r) (Some (g k)) (find R q (map (λ k. (k, g k)) ks))
        ≡ cond (is_eq r || list_any (eq_by_cmp R q) ks) (Some (g q)) None) [
          | Less ↦ λ e. find-map g q ks
          | Equal ↦ λ e. ap (λ x. Some (g x)) (sym (same q k e))
          | Greater ↦ λ e. find-map g q ks
        ] refl

    -- entries in order with a value at each of some keys, and nothing elsewhere
    pub entries_are : (es : List (K × X)) → IsStrictlySortedBy R (map (λ e. e.0) es) → (ks : List K) (g : K → X)
        → ((q : K) → lookup (is_at (R q)) es ≡ cond (list_any (eq_by_cmp R q) ks) (Some (g q)) None)
        → es ≡ map (λ k. (k, g k)) (ascending R ks)
    entries_are es sorted ks g is =
        same_entries R o same es (map (λ k. (k, g k)) (ascending R ks))
        (sorted_entries es (IsAscending-from_sorted (map (λ e. e.0) es) sorted))
        (sorted_entries (map (λ k. (k, g k)) (ascending R ks))
        (subst (IsAscending R) (sym (keys-map g (ascending R ks))) (IsAscending-ascending R o same ks)))
        (λ q. find-lookup q es ∙ is q
        ∙ sym (find-map g q (ascending R ks)
        ∙ ap (λ b. cond b (Some (g q)) None) (list_any-ascending R o same q ks)))

  abbrev marked : List K → List (K × Unit {0})
  marked keys = map (λ key. (key, tt)) keys

  -- lists in order with the same items are one list
  pub IsAscending-unique : (keys others : List K) → IsAscending R keys → IsAscending R others
      → ((q : K) → list_any (eq_by_cmp R q) keys ≡ list_any (eq_by_cmp R q) others) → keys ≡ others
  IsAscending-unique keys others first second items =
      let one = same_entries R o same (marked keys) (marked others)
      (sorted_entries (marked keys) (subst (IsAscending R) (sym (keys-map (λ _. tt) keys)) first))
      (sorted_entries (marked others) (subst (IsAscending R) (sym (keys-map (λ _. tt) others)) second))
      (λ q. find-map (λ _. tt) q keys ∙ ap (λ b. cond b (Some tt) None) (items q)
      ∙ sym (find-map (λ _. tt) q others)) in
      sym (keys-map (λ _. tt) keys) ∙ ap (map (λ e. e.0)) one ∙ keys-map (λ _. tt) others
