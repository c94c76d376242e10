-- What is in a list in order, and that it is in order.
use Rattle.std.specs.Prelude.{◌≡◌, refl, Bool, true, false, ◌||◌, List, [], ◌∷◌}
use Rattle.std.proofs.Common.{sym, ap, ◌∙◌}
use Rattle.std.specs.List.{list_any, AllByRecursion}
use Rattle.std.specs.declared.cmp.Ordering.{Ordering}
use Rattle.std.specs.declared.cmp.Ordering.TheVariants.{Less, Equal, Greater}
use Rattle.std.specs.Ordering.{eq_by_cmp, ordering_reverse}
use Rattle.std.specs.Cmp.{IsTotalOrder}
use Rattle.std.specs.FinMap.{IsAntisymmetric}
use Rattle.cube_model.specs.Ascending.{by_order, insert_once, ascending, IsAscending}

module _ {K : Type 0} (R : K → K → Ordering) (o : IsTotalOrder R) (same : IsAntisymmetric R) where
  or_again : (a b : Bool) → (a || (a || b)) ≡ (a || b)
  or_again true b = refl
  or_again false b = refl

  or_swap : (a b c : Bool) → (a || (b || c)) ≡ (b || (a || c))
  or_swap true true c = refl
  or_swap true false c = refl
  or_swap false b c = refl

  pub list_any-insert_once : (q key : K) (keys : List K)
      → list_any (eq_by_cmp R q) (insert_once R key keys) ≡ (eq_by_cmp R q key || list_any (eq_by_cmp R q) keys)
  list_any-insert_once q key [] = refl
  list_any-insert_once q key (first ∷ others) =
      elim (R key first) as
      (λ r. R key first ≡ r
      → list_any (eq_by_cmp R q)
      (by_order r (key ∷ first ∷ others) (first ∷ others) (first ∷ insert_once R key others))
      ≡ (eq_by_cmp R q key || list_any (eq_by_cmp R q) (first ∷ others))) [
        | Less ↦ λ e. refl
        | Equal ↦ λ e. sym (ap (λ k. eq_by_cmp R q k || list_any (eq_by_cmp R q) (first ∷ others)) (same key first e)
            ∙ or_again (eq_by_cmp R q first) (list_any (eq_by_cmp R q) others))
        | Greater ↦ λ e. ap (λ b. eq_by_cmp R q first || b) (list_any-insert_once q key others)
            ∙ or_swap (eq_by_cmp R q first) (eq_by_cmp R q key) (list_any (eq_by_cmp R q) others)
      ] refl

  -- the same items
  pub list_any-ascending : (q : K) (keys : List K)
      → list_any (eq_by_cmp R q) (ascending R keys) ≡ list_any (eq_by_cmp R q) keys
  list_any-ascending q [] = refl
  list_any-ascending q (key ∷ keys) = list_any-insert_once q key (ascending R keys)
      ∙ ap (λ b. eq_by_cmp R q key || b) (list_any-ascending q keys)

  AllByRecursion-insert_once : (P : K → Type 0) (key : K) (keys : List K) → P key → AllByRecursion P keys
      → AllByRecursion P (insert_once R key keys)
  AllByRecursion-insert_once P key [] here all = (here, tt)
  AllByRecursion-insert_once P key (first ∷ others) here all =
      elim (R key first) as
      (λ r. AllByRecursion P
      (by_order r (key ∷ first ∷ others) (first ∷ others) (first ∷ insert_once R key others))) [
        | Less ↦ (here, all)
        | Equal ↦ all
        | Greater ↦ (all.0, AllByRecursion-insert_once P key others here all.1)
      ]

  below_others : (key first : K) (others : List K) → R key first ≡ Less
      → AllByRecursion (λ other. R first other ≡ Less) others → AllByRecursion (λ other. R key other ≡ Less) others
  below_others key first [] less all = tt
  below_others key first (x ∷ others) less all =
      (o.trans key first x less all.0, below_others key first others less all.1)

  turned : (key first : K) → R key first ≡ Greater → R first key ≡ Less
  turned key first e = o.antisymm first key ∙ ap ordering_reverse e

  pub IsAscending-insert_once : (key : K) (keys : List K) → IsAscending R keys → IsAscending R (insert_once R key keys)
  IsAscending-insert_once key [] sorted = (tt, tt)
  IsAscending-insert_once key (first ∷ others) sorted =
      elim (R key first) as
      (λ r. R key first ≡ r
      → IsAscending R (by_order r (key ∷ first ∷ others) (first ∷ others) (first ∷ insert_once R key others))) [
        | Less ↦ λ e. ((e, below_others key first others e sorted.0), sorted)
        | Equal ↦ λ e. sorted
        | Greater ↦
            λ e. (
              AllByRecursion-insert_once _ key others (turned key first e) sorted.0,
              IsAscending-insert_once key others sorted.1,
            )
      ] refl

  -- in order, each once
  pub IsAscending-ascending : (keys : List K) → IsAscending R (ascending R keys)
  IsAscending-ascending [] = tt
  IsAscending-ascending (key ∷ keys) = IsAscending-insert_once key (ascending R keys) (IsAscending-ascending keys)
