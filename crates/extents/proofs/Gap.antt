-- The run between two sectors.
use Rattle.std.proofs.Common.{◌≡◌, ℕ, ◌+◌, ◌-◌, ◌≤◌, ◌<◌, true, false, cond, ltb, [], ◌∷◌, inl, inr, refl, ap, arith}
use Rattle.std.proofs.lemmas.Bool.Decides.{nat_tests}
use Rattle.extents.specs.declared.extent.Extent.{Extent}
use Rattle.extents.specs.Extents.{SomeHolds}
use Rattle.extents.specs.Runs.{AreRuns, gap}

-- a gap is its sectors
pub gap_holds : (from to s : ℕ) → SomeHolds (gap from to) s → (from ≤ s) × (s < to)
gap_holds from to s =
    (elim (ltb from to) as
    (λ b. ltb from to ≡ b → SomeHolds (cond b (record { first = from; len = to - from } ∷ []) []) s
    → (from ≤ s) × (s < to)) [
      | true ↦ λ e held. elim held [
        | inl here ↦ (grind (arith, nat_tests), grind (arith, nat_tests))
        | inr none ↦ absurd none
      ]
      | false ↦ λ e held. absurd held
    ]) refl

pub holds_gap : (from to s : ℕ) → from ≤ s → s < to → SomeHolds (gap from to) s
holds_gap from to s le lt =
    (elim (ltb from to) as
    (λ b. ltb from to ≡ b → SomeHolds (cond b (record { first = from; len = to - from } ∷ []) []) s) [
      | true ↦ λ e. inl (omega arith, omega arith)
      | false ↦ λ e. absurd (grind (arith, nat_tests))
    ]) refl

-- and a run, or none
pub AreRuns-gap : (from to : ℕ) → AreRuns from (to + 1) (gap from to)
AreRuns-gap from to =
    (elim (ltb from to) as
    (λ b. ltb from to ≡ b → AreRuns from (to + 1) (cond b (record { first = from; len = to - from } ∷ []) [])) [
      | true ↦ λ e. (omega arith, grind (arith, nat_tests), grind (arith, nat_tests), tt)
      | false ↦ λ e. tt
    ]) refl

-- the gap that an extent fills is the extent
pub gap-of : (extent : Extent) → 0 < extent.len → gap extent.first (extent.first + extent.len) ≡ extent ∷ []
gap-of extent some =
    (elim (ltb extent.first (extent.first + extent.len)) as (λ b. ltb extent.first (extent.first + extent.len) ≡ b
    → cond b (record { first = extent.first; len = extent.first + extent.len - extent.first } ∷ []) [] ≡ extent ∷ []) [
      | true ↦ λ e. let same : extent.first + extent.len - extent.first ≡ extent.len = omega arith in
          ap (λ n. record { first = extent.first; len = n } ∷ []) same
      | false ↦ λ e. absurd (grind (arith, nat_tests))
    ]) refl
