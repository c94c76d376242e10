-- The object of a batch that was refused.
use Rattle.std.proofs.Common.{◌≡◌, ◌⊎◌, ⊎_elim, ◌∙◌, ℕ, List, length, Option, Some, None, sym, subst}
use Rattle.cube_model.specs.declared.fault.Fault.{Fault}
use Rattle.cube_model.specs.declared.fault.Fault.TheVariants.{BadLayout, Memory}
use Rattle.cube_model.specs.declared.rows.LineOrder.{LineOrder}
use Rattle.column_segment.specs.Projected.{HoldsNoneOf}
use Rattle.column_segment.specs.Segment.{IsSegment}
use Rattle.warehouse_objects.proofs.Batches.{some_one}

-- no object is that of no batch
pub missing : (text : Option (List ℕ)) (number count : ℕ) → text ≡ None → HoldsNoneOf text number count
missing text number count none bytes rows at many segment = let both : None ≡ Some bytes = sym none ∙ at in absurd cc

-- nor are bytes that were refused
pub refused : (text : Option (List ℕ)) (bytes : List ℕ) (number count : ℕ) (fault : Fault) → text ≡ Some bytes
    → fault ≡ BadLayout
    → (fault ≡ Memory)
    ⊎ ((fault ≡ BadLayout) × ((rows : List LineOrder) → length rows ≡ count → IsSegment bytes number rows → ⊥))
    → HoldsNoneOf text number count
refused text bytes number count fault there is why others rows at many segment =
    let same : others ≡ bytes = some_one others bytes (sym at ∙ there) in
    ⊎_elim (λ (memory : fault ≡ Memory). let both : BadLayout ≡ Memory = sym is ∙ memory in absurd cc)
    (λ (bad : (fault ≡ BadLayout) × ((l : List LineOrder) → length l ≡ count → IsSegment bytes number l → ⊥)). bad.1
    rows many (subst (λ (b : List ℕ). IsSegment b number rows) same segment)) why
