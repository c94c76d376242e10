use Rattle.std.proofs.Common.{◌≡◌, ℕ, Err, inr, refl}
use Rattle.cube_model.specs.declared.fault.Fault.TheVariants.{BadLayout, Memory, TooManyCells}
use Rattle.warehouse_objects.proofs.Folded.{of_fault}
use Rattle.stored_cuboids.proofs.Merging.{no_merge}
use Rattle.stored_cuboids.proofs.runs.merge_in.Goals as goal

no_memory : (number : ℕ) → TooManyCells number ≡ Memory → ⊥
no_memory number is = cc

pub returns-in-Err-BadLayout-clause-refused : goal.returns-in-Err-BadLayout-clause-refused
returns-in-Err-BadLayout-clause-refused c =
    let is : c.merge.result ≡ Err BadLayout = cc in
    let cause = of_fault _ c.merge.result BadLayout c.merge.ensures.refused is in
    inr (
      refl,
      no_merge c.args.cells.now c.args.read.now BadLayout c.merge.ensures.before.0 c.merge.ensures.before.1 cause
          (λ (memory : BadLayout ≡ Memory). cc),
    )

pub returns-in-Err-TooManyCells-clause-refused : goal.returns-in-Err-TooManyCells-clause-refused
returns-in-Err-TooManyCells-clause-refused c =
    let number : ℕ = c.in-Err-TooManyCells.field-0-0 in
    let is : c.merge.result ≡ Err (TooManyCells number) = cc in
    let cause = of_fault _ c.merge.result (TooManyCells number) c.merge.ensures.refused is in
    inr (
      refl,
      no_merge c.args.cells.now c.args.read.now (TooManyCells number) c.merge.ensures.before.0
          c.merge.ensures.before.1 cause (no_memory number),
    )
