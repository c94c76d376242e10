use Rattle.std.proofs.Common.{◌≡◌, ℕ, ℤ, pos, ◌-ℤ◌, List, length, FitsSigned, sym, subst, ap, ◌∙◌, arith}
use Rattle.std.proofs.lemmas.List.{length-map}
use Rattle.std.proofs.lemmas.Int.{to_z-of_z}
use Rattle.std.specs.Int.{from_le_bytes, w64, w128}
use Rattle.std.specs.List.{sum}
use Rattle.column_kernels.specs.Masks.{selected_by}
use Rattle.column_kernels.specs.Sums.{numbers_of}
use Rattle.column_kernels.proofs.Selecting.{difference_of_sums, fits_difference}
use Rattle.column_kernels.proofs.mask.Mask.sum_of_differences.Goals as goal

pub returns : goal.returns
returns c =
    let xs : List ℕ = numbers_of c.args.column.now in
    let ys : List ℕ = numbers_of c.args.others.now in
    let long : length xs ≡ length ys
    = omega (
      arith,
      length-map c.args.column.now (from_le_bytes w64),
      length-map c.args.others.now (from_le_bytes w64),
      c.requires.rows,
      c.requires.others,
    ) in
    let fits : FitsSigned w128 c.difference.result
    = subst (λ (z : ℤ). FitsSigned w128 z) (sym c.difference.ensures)
    (fits_difference c.sum-sum.result c.sum-other.result c.sum-sum.ensures.small c.sum-other.ensures.small) in
    to_z-of_z w128 c.difference.result fits ∙ c.difference.ensures
    ∙ ap (λ (n : ℕ). pos n -ℤ pos c.sum-other.result) c.sum-sum.ensures.value
    ∙ ap (λ (n : ℕ). pos (sum (selected_by c.args.self.now xs)) -ℤ pos n) c.sum-other.ensures.value
    ∙ difference_of_sums c.args.self.now xs ys long
