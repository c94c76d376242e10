use Rattle.std.proofs.Common.{◌≡◌, pos, ◌-ℤ◌, ℕ, List, length, sym, ◌∙◌}
use Rattle.std.proofs.lemmas.List.{length-map}
use Rattle.std.proofs.lemmas.Simd.{length-zip2}
use Rattle.std.specs.Int.{from_le_bytes, w64}
use Rattle.column_kernels.specs.Sums.{numbers_of}
use Rattle.column_kernels.proofs.mask.Mask.extremes_of_differences.Goals as goal

pub selected_extremes-requires : goal.selected_extremes-requires
selected_extremes-requires c =
    let xs : List ℕ = numbers_of c.args.column.now in
    let ys : List ℕ = numbers_of c.args.others.now in
    let long : length xs ≡ length c.args.self.now = length-map c.args.column.now (from_le_bytes w64)
    ∙ c.requires.rows in
    let other : length ys ≡ length c.args.self.now = length-map c.args.others.now (from_le_bytes w64)
    ∙ c.requires.others in
    record { rows = length-zip2 (λ (number other : ℕ). pos number -ℤ pos other) xs ys (long ∙ sym other) ∙ long }
