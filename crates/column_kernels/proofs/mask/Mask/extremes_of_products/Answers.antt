use Rattle.std.proofs.Common.{◌≡◌, ◌*◌, ℕ, pos, List, length, sym, ◌∙◌}
use Rattle.std.proofs.lemmas.List.{length-map}
use Rattle.std.proofs.lemmas.Simd.{length-zip2}
use Rattle.std.specs.Int.{from_le_bytes, w64}
use Rattle.column_kernels.specs.Sums.{numbers_of, products}
use Rattle.column_kernels.proofs.mask.Mask.extremes_of_products.Goals as goal

pub selected_extremes-requires : goal.selected_extremes-requires
selected_extremes-requires c =
    let xs : List ℕ = numbers_of c.args.column.now in
    let long : length xs ≡ length c.args.self.now = length-map c.args.column.now (from_le_bytes w64)
    ∙ c.requires.rows in
    record {
      rows = length-map (products xs c.args.factors.now) (λ (n : ℕ). pos n)
          ∙ length-zip2 (λ (number factor : ℕ). number * factor) xs c.args.factors.now (long ∙ sym c.requires.factors)
          ∙ long;
    }
