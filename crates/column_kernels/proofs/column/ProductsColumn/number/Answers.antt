use Rattle.std.proofs.Common.{◌≡◌, ◌<◌, ◌*◌, ℕ, List, [], length, get_or, sym, ap, ◌∙◌, arith, rules}
use Rattle.std.proofs.lemmas.List.{length-map, get_or-map}
use Rattle.std.proofs.lemmas.Simd.{get_or-zip2}
use Rattle.std.specs.Int.{from_le_bytes, w64}
use Rattle.column_kernels.specs.Sums.{numbers_of}
use Rattle.column_kernels.proofs.Chunks.{zip2_left, zip2_right}
use Rattle.column_kernels.proofs.column.ProductsColumn.number.Goals as goal

pub bounds-self-row : goal.bounds-self-row
bounds-self-row c =
    omega (
      arith,
      c.requires.within,
      zip2_left (λ (number factor : ℕ). number * factor)
          (numbers_of c.args.self.now.column.now) c.args.self.now.factors.now,
      length-map c.args.self.now.column.now (from_le_bytes w64),
    )

pub offset_bounds-self-row : goal.offset_bounds-self-row
offset_bounds-self-row c =
    let lt : c.args.row < length c.args.self.now.column.now = bounds-self-row c in
    search rules

pub bounds-self-row-2 : goal.bounds-self-row-2
bounds-self-row-2 c =
    omega (
      arith,
      c.requires.within,
      zip2_right (λ (number factor : ℕ). number * factor)
          (numbers_of c.args.self.now.column.now) c.args.self.now.factors.now,
    )

pub returns-clause-value : goal.returns-clause-value
returns-clause-value c =
    let column : List (List ℕ) = c.args.self.now.column.now in
    let factors : List ℕ = c.args.self.now.factors.now in
    let row : ℕ = c.args.row in
    let lt : row < length column
    = omega (
      arith,
      c.requires.within,
      zip2_left (λ (number factor : ℕ). number * factor) (numbers_of column) factors,
      length-map column (from_le_bytes w64),
    ) in
    let lt_numbers : row < length (numbers_of column) = omega (arith, lt, length-map column (from_le_bytes w64)) in
    let other : row < length factors =
    omega (
      arith,
      c.requires.within,
      zip2_right (λ (number factor : ℕ). number * factor) (numbers_of column)
          factors,
    ) in
    let number : c.from.result ≡ get_or (numbers_of column) row 0
    = c.from.ensures ∙ c.from_le_bytes.ensures ∙ sym (get_or-map (from_le_bytes w64) column row [] 0 lt) in
    let factor : c.from-2.result ≡ get_or factors row 0 = c.from-2.ensures in
    ap (λ (n : ℕ). n * c.from-2.result) number ∙ ap (λ (n : ℕ). get_or (numbers_of column) row 0 * n) factor
    ∙ sym (get_or-zip2 (λ (number factor : ℕ). number * factor) (numbers_of column) factors row 0 0 0 lt_numbers other)
