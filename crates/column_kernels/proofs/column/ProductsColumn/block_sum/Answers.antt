use Rattle.std.proofs.Common.{◌≡◌, ◌<◌, ◌/◌, ◌*◌, ◌+◌, ◌≤◌, ℕ, List, [], length, get_or, sym, ap, ◌∙◌, arith, rules}
use Rattle.std.proofs.lemmas.List.{length-map}
use Rattle.std.specs.Int.{from_le_bytes, w64}
use Rattle.std.specs.List.{sum}
use Rattle.std.specs.Simd.Lanes.{chunk}
use Rattle.column_kernels.specs.Masks.{bits_of, selected_by}
use Rattle.column_kernels.specs.Sums.{numbers_of, products}
use Rattle.column_kernels.proofs.Chunks.{chunk_at, chunk-map, chunk-zip2, zip2_left, zip2_right}
use Rattle.column_kernels.proofs.column.ProductsColumn.block_sum.Goals as goal

in_numbers : (column : List (List ℕ)) (factors : List ℕ) (row : ℕ) → row ≤ length (products (numbers_of column) factors)
    → row ≤ length column
in_numbers column factors row within =
    omega (
      arith,
      within,
      zip2_left (λ (number factor : ℕ). number * factor) (numbers_of column) factors,
      length-map column (from_le_bytes w64),
    )

in_factors : (column : List (List ℕ)) (factors : List ℕ) (row : ℕ) → row ≤ length (products (numbers_of column) factors)
    → row ≤ length factors
in_factors column factors row within =
    omega (arith, within, zip2_right (λ (number factor : ℕ). number * factor) (numbers_of column) factors)

pub bounds-as_chunks-block : goal.bounds-as_chunks-block
bounds-as_chunks-block c =
    omega (
      arith,
      in_numbers c.args.self.now.column.now c.args.self.now.factors.now (32 * c.args.block + 32)
          c.requires.within,
      c.as_chunks.ensures.front_len,
    )

pub offset_bounds-as_chunks-block : goal.offset_bounds-as_chunks-block
offset_bounds-as_chunks-block c =
    let lt : c.args.block < length c.as_chunks.result.0.now = bounds-as_chunks-block c in
    search rules

pub bounds-as_chunks-block-2 : goal.bounds-as_chunks-block-2
bounds-as_chunks-block-2 c =
    omega (
      arith,
      in_factors c.args.self.now.column.now c.args.self.now.factors.now (32 * c.args.block + 32)
          c.requires.within,
      c.as_chunks-2.ensures.front_len,
    )

pub offset_bounds-as_chunks-block-2 : goal.offset_bounds-as_chunks-block-2
offset_bounds-as_chunks-block-2 c =
    let lt : c.args.block < length c.as_chunks-2.result.0.now = bounds-as_chunks-block-2 c in
    search rules

pub returns-clause-value : goal.returns-clause-value
returns-clause-value c =
    let column : List (List ℕ) = c.args.self.now.column.now in
    let factors : List ℕ = c.args.self.now.factors.now in
    let block : ℕ = c.args.block in
    let lt : block < length column / 32 =
    omega (arith, in_numbers column factors (32 * block + 32) c.requires.within) in
    let other : block < length factors / 32 =
    omega (arith, in_factors column factors (32 * block + 32) c.requires.within) in
    let rows : List ℕ → ℕ = λ l. sum (selected_by (bits_of 32 c.args.word) l) in
    let ones : get_or c.as_chunks.result.0.now block [] ≡ chunk (32 * block) 32 column
    = ap (λ (ls : List (List (List ℕ))). get_or ls block []) c.as_chunks.ensures.front
    ∙ chunk_at 32 (length column / 32) block column lt in
    let others : get_or c.as_chunks-2.result.0.now block [] ≡ chunk (32 * block) 32 factors
    = ap (λ (ls : List (List ℕ)). get_or ls block []) c.as_chunks-2.ensures.front
    ∙ chunk_at 32 (length factors / 32) block factors other in
    c.sum_of_products.ensures.value
    ∙ ap (λ (l : List (List ℕ)). rows (products (numbers_of l) (get_or c.as_chunks-2.result.0.now block []))) ones
    ∙ ap (λ (l : List ℕ). rows (products (numbers_of (chunk (32 * block) 32 column)) l)) others
    ∙ ap (λ (l : List ℕ). rows (products l (chunk (32 * block) 32 factors)))
    (sym (chunk-map (from_le_bytes w64) (32 * block) 32 column))
    ∙ ap rows (sym (chunk-zip2 (λ (number factor : ℕ). number * factor) (32 * block) 32 (numbers_of column) factors))
