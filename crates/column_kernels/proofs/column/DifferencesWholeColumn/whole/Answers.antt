use Rattle.std.proofs.Common.{◌≡◌, ◌<◌, ℕ, ℤ, pos, ◌-ℤ◌, List, [], length, get_or, sym, ap, ◌∙◌, arith, rules}
use Rattle.std.proofs.lemmas.List.{length-map, get_or-map}
use Rattle.std.proofs.lemmas.Int.{to_z-of_z}
use Rattle.std.proofs.lemmas.Simd.{get_or-zip2}
use Rattle.std.specs.Int.{from_le_bytes, w64, w128}
use Rattle.column_kernels.specs.Sums.{numbers_of}
use Rattle.column_kernels.proofs.Chunks.{zip2_left, zip2_right}
use Rattle.column_kernels.proofs.column.DifferencesWholeColumn.whole.Goals as goal

pub bounds-self-row : goal.bounds-self-row
bounds-self-row c =
    let column : List (List ℕ) = c.args.self.now.column.now in
    omega (
      arith,
      c.requires.within,
      zip2_left (λ (number other : ℕ). pos number -ℤ pos other) (numbers_of column)
          (numbers_of c.args.self.now.others.now),
      length-map column (from_le_bytes w64),
    )

pub offset_bounds-self-row : goal.offset_bounds-self-row
offset_bounds-self-row c =
    let lt : c.args.row < length c.args.self.now.column.now = bounds-self-row c in
    search rules

pub bounds-self-row-2 : goal.bounds-self-row-2
bounds-self-row-2 c =
    let others : List (List ℕ) = c.args.self.now.others.now in
    omega (
      arith,
      c.requires.within,
      zip2_right (λ (number other : ℕ). pos number -ℤ pos other)
          (numbers_of c.args.self.now.column.now) (numbers_of others),
      length-map others (from_le_bytes w64),
    )

pub offset_bounds-self-row-2 : goal.offset_bounds-self-row-2
offset_bounds-self-row-2 c =
    let lt : c.args.row < length c.args.self.now.others.now = bounds-self-row-2 c in
    search rules

pub returns : goal.returns
returns c =
    let column : List (List ℕ) = c.args.self.now.column.now in
    let others : List (List ℕ) = c.args.self.now.others.now in
    let row : ℕ = c.args.row in
    let lt : row < length column
    = omega (
      arith,
      c.requires.within,
      zip2_left (λ (number other : ℕ). pos number -ℤ pos other) (numbers_of column)
          (numbers_of others),
      length-map column (from_le_bytes w64),
    ) in
    let lt_numbers : row < length (numbers_of column) = omega (arith, lt, length-map column (from_le_bytes w64)) in
    let lt_other : row < length others
    = omega (
      arith,
      c.requires.within,
      zip2_right (λ (number other : ℕ). pos number -ℤ pos other) (numbers_of column)
          (numbers_of others),
      length-map others (from_le_bytes w64),
    ) in
    let lt_others : row < length (numbers_of others) = omega (arith, lt_other, length-map others (from_le_bytes w64)) in
    let number : c.from_le_bytes.result ≡ get_or (numbers_of column) row 0 = c.from_le_bytes.ensures
    ∙ sym (get_or-map (from_le_bytes w64) column row [] 0 lt) in
    let other : c.from_le_bytes-2.result ≡ get_or (numbers_of others) row 0 = c.from_le_bytes-2.ensures
    ∙ sym (get_or-map (from_le_bytes w64) others row [] 0 lt_other) in
    record {
      value = to_z-of_z w128 c.less.result (record { sfits = c.less.type_inv }) ∙ c.less.ensures
          ∙ (λ i. pos (number i) -ℤ pos (other i))
          ∙ sym (get_or-zip2 (λ (number other : ℕ). pos number -ℤ pos other) (numbers_of column) (numbers_of others) row
          0 0 (pos 0) lt_numbers lt_others);
    }
