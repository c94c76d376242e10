-- Sums of what rows have, over those that are selected. Our own.
use Rattle.std.proofs.Common.{◌≡◌, ℕ, suc, ℤ, pos, ◌-ℤ◌, ◌+◌, ◌-◌, ◌*◌, ◌^◌, ◌<◌, ◌≤◌, Bool, true, false, List, [], ◌∷◌}
use Rattle.std.proofs.Common.{length, map, All, refl, sym, ap, ◌∙◌, arith}
use Rattle.std.specs.Int.{from_le_bytes, w64}
use Rattle.std.specs.List.{sum}
use Rattle.std.specs.Simd.{first_chunks}
use Rattle.std.specs.Simd.Lanes.{zip2}
use Rattle.std.proofs.lemmas.List.Elements.{All-head, All-tail}
use Rattle.std.proofs.lemmas.List.Sums.{sum_by-cons}
use Rattle.std.proofs.lemmas.Simd.{map-map}
use Rattle.cube_model.specs.Aggregates.{total}
use Rattle.cube_model.specs.Limits.{most_batch_rows}
use Rattle.cube_model.specs.declared.rows.LineOrder.{LineOrder}
use Rattle.column_kernels.specs.Masks.{lies_in, selected_by}
use Rattle.column_kernels.specs.Sums.{differences, numbers_of, products}
use Rattle.column_kernels.proofs.CallerLemmas.{selected-map, total_of_numbers}
use Rattle.column_segment.specs.declared.columns.FactColumn.{FactColumn}
use Rattle.column_segment.specs.declared.columns.FactColumn.TheVariants.{Quantity, ExtendedPrice, Discount, Revenue}
use Rattle.column_segment.specs.declared.columns.FactColumn.TheVariants.{SupplyCost}
use Rattle.column_segment.specs.declared.layout.Layout.{Layout}
use Rattle.column_segment.specs.Columns.{fact_value, width_of}
use Rattle.column_segment.specs.Decoded.{HoldsColumns, column_bytes, decoded_rows, fact_place}
use Rattle.column_segment.proofs.Chunked.{AreBytes}
use Rattle.column_segment.proofs.Values.{amount_values, amounts_small, byte_values, bytes_fit, rows_many}
use Rattle.column_segment.proofs.Whole.{sum_times}

-- what is made of two columns of rows is made of the rows
pub zip2-maps : {X A B C : Type 0} (f : A → B → C) (g : X → A) (h : X → B) (xs : List X)
    → zip2 f (map g xs) (map h xs) ≡ map (λ x. f (g x) (h x)) xs
zip2-maps f g h [] = refl
zip2-maps f g h (x ∷ xs) = ap (λ l. f (g x) (h x) ∷ l) (zip2-maps f g h xs)

-- a sum of small numbers of few rows is small
pub sum_small : (value : LineOrder → ℕ) (limit : ℕ) (marks : List Bool) (rows : List LineOrder)
    → All (λ row. value row < limit) rows → sum (selected_by marks (map value rows)) ≤ limit * length rows
sum_small value limit [] rows fit = omega arith
sum_small value limit (m ∷ marks) [] fit = omega arith
sum_small value limit (true ∷ marks) (row ∷ rows) fit =
    let own : value row < limit = All-head (λ (r : LineOrder). value r < limit) row rows fit in
    let rest = sum_small value limit marks rows (All-tail (λ (r : LineOrder). value r < limit) row rows fit) in
    let more : limit * suc (length rows) ≡ limit + limit * length rows = omega arith in
    omega (arith, own, rest, more, sum_by-cons (λ (n : ℕ). n) (value row) (selected_by marks (map value rows)))
sum_small value limit (false ∷ marks) (row ∷ rows) fit =
    let rest = sum_small value limit marks rows (All-tail (λ (r : LineOrder). value r < limit) row rows fit) in
    let more : limit * suc (length rows) ≡ limit + limit * length rows = omega arith in
    omega (arith, rest, more)

-- the sum of the selected numbers is the total of the selected rows'
pub total_is : (value : LineOrder → ℕ) (marks : List Bool) (rows : List LineOrder)
    → pos (sum (selected_by marks (map value rows))) ≡ total (map (λ row. pos (value row)) (selected_by marks rows))
total_is value marks rows =
    ap (λ (l : List ℕ). pos (sum l)) (selected-map value marks rows)
    ∙ sym (total_of_numbers (map value (selected_by marks rows)))
    ∙ ap total (map-map (λ (n : ℕ). pos n) value (selected_by marks rows))

times_small : (a b p : ℕ) → a < p → b < 256 → a * b < p * 256
times_small a b p lt small =
    let k : ℕ = 255 - b in
    let all : b + k ≡ 255 = omega (arith, small) in
    let most : (b + k) * a ≡ 255 * a = ap (λ (n : ℕ). n * a) all in
    let turned : a * b ≡ b * a = omega arith in
    omega (arith, most, sum_times b k a, turned, lt)

-- the truth values of two columns are those of the rows
pub marks_are : (text : List ℕ) (layout : Layout) → HoldsColumns text layout.rows
    → (quantity discount : ℕ × ℕ) (quantities discounts : List ℕ)
    → quantities ≡ column_bytes (fact_place Quantity) 1 layout.rows text
    → discounts ≡ column_bytes (fact_place Discount) 1 layout.rows text
    → zip2 (lies_in quantity discount) quantities discounts
    ≡ map (λ row. lies_in quantity discount row.quantity row.discount) (decoded_rows text layout)
marks_are text layout has quantity discount quantities discounts is also =
    let first : quantities ≡ map (fact_value Quantity) (decoded_rows text layout) = is
    ∙ sym (byte_values text layout has.room Quantity refl) in
    let second : discounts ≡ map (fact_value Discount) (decoded_rows text layout) = also
    ∙ sym (byte_values text layout has.room Discount refl) in
    (λ i. zip2 (lies_in quantity discount) (first i) (second i))
    ∙ zip2-maps (lies_in quantity discount) (fact_value Quantity) (fact_value Discount) (decoded_rows text layout)

-- ---- the sums that are taken

module _ (text : List ℕ) (layout : Layout) (has : HoldsColumns text layout.rows) (marks : List Bool) where
  few : length (decoded_rows text layout) ≤ most_batch_rows
  few = omega (arith, rows_many text layout, has.few)

  pub amounts_are : (column : FactColumn) → width_of column ≡ 8 → (chunks : List (List ℕ))
      → chunks ≡ first_chunks 8 layout.rows (column_bytes (fact_place column) 8 layout.rows text)
      → numbers_of chunks ≡ map (fact_value column) (decoded_rows text layout)
  amounts_are column wide chunks is = ap (map (from_le_bytes w64)) is ∙ sym (amount_values text layout column wide)

  pub bytes_are : (column : FactColumn) → width_of column ≡ 1 → (part : List ℕ)
      → part ≡ column_bytes (fact_place column) 1 layout.rows text
      → part ≡ map (fact_value column) (decoded_rows text layout)
  bytes_are column wide part is = is ∙ sym (byte_values text layout has.room column wide)

  -- a price times a discount
  products_small : AreBytes text
      → All (λ row. row.extendedprice * row.discount < 2 ^ 64 * 256) (decoded_rows text layout)
  products_small are = λ i d lt.
      times_small _ _ (2 ^ 64) (amounts_small text layout has.room are ExtendedPrice refl i d lt)
      (bytes_fit text layout has.room are Discount refl i d lt)

  -- what is summed up, which is small, and its total
  abbrev pub Sums : ℕ → (LineOrder → ℕ) → Type 0
  Sums found value = (found < 2 ^ 127)
      × (pos found ≡ total (map (λ row. pos (value row)) (selected_by marks (decoded_rows text layout))))

  pub amount_sum : AreBytes text → (column : FactColumn) → width_of column ≡ 8 → (chunks : List (List ℕ)) (found : ℕ)
      → chunks ≡ first_chunks 8 layout.rows (column_bytes (fact_place column) 8 layout.rows text)
      → found ≡ sum (selected_by marks (numbers_of chunks)) → Sums found (fact_value column)
  amount_sum are column wide chunks found is summed =
      let same : found ≡ sum (selected_by marks (map (fact_value column) (decoded_rows text layout))) = summed
      ∙ ap (λ (l : List ℕ). sum (selected_by marks l)) (amounts_are column wide chunks is) in
      let small =
      sum_small (fact_value column) (2 ^ 64) marks (decoded_rows text layout)
      (amounts_small text layout has.room are column wide) in (
        omega (arith, same, small, few),
        ap (λ (n : ℕ). pos n) same
            ∙ total_is (fact_value column) marks (decoded_rows text layout),
      )

  pub byte_sum : AreBytes text → (column : FactColumn) → width_of column ≡ 1 → (part : List ℕ) (found : ℕ)
      → part ≡ column_bytes (fact_place column) 1 layout.rows text
      → found ≡ sum (selected_by marks part) → Sums found (fact_value column)
  byte_sum are column wide part found is summed =
      let same : found ≡ sum (selected_by marks (map (fact_value column) (decoded_rows text layout))) = summed
      ∙ ap (λ (l : List ℕ). sum (selected_by marks l)) (bytes_are column wide part is) in
      let small =
      sum_small (fact_value column) (2 ^ 8) marks (decoded_rows text layout)
      (bytes_fit text layout has.room are column wide) in (
        omega (arith, same, small, few),
        ap (λ (n : ℕ). pos n) same
            ∙ total_is (fact_value column) marks (decoded_rows text layout),
      )

  abbrev pub discounted : LineOrder → ℕ
  discounted row = row.extendedprice * row.discount

  pub discounted_sum : AreBytes text → (chunks : List (List ℕ)) (part : List ℕ) (found : ℕ)
      → chunks ≡ first_chunks 8 layout.rows (column_bytes (fact_place ExtendedPrice) 8 layout.rows text)
      → part ≡ column_bytes (fact_place Discount) 1 layout.rows text
      → found ≡ sum (selected_by marks (products (numbers_of chunks) part)) → Sums found discounted
  discounted_sum are chunks part found is part_is summed =
      let prices = amounts_are ExtendedPrice refl chunks is in
      let discounts = bytes_are Discount refl part part_is in
      let both : products (numbers_of chunks) part ≡ map discounted (decoded_rows text layout) =
      (λ i. products (prices i) (discounts i))
      ∙ zip2-maps (λ (number factor : ℕ). number * factor) (fact_value ExtendedPrice) (fact_value Discount)
      (decoded_rows text layout) in
      let same : found ≡ sum (selected_by marks (map discounted (decoded_rows text layout))) = summed
      ∙ ap (λ (l : List ℕ). sum (selected_by marks l)) both in
      let small = sum_small discounted (2 ^ 64 * 256) marks (decoded_rows text layout) (products_small are) in (
        omega (arith, same, small, few),
        ap (λ (n : ℕ). pos n) same
            ∙ total_is discounted marks (decoded_rows text layout),
      )

  abbrev pub profit : LineOrder → ℤ
  profit row = pos row.revenue -ℤ pos row.supplycost

  pub profit_sum : (chunks others : List (List ℕ)) (found : ℤ)
      → chunks ≡ first_chunks 8 layout.rows (column_bytes (fact_place Revenue) 8 layout.rows text)
      → others ≡ first_chunks 8 layout.rows (column_bytes (fact_place SupplyCost) 8 layout.rows text)
      → found ≡ total (selected_by marks (differences (numbers_of chunks) (numbers_of others)))
      → found ≡ total (map profit (selected_by marks (decoded_rows text layout)))
  profit_sum chunks others found is also summed =
      let revenues = amounts_are Revenue refl chunks is in
      let costs = amounts_are SupplyCost refl others also in
      summed ∙ ap (λ (l : List ℤ). total (selected_by marks l))
      ((λ i. differences (revenues i) (costs i))
      ∙ zip2-maps (λ (number other : ℕ). pos number -ℤ pos other) (fact_value Revenue) (fact_value SupplyCost)
      (decoded_rows text layout))
      ∙ ap total (selected-map profit marks (decoded_rows text layout))
