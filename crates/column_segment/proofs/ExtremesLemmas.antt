-- The least and the greatest of what rows have, over those that are selected. Our own.
use Rattle.std.proofs.Common.{◌≡◌, ℕ, ℤ, pos, ◌-ℤ◌, ◌*◌, Bool, List, map, refl, ap, ◌∙◌}
use Rattle.std.specs.Prelude.{Option}
use Rattle.std.specs.Simd.{first_chunks}
use Rattle.std.proofs.lemmas.Simd.{map-map}
use Rattle.cube_model.specs.declared.rows.LineOrder.{LineOrder}
use Rattle.column_kernels.specs.Extremes.{extremes_of, wholes}
use Rattle.column_kernels.specs.Masks.{selected_by}
use Rattle.column_kernels.specs.Sums.{differences, numbers_of, products}
use Rattle.column_kernels.proofs.CallerLemmas.{selected-map}
use Rattle.column_segment.specs.declared.columns.FactColumn.{FactColumn}
use Rattle.column_segment.specs.declared.columns.FactColumn.TheVariants.{ExtendedPrice, Discount, Revenue, SupplyCost}
use Rattle.column_segment.specs.declared.layout.Layout.{Layout}
use Rattle.column_segment.specs.Columns.{fact_value, width_of}
use Rattle.column_segment.specs.Decoded.{HoldsColumns, column_bytes, decoded_rows, fact_place}
use Rattle.column_segment.proofs.Totals.{amounts_are, bytes_are, zip2-maps}

module _ (text : List ℕ) (layout : Layout) (has : HoldsColumns text layout.rows) (marks : List Bool) where
  -- those of the selected numbers are those of the selected rows
  of_rows : (value : LineOrder → ℤ) → extremes_of (selected_by marks (map value (decoded_rows text layout)))
      ≡ extremes_of (map value (selected_by marks (decoded_rows text layout)))
  of_rows value = ap extremes_of (selected-map value marks (decoded_rows text layout))

  of_values : (value : LineOrder → ℕ) (numbers : List ℕ) (found : Option (ℤ × ℤ))
      → numbers ≡ map value (decoded_rows text layout)
      → found ≡ extremes_of (selected_by marks (wholes numbers))
      → found ≡ extremes_of (map (λ row. pos (value row)) (selected_by marks (decoded_rows text layout)))
  of_values value numbers found are is =
      is ∙ ap (λ (l : List ℕ). extremes_of (selected_by marks (wholes l))) are
      ∙ ap (λ (l : List ℤ). extremes_of (selected_by marks l))
      (map-map (λ (n : ℕ). pos n) value (decoded_rows text layout))
      ∙ of_rows (λ row. pos (value row))

  pub of_amounts : (column : FactColumn) → width_of column ≡ 8 → (chunks : List (List ℕ)) (found : Option (ℤ × ℤ))
      → chunks ≡ first_chunks 8 layout.rows (column_bytes (fact_place column) 8 layout.rows text)
      → found ≡ extremes_of (selected_by marks (wholes (numbers_of chunks)))
      → found ≡ extremes_of (map (λ row. pos (fact_value column row)) (selected_by marks (decoded_rows text layout)))
  of_amounts column wide chunks found chunks_are is =
      of_values (fact_value column) (numbers_of chunks) found
      (amounts_are text layout has marks column wide chunks chunks_are) is

  pub of_bytes : (column : FactColumn) → width_of column ≡ 1 → (part : List ℕ) (found : Option (ℤ × ℤ))
      → part ≡ column_bytes (fact_place column) 1 layout.rows text
      → found ≡ extremes_of (selected_by marks (wholes part))
      → found ≡ extremes_of (map (λ row. pos (fact_value column row)) (selected_by marks (decoded_rows text layout)))
  of_bytes column wide part found part_is is =
      of_values (fact_value column) part found (bytes_are text layout has marks column wide part part_is) is

  pub of_discounted : (chunks : List (List ℕ)) (part : List ℕ) (found : Option (ℤ × ℤ))
      → chunks ≡ first_chunks 8 layout.rows (column_bytes (fact_place ExtendedPrice) 8 layout.rows text)
      → part ≡ column_bytes (fact_place Discount) 1 layout.rows text
      → found ≡ extremes_of (selected_by marks (wholes (products (numbers_of chunks) part)))
      → found ≡ extremes_of
      (map (λ row. pos (row.extendedprice * row.discount)) (selected_by marks (decoded_rows text layout)))
  of_discounted chunks part found chunks_are part_is is =
      let prices = amounts_are text layout has marks ExtendedPrice refl chunks chunks_are in
      let discounts = bytes_are text layout has marks Discount refl part part_is in
      let both : products (numbers_of chunks) part ≡ map (λ row. row.extendedprice * row.discount)
      (decoded_rows text layout) =
      (λ i. products (prices i) (discounts i))
      ∙ zip2-maps (λ (number factor : ℕ). number * factor) (fact_value ExtendedPrice) (fact_value Discount)
      (decoded_rows text layout) in
      of_values (λ row. row.extendedprice * row.discount) (products (numbers_of chunks) part) found both is

  pub of_profit : (chunks others : List (List ℕ)) (found : Option (ℤ × ℤ))
      → chunks ≡ first_chunks 8 layout.rows (column_bytes (fact_place Revenue) 8 layout.rows text)
      → others ≡ first_chunks 8 layout.rows (column_bytes (fact_place SupplyCost) 8 layout.rows text)
      → found ≡ extremes_of (selected_by marks (differences (numbers_of chunks) (numbers_of others)))
      → found ≡ extremes_of
      (map (λ row. pos row.revenue -ℤ pos row.supplycost) (selected_by marks (decoded_rows text layout)))
  of_profit chunks others found chunks_are others_are is =
      let revenues = amounts_are text layout has marks Revenue refl chunks chunks_are in
      let costs = amounts_are text layout has marks SupplyCost refl others others_are in
      is ∙ ap (λ (l : List ℤ). extremes_of (selected_by marks l))
      ((λ i. differences (revenues i) (costs i))
      ∙ zip2-maps (λ (number other : ℕ). pos number -ℤ pos other) (fact_value Revenue) (fact_value SupplyCost)
      (decoded_rows text layout))
      ∙ of_rows (λ row. pos row.revenue -ℤ pos row.supplycost)
