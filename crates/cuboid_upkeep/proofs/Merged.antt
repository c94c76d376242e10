-- The cell of fact rows put end to end is the merge of their cells.
use Rattle.std.proofs.Common.{◌≡◌, ◌∙◌, sym, ap, refl, ℕ, ℤ, pos, ◌+ℤ◌, List, [], ◌∷◌, ◌++◌, map, length-append}
use Rattle.std.proofs.Common.{append-nil, arith, Some}
use Rattle.std.specs.List.{fold}
use Rattle.std.specs.Int.{int_min, int_max}
use Rattle.std.proofs.lemmas.Int.{ints}
use Rattle.std.proofs.lemmas.List.{map-append}
use Rattle.std.proofs.lemmas.List.Elements.{filter-append}
use Rattle.std.proofs.lemmas.List.Sums.{fold-append}
use Rattle.cube_model.specs.declared.measure.Measure.{Measure}
use Rattle.cube_model.specs.declared.measure.Measure.TheVariants.{Quantity, ExtendedPrice, Revenue, SupplyCost}
use Rattle.cube_model.specs.declared.measure.Measure.TheVariants.{Discounted, Profit}
use Rattle.cube_model.specs.declared.rows.DimRows.{DimRows}
use Rattle.cube_model.specs.declared.rows.LineOrder.{LineOrder}
use Rattle.cube_model.specs.Aggregates.{greatest, least, total}
use Rattle.cube_model.specs.Measures.{measure_of}
use Rattle.lattice.specs.declared.view.View.{View}
use Rattle.cuboid_cells.specs.declared.cell.Cell.{Cell}
use Rattle.cuboid_cells.specs.declared.summary.Summary.{Summary}
use Rattle.cuboid_cells.specs.Cells.{cell_at, key_as_number}
use Rattle.cuboid_cells.specs.Merges.{merged_if_any, merged_summaries, merged_summary}
use Rattle.cuboid_upkeep.specs.Grouping.{Group, cell_over, key_of, rows_of_number, summaries_over, summary_over}
use Rattle.std.proofs.Common.{◌==◌}

sum_from : (a : ℤ) (xs : List ℤ) → fold (λ so_far number. so_far +ℤ number) a xs ≡ a +ℤ total xs
sum_from a [] = omega (arith, ints)
sum_from a (x ∷ xs) = sum_from (a +ℤ x) xs ∙ (omega (arith, ints, sum_from (pos 0 +ℤ x) xs))

min_assoc : (a b c : ℤ) → int_min (int_min a b) c ≡ int_min a (int_min b c)
min_assoc a b c = grind (arith, ints)

max_assoc : (a b c : ℤ) → int_max (int_max a b) c ≡ int_max a (int_max b c)
max_assoc a b c = grind (arith, ints)

fold_from : (f : ℤ → ℤ → ℤ) → ((a b c : ℤ) → f (f a b) c ≡ f a (f b c)) → (a b : ℤ) (xs : List ℤ)
    → fold f (f a b) xs ≡ f a (fold f b xs)
fold_from f assoc a b [] = refl
fold_from f assoc a b (x ∷ xs) = ap (λ start. fold f start xs) (assoc a b x) ∙ fold_from f assoc a (f b x) xs

-- what is kept of numbers
abbrev kept : List ℤ → Summary
kept numbers = record { sum = total numbers; least = least numbers; greatest = greatest numbers }

kept-append : (x : ℤ) (xs : List ℤ) (y : ℤ) (ys : List ℤ)
    → kept ((x ∷ xs) ++ (y ∷ ys)) ≡ merged_summary (kept (x ∷ xs)) (kept (y ∷ ys))
kept-append x xs y ys =
    let sum = fold-append (λ so_far number. so_far +ℤ number) (pos 0) (x ∷ xs) (y ∷ ys)
    ∙ sum_from (total (x ∷ xs)) (y ∷ ys) in
    let least_is = fold-append int_min x xs (y ∷ ys) ∙ fold_from int_min min_assoc (fold int_min x xs) y ys in
    let greatest_is = fold-append int_max x xs (y ∷ ys) ∙ fold_from int_max max_assoc (fold int_max x xs) y ys in
    λ i. record { sum = sum i; least = least_is i; greatest = greatest_is i }

over_both : (measure : Measure) (x : LineOrder) (xs : List LineOrder) (y : LineOrder) (ys : List LineOrder)
    → summary_over measure ((x ∷ xs) ++ (y ∷ ys)) ≡ merged_summary (summary_over measure (x ∷ xs))
    (summary_over measure (y ∷ ys))
over_both measure x xs y ys =
    ap kept (map-append (measure_of measure) (x ∷ xs) (y ∷ ys))
    ∙ kept-append (measure_of measure x) (map (measure_of measure) xs) (measure_of measure y)
    (map (measure_of measure) ys)

all_over_both : (x : LineOrder) (xs : List LineOrder) (y : LineOrder) (ys : List LineOrder)
    → summaries_over ((x ∷ xs) ++ (y ∷ ys)) ≡ merged_summaries (summaries_over (x ∷ xs)) (summaries_over (y ∷ ys))
all_over_both x xs y ys = λ i. record {
  quantity = over_both Quantity x xs y ys i;
  extendedprice = over_both ExtendedPrice x xs y ys i;
  revenue = over_both Revenue x xs y ys i;
  supplycost = over_both SupplyCost x xs y ys i;
  discounted = over_both Discounted x xs y ys i;
  profit = over_both Profit x xs y ys i;
}

cell_over-append : (dimensions : DimRows) (modes : List (List ℕ)) (view : View) (rows others : List LineOrder)
    → cell_over dimensions modes view (rows ++ others) ≡ merged_if_any (cell_over dimensions modes view rows)
    (cell_over dimensions modes view others)
cell_over-append dimensions modes view [] others = refl
cell_over-append dimensions modes view (x ∷ xs) [] = ap (cell_over dimensions modes view) (append-nil (x ∷ xs))
cell_over-append dimensions modes view (x ∷ xs) (y ∷ ys) =
    let count = length-append (x ∷ xs) (y ∷ ys) in
    let measures = all_over_both x xs y ys in
    λ i. Some (record { key = key_of dimensions modes view x; count = count i; measures = measures i })

pub over_append : (dimensions : DimRows) (modes : List (List ℕ)) (view : View) (number : ℕ)
    (rows others : List LineOrder)
    → cell_over dimensions modes view (rows_of_number dimensions modes view number (rows ++ others))
    ≡ merged_if_any (cell_over dimensions modes view (rows_of_number dimensions modes view number rows))
    (cell_over dimensions modes view (rows_of_number dimensions modes view number others))
over_append dimensions modes view number rows others =
    ap (cell_over dimensions modes view)
    (filter-append (λ row. key_as_number (key_of dimensions modes view row) == number) rows others)
    ∙ cell_over-append dimensions modes view (rows_of_number dimensions modes view number rows)
    (rows_of_number dimensions modes view number others)

-- cells of fact rows put end to end go by keys as their merge does
pub both_group : (dimensions : DimRows) (modes : List (List ℕ)) (view : View) (rows others : List LineOrder)
    (one other new : List Cell)
    → Group dimensions modes view rows one → Group dimensions modes view others other
    → ((number : ℕ) → cell_at number new ≡ merged_if_any (cell_at number one) (cell_at number other))
    → Group dimensions modes view (rows ++ others) new
both_group dimensions modes view rows others one other new first second by_key = λ number.
    by_key number ∙ (λ i. merged_if_any (first number i) (second number i))
    ∙ sym (over_append dimensions modes view number rows others)
