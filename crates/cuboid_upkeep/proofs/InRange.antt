-- Fact rows whose sums are in range have cells whose numbers fit.
use Rattle.std.proofs.Common.{◌≡◌, ap, subst, ℕ, ◌+◌, ◌<◌, ◌≤◌, ◌^◌, ℤ, pos, negsuc, ◌+ℤ◌, Bool, true, false, cond}
use Rattle.std.proofs.Common.{List, [], ◌∷◌, ◌++◌, map, length, length-append, Some, arith, FitsSigned, w64}
use Rattle.std.specs.Prelude.{nat_abs, int_lt, ◌==◌}
use Rattle.std.specs.Int.{int_max, int_min}
use Rattle.std.specs.List.{filter, fold, sum_by}
use Rattle.std.proofs.lemmas.Int.{ints}
use Rattle.std.proofs.lemmas.List.Sums.{count_by-le-length, length-filter, sum_by-append, sum_by-cons}
use Rattle.cube_model.specs.declared.measure.Measure.{Measure}
use Rattle.cube_model.specs.declared.measure.Measure.TheVariants.{Quantity, ExtendedPrice, Revenue, SupplyCost}
use Rattle.cube_model.specs.declared.measure.Measure.TheVariants.{Discounted, Profit}
use Rattle.cube_model.specs.declared.rows.DimRows.{DimRows}
use Rattle.cube_model.specs.declared.rows.LineOrder.{LineOrder}
use Rattle.cube_model.specs.Admission.{AreInRange, absolute_total}
use Rattle.cube_model.specs.Aggregates.{total}
use Rattle.cube_model.specs.Measures.{measure_of}
use Rattle.lattice.specs.declared.view.View.{View}
use Rattle.cuboid_cells.specs.declared.cell.Cell.{Cell}
use Rattle.cuboid_cells.specs.Cells.{SummaryFits, key_as_number}
use Rattle.cuboid_upkeep.specs.Grouping.{NumbersFit, cell_over, key_of, rows_of_number, summaries_over, summary_over}
use Rattle.cuboid_upkeep.specs.Lawful.{RowsInRangeFit}

fits_small : (z : ℤ) → nat_abs z < 2 ^ 63 → FitsSigned w64 z
fits_small (pos n) h = record { sfits = h }
fits_small (negsuc n) h = record { sfits = omega arith }

abs_sum : (a b : ℤ) → nat_abs (a +ℤ b) ≤ nat_abs a + nat_abs b
abs_sum (pos a) (pos b) = omega (arith, ints)
abs_sum (pos a) (negsuc b) = omega (arith, ints)
abs_sum (negsuc a) (pos b) = omega (arith, ints)
abs_sum (negsuc a) (negsuc b) = omega (arith, ints)

module _ (number : LineOrder → ℤ) where
  abbrev size : List LineOrder → ℕ
  size rows = sum_by (λ row. nat_abs (number row)) rows

  size_cons : (row : LineOrder) (rows : List LineOrder) → size (row ∷ rows) ≡ nat_abs (number row) + size rows
  size_cons row rows = sum_by-cons (λ r. nat_abs (number r)) row rows

  total_from : (a : ℤ) (rows : List LineOrder)
      → nat_abs (fold (λ so_far z. so_far +ℤ z) a (map number rows)) ≤ nat_abs a + size rows
  total_from a [] = omega arith
  total_from a (row ∷ rows) =
      omega (arith, total_from (a +ℤ number row) rows, abs_sum a (number row), size_cons row rows)

  total_small : (rows : List LineOrder) → nat_abs (total (map number rows)) ≤ size rows
  total_small rows = omega (arith, total_from (pos 0) rows)

  -- a fold that picks one of two numbers
  picked_small : (pick : ℤ → ℤ → ℤ)
      → ((a b : ℤ) (most : ℕ) → nat_abs a ≤ most → nat_abs b ≤ most → nat_abs (pick a b) ≤ most)
      → (most : ℕ) (a : ℤ) (rows : List LineOrder) → nat_abs a ≤ most → size rows ≤ most
      → nat_abs (fold pick a (map number rows)) ≤ most
  picked_small pick closed most a [] first rest = first
  picked_small pick closed most a (row ∷ rows) first rest =
      let whole = size_cons row rows in
      picked_small pick closed most (pick a (number row)) rows
      (closed a (number row) most first (omega (arith, whole, rest))) (omega (arith, whole, rest))

  pub part_small : (p : LineOrder → Bool) (rows : List LineOrder) → size (filter p rows) ≤ size rows
  part_small p [] = omega arith
  part_small p (row ∷ rows) =
      let rest = part_small p rows in
      let whole = size_cons row rows in
      elim (p row) as (λ b. size (cond b (row ∷ filter p rows) (filter p rows)) ≤ size (row ∷ rows)) [
        | true ↦ omega (arith, rest, whole, size_cons row (filter p rows))
        | false ↦ omega (arith, rest, whole)
      ]

min_closed : (a b : ℤ) (most : ℕ) → nat_abs a ≤ most → nat_abs b ≤ most → nat_abs (int_min a b) ≤ most
min_closed a b most first second = elim (int_lt b a) as (λ t. nat_abs (cond t b a) ≤ most) [
  | true ↦ second
  | false ↦ first
]

max_closed : (a b : ℤ) (most : ℕ) → nat_abs a ≤ most → nat_abs b ≤ most → nat_abs (int_max a b) ≤ most
max_closed a b most first second = elim (int_lt b a) as (λ t. nat_abs (cond t a b) ≤ most) [
  | true ↦ first
  | false ↦ second
]

summary_fits : (measure : Measure) (row : LineOrder) (rows : List LineOrder)
    → absolute_total measure (row ∷ rows) < 2 ^ 63 → SummaryFits (summary_over measure (row ∷ rows))
summary_fits measure row rows small =
    let number = measure_of measure in
    let most : ℕ = size number (row ∷ rows) in
    let whole = size_cons number row rows in
    let sum = total_small number (row ∷ rows) in
    let low = picked_small number int_min min_closed most (number row) rows (omega (arith, whole))
    (omega (arith, whole)) in
    let high = picked_small number int_max max_closed most (number row) rows (omega (arith, whole))
    (omega (arith, whole)) in record {
      sum = fits_small (total (map number (row ∷ rows))) (omega (arith, sum, small));
      least = fits_small (fold int_min (number row) (map number rows)) (omega (arith, low, small));
      greatest = fits_small (fold int_max (number row) (map number rows)) (omega (arith, high, small));
    }

pub cell_fits : (dimensions : DimRows) (modes : List (List ℕ)) (view : View) (rows : List LineOrder) (cell : Cell)
    → cell_over dimensions modes view rows ≡ Some cell
    → AreInRange rows → length rows < 2 ^ 63 → NumbersFit cell
cell_fits dimensions modes view [] cell is small few = absurd (cc is)
cell_fits dimensions modes view (row ∷ rows) cell is small few =
    let made : Cell =
    record {
      key = key_of dimensions modes view row;
      count = length (row ∷ rows);
      measures =
          summaries_over (row ∷ rows);
    } in
    let same : made ≡ cell = cc is in
    subst NumbersFit same (record {
      count = omega (arith, few);
      measures = record {
        quantity = summary_fits Quantity row rows (small Quantity);
        extendedprice = summary_fits ExtendedPrice row rows (small ExtendedPrice);
        revenue = summary_fits Revenue row rows (small Revenue);
        supplycost = summary_fits SupplyCost row rows (small SupplyCost);
        discounted = summary_fits Discounted row rows (small Discounted);
        profit = summary_fits Profit row rows (small Profit);
      };
    })

pub in_range_fit : RowsInRangeFit
in_range_fit dimensions modes view rows in_range few past =
    let of_key = λ (row : LineOrder). key_as_number (key_of dimensions modes view row) == past.number in
    let chosen : List LineOrder = rows_of_number dimensions modes view past.number past.part in
    let small : AreInRange chosen = λ measure.
    let all = in_range measure in
    let parts : absolute_total measure rows ≡ absolute_total measure (past.before ++ (past.part ++ past.after)) =
    ap (absolute_total measure) past.parts in
    let outer = sum_by-append (λ row. nat_abs (measure_of measure row)) past.before (past.part ++ past.after) in
    let inner = sum_by-append (λ row. nat_abs (measure_of measure row)) past.part past.after in
    let part = part_small (measure_of measure) of_key past.part in
    omega (arith, all, parts, outer, inner, part) in
    let short : length chosen < 2 ^ 63 =
    omega (
      arith,
      few,
      ap length past.parts,
      length-append past.before (past.part ++ past.after),
      length-append past.part past.after,
      length-filter of_key past.part,
      count_by-le-length of_key past.part,
    ) in
    past.passes (cell_fits dimensions modes view chosen past.cell past.is small short)
