-- What is found in the rows of a batch, one row after the other.
use Rattle.std.proofs.Common.{◌≡◌, ◌==◌, ℕ, suc, ◌+◌, ◌<◌, ◌≤◌, Bool, true, false, not, cond, nat_le, List, [], ◌∷◌}
use Rattle.std.proofs.Common.{◌++◌, length, take, get_or, Option, Some, None, is_none, find, refl, sym, ap, ◌∙◌, arith}
use Rattle.std.proofs.Common.{zero-add, add_assoc}
use Rattle.std.specs.List.{position_or_len}
use Rattle.std.proofs.lemmas.List.{take_more, take_all, length_push, append_assoc}
use Rattle.std.proofs.lemmas.List.Sums.{sum_by_push}
use Rattle.std.proofs.lemmas.Bool.Decides.{nat_tests}
use Rattle.cube_model.specs.declared.attr.Axis.{Axis}
use Rattle.cube_model.specs.declared.attr.Axis.TheVariants.{Customer, Supplier, Part, Date}
use Rattle.cube_model.specs.declared.fault.Fault.{Fault}
use Rattle.cube_model.specs.declared.fault.Fault.TheVariants.{SumRange}
use Rattle.cube_model.specs.declared.measure.Measure.{Measure}
use Rattle.cube_model.specs.declared.measure.Measure.TheVariants.{Quantity, ExtendedPrice, Revenue, SupplyCost}
use Rattle.cube_model.specs.declared.measure.Measure.TheVariants.{Discounted, Profit}
use Rattle.cube_model.specs.declared.rows.DimRows.{DimRows}
use Rattle.cube_model.specs.declared.rows.LineOrder.{LineOrder}
use Rattle.cube_model.specs.Admission.{absolute_total, long_text, long_field, unknown_key, unknown_axis}
use Rattle.cube_model.specs.Causes.{first_cause, cause_if}
use Rattle.cube_model.specs.Places.{row_index_of, row_count_of}
use Rattle.batch_admission.specs.Found.{Found, cause_of, lacks, found_in, found_with}
use Rattle.batch_admission.specs.Totals.{AreBelow, plus_rows, plus_row, measure_size, sum_limit, total_cause}
use Rattle.batch_admission.specs.Totals.{totals_cause}
use Rattle.cube_model.specs.declared.totals.Totals.{Totals}

one_more : (n m : ℕ) → (1 + n == suc m) ≡ (n == m)
one_more n m = grind (arith, nat_tests)

first_fits : (m : ℕ) → (0 == suc m) ≡ false
first_fits m = grind (arith, nat_tests)

at_first : {Row : Type 0} (fits : Bool) (row : Row) (n m : ℕ) (found : Option Row) → (n == m) ≡ is_none found
    → (cond (not fits) (1 + n) 0 == suc m) ≡ is_none (cond fits (Some row) found)
at_first true row n m found is = first_fits m
at_first false row n m found is = one_more n m ∙ is

at_end : {Row : Type 0} (p : Row → Bool) (rows : List Row)
    → (position_or_len p rows == length rows) ≡ is_none (find p rows)
at_end p [] = refl
at_end p (row ∷ rows) = at_first (p row) row (position_or_len p rows) (length rows) (find p rows) (at_end p rows)

-- a key is lacking where its row index is after the last row
pub lacks-at_end : (dimensions : DimRows) (axis : Axis) (key : ℕ)
    → (row_index_of dimensions axis key == row_count_of dimensions axis) ≡ lacks dimensions axis key
lacks-at_end dimensions Customer key = at_end _ dimensions.customers
lacks-at_end dimensions Supplier key = at_end _ dimensions.suppliers
lacks-at_end dimensions Part key = at_end _ dimensions.parts
lacks-at_end dimensions Date key = at_end _ dimensions.dates

grouped : (a b c : Option Fault)
    → first_cause (a ∷ first_cause (b ∷ c ∷ []) ∷ []) ≡ first_cause (first_cause (a ∷ b ∷ []) ∷ c ∷ [])
grouped (Some a) b c = refl
grouped None (Some b) c = refl
grouped None None (Some c) = refl
grouped None None None = refl

alone : (a : Option Fault) → first_cause (a ∷ None ∷ []) ≡ first_cause (None ∷ a ∷ [])
alone (Some a) = refl
alone None = refl

-- the first cause in rows of which one is the last
module _ (one : ℕ → LineOrder → Option Fault) (all : ℕ → List LineOrder → Option Fault)
    (none : (n : ℕ) → all n [] ≡ None)
    (more : (n : ℕ) (row : LineOrder) (rows : List LineOrder)
    → all n (row ∷ rows) ≡ first_cause (one n row ∷ all (n + 1) rows ∷ [])) where
  with_last : (n : ℕ) (rows : List LineOrder) (row : LineOrder)
      → all n (rows ++ row ∷ []) ≡ first_cause (all n rows ∷ one (length rows + n) row ∷ [])
  with_last n [] row = rw (more n row [], none (n + 1), none n, zero-add n) (alone (one n row))
  with_last n (first ∷ rows) row =
      let same : suc (length rows) + n ≡ length rows + (n + 1) = omega arith in
      rw (more n first (rows ++ row ∷ []), with_last (n + 1) rows row, more n first rows, same)
      (grouped (one n first) (all (n + 1) rows) (one (length rows + (n + 1)) row))

plus_rows-last : (totals : Totals) (rows : List LineOrder) (row : LineOrder)
    → plus_rows totals (rows ++ row ∷ []) ≡ plus_row (plus_rows totals rows) row
plus_rows-last totals rows row =
    let quantity = last Quantity totals.quantity in
    let extendedprice = last ExtendedPrice totals.extendedprice in
    let revenue = last Revenue totals.revenue in
    let supplycost = last SupplyCost totals.supplycost in
    let discounted = last Discounted totals.discounted in
    let profit = last Profit totals.profit in
    cc where
      last : (measure : Measure) (total : ℕ) → total + absolute_total measure (rows ++ row ∷ [])
          ≡ total + absolute_total measure rows + measure_size measure row
      last measure total = ap (λ more. total + more) (sum_by_push (measure_size measure) rows row)
          ∙ sym (add_assoc total (absolute_total measure rows) (measure_size measure row))

-- what is found in rows of which one is the last
found_in-last : (dimensions : DimRows) (totals : Totals) (rows : List LineOrder) (row : LineOrder)
    → found_in dimensions totals (rows ++ row ∷ []) ≡ found_with dimensions (found_in dimensions totals rows) row
found_in-last dimensions totals rows row =
    let count = length_push rows row in
    let long = with_last long_field long_text (λ n. refl) (λ n row rows. refl) 1 rows row in
    let unknown = with_last (unknown_axis dimensions) (unknown_key dimensions) (λ n. refl) (λ n row rows. refl) 1 rows
    row in
    let sums = plus_rows-last totals rows row in
    cc

-- the same of the first of some further rows
pub found_in-more : (dimensions : DimRows) (totals : Totals) (earlier rows : List LineOrder) (i : ℕ) (row : LineOrder)
    (found next : Found) → i < length rows → row ≡ get_or rows i row
    → found ≡ found_in dimensions totals (earlier ++ take i rows) → next ≡ found_with dimensions found row
    → next ≡ found_in dimensions totals (earlier ++ take (i + 1) rows)
found_in-more dimensions totals earlier rows i row found next within is before step =
    let more : take (i + 1) rows ≡ take i rows ++ row ∷ [] = take_more rows i row within
    ∙ ap (λ item. take i rows ++ item ∷ []) (sym is) in
    let longer : earlier ++ take (i + 1) rows ≡ (earlier ++ take i rows) ++ row ∷ [] = ap (λ some. earlier ++ some) more
    ∙ sym (append_assoc earlier (take i rows) (row ∷ [])) in
    step ∙ ap (λ so_far. found_with dimensions so_far row) before
    ∙ sym (found_in-last dimensions totals (earlier ++ take i rows) row)
    ∙ ap (found_in dimensions totals) (sym longer)

-- the same of all of them
pub found_in-all : (dimensions : DimRows) (totals : Totals) (earlier rows : List LineOrder) (i : ℕ) (found : Found)
    → length rows ≤ i → found ≡ found_in dimensions totals (earlier ++ take i rows)
    → found ≡ found_in dimensions totals (earlier ++ rows)
found_in-all dimensions totals earlier rows i found after is = rw (take_all i rows after) at is

-- a sum that keeps its limit is no cause
pub within_limit : (total : ℕ) (measure : Measure) → total < sum_limit → total_cause total measure ≡ None
within_limit total measure below = ap (λ test. cause_if test (SumRange measure)) not_over
  where
    not_over : nat_le sum_limit total ≡ false
    not_over = grind (arith, nat_tests)

none_of_six : (a b c d e f : Option Fault) → a ≡ None → b ≡ None → c ≡ None → d ≡ None → e ≡ None → f ≡ None
    → first_cause (a ∷ b ∷ c ∷ d ∷ e ∷ f ∷ []) ≡ None
none_of_six a b c d e f at_a at_b at_c at_d at_e at_f = rw (at_a, at_b, at_c, at_d, at_e, at_f) refl

pub below-clean : (totals : Totals) → AreBelow sum_limit totals → totals_cause totals ≡ None
below-clean totals below =
    none_of_six _ _ _ _ _ _ (within_limit totals.quantity Quantity below.quantity)
    (within_limit totals.extendedprice ExtendedPrice below.extendedprice)
    (within_limit totals.revenue Revenue below.revenue) (within_limit totals.supplycost SupplyCost below.supplycost)
    (within_limit totals.discounted Discounted below.discounted) (within_limit totals.profit Profit below.profit)

-- in no row nothing is found
pub none-clean : (totals : Totals) → AreBelow sum_limit totals
    → cause_of (record { row_count = 0; long_text = None; unknown_key = None; totals = totals }) ≡ None
none-clean totals below = ap (λ cause. first_cause (None ∷ None ∷ cause ∷ [])) (below-clean totals below)
