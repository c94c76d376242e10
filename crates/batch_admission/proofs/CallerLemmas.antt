-- What callers need of the check of a batch.
use Rattle.std.proofs.Common.{◌≡◌, ℕ, ◌+◌, ◌≤◌, ◌<◌, Bool, true, false, List, [], ◌∷◌, ◌++◌, length, Option, Some, None}
use Rattle.std.proofs.Common.{is_none, refl, sym, arith, subst, nat_le, nat_lt, nat_abs}
use Rattle.std.proofs.lemmas.Bool.Decides.{nat_tests}
use Rattle.std.proofs.lemmas.List.Sums.{sum_by-append}
use Rattle.cube_model.specs.declared.fault.Fault.{Fault}
use Rattle.cube_model.specs.declared.fault.Fault.TheVariants.{Repeated, Gap, TooManyBatches, TooManyRows}
use Rattle.cube_model.specs.declared.fault.Fault.TheVariants.{UnknownCustomer, UnknownSupplier, UnknownPart}
use Rattle.cube_model.specs.declared.fault.Fault.TheVariants.{UnknownDate, SumRange}
use Rattle.cube_model.specs.declared.measure.Measure.{Measure}
use Rattle.cube_model.specs.declared.measure.Measure.TheVariants.{Quantity, ExtendedPrice, Revenue, SupplyCost}
use Rattle.cube_model.specs.declared.measure.Measure.TheVariants.{Discounted, Profit}
use Rattle.cube_model.specs.declared.rows.DimRows.{DimRows}
use Rattle.cube_model.specs.declared.rows.LineOrder.{LineOrder}
use Rattle.cube_model.specs.Admission.{all_rows, refusal, long_text, long_field, unknown_key, unknown_axis, sums_cause}
use Rattle.cube_model.specs.Admission.{absolute_total, early_refusal, AreInRange}
use Rattle.cube_model.specs.Attributes.{customer_of, supplier_of, part_of, date_of}
use Rattle.cube_model.specs.Causes.{first_cause, cause_if}
use Rattle.cube_model.specs.Limits.{most_batch_rows, most_batches}
use Rattle.cube_model.specs.Measures.{measure_of}
use Rattle.batch_admission.specs.Found.{Found, cause_of, found_in}
use Rattle.batch_admission.specs.Totals.{sum_limit, total_cause, totals_cause, totals_of, plus_rows}
use Rattle.cube_model.specs.declared.totals.Totals.{Totals}
use Rattle.batch_admission.proofs.AcceptedLaws as laws
use Rattle.batch_admission.proofs.FoundLaws.{below-clean}

-- the rows of batches and of one more
pub all_rows-last : (batches : List (List LineOrder)) (rows : List LineOrder)
    → all_rows (batches ++ rows ∷ []) ≡ all_rows batches ++ rows
all_rows-last = laws.all_rows-last

both : (cause : Option Fault) (causes : List (Option Fault)) → first_cause (cause ∷ causes) ≡ None
    → (cause ≡ None) × (first_cause causes ≡ None)
both None causes e = (refl, e)
both (Some fault) causes e = cc

not_so : (test : Bool) (fault : Fault) → cause_if test fault ≡ None → test ≡ false
not_so true fault e = cc
not_so false fault e = refl

-- what a batch that is not refused says
pub record Passes (dimensions : DimRows) (batches : List (List LineOrder)) (rows : List LineOrder) : Type 0 where
  pub batches_left : length batches < most_batches
  pub few : length rows ≤ most_batch_rows
  pub texts : long_text 1 rows ≡ None
  pub known : unknown_key dimensions 1 rows ≡ None
  pub sums : sums_cause (all_rows batches ++ rows) ≡ None

at_most : (a b : ℕ) → nat_lt a b ≡ false → b ≤ a
at_most a b e = grind (arith, nat_tests)

below : (a b : ℕ) → nat_le a b ≡ false → b < a
below a b e = grind (arith, nat_tests)

only : (cause : Option Fault) → first_cause (cause ∷ []) ≡ None → cause ≡ None
only None e = refl
only (Some fault) e = e

pub passes : (dimensions : DimRows) (batches : List (List LineOrder)) (number : ℕ) (rows : List LineOrder)
    → refusal dimensions batches number rows ≡ None → Passes dimensions batches rows
passes dimensions batches number rows e =
    let early = both (early_refusal dimensions batches number rows) (sums_cause (all_rows batches ++ rows) ∷ []) e in
    let keys = unknown_key dimensions 1 rows ∷ [] in
    let texts = long_text 1 rows ∷ keys in
    let sizes = cause_if (nat_lt most_batch_rows (length rows)) TooManyRows ∷ texts in
    let counts = cause_if (nat_le most_batches (length batches)) TooManyBatches ∷ sizes in
    let gaps = cause_if (nat_lt (length batches + 1) number) Gap ∷ counts in
    let repeated = both (cause_if (nat_le number (length batches)) Repeated) gaps early.0 in
    let gap = both (cause_if (nat_lt (length batches + 1) number) Gap) counts repeated.1 in
    let many = both (cause_if (nat_le most_batches (length batches)) TooManyBatches) sizes gap.1 in
    let wide = both (cause_if (nat_lt most_batch_rows (length rows)) TooManyRows) texts many.1 in
    let long = both (long_text 1 rows) keys wide.1 in
    record {
      batches_left =
          below most_batches (length batches) (not_so (nat_le most_batches (length batches)) TooManyBatches many.0);
      few = at_most most_batch_rows (length rows) (not_so (nat_lt most_batch_rows (length rows)) TooManyRows wide.0);
      texts = long.0;
      known = only (unknown_key dimensions 1 rows) long.1;
      sums = only (sums_cause (all_rows batches ++ rows)) early.1;
    }

total_below : (total : ℕ) (measure : Measure) → cause_if (nat_le sum_limit total) (SumRange measure) ≡ None
    → total < sum_limit
total_below total measure e = below sum_limit total (not_so _ _ e)

-- no sum passes its limit
pub in_range : (rows : List LineOrder) → sums_cause rows ≡ None → AreInRange rows
in_range rows e =
    let quantity = both _ _ e in
    let price = both _ _ quantity.1 in
    let revenue = both _ _ price.1 in
    let cost = both _ _ revenue.1 in
    let discounted = both _ _ cost.1 in
    λ measure. elim measure as (λ m. absolute_total m rows < sum_limit) [
      | Quantity ↦ total_below _ Quantity quantity.0
      | ExtendedPrice ↦ total_below _ ExtendedPrice price.0
      | Revenue ↦ total_below _ Revenue revenue.0
      | SupplyCost ↦ total_below _ SupplyCost cost.0
      | Discounted ↦ total_below _ Discounted discounted.0
      | Profit ↦ total_below _ Profit (only _ discounted.1)
    ]

any_number : (customer supplier part date : Bool) (m n : ℕ)
    → first_cause (cause_if customer (UnknownCustomer m) ∷ cause_if supplier (UnknownSupplier m)
    ∷ cause_if part (UnknownPart m) ∷ cause_if date (UnknownDate m) ∷ []) ≡ None
    → first_cause (cause_if customer (UnknownCustomer n) ∷ cause_if supplier (UnknownSupplier n)
    ∷ cause_if part (UnknownPart n) ∷ cause_if date (UnknownDate n) ∷ []) ≡ None
any_number true supplier part date m n e = cc
any_number false true part date m n e = cc
any_number false false true date m n e = cc
any_number false false false true m n e = cc
any_number false false false false m n e = refl

none_of : (first second : Option Fault) → first ≡ None → second ≡ None → first_cause (first ∷ second ∷ []) ≡ None
none_of first second a b = rw (a, b) refl

known_from : (dimensions : DimRows) (m n : ℕ) (rows : List LineOrder) → unknown_key dimensions m rows ≡ None
    → unknown_key dimensions n rows ≡ None
known_from dimensions m n [] e = refl
known_from dimensions m n (row ∷ rows) e =
    let parts = both (unknown_axis dimensions m row) (unknown_key dimensions (m + 1) rows ∷ []) e in
    none_of (unknown_axis dimensions n row) (unknown_key dimensions (n + 1) rows)
    (any_number (is_none (customer_of dimensions row.custkey)) (is_none (supplier_of dimensions row.suppkey))
    (is_none (part_of dimensions row.partkey)) (is_none (date_of dimensions row.orderdate)) m n parts.0)
    (known_from dimensions (m + 1) (n + 1) rows (only _ parts.1))

-- keys that are known stay known after others
pub known_both : (dimensions : DimRows) (m n k : ℕ) (earlier rows : List LineOrder)
    → unknown_key dimensions m earlier ≡ None → unknown_key dimensions n rows ≡ None
    → unknown_key dimensions m (earlier ++ rows) ≡ None
known_both dimensions m n k [] rows a b = known_from dimensions n m rows b
known_both dimensions m n k (row ∷ earlier) rows a b =
    let parts = both (unknown_axis dimensions m row) (unknown_key dimensions (m + 1) earlier ∷ []) a in
    none_of (unknown_axis dimensions m row) (unknown_key dimensions (m + 1) (earlier ++ rows)) parts.0
    (known_both dimensions (m + 1) n k earlier rows (only _ parts.1) b)

none_of_three : (a b c : Option Fault) → a ≡ None → b ≡ None → c ≡ None → first_cause (a ∷ b ∷ c ∷ []) ≡ None
none_of_three a b c at_a at_b at_c = rw (at_a, at_b, at_c) refl

-- rows in which nothing was found may be folded after those before them
pub found-clean : (dimensions : DimRows) (before rows : List LineOrder)
    → cause_of (found_in dimensions (totals_of before) rows) ≡ None → (unknown_key dimensions 1 rows ≡ None)
    × AreInRange (before ++ rows)
found-clean dimensions before rows e =
    let long = both (long_text 1 rows) (unknown_key dimensions 1 rows ∷ totals_cause (plus_rows (totals_of before) rows)
    ∷ []) e in
    let unknown =
    both (unknown_key dimensions 1 rows) (totals_cause (plus_rows (totals_of before) rows) ∷ [])
    long.1 in (
      unknown.0,
      in_range (before ++ rows)
          (subst (λ totals. totals_cause totals ≡ None) (laws.totals_of-append before rows)
          (only (totals_cause (plus_rows (totals_of before) rows)) unknown.1)),
    )

-- in a batch that is not refused nothing is found
pub passes-found : (dimensions : DimRows) (batches : List (List LineOrder)) (number : ℕ) (rows : List LineOrder)
    → refusal dimensions batches number rows ≡ None
    → cause_of (found_in dimensions (totals_of (all_rows batches)) rows) ≡ None
passes-found dimensions batches number rows e =
    none_of_three (long_text 1 rows) (unknown_key dimensions 1 rows)
    (totals_cause (plus_rows (totals_of (all_rows batches)) rows)) pass.texts pass.known
    (subst (λ totals. totals_cause totals ≡ None) (sym (laws.totals_of-append (all_rows batches) rows)) pass.sums) where
      pass : Passes dimensions batches rows
      pass = passes dimensions batches number rows e

-- what is not found in some rows is not found in the first of them
pub long_before : (number : ℕ) (earlier rows : List LineOrder) → long_text number (earlier ++ rows) ≡ None
    → long_text number earlier ≡ None
long_before number [] rows e = refl
long_before number (row ∷ earlier) rows e =
    let parts = both (long_field number row) (long_text (number + 1) (earlier ++ rows) ∷ []) e in
    none_of (long_field number row) (long_text (number + 1) earlier) parts.0
    (long_before (number + 1) earlier rows (only _ parts.1))

unknown_before : (dimensions : DimRows) (number : ℕ) (earlier rows : List LineOrder)
    → unknown_key dimensions number (earlier ++ rows) ≡ None → unknown_key dimensions number earlier ≡ None
unknown_before dimensions number [] rows e = refl
unknown_before dimensions number (row ∷ earlier) rows e =
    let parts = both (unknown_axis dimensions number row) (unknown_key dimensions (number + 1) (earlier ++ rows) ∷ [])
    e in
    none_of (unknown_axis dimensions number row) (unknown_key dimensions (number + 1) earlier) parts.0
    (unknown_before dimensions (number + 1) earlier rows (only _ parts.1))

total_before : (total : ℕ) (measure : Measure) (earlier rows : List LineOrder)
    → total_cause (total + absolute_total measure (earlier ++ rows)) measure ≡ None
    → total + absolute_total measure earlier < sum_limit
total_before total measure earlier rows e =
    omega (
      arith,
      total_below (total + absolute_total measure (earlier ++ rows)) measure e,
      sum_by-append (λ row. nat_abs (measure_of measure row)) earlier rows,
    )

totals_before : (totals : Totals) (earlier rows : List LineOrder) → totals_cause (plus_rows totals (earlier ++ rows))
    ≡ None → totals_cause (plus_rows totals earlier) ≡ None
totals_before totals earlier rows e =
    let quantity = both _ _ e in
    let price = both _ _ quantity.1 in
    let revenue = both _ _ price.1 in
    let cost = both _ _ revenue.1 in
    let discounted = both _ _ cost.1 in
    below-clean (plus_rows totals earlier) (record {
      quantity = total_before totals.quantity Quantity earlier rows quantity.0;
      extendedprice = total_before totals.extendedprice ExtendedPrice earlier rows price.0;
      revenue = total_before totals.revenue Revenue earlier rows revenue.0;
      supplycost = total_before totals.supplycost SupplyCost earlier rows cost.0;
      discounted = total_before totals.discounted Discounted earlier rows discounted.0;
      profit = total_before totals.profit Profit earlier rows (only _ discounted.1);
    })

pub found-earlier : (dimensions : DimRows) (totals : Totals) (earlier rows : List LineOrder)
    → cause_of (found_in dimensions totals (earlier ++ rows)) ≡ None
    → cause_of (found_in dimensions totals earlier) ≡ None
found-earlier dimensions totals earlier rows e =
    let long = both (long_text 1 (earlier ++ rows))
    (unknown_key dimensions 1 (earlier ++ rows) ∷ totals_cause (plus_rows totals (earlier ++ rows)) ∷ []) e in
    let unknown =
    both (unknown_key dimensions 1 (earlier ++ rows)) (totals_cause (plus_rows totals (earlier ++ rows)) ∷ [])
    long.1 in
    none_of_three (long_text 1 earlier) (unknown_key dimensions 1 earlier) (totals_cause (plus_rows totals earlier))
    (long_before 1 earlier rows long.0) (unknown_before dimensions 1 earlier rows unknown.0)
    (totals_before totals earlier rows (only _ unknown.1))

-- where there is no cause, no text is too long
pub clean-texts : (found : Found) → cause_of found ≡ None → found.long_text ≡ None
clean-texts found e = (both found.long_text (found.unknown_key ∷ totals_cause found.totals ∷ []) e).0
