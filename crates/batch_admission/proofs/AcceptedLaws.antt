-- The causes to refuse a batch, from what is kept of the batches before it.
use Rattle.std.proofs.Common.{◌≡◌, ℕ, ◌+◌, ◌≤◌, arith, true, false, nat_lt, nat_le, List, [], ◌∷◌, ◌++◌, length, Option}
use Rattle.std.proofs.Common.{Some, None, Result, Ok, Err, OnOk, OnErr, refl, sym, ap, ◌∙◌, append-nil}
use Rattle.std.specs.Result.{result_err}
use Rattle.std.proofs.lemmas.List.{length_push}
use Rattle.std.proofs.lemmas.Grind.{flat_map-append}
use Rattle.std.proofs.lemmas.Bool.Decides.{nat_tests}
use Rattle.std.proofs.lemmas.List.Sums.{sum_by-append}
use Rattle.cube_model.specs.declared.fault.Fault.{Fault}
use Rattle.cube_model.specs.declared.fault.Fault.TheVariants.{Repeated, Gap, TooManyBatches, TooManyRows}
use Rattle.cube_model.specs.declared.measure.Measure.TheVariants.{Quantity, ExtendedPrice, Revenue, SupplyCost}
use Rattle.cube_model.specs.declared.measure.Measure.TheVariants.{Discounted, Profit}
use Rattle.cube_model.specs.declared.rows.DimRows.{DimRows}
use Rattle.cube_model.specs.declared.rows.LineOrder.{LineOrder}
use Rattle.cube_model.specs.Admission.{all_rows, long_text, refusal, unknown_key}
use Rattle.cube_model.specs.Causes.{first_cause, cause_if}
use Rattle.cube_model.specs.Limits.{most_batch_rows, most_batches}
use Rattle.batch_admission.specs.Accepted.{Accepted, Admits, CanFollow, HasAccepted, number_cause}
use Rattle.batch_admission.specs.Found.{Found, cause_of, found_in}
use Rattle.batch_admission.specs.Totals.{plus_rows, totals_of, totals_cause, measure_size}

pub totals_of-append : (earlier rows : List LineOrder)
    → plus_rows (totals_of earlier) rows ≡ totals_of (earlier ++ rows)
totals_of-append earlier rows =
    let quantity = sum_by-append (measure_size Quantity) earlier rows in
    let extendedprice = sum_by-append (measure_size ExtendedPrice) earlier rows in
    let revenue = sum_by-append (measure_size Revenue) earlier rows in
    let supplycost = sum_by-append (measure_size SupplyCost) earlier rows in
    let discounted = sum_by-append (measure_size Discounted) earlier rows in
    let profit = sum_by-append (measure_size Profit) earlier rows in
    cc

-- the rows of batches and of one more
pub all_rows-last : (batches : List (List LineOrder)) (rows : List LineOrder)
    → all_rows (batches ++ rows ∷ []) ≡ all_rows batches ++ rows
all_rows-last batches rows = flat_map-append (λ batch. batch) batches (rows ∷ [])
    ∙ ap (λ more. all_rows batches ++ more) (append-nil rows)

-- the totals with those of further rows
pub plus_rows-all : (accepted : Accepted) (batches : List (List LineOrder)) (rows : List LineOrder)
    → HasAccepted accepted batches → plus_rows accepted.totals rows ≡ totals_of (all_rows batches ++ rows)
plus_rows-all accepted batches rows represents = ap (λ totals. plus_rows totals rows) represents.totals
    ∙ totals_of-append (all_rows batches) rows

-- the first of seven causes, in three groups
in_groups : (a b c d e f g : Option Fault)
    → first_cause (first_cause (a ∷ b ∷ c ∷ d ∷ e ∷ f ∷ []) ∷ g ∷ [])
    ≡ first_cause (first_cause (a ∷ b ∷ c ∷ []) ∷ d ∷ first_cause (e ∷ f ∷ g ∷ []) ∷ [])
in_groups (Some a) b c d e f g = refl
in_groups None (Some b) c d e f g = refl
in_groups None None (Some c) d e f g = refl
in_groups None None None (Some d) e f g = refl
in_groups None None None None (Some e) f g = refl
in_groups None None None None None (Some f) g = refl
in_groups None None None None None None (Some g) = refl
in_groups None None None None None None None = refl

-- the cause to refuse a batch: of its number, of the number of its rows, and of what is found in them
abbrev in_parts : DimRows → Accepted → ℕ → List LineOrder → Option Fault
in_parts dimensions accepted number rows = first_cause (
    number_cause accepted.count number
    ∷ cause_if (nat_lt most_batch_rows (length rows)) TooManyRows
    ∷ cause_of (found_in dimensions accepted.totals rows) ∷ [])

refusal-in_parts : (dimensions : DimRows) (accepted : Accepted) (batches : List (List LineOrder)) (number : ℕ)
    (rows : List LineOrder) → HasAccepted accepted batches
    → in_parts dimensions accepted number rows ≡ refusal dimensions batches number rows
refusal-in_parts dimensions accepted batches number rows represents =
    let sums = plus_rows-all accepted batches rows represents in
    sym (in_groups (cause_if (nat_le number accepted.count) Repeated)
    (cause_if (nat_lt (accepted.count + 1) number) Gap)
    (cause_if (nat_le most_batches accepted.count) TooManyBatches)
    (cause_if (nat_lt most_batch_rows (length rows)) TooManyRows) (long_text 1 rows) (unknown_key dimensions 1 rows)
    (totals_cause (plus_rows accepted.totals rows)))
    ∙ ap (λ totals. first_cause
    (first_cause (cause_if (nat_le number accepted.count) Repeated ∷ cause_if (nat_lt (accepted.count + 1) number) Gap
    ∷ cause_if (nat_le most_batches accepted.count) TooManyBatches
    ∷ cause_if (nat_lt most_batch_rows (length rows)) TooManyRows ∷ long_text 1 rows ∷ unknown_key dimensions 1 rows
    ∷ []) ∷ totals_cause totals ∷ [])) sums
    ∙ ap (λ count. first_cause
    (first_cause (cause_if (nat_le number count) Repeated ∷ cause_if (nat_lt (count + 1) number) Gap
    ∷ cause_if (nat_le most_batches count) TooManyBatches
    ∷ cause_if (nat_lt most_batch_rows (length rows)) TooManyRows ∷ long_text 1 rows ∷ unknown_key dimensions 1 rows
    ∷ []) ∷ totals_cause (totals_of (all_rows batches ++ rows)) ∷ [])) represents.count

module _ (dimensions : DimRows) (old : Accepted) (number : ℕ) (rows : List LineOrder) (batches : List (List LineOrder))
    (represents : HasAccepted old batches) where
  -- a batch whose number is refused
  pub Admits-numbered : (fault : Fault) → Some fault ≡ number_cause old.count number
      → Admits dimensions old old number rows (Some fault) batches
  Admits-numbered fault refused = record {
    cause = ap (λ first. first_cause
        (first ∷ cause_if (nat_lt most_batch_rows (length rows)) TooManyRows
        ∷ cause_of (found_in dimensions old.totals rows) ∷ [])) refused
        ∙ refusal-in_parts dimensions old batches number rows represents;
    taken = refl;
  }

  -- one with too many rows
  pub Admits-long : None ≡ number_cause old.count number → nat_lt most_batch_rows (length rows) ≡ true
      → Admits dimensions old old number rows (Some TooManyRows) batches
  Admits-long next long = record {
    cause = ap (λ first. first_cause (first ∷ cause_if true TooManyRows ∷ cause_of (found_in dimensions old.totals rows)
        ∷ [])) next
        ∙ ap (λ test. first_cause
        (number_cause old.count number ∷ cause_if test TooManyRows ∷ cause_of (found_in dimensions old.totals rows)
        ∷ [])) (sym long)
        ∙ refusal-in_parts dimensions old batches number rows represents;
    taken = refl;
  }

  -- what was found decides the rest
  found_decides : None ≡ number_cause old.count number → nat_lt most_batch_rows (length rows) ≡ false
      → cause_of (found_in dimensions old.totals rows) ≡ refusal dimensions batches number rows
  found_decides next few =
      alone (cause_of (found_in dimensions old.totals rows))
      ∙ ap (λ first. first_cause (first ∷ None ∷ cause_of (found_in dimensions old.totals rows) ∷ [])) next
      ∙ ap (λ test. first_cause
      (number_cause old.count number ∷ cause_if test TooManyRows ∷ cause_of (found_in dimensions old.totals rows)
      ∷ [])) (sym few)
      ∙ refusal-in_parts dimensions old batches number rows represents where
        alone : (cause : Option Fault) → cause ≡ first_cause (None ∷ None ∷ cause ∷ [])
        alone None = refl
        alone (Some cause) = refl

  pub Admits-found : (new : Accepted) (found : Found) (result : Result Unit Fault)
      → None ≡ number_cause old.count number → number ≡ old.count + 1 → nat_lt most_batch_rows (length rows) ≡ false
      → found ≡ found_in dimensions old.totals rows → result_err result ≡ cause_of found
      → OnOk result (new ≡ record { count = number; totals = found.totals }) → OnErr result (new ≡ old)
      → Admits dimensions old new number rows (result_err result) batches
  Admits-found new found (Err fault) next is few was cause ok err =
      record { cause = cause ∙ ap cause_of was ∙ found_decides next few; taken = err }
  Admits-found new found (Ok done) next is few was cause ok err = record {
    cause = cause ∙ ap cause_of was ∙ found_decides next few;
    taken = record {
      count = ap (λ accepted. accepted.count) ok ∙ is ∙ ap (λ n. n + 1) represents.count
          ∙ sym (length_push batches rows);
      totals = ap (λ accepted. accepted.totals) ok ∙ ap (λ some. some.totals) was
          ∙ ap (λ earlier. plus_rows earlier rows) represents.totals
          ∙ totals_of-append (all_rows batches) rows ∙ ap totals_of (sym (all_rows-last batches rows));
    };
  }

-- an accepted batch can follow those before it
pub CanFollow-found : (dimensions : DimRows) (old : Accepted) (number : ℕ) (rows : List LineOrder) (found : Found)
    (result : Result Unit Fault)
    → number ≡ old.count + 1 → number ≤ most_batches → length rows ≤ most_batch_rows
    → found ≡ found_in dimensions old.totals rows → result_err result ≡ cause_of found
    → OnOk result (CanFollow old.count number rows)
CanFollow-found dimensions old number rows found (Err fault) is last few was cause = tt
CanFollow-found dimensions old number rows found (Ok done) is last few was cause =
    record { next = is; last = last; few = few; texts = first (long_text 1 rows) _ (sym (cause ∙ ap cause_of was)) }
  where
    first : (cause : Option Fault) (causes : List (Option Fault)) → first_cause (cause ∷ causes) ≡ None → cause ≡ None
    first None causes e = refl
    first (Some fault) causes e = absurd cc

-- rows that are not too many
pub not_long : (rows : List LineOrder) → length rows ≤ most_batch_rows → nat_lt most_batch_rows (length rows) ≡ false
not_long rows few = grind (arith, nat_tests)
