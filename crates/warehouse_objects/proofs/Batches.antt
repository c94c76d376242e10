-- What batches in order are like.
use Rattle.std.proofs.Common.{◌≡◌, ◌*◌, get_or, ◌<◌, ◌≤◌, ◌+◌, ◌==◌, ◌∙◌, zero, suc, sym, ap, refl, subst, arith}
use Rattle.std.proofs.Common.{nat_le, nat_lt, if◌then◌else◌, ℕ, Bool, true, false, List, [], ◌∷◌, ◌++◌, map, length}
use Rattle.std.proofs.Common.{take, slice_get, All, Option, Some, None, length-append}
use Rattle.std.proofs.lemmas.Bool.Decides.{nat_tests}
use Rattle.std.proofs.lemmas.List.{length-map, length-take-le, take-append-le, take_all}
use Rattle.std.proofs.lemmas.List.Elements.{All-cons, All-map, All-nil}
use Rattle.std.proofs.lemmas.Option.{slice_get-get_or, slice_get_within}
use Rattle.cube_model.specs.Admission.{AreInRange, HaveKnownKeys, IsAdmissible, all_rows, is_long, long_field}
use Rattle.cube_model.specs.Admission.{early_refusal, long_text}
use Rattle.cube_model.specs.Causes.{cause_if, first_cause}
use Rattle.cube_model.specs.Limits.{longest_text, most_batch_rows, most_batches}
use Rattle.cube_model.specs.declared.fault.Fault.{Fault}
use Rattle.cube_model.specs.declared.fault.Fault.TheVariants.{FieldTooLong, Gap, Repeated}
use Rattle.cube_model.specs.declared.fault.Place.TheVariants.{Row}
use Rattle.cube_model.specs.declared.rows.DimRows.{DimRows}
use Rattle.cube_model.specs.declared.rows.LineOrder.{LineOrder}
use Rattle.column_segment.specs.Columns.{text_of}
use Rattle.column_segment.specs.Segment.{HaveShort, IsBatch, IsSegment, segment_of}
use Rattle.column_segment.specs.declared.columns.TextColumn.{TextColumn}
use Rattle.column_segment.specs.declared.columns.TextColumn.TheVariants.{CommitDate, OrderPriority, ShipMode}
use Rattle.column_segment.specs.declared.columns.TextColumn.TheVariants.{ShipPriority}
use Rattle.batch_admission.proofs.CallerLemmas.{all_rows-last, in_range, known_both, passes}
use Rattle.group_tallies.specs.Limits.{AreFoldable}
use Rattle.batch_admission.specs.Totals.{totals_of}
use Rattle.cube_model.specs.declared.measure.Measure.TheVariants.{Discounted, ExtendedPrice, Profit, Quantity, Revenue}
use Rattle.cube_model.specs.declared.measure.Measure.TheVariants.{SupplyCost}
use Rattle.warehouse_root.specs.Limits.{most_additions, most_cuboids}
use Rattle.warehouse_root.specs.Root.{ViewsAscend, AreProperTotals, IsProperRoot, IsProperCuboid}
use Rattle.warehouse_objects.specs.Represents.{root_of, said_of}
use Rattle.warehouse_objects.specs.Warehouse.{AreInOrder, IsNext, Warehouse}

-- ---- an admissible batch

pub both : (cause : Option Fault) (causes : List (Option Fault)) → first_cause (cause ∷ causes) ≡ None
    → (cause ≡ None) × (first_cause causes ≡ None)
both None causes e = (refl, e)
both (Some fault) causes e = absurd cc

pub only : (cause : Option Fault) → first_cause (cause ∷ []) ≡ None → cause ≡ None
only None e = refl
only (Some fault) e = e

not_so : (test : Bool) (fault : Fault) → cause_if test fault ≡ None → test ≡ false
not_so true fault e = absurd cc
not_so false fault e = refl

is_short : (text : List ℕ) (fault : Fault) → cause_if (is_long text) fault ≡ None → length text ≤ longest_text
is_short text fault e = let test : nat_lt longest_text (length text) ≡ false = not_so (is_long text) fault e in
    grind (arith, nat_tests, test)

-- no text of a row is long
short_row : (number : ℕ) (row : LineOrder) → long_field number row ≡ None → (column : TextColumn)
    → length (text_of column row) ≤ longest_text
short_row number row e column =
    let first = both (cause_if (is_long row.orderpriority) (FieldTooLong (Row number) 7)) _ e in
    let second = both (cause_if (is_long row.shippriority) (FieldTooLong (Row number) 8)) _ first.1 in
    let third = both (cause_if (is_long row.commitdate) (FieldTooLong (Row number) 16)) _ second.1 in
    let fourth = only (cause_if (is_long row.shipmode) (FieldTooLong (Row number) 17)) third.1 in
    elim column as (λ c. length (text_of c row) ≤ longest_text) [
      | OrderPriority ↦ is_short row.orderpriority _ first.0
      | ShipPriority ↦ is_short row.shippriority _ second.0
      | CommitDate ↦ is_short row.commitdate _ third.0
      | ShipMode ↦ is_short row.shipmode _ fourth
    ]

short_rows : (number : ℕ) (rows : List LineOrder) → long_text number rows ≡ None → (column : TextColumn)
    → HaveShort rows column
short_rows number [] e column = All-nil (λ row. length (text_of column row) ≤ longest_text)
short_rows number (row ∷ rows) e column =
    let parts = both (long_field number row) (long_text (number + 1) rows ∷ []) e in
    All-cons (λ r. length (text_of column r) ≤ longest_text) row rows (short_row number row parts.0 column)
    (short_rows (number + 1) rows (only _ parts.1) column)

-- rows that are not too many, with no text that is too long
pub batch_of : (batch : List LineOrder) → length batch ≤ most_batch_rows → long_text 1 batch ≡ None → IsBatch batch
batch_of batch few texts = record { few = few; short = short_rows 1 batch texts }

module _ (rows : DimRows) (batches : List (List LineOrder)) (number : ℕ) (batch : List LineOrder)
    (admissible : IsAdmissible rows batches number batch) where
  pub is_batch : IsBatch batch
  is_batch = batch_of batch (passes rows batches number batch admissible).few
      (passes rows batches number batch admissible).texts

  pub next_number : number ≡ length batches + 1
  next_number =
      let early = both (early_refusal rows batches number batch) _ admissible in
      let first = both (cause_if (nat_le number (length batches)) Repeated) _ early.0 in
      let second = both (cause_if (nat_lt (length batches + 1) number) Gap) _ first.1 in
      let above : nat_le number (length batches) ≡ false = not_so _ Repeated first.0 in
      let within : nat_lt (length batches + 1) number ≡ false = not_so _ Gap second.0 in
      grind (arith, nat_tests, above, within)

-- ---- one batch more

pub slice_get_snoc : {A : Type 0} (xs : List A) (b : A) (i : ℕ)
    → slice_get (xs ++ b ∷ []) i ≡ (if length xs == i then Some b else slice_get xs i)
slice_get_snoc [] b zero = refl
slice_get_snoc [] b (suc i) = grind (arith, nat_tests)
slice_get_snoc (x ∷ xs) b zero = grind (arith, nat_tests)
slice_get_snoc (x ∷ xs) b (suc i) = grind (arith, nat_tests, slice_get_snoc xs b i)

pub some_one : {A : Type 0} (a b : A) → Some a ≡ Some b → a ≡ b
some_one a b same = cc

pub in_order_more : (rows : DimRows) (batches : List (List LineOrder)) (batch : List LineOrder)
    → AreInOrder rows batches → IsNext rows batches batch → AreInOrder rows (batches ++ batch ∷ [])
in_order_more rows batches batch order next before other is =
    (elim (length batches == before) as (λ t. (length batches == before) ≡ t
    → (if t then Some batch else slice_get batches before) ≡ Some other
    → IsNext rows (take before (batches ++ batch ∷ [])) other) [
      | true ↦ λ e here.
          let last : length batches ≡ before = grind (arith, nat_tests, e) in
          let front : take before (batches ++ batch ∷ []) ≡ batches =
          take-append-le before batches (batch ∷ []) (omega (arith, last))
          ∙ take_all before batches (omega (arith, last)) in
          subst (λ (b : List LineOrder). IsNext rows (take before (batches ++ batch ∷ [])) b)
          (some_one batch other here)
          (subst (λ (bs : List (List LineOrder)). IsNext rows bs batch) (sym front) next)
      | false ↦ λ e there.
          let within : before < length batches = slice_get_within batches before other there in
          let front : take before (batches ++ batch ∷ []) ≡ take before batches =
          take-append-le before batches (batch ∷ []) (omega (arith, within)) in
          subst (λ (bs : List (List LineOrder)). IsNext rows bs other) (sym front) (order before other there)
    ]) refl (sym (slice_get_snoc batches batch before) ∙ is)

pub in_order_none : (rows : DimRows) → AreInOrder rows []
in_order_none rows before batch is = absurd cc

-- ---- rows of the first batches

pub take_next : {A : Type 0} (xs : List A) (n : ℕ) (b : A) → slice_get xs n ≡ Some b
    → take (suc n) xs ≡ take n xs ++ b ∷ []
take_next [] n b is = absurd cc
take_next {A = A} (x ∷ xs) zero b is = let same : x ≡ b = cc in ap (λ (y : A). y ∷ []) same
take_next {A = A} (x ∷ xs) (suc n) b is = ap (λ (l : List A). x ∷ l) (take_next xs n b is)

pub rows_next : (batches : List (List LineOrder)) (n : ℕ) (batch : List LineOrder) → slice_get batches n ≡ Some batch
    → all_rows (take (suc n) batches) ≡ all_rows (take n batches) ++ batch
rows_next batches n batch is = ap all_rows (take_next batches n batch is) ∙ all_rows-last (take n batches) batch

pub get_within : {A : Type 0} (xs : List A) (n : ℕ) → n < length xs → (x : A) × (slice_get xs n ≡ Some x)
get_within [] n lt = absurd (omega (arith, lt))
get_within (x ∷ xs) zero lt = (x, refl)
get_within (x ∷ xs) (suc n) lt = get_within xs n (omega (arith, lt))

module _ (rows : DimRows) (batches : List (List LineOrder)) (order : AreInOrder rows batches) where
  -- the first batches are few, their keys are known, and no sum passes its limit
  first_batches : (n : ℕ) → n ≤ length batches → (length (all_rows (take n batches)) ≤ most_batch_rows * n)
      × (HaveKnownKeys rows (all_rows (take n batches)) × AreInRange (all_rows (take n batches)))
  first_batches zero le = (omega arith, (refl, λ measure. omega arith))
  first_batches (suc n) le =
      let got = get_within batches n (omega (arith, le)) in
      let pass = passes rows (take n batches) (length (take n batches) + 1) got.0 (order n got.0 got.1).admissible in
      let before = first_batches n (omega (arith, le)) in
      let more : all_rows (take (suc n) batches) ≡ all_rows (take n batches) ++ got.0 =
      rows_next batches n got.0 got.1 in (
        omega (arith, ap length more, length-append (all_rows (take n batches)) got.0, before.0, pass.few),
        (
          subst (λ (l : List LineOrder). HaveKnownKeys rows l) (sym more)
              (known_both rows 1 1 1 (all_rows (take n batches)) got.0 before.1.0 pass.known),
          subst (λ (l : List LineOrder). AreInRange l) (sym more)
              (in_range (all_rows (take n batches) ++ got.0) pass.sums),
        ),
      )

  few_first : (n : ℕ) → n ≤ length batches → n ≤ most_batches
  few_first zero le = omega arith
  few_first (suc n) le =
      let got = get_within batches n (omega (arith, le)) in
      let left = (passes rows (take n batches) (length (take n batches) + 1) got.0
      (order n got.0 got.1).admissible).batches_left in
      omega (arith, left, length-take-le n batches (omega (arith, le)))

  pub few_batches : length batches ≤ most_batches
  few_batches = few_first (length batches) (omega arith)

  -- the first batches may be folded
  pub foldable : (n : ℕ) → n ≤ length batches → AreFoldable rows (all_rows (take n batches))
  foldable n le =
      let all = first_batches n le in record {
        few = omega (arith, all.0, few_first n le);
        known = all.1.0;
        in_range = all.1.1;
      }

  -- each batch can be spelled
  pub batch_at : (before : ℕ) (batch : List LineOrder) → slice_get batches before ≡ Some batch → IsBatch batch
  batch_at before batch is =
      is_batch rows (take before batches) (length (take before batches) + 1) batch (order before batch is).admissible

  pub segment_at : (before : ℕ) (batch : List LineOrder) → slice_get batches before ≡ Some batch
      → IsSegment (segment_of (before + 1) batch) (before + 1) batch
  segment_at before batch is = record {
    spelled = refl;
    number_fits = omega (arith, slice_get_within batches before batch is, few_batches);
    batch = batch_at before batch is;
    fits = (order before batch is).fits;
  }

totals_proper : (rows : List LineOrder) → AreInRange rows → AreProperTotals (totals_of rows)
totals_proper rows in_range = record {
  quantity = omega (arith, in_range Quantity);
  extendedprice = omega (arith, in_range ExtendedPrice);
  revenue = omega (arith, in_range Revenue);
  supplycost = omega (arith, in_range SupplyCost);
  discounted = omega (arith, in_range Discounted);
  profit = omega (arith, in_range Profit);
}

-- the root of batches in order keeps the rules
pub record AreProperCuboids (w : Warehouse) : Type 0 where
  pub most : length (map said_of w.cuboids) ≤ most_cuboids
  pub each : All (IsProperCuboid w.layout (length (map length w.batches))) (map said_of w.cuboids)
  pub ascending : ViewsAscend (map said_of w.cuboids)

pub root_proper : (w : Warehouse) → AreInOrder w.rows w.batches → w.target ≤ length w.batches
    → w.additions ≤ most_additions → AreProperCuboids w → IsProperRoot (root_of w)
root_proper w order target additions cuboids =
    let all : take (length w.batches) w.batches ≡ w.batches = take_all (length w.batches) w.batches (omega arith) in
    let many : length (map length w.batches) ≡ length w.batches = length-map w.batches length in record {
      most_batches = omega (arith, many, few_batches w.rows w.batches order);
      rows = All-map (λ rows. rows ≤ most_batch_rows) length w.batches
          (λ k d lt. (batch_at w.rows w.batches order k (get_or w.batches k d)
          (slice_get-get_or w.batches k d lt)).few);
      target = omega (arith, many, target);
      additions = additions;
      totals = totals_proper (all_rows w.batches)
          (subst (λ (bs : List (List LineOrder)). AreInRange (all_rows bs)) all
          (foldable w.rows w.batches order (length w.batches) (omega arith)).in_range);
      most_cuboids = cuboids.most;
      each = cuboids.each;
      ascending = cuboids.ascending;
    }
