-- Lemmas of `merge_laws`, by subject.
use Rattle.std.proofs.Common.{◌≡◌, ◌∙◌, sym, ap, refl, List, [], ◌∷◌, map, ℕ, ◌+◌, ◌<◌, ◌≤◌, ◌^◌, ℤ, pos, negsuc, ◌+ℤ◌}
use Rattle.std.proofs.Common.{Bool, true, false, cond, length, arith, ◌≢◌, subst, suc, Option, Some, ◌++◌, inl, inr}
use Rattle.std.proofs.Common.{◌≤ℤ◌, length-append, append-nil, append_assoc}
use Rattle.std.specs.List.{AllByRecursion, filter, fold, sum_by, flat_map, list_any}
use Rattle.cube_model.specs.declared.answer.Answer.{Answer}
use Rattle.cube_model.specs.declared.query.Query.{Query}
use Rattle.cube_model.specs.declared.rows.DimRows.{DimRows}
use Rattle.cube_model.specs.declared.rows.LineOrder.{LineOrder}
use Rattle.cube_model.specs.Answers.{answer, keys_among, line_of, rows_of_key}
use Rattle.ssb_reports.specs.Report.{report_of}
use Rattle.partial_reports.proofs.AnswerMerges.{parts_make_the_answer, has_rows, has_some, or_true, same_key}
use Rattle.partial_reports.proofs.AnswerMerges.{same_key-refl, greatest-append, least-append, total-append}
use Rattle.partial_reports.proofs.AnswerMerges.{merged-parts}
use Rattle.partial_reports.proofs.ReadBack.{reports_read_back, decimal_none}
use Rattle.partial_reports.specs.MergeLawful.{AreReadFrom, MergedReportsAreTheReport, PartialAnswersAreReadable}
use Rattle.partial_reports.specs.MergeLawful.{PartialAnswersCanBeFinished, NeighboursMayChangePlaces, MergedNumbersFit}
use Rattle.partial_reports.specs.Merges.{merged_all}
use Rattle.partial_reports.specs.Parts.{finished, partial_query, partial_agg}
use Rattle.partial_reports.specs.Readable.{IsReadableAnswer, IsWholeNumber, HasNoByte, IsPlainMember, IsPlainText}
use Rattle.partial_reports.specs.Readable.{IsReadableLine}
use Rattle.std.specs.Prelude.{nat_abs, codes, find, unwrap_or, ◌||◌}
use Rattle.std.specs.Int.{int_max, int_min}
use Rattle.std.specs.Int.Signed.{mag}
use Rattle.std.proofs.lemmas.List.Sums.{sum_by-cons}
use Rattle.cube_model.specs.declared.measure.Agg.{Agg}
use Rattle.cube_model.specs.declared.measure.Agg.TheVariants.{Count, Sum, Min, Max, Avg}
use Rattle.cube_model.specs.Admission.{AreInRange, all_rows}
use Rattle.cube_model.specs.Aggregates.{aggregate, greatest, least, total}
use Rattle.cube_model.specs.Measures.{measure_of}
use Rattle.partial_reports.proofs.CallerLemmas.{abs_sum, max_closed, min_closed}
use Rattle.std.proofs.lemmas.List.{length-map, map-append}
use Rattle.std.specs.Fmt.{decimal}
use Rattle.std.specs.Option.{option_and_then}
use Rattle.std.specs.declared.cmp.Ordering.{Ordering}
use Rattle.std.specs.declared.cmp.Ordering.TheVariants.{Less, Equal, Greater}
use Rattle.cube_model.specs.declared.answer.Member.{Member}
use Rattle.cube_model.specs.declared.attr.Attr.{Attr}
use Rattle.cube_model.specs.declared.attr.Attr.TheVariants.{CustomerCity, CustomerNation, CustomerRegion, SupplierCity}
use Rattle.cube_model.specs.declared.attr.Attr.TheVariants.{SupplierNation, SupplierRegion, PartBrand1, PartCategory}
use Rattle.cube_model.specs.declared.attr.Attr.TheVariants.{PartMfgr, DateKey, DateYearmonthnum, DateYear}
use Rattle.cube_model.specs.declared.attr.Attr.TheVariants.{DateYearmonth, DateWeeknuminyear}
use Rattle.cube_model.specs.declared.query.Kind.{Kind}
use Rattle.cube_model.specs.declared.query.Kind.TheVariants.{Plain, Rollup, Cube}
use Rattle.cube_model.specs.Ascending.{ascending, by_order, insert_once}
use Rattle.cube_model.specs.Attributes.{attribute_of, of_customer, of_supplier, of_part, of_date}
use Rattle.cube_model.specs.Keys.{GroupingSet, beginnings, grouping_sets, key_cmp, key_under, keys_of, subsets}
use Rattle.cube_model.specs.Lawful.{KeepAllRules, KeepsRules}
use Rattle.cube_model.specs.Selection.{is_selected, selected}
use Rattle.cube_model.specs.Validity.{Rules}
use Rattle.partial_reports.specs.Plain.{AreUnbroken, HaveUnbrokenTexts, IsUnbroken}
use Rattle.std.proofs.lemmas.Int.{ints}
use Rattle.partial_reports.specs.Finishing.{CountsRows}
use Rattle.std.specs.Ordering.{eq_by_cmp}
use Rattle.std.proofs.lemmas.Grind.{flat_map-append}
use Rattle.std.proofs.lemmas.List.Elements.{filter-append}
use Rattle.std.proofs.lemmas.List.Folds.{list_any-append}
use Rattle.cube_model.specs.declared.answer.Line.{Line}
use Rattle.cube_model.specs.declared.answer.Value.TheVariants.{Whole, Ratio}
use Rattle.cube_model.proofs.Ascending.{IsAscending-ascending, list_any-ascending}
use Rattle.cube_model.specs.Fractions.{fraction_of}
use Rattle.cube_model.proofs.KeyOrder.{key_cmp_total, key_cmp-IsAntisymmetric}
use Rattle.cube_model.specs.Orders.{in_order}
use Rattle.cube_model.proofs.Entries.{IsAscending-unique}

-- ==== From the bytes of partial reports to those of the report of the whole.

-- what was read are the partial answers
read_are : (query : Query) (dimensions : DimRows) (parts : List (List LineOrder)) (reads : List Answer)
    → AllByRecursion (λ part. IsReadableAnswer (partial_query query) (answer (partial_query query) dimensions part))
    parts
    → AreReadFrom query dimensions parts reads → reads ≡ map (answer (partial_query query) dimensions) parts
read_are query dimensions [] [] all is = refl
read_are query dimensions [] (read ∷ reads) all is = absurd is
read_are query dimensions (part ∷ parts) [] all is = absurd is
read_are query dimensions (part ∷ parts) (read ∷ reads) all is =
    let here = reports_read_back (partial_query query) read (answer (partial_query query) dimensions part) is.0.0 all.0
    is.0.1 in
    let there = read_are query dimensions parts reads all.1 is.1 in
    λ i. here i ∷ there i

pub merged_reports_are_the_report : MergedReportsAreTheReport
merged_reports_are_the_report query dimensions parts reads all is =
    ap (λ answers. report_of query (finished query (merged_all (partial_query query) answers)))
    (read_are query dimensions parts reads all is)
    ∙ ap (report_of query) (sym (parts_make_the_answer query dimensions parts))

-- ==== Aggregates over rows whose sums are in range fit 64 bits.

mag_small : (z : ℤ) → nat_abs z < 2 ^ 63 → mag z < 2 ^ 63
mag_small (pos n) h = h
mag_small (negsuc n) h = omega (arith, h)

module _ (number : LineOrder → ℤ) where
  abbrev size : List LineOrder → ℕ
  size rows = sum_by (λ row. nat_abs (number row)) rows

  size_cons : (row : LineOrder) (rows : List LineOrder) → size (row ∷ rows) ≡ nat_abs (number row) + size rows
  size_cons row rows = sum_by-cons (λ r. nat_abs (number r)) row rows

  total_from : (a : ℤ) (rows : List LineOrder)
      → nat_abs (fold (λ so_far z. so_far +ℤ z) a (map number rows)) ≤ nat_abs a + size rows
  total_from a [] = omega arith
  total_from a (row ∷ rows) =
      omega (arith, total_from (a +ℤ number row) rows, abs_sum a (number row), size_cons row rows)

  total_small : (rows : List LineOrder) → nat_abs (total (map number rows)) ≤ size rows
  total_small rows = omega (arith, total_from (pos 0) rows)

  picked_small : (pick : ℤ → ℤ → ℤ)
      → ((a b : ℤ) (most : ℕ) → nat_abs a ≤ most → nat_abs b ≤ most → nat_abs (pick a b) ≤ most)
      → (most : ℕ) (a : ℤ) (rows : List LineOrder) → nat_abs a ≤ most → size rows ≤ most
      → nat_abs (fold pick a (map number rows)) ≤ most
  picked_small pick closed most a [] first rest = first
  picked_small pick closed most a (row ∷ rows) first rest =
      let whole = size_cons row rows in
      picked_small pick closed most (pick a (number row)) rows
      (closed a (number row) most first (omega (arith, whole, rest))) (omega (arith, whole, rest))

  part_small : (p : LineOrder → Bool) (rows : List LineOrder) → size (filter p rows) ≤ size rows
  part_small p [] = omega arith
  part_small p (row ∷ rows) =
      let rest = part_small p rows in
      let whole = size_cons row rows in
      elim (p row) as (λ b. size (cond b (row ∷ filter p rows) (filter p rows)) ≤ size (row ∷ rows)) [
        | true ↦ omega (arith, rest, whole, size_cons row (filter p rows))
        | false ↦ omega (arith, rest, whole)
      ]

fewer : (p : LineOrder → Bool) (rows : List LineOrder) → length (filter p rows) ≤ length rows
fewer p [] = omega arith
fewer p (row ∷ rows) =
    elim (p row) as (λ b. length (cond b (row ∷ filter p rows) (filter p rows)) ≤ length (row ∷ rows)) [
      | true ↦ omega (arith, fewer p rows)
      | false ↦ omega (arith, fewer p rows)
    ]

-- some of the rows are in range
pub AreInRange-filter : (p : LineOrder → Bool) (rows : List LineOrder) → AreInRange rows → AreInRange (filter p rows)
AreInRange-filter p rows range = λ measure. omega (arith, range measure, part_small (measure_of measure) p rows)

pub few-filter : (p : LineOrder → Bool) (rows : List LineOrder) → length rows < 2 ^ 63 → length (filter p rows) < 2 ^ 63
few-filter p rows few = omega (arith, few, fewer p rows)

pub aggregate_fits : (agg : Agg) (rows : List LineOrder) → AreInRange rows → length rows < 2 ^ 63
    → IsWholeNumber (aggregate (partial_agg agg) rows)
aggregate_fits Count rows range few = few
aggregate_fits (Sum measure) rows range few =
    mag_small (total (map (measure_of measure) rows))
    (omega (arith, range measure, total_small (measure_of measure) rows))
aggregate_fits (Min measure) [] range few = omega arith
aggregate_fits (Min measure) (row ∷ rows) range few =
    let m = measure_of measure in
    let whole = size_cons m row rows in
    mag_small (least (map m (row ∷ rows)))
    (omega (
      arith,
      range measure,
      picked_small m int_min min_closed (size m (row ∷ rows)) (m row) rows
          (omega (arith, whole)) (omega (arith, whole)),
    ))
aggregate_fits (Max measure) [] range few = omega arith
aggregate_fits (Max measure) (row ∷ rows) range few =
    let m = measure_of measure in
    let whole = size_cons m row rows in
    mag_small (greatest (map m (row ∷ rows)))
    (omega (
      arith,
      range measure,
      picked_small m int_max max_closed (size m (row ∷ rows)) (m row) rows
          (omega (arith, whole)) (omega (arith, whole)),
    ))
aggregate_fits (Avg measure) rows range few =
    mag_small (total (map (measure_of measure) rows))
    (omega (arith, range measure, total_small (measure_of measure) rows))

pub aggregates_fit : (aggs : List Agg) (rows : List LineOrder) → AreInRange rows → length rows < 2 ^ 63
    → AllByRecursion IsWholeNumber (map (λ agg. aggregate agg rows) (map partial_agg aggs))
aggregates_fit [] rows range few = tt
aggregates_fit (agg ∷ aggs) rows range few = (aggregate_fits agg rows range few, aggregates_fit aggs rows range few)

-- ==== Partial answers can be read back.

-- ---- texts of dimension rows
nothing_plain : IsPlainText []
nothing_plain = record { no_bar = tt; no_lf = tt; not_all = λ e. cc }

-- what holds of each row's text, and of no text, holds of that of the row that is found
found_plain : {Row : Type 0} (f : Row → Option (List ℕ)) (p : Row → Bool) (rows : List Row)
    → AllByRecursion (λ row. IsPlainText (unwrap_or (f row) [])) rows
    → IsPlainText (unwrap_or (option_and_then f (find p rows)) [])
found_plain f p [] all = nothing_plain
found_plain f p (row ∷ rows) all =
    elim (p row) as (λ b. IsPlainText (unwrap_or (option_and_then f (cond b (Some row) (find p rows))) [])) [
      | true ↦ all.0
      | false ↦ found_plain f p rows all.1
    ]

day_plain : (key : ℕ) → key < 2 ^ 32 → IsPlainText (decimal key)
day_plain key h = record {
  no_bar = decimal_none 124 (inr (omega arith)) key (omega (arith, h));
  no_lf = decimal_none 10 (inl (omega arith)) key (omega (arith, h));
  not_all = λ e.
      (let letter : HasNoByte 65 (codes "ALL") =
      subst (HasNoByte 65) e (decimal_none 65 (inr (omega arith)) key (omega (arith, h))) in let wrong : true ≡ false =
      letter.0 in cc);
}

both : {X : Type 0} (P Q R : X → Type 0) → ((x : X) → P x → Q x → R x) → (xs : List X) → AllByRecursion P xs
    → AllByRecursion Q xs → AllByRecursion R xs
both P Q R f [] p q = tt
both P Q R f (x ∷ xs) p q = (f x p.0 q.0, both P Q R f xs p.1 q.1)

pub each : {X : Type 0} (P Q : X → Type 0) → ((x : X) → P x → Q x) → (xs : List X) → AllByRecursion P xs
    → AllByRecursion Q xs
each P Q f [] p = tt
each P Q f (x ∷ xs) p = (f x p.0, each P Q f xs p.1)

plain_from : (text : List ℕ) → IsUnbroken text → text ≢ codes "ALL" → IsPlainText text
plain_from text unbroken differs = record { no_bar = unbroken.0; no_lf = unbroken.1; not_all = differs }

-- all texts of each row are plain
rows_plain : {Row : Type 0} (rules : Rules Row) (rows : List Row) → AreUnbroken rules rows → KeepsRules rules rows
    → AllByRecursion (λ row. AllByRecursion (λ text. IsPlainText (text row)) rules.texts) rows
rows_plain {Row} rules rows unbroken keeps =
    both (λ row. AllByRecursion (λ text. IsUnbroken (text row)) rules.texts)
    (λ row. AllByRecursion (λ text. text row ≢ codes "ALL") rules.texts)
    (λ row. AllByRecursion (λ text. IsPlainText (text row)) rules.texts)
    (λ row u n. both {X = Row → List ℕ} (λ text. IsUnbroken (text row)) (λ text. text row ≢ codes "ALL")
    (λ text. IsPlainText (text row)) (λ text. plain_from (text row)) rules.texts u n)
    rows unbroken keeps.none_reserved

module _ (dimensions : DimRows) (rules : KeepAllRules dimensions) (texts : HaveUnbrokenTexts dimensions) where
  attribute_plain : (attr : Attr) (row : LineOrder) → IsPlainText (attribute_of dimensions attr row)
  attribute_plain CustomerCity row =
      found_plain (of_customer CustomerCity) _ dimensions.customers
      (each _ _ (λ r all. all.0) dimensions.customers
      (rows_plain _ dimensions.customers texts.customers rules.customers))
  attribute_plain CustomerNation row =
      found_plain (of_customer CustomerNation) _ dimensions.customers
      (each _ _ (λ r all. all.1.0) dimensions.customers
      (rows_plain _ dimensions.customers texts.customers rules.customers))
  attribute_plain CustomerRegion row =
      found_plain (of_customer CustomerRegion) _ dimensions.customers
      (each _ _ (λ r all. all.1.1.0) dimensions.customers
      (rows_plain _ dimensions.customers texts.customers rules.customers))
  attribute_plain SupplierCity row =
      found_plain (of_supplier SupplierCity) _ dimensions.suppliers
      (each _ _ (λ r all. all.0) dimensions.suppliers
      (rows_plain _ dimensions.suppliers texts.suppliers rules.suppliers))
  attribute_plain SupplierNation row =
      found_plain (of_supplier SupplierNation) _ dimensions.suppliers
      (each _ _ (λ r all. all.1.0) dimensions.suppliers
      (rows_plain _ dimensions.suppliers texts.suppliers rules.suppliers))
  attribute_plain SupplierRegion row =
      found_plain (of_supplier SupplierRegion) _ dimensions.suppliers
      (each _ _ (λ r all. all.1.1.0) dimensions.suppliers
      (rows_plain _ dimensions.suppliers texts.suppliers rules.suppliers))
  attribute_plain PartBrand1 row =
      found_plain (of_part PartBrand1) _ dimensions.parts
      (each _ _ (λ r all. all.0) dimensions.parts (rows_plain _ dimensions.parts texts.parts rules.parts))
  attribute_plain PartCategory row =
      found_plain (of_part PartCategory) _ dimensions.parts
      (each _ _ (λ r all. all.1.0) dimensions.parts (rows_plain _ dimensions.parts texts.parts rules.parts))
  attribute_plain PartMfgr row =
      found_plain (of_part PartMfgr) _ dimensions.parts
      (each _ _ (λ r all. all.1.1.0) dimensions.parts (rows_plain _ dimensions.parts texts.parts rules.parts))
  attribute_plain DateKey row =
      found_plain (of_date DateKey) _ dimensions.dates (each _ _ (λ r h. day_plain r.key h) dimensions.dates texts.days)
  attribute_plain DateYearmonthnum row =
      found_plain (of_date DateYearmonthnum) _ dimensions.dates
      (each _ _ (λ r all. all.0) dimensions.dates (rows_plain _ dimensions.dates texts.dates rules.dates))
  attribute_plain DateYear row =
      found_plain (of_date DateYear) _ dimensions.dates
      (each _ _ (λ r all. all.1.0) dimensions.dates (rows_plain _ dimensions.dates texts.dates rules.dates))
  attribute_plain DateYearmonth row =
      found_plain (of_date DateYearmonth) _ dimensions.dates
      (each _ _ (λ r all. all.1.1.0) dimensions.dates (rows_plain _ dimensions.dates texts.dates rules.dates))
  attribute_plain DateWeeknuminyear row =
      found_plain (of_date DateWeeknuminyear) _ dimensions.dates
      (each _ _ (λ r all. all.1.1.1.0) dimensions.dates (rows_plain _ dimensions.dates texts.dates rules.dates))

  -- ---- keys
  key_plain : (row : LineOrder) (columns : List Attr) (grouping : GroupingSet)
      → AllByRecursion IsPlainMember (key_under dimensions row columns grouping)
  key_plain row [] grouping = tt
  key_plain row (column ∷ columns) [] = tt
  key_plain row (column ∷ columns) (true ∷ grouping) = (attribute_plain column row, key_plain row columns grouping)
  key_plain row (column ∷ columns) (false ∷ grouping) = (tt, key_plain row columns grouping)

-- a grouping set has a mark for each column
abbrev IsFor : List Attr → GroupingSet → Type 0
IsFor columns grouping = length grouping ≡ length columns

all-append : {X : Type 0} (P : X → Type 0) (xs ys : List X) → AllByRecursion P xs → AllByRecursion P ys
    → AllByRecursion P (xs ++ ys)
all-append P [] ys p q = q
all-append P (x ∷ xs) ys p q = (p.0, all-append P xs ys p.1 q)

pub all-map : {X Y : Type 0} (P : Y → Type 0) (f : X → Y) (xs : List X) → AllByRecursion (λ x. P (f x)) xs
    → AllByRecursion P (map f xs)
all-map P f [] all = tt
all-map P f (x ∷ xs) all = (all.0, all-map P f xs all.1)

all-flat_map : {X Y : Type 0} (P : Y → Type 0) (f : X → List Y) (xs : List X) → ((x : X) → AllByRecursion P (f x))
    → AllByRecursion P (flat_map f xs)
all-flat_map P f [] every = tt
all-flat_map P f (x ∷ xs) every = all-append P (f x) (flat_map f xs) (every x) (all-flat_map P f xs every)

longer : (mark : Bool) (column : Attr) (columns : List Attr) (gs : List GroupingSet) → AllByRecursion (IsFor columns) gs
    → AllByRecursion (IsFor (column ∷ columns)) (map (λ grouping. mark ∷ grouping) gs)
longer mark column columns gs all =
    all-map (IsFor (column ∷ columns)) (λ grouping. mark ∷ grouping) gs
    (each (IsFor columns) (λ grouping. IsFor (column ∷ columns) (mark ∷ grouping)) (λ g e. ap suc e) gs all)

subsets_for : (columns : List Attr) → AllByRecursion (IsFor columns) (subsets columns)
subsets_for [] = (refl, tt)
subsets_for (column ∷ columns) =
    all-append (IsFor (column ∷ columns)) _ _ (longer true column columns (subsets columns) (subsets_for columns))
    (longer false column columns (subsets columns) (subsets_for columns))

beginnings_for : (columns : List Attr) → AllByRecursion (IsFor columns) (beginnings columns)
beginnings_for [] = (refl, tt)
beginnings_for (column ∷ columns) = (
  length-map (column ∷ columns) (λ _. false),
  longer true column columns (beginnings columns)
      (beginnings_for columns),
)

sets_for : (kind : Kind) (columns : List Attr) → AllByRecursion (IsFor columns) (grouping_sets kind columns)
sets_for Plain columns = (length-map columns (λ _. true), tt)
sets_for Rollup columns = beginnings_for columns
sets_for Cube columns = subsets_for columns

key_length : (dimensions : DimRows) (row : LineOrder) (columns : List Attr) (grouping : GroupingSet)
    → IsFor columns grouping → length (key_under dimensions row columns grouping) ≡ length columns
key_length dimensions row [] grouping e = refl
key_length dimensions row (column ∷ columns) [] e = absurd (omega (arith, e))
key_length dimensions row (column ∷ columns) (true ∷ grouping) e =
    ap suc (key_length dimensions row columns grouping (omega (arith, e)))
key_length dimensions row (column ∷ columns) (false ∷ grouping) e =
    ap suc (key_length dimensions row columns grouping (omega (arith, e)))

module _ {K : Type 0} (R : K → K → Ordering) (P : K → Type 0) where
  all-insert_once : (key : K) (keys : List K) → P key → AllByRecursion P keys
      → AllByRecursion P (insert_once R key keys)
  all-insert_once key [] here all = (here, tt)
  all-insert_once key (first ∷ others) here all =
      elim (R key first) as
      (λ r. AllByRecursion P
      (by_order r (key ∷ first ∷ others) (first ∷ others) (first ∷ insert_once R key others))) [
        | Less ↦ (here, all)
        | Equal ↦ all
        | Greater ↦ (all.0, all-insert_once key others here all.1)
      ]

  all-ascending : (keys : List K) → AllByRecursion P keys → AllByRecursion P (ascending R keys)
  all-ascending [] all = tt
  all-ascending (key ∷ keys) all = all-insert_once key (ascending R keys) all.0 (all-ascending keys all.1)

-- a key of a query's columns whose members are plain
abbrev IsPlainKey : Query → List Member → Type 0
IsPlainKey query key = (length key ≡ length query.columns) × AllByRecursion IsPlainMember key

keys_plain : (query : Query) (dimensions : DimRows) → KeepAllRules dimensions → HaveUnbrokenTexts dimensions
    → (rows : List LineOrder)
    → AllByRecursion (IsPlainKey query) (keys_among dimensions query rows)
keys_plain query dimensions rules texts rows =
    all-ascending key_cmp (IsPlainKey query) (flat_map (keys_of dimensions query) rows)
    (all-flat_map (IsPlainKey query) (keys_of dimensions query) rows
    (λ row. all-map (IsPlainKey query) (key_under dimensions row query.columns) (grouping_sets query.kind query.columns)
    (each (IsFor query.columns) (λ grouping. IsPlainKey query (key_under dimensions row query.columns grouping))
    (λ grouping is. (
      key_length dimensions row query.columns grouping is,
      key_plain dimensions rules texts row query.columns
          grouping,
    ))
    (grouping_sets query.kind query.columns) (sets_for query.kind query.columns))))

pub partial_answers_are_readable : PartialAnswersAreReadable
partial_answers_are_readable query dimensions rows rules texts range few lines =
    let partial = partial_query query in
    let chosen = selected dimensions query.conditions rows in
    record {
      few = lines;
      each = all-map (IsReadableLine partial) (line_of dimensions partial chosen) (keys_among dimensions partial chosen)
          (each (IsPlainKey partial) (λ key. IsReadableLine partial (line_of dimensions partial chosen key))
          (λ key is. (
          let own = rows_of_key dimensions partial key chosen in
          let own_range : AreInRange own =
          AreInRange-filter _ chosen (AreInRange-filter (is_selected dimensions query.conditions) rows range) in
          let own_few : length own < 2 ^ 63 =
          few-filter _ chosen (few-filter (is_selected dimensions query.conditions) rows few) in
          record {
            members = is.0;
            values = length-map partial.aggregates (λ agg. aggregate agg own);
            plain = is.1;
            whole = (own_few, aggregates_fit query.aggregates own own_range own_few);
          }))
          (keys_among dimensions partial chosen) (keys_plain partial dimensions rules texts chosen));
    }

-- ==== Partial answers can be finished where one warehouse takes all rows.

-- a key is among some
abbrev IsAmong : List (List Member) → List Member → Type 0
IsAmong keys key = list_any (same_key key) keys ≡ true

-- each key of a list is among them
all_among : (keys : List (List Member)) → AllByRecursion (IsAmong keys) keys
all_among [] = tt
all_among (key ∷ keys) = (
  ap (λ b. b || list_any (same_key key) keys) (same_key-refl key),
  each (IsAmong keys) (IsAmong (key ∷ keys)) (λ q is. ap (λ b. same_key q key || b) is ∙ or_true (same_key q key)) keys
      (all_among keys),
)

-- some rows are one at least
some_rows : (rows : List LineOrder) → has_some rows ≡ true → pos 1 ≤ℤ pos (length rows)
some_rows [] some = absurd (let wrong : false ≡ true = some in cc)
some_rows (row ∷ rows) some = omega (arith, ints)

pub partial_answers_can_be_finished : PartialAnswersCanBeFinished
partial_answers_can_be_finished query dimensions rows range few =
    let partial = partial_query query in
    let chosen = selected dimensions query.conditions rows in
    let keys = keys_among dimensions partial chosen in
    all-map (λ line. CountsRows line.values × AllByRecursion IsWholeNumber line.values)
    (line_of dimensions partial chosen) keys
    (each (IsAmong keys)
    (λ key. CountsRows (line_of dimensions partial chosen key).values
    × AllByRecursion IsWholeNumber (line_of dimensions partial chosen key).values)
    (λ key is. (
    let own = rows_of_key dimensions partial key chosen in
    let own_range : AreInRange own =
    AreInRange-filter _ chosen (AreInRange-filter (is_selected dimensions query.conditions) rows range) in
    let own_few : length own < 2 ^ 63 =
    few-filter _ chosen (few-filter (is_selected dimensions query.conditions) rows few) in (
      some_rows own (sym (has_rows partial dimensions key chosen) ∙ is),
      (own_few, aggregates_fit query.aggregates own own_range own_few),
    )))
    keys (all_among keys))

-- ==== The order of the parts makes no difference.

-- ---- numbers that are alike in all that aggregates are made of
record Alike (xs ys : List ℤ) : Type 0 where
  lengths : length xs ≡ length ys
  totals : total xs ≡ total ys
  leasts : least xs ≡ least ys
  greatests : greatest xs ≡ greatest ys

alike-is : (xs ys : List ℤ) → xs ≡ ys → Alike xs ys
alike-is xs ys e = subst (Alike xs) e (record { lengths = refl; totals = refl; leasts = refl; greatests = refl })

alike-trans : (xs ys zs : List ℤ) → Alike xs ys → Alike ys zs → Alike xs zs
alike-trans xs ys zs a b =
    record {
      lengths = a.lengths ∙ b.lengths;
      totals = a.totals ∙ b.totals;
      leasts = a.leasts
          ∙ b.leasts;
      greatests = a.greatests ∙ b.greatests;
    }

min_comm : (a b : ℤ) → int_min a b ≡ int_min b a
min_comm a b = grind (arith, ints)

max_comm : (a b : ℤ) → int_max a b ≡ int_max b a
max_comm a b = grind (arith, ints)

plus_comm : (a b : ℤ) → a +ℤ b ≡ b +ℤ a
plus_comm a b = omega (arith, ints)

-- in either order
alike-turned : (xs ys : List ℤ) → Alike (xs ++ ys) (ys ++ xs)
alike-turned [] ys = alike-is ys (ys ++ []) (sym (append-nil ys))
alike-turned (x ∷ xs) [] = alike-is ((x ∷ xs) ++ []) (x ∷ xs) (append-nil (x ∷ xs))
alike-turned (x ∷ xs) (y ∷ ys) = record {
  lengths = omega (arith, length-append (x ∷ xs) (y ∷ ys), length-append (y ∷ ys) (x ∷ xs));
  totals = total-append (x ∷ xs) (y ∷ ys) ∙ plus_comm (total (x ∷ xs)) (total (y ∷ ys))
      ∙ sym (total-append (y ∷ ys) (x ∷ xs));
  leasts = least-append x xs y ys ∙ min_comm (least (x ∷ xs)) (least (y ∷ ys)) ∙ sym (least-append y ys x xs);
  greatests = greatest-append x xs y ys ∙ max_comm (greatest (x ∷ xs)) (greatest (y ∷ ys))
      ∙ sym (greatest-append y ys x xs);
}

some_both : (x : ℤ) (xs : List ℤ) (y : ℤ) (ys : List ℤ) (front : List ℤ) → Alike (x ∷ xs) (y ∷ ys)
    → Alike (front ++ (x ∷ xs)) (front ++ (y ∷ ys))
some_both x xs y ys [] a = a
some_both x xs y ys (f ∷ front) a = record {
  lengths = omega (arith, length-append (f ∷ front) (x ∷ xs), length-append (f ∷ front) (y ∷ ys), a.lengths);
  totals = total-append (f ∷ front) (x ∷ xs) ∙ ap (λ n. total (f ∷ front) +ℤ n) a.totals
      ∙ sym (total-append (f ∷ front) (y ∷ ys));
  leasts = least-append f front x xs ∙ ap (int_min (least (f ∷ front))) a.leasts ∙ sym (least-append f front y ys);
  greatests = greatest-append f front x xs ∙ ap (int_max (greatest (f ∷ front))) a.greatests
      ∙ sym (greatest-append f front y ys);
}

-- after the same numbers
alike-after : (front xs ys : List ℤ) → Alike xs ys → Alike (front ++ xs) (front ++ ys)
alike-after front [] [] a = alike-is (front ++ []) (front ++ []) refl
alike-after front [] (y ∷ ys) a = absurd (omega (arith, a.lengths))
alike-after front (x ∷ xs) [] a = absurd (omega (arith, a.lengths))
alike-after front (x ∷ xs) (y ∷ ys) a = some_both x xs y ys front a

-- and in front of the same numbers
alike-before : (xs ys back : List ℤ) → Alike xs ys → Alike (xs ++ back) (ys ++ back)
alike-before xs ys back a =
    alike-trans (xs ++ back) (back ++ xs) (ys ++ back) (alike-turned xs back)
    (alike-trans (back ++ xs) (back ++ ys) (ys ++ back) (alike-after back xs ys a) (alike-turned back ys))

-- neighbours change places
abbrev swapped_from : {X : Type 0} → List X → List X → List X → List X → List X
swapped_from front one other back = front ++ (one ++ (other ++ back))

alike-swapped : (front one other back : List ℤ)
    → Alike (swapped_from front one other back) (swapped_from front other one back)
alike-swapped front one other back =
    alike-after front (one ++ (other ++ back)) (other ++ (one ++ back))
    (alike-trans (one ++ (other ++ back)) ((one ++ other) ++ back) (other ++ (one ++ back))
    (alike-is (one ++ (other ++ back)) ((one ++ other) ++ back) (sym (append_assoc one other back)))
    (alike-trans ((one ++ other) ++ back) ((other ++ one) ++ back) (other ++ (one ++ back))
    (alike-before (one ++ other) (other ++ one) back (alike-turned one other))
    (alike-is ((other ++ one) ++ back) (other ++ (one ++ back)) (append_assoc other one back))))

-- ---- rows
map-four : {X Y : Type 0} (f : X → Y) (front one other back : List X)
    → map f (swapped_from front one other back) ≡ swapped_from (map f front) (map f one) (map f other) (map f back)
map-four f front one other back =
    map-append f front (one ++ (other ++ back))
    ∙ ap (λ rest. map f front ++ rest)
    (map-append f one (other ++ back) ∙ ap (λ rest. map f one ++ rest) (map-append f other back))

filter-four : {X : Type 0} (p : X → Bool) (front one other back : List X)
    → filter p (swapped_from front one other back) ≡ swapped_from (filter p front) (filter p one) (filter p other)
    (filter p back)
filter-four p front one other back =
    filter-append p front (one ++ (other ++ back))
    ∙ ap (λ rest. filter p front ++ rest)
    (filter-append p one (other ++ back) ∙ ap (λ rest. filter p one ++ rest) (filter-append p other back))

numbers_alike : (f : LineOrder → ℤ) (front one other back : List LineOrder)
    → Alike (map f (swapped_from front one other back)) (map f (swapped_from front other one back))
numbers_alike f front one other back =
    let a = map f front in
    let b = map f one in
    let c = map f other in
    let d = map f back in
    alike-trans _ (swapped_from a b c d) _ (alike-is _ (swapped_from a b c d) (map-four f front one other back))
    (alike-trans (swapped_from a b c d) (swapped_from a c b d) _ (alike-swapped a b c d)
    (alike-is (swapped_from a c b d) _ (sym (map-four f front other one back))))

lengths_alike : (front one other back : List LineOrder)
    → length (swapped_from front one other back) ≡ length (swapped_from front other one back)
lengths_alike front one other back =
    omega (
      arith,
      length-append front (one ++ (other ++ back)),
      length-append one (other ++ back),
      length-append other back,
      length-append front (other ++ (one ++ back)),
      length-append other (one ++ back),
      length-append one back,
    )

aggregate_alike : (front one other back : List LineOrder) (agg : Agg)
    → aggregate agg (swapped_from front one other back) ≡ aggregate agg (swapped_from front other one back)
aggregate_alike front one other back Count = ap (λ n. Whole (pos n)) (lengths_alike front one other back)
aggregate_alike front one other back (Sum measure) =
    ap Whole (numbers_alike (measure_of measure) front one other back).totals
aggregate_alike front one other back (Min measure) =
    ap Whole (numbers_alike (measure_of measure) front one other back).leasts
aggregate_alike front one other back (Max measure) =
    ap Whole (numbers_alike (measure_of measure) front one other back).greatests
aggregate_alike front one other back (Avg measure) =
    λ i. Ratio (fraction_of ((numbers_alike (measure_of measure) front one other back).totals i)
    (lengths_alike front one other back i))

same-map : {X Y : Type 0} (f g : X → Y) → ((x : X) → f x ≡ g x) → (xs : List X) → map f xs ≡ map g xs
same-map f g same [] = refl
same-map f g same (x ∷ xs) = λ i. same x i ∷ same-map f g same xs i

or_swap : (a b c d : Bool) → (a || (b || (c || d))) ≡ (a || (c || (b || d)))
or_swap true b c d = refl
or_swap false true true d = refl
or_swap false true false d = refl
or_swap false false c d = refl

any-four : {X : Type 0} (p : X → Bool) (front one other back : List X)
    → list_any p (swapped_from front one other back)
    ≡ (list_any p front || (list_any p one || (list_any p other || list_any p back)))
any-four p front one other back =
    list_any-append p front (one ++ (other ++ back))
    ∙ ap (λ b. list_any p front || b)
    (list_any-append p one (other ++ back) ∙ ap (λ b. list_any p one || b) (list_any-append p other back))

flat-four : {X Y : Type 0} (f : X → List Y) (front one other back : List X)
    → flat_map f (swapped_from front one other back) ≡ swapped_from (flat_map f front) (flat_map f one)
    (flat_map f other) (flat_map f back)
flat-four f front one other back =
    flat_map-append f front (one ++ (other ++ back))
    ∙ ap (λ rest. flat_map f front ++ rest)
    (flat_map-append f one (other ++ back) ∙ ap (λ rest. flat_map f one ++ rest) (flat_map-append f other back))

keys_alike : (front one other back : List (List Member)) → ascending key_cmp (swapped_from front one other back)
    ≡ ascending key_cmp (swapped_from front other one back)
keys_alike front one other back =
    let o = key_cmp_total in
    let same = key_cmp-IsAntisymmetric in
    let a = swapped_from front one other back in
    let b = swapped_from front other one back in
    IsAscending-unique key_cmp o same (ascending key_cmp a) (ascending key_cmp b)
    (IsAscending-ascending key_cmp o same a) (IsAscending-ascending key_cmp o same b)
    (λ q. list_any-ascending key_cmp o same q a ∙ any-four (eq_by_cmp key_cmp q) front one other back
    ∙ or_swap (list_any (eq_by_cmp key_cmp q) front) (list_any (eq_by_cmp key_cmp q) one)
    (list_any (eq_by_cmp key_cmp q) other) (list_any (eq_by_cmp key_cmp q) back)
    ∙ sym (list_any-ascending key_cmp o same q b ∙ any-four (eq_by_cmp key_cmp q) front other one back))

module _ (query : Query) (dimensions : DimRows) where
  lines_alike : (front one other back : List LineOrder)
      → map (line_of dimensions query (swapped_from front one other back))
      (keys_among dimensions query (swapped_from front one other back))
      ≡ map (line_of dimensions query (swapped_from front other one back))
      (keys_among dimensions query (swapped_from front other one back))
  lines_alike front one other back =
      let f = flat_map (keys_of dimensions query) in
      let keys : keys_among dimensions query (swapped_from front one other back)
      ≡ keys_among dimensions query (swapped_from front other one back)
      = ap (ascending key_cmp) (flat-four (keys_of dimensions query) front one other back)
      ∙ keys_alike (f front) (f one) (f other) (f back)
      ∙ sym (ap (ascending key_cmp) (flat-four (keys_of dimensions query) front other one back)) in
      ap (map (line_of dimensions query (swapped_from front one other back))) keys
      ∙ same-map (line_of dimensions query (swapped_from front one other back))
      (line_of dimensions query (swapped_from front other one back))
      (λ key.
      let p : LineOrder → Bool = λ row. list_any (eq_by_cmp key_cmp key) (keys_of dimensions query row) in
      let first = filter-four p front one other back in
      let second = filter-four p front other one back in
      ap (λ values. record { key = key; values = values })
      (same-map _ _
      (λ agg. ap (aggregate agg) first
      ∙ aggregate_alike (filter p front) (filter p one) (filter p other) (filter p back) agg
      ∙ sym (ap (aggregate agg) second)) query.aggregates))
      (keys_among dimensions query (swapped_from front other one back))

pub neighbours_may_change_places : NeighboursMayChangePlaces
neighbours_may_change_places query dimensions front one other back =
    let p = is_selected dimensions query.conditions in
    let lines : List LineOrder → List Line =
    λ rows. map (line_of dimensions query rows) (keys_among dimensions query rows) in
    ap (λ all. record { lines = in_order query.order all })
    (ap lines (filter-four p front one other back)
    ∙ lines_alike query dimensions (filter p front) (filter p one) (filter p other) (filter p back)
    ∙ sym (ap lines (filter-four p front other one back)))

-- ==== The numbers of merged partial answers have 64 bits where one warehouse takes all rows.

of_every : {X Y : Type 0} (P : Y → Type 0) (f : X → Y) → ((x : X) → P (f x)) → (xs : List X)
    → AllByRecursion P (map f xs)
of_every P f every [] = tt
of_every P f every (x ∷ xs) = (every x, of_every P f every xs)

abbrev HaveWholeNumbers : Answer → Type 0
HaveWholeNumbers answer = AllByRecursion (λ line. AllByRecursion IsWholeNumber line.values) answer.lines

pub merged_numbers_fit : MergedNumbersFit
merged_numbers_fit query dimensions parts range few =
    let partial = partial_query query in
    let rows = all_rows parts in
    let chosen = selected dimensions query.conditions rows in
    subst HaveWholeNumbers (sym (merged-parts query dimensions parts))
    (of_every (λ line. AllByRecursion IsWholeNumber line.values) (line_of dimensions partial chosen)
    (λ key. (
    let own = rows_of_key dimensions partial key chosen in
    let own_range : AreInRange own =
    AreInRange-filter _ chosen (AreInRange-filter (is_selected dimensions query.conditions) rows range) in
    let own_few : length own < 2 ^ 63 =
    few-filter _ chosen (few-filter (is_selected dimensions query.conditions) rows few) in
    (own_few, aggregates_fit query.aggregates own own_range own_few)))
    (keys_among dimensions partial chosen))
