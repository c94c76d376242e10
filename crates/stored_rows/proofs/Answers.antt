-- Answers and admissions after rows were added.
use Rattle.std.proofs.Common.{◌≡◌, ◌∙◌, ap, refl, ℕ, ◌+◌, true, false, cond, nat_le, nat_lt, ◌&&◌, List, [], ◌∷◌, ◌++◌}
use Rattle.std.proofs.Common.{map, length, All}
use Rattle.std.specs.List.{flat_map, list_all, list_any}
use Rattle.std.specs.Ordering.{eq_by_cmp}
use Rattle.std.specs.Str.{bytes_eq}
use Rattle.std.proofs.lemmas.List.Elements.{All-filter, All-head, All-tail}
use Rattle.cube_model.specs.declared.answer.Answer.{Answer}
use Rattle.cube_model.specs.declared.answer.Member.{Member}
use Rattle.cube_model.specs.declared.answer.Member.TheVariants as member
use Rattle.cube_model.specs.declared.attr.Attr.{Attr}
use Rattle.cube_model.specs.declared.fault.Fault.TheVariants.{Repeated, Gap, TooManyBatches, TooManyRows}
use Rattle.cube_model.specs.declared.query.Cond.{Cond}
use Rattle.cube_model.specs.declared.query.Cond.TheVariants.{OneOf, Between, Quantity, Discount}
use Rattle.cube_model.specs.declared.query.Query.{Query}
use Rattle.cube_model.specs.declared.rows.DimRows.{DimRows}
use Rattle.cube_model.specs.declared.rows.LineOrder.{LineOrder}
use Rattle.cube_model.specs.Admission.{early_refusal, all_rows, long_text, sums_cause, unknown_key}
use Rattle.cube_model.specs.Aggregates.{aggregate}
use Rattle.cube_model.specs.Answers.{keys_among, line_of, rows_of_key}
use Rattle.cube_model.specs.Ascending.{ascending}
use Rattle.cube_model.specs.Causes.{cause_if, first_cause}
use Rattle.cube_model.specs.Keys.{GroupingSet, grouping_sets, key_cmp, key_under, keys_of}
use Rattle.cube_model.specs.Limits.{most_batch_rows, most_batches}
use Rattle.cube_model.specs.Orders.{in_order}
use Rattle.cube_model.specs.Selection.{holds_of, is_selected, selected, text_le}
use Rattle.dimensions.specs.Added.{joined}
use Rattle.stored_rows.specs.Lawful.{AdmissionsStay, AnswersStay}
use Rattle.stored_rows.proofs.Known.{HasKeys, all_known, attribute_kept, axis_kept, both}

-- ---- one fact row
module _ (rows more : DimRows) (row : LineOrder) (has : HasKeys rows row) where
  holds_kept : (condition : Cond) → holds_of (joined rows more) condition row ≡ holds_of rows condition row
  holds_kept (OneOf attr texts) =
      ap (λ own. list_any (λ text. bytes_eq text own) texts) (attribute_kept rows more row has attr)
  holds_kept (Between attr low high) =
      ap (λ own. text_le low own && text_le own high) (attribute_kept rows more row has attr)
  holds_kept (Quantity low high) = refl
  holds_kept (Discount low high) = refl

  is_selected_kept : (conditions : List Cond)
      → is_selected (joined rows more) conditions row ≡ is_selected rows conditions row
  is_selected_kept conditions = λ i. list_all (λ condition. holds_kept condition i) conditions

  under_kept : (columns : List Attr) (grouping : GroupingSet) → key_under (joined rows more) row columns grouping
      ≡ key_under rows row columns grouping
  under_kept [] grouping = refl
  under_kept (column ∷ columns) [] = refl
  under_kept (column ∷ columns) (true ∷ grouping) = λ i. member.Text (attribute_kept rows more row has column i)
      ∷ under_kept columns grouping i
  under_kept (column ∷ columns) (false ∷ grouping) = λ i. member.All ∷ under_kept columns grouping i

  keys_kept : (query : Query) → keys_of (joined rows more) query row ≡ keys_of rows query row
  keys_kept query = λ i. map (λ grouping. under_kept query.columns grouping i) (grouping_sets query.kind query.columns)

-- ---- all of them
module _ (rows more : DimRows) where
  selected_kept : (conditions : List Cond) (facts : List LineOrder) → All (HasKeys rows) facts
      → selected (joined rows more) conditions facts ≡ selected rows conditions facts
  selected_kept conditions [] all = refl
  selected_kept conditions (row ∷ facts) all =
      let here = is_selected_kept rows more row (All-head (HasKeys rows) row facts all) conditions in
      let rest = selected_kept conditions facts (All-tail (HasKeys rows) row facts all) in
      λ i. cond (here i) (row ∷ rest i) (rest i)

  every_key_kept : (query : Query) (facts : List LineOrder) → All (HasKeys rows) facts
      → flat_map (keys_of (joined rows more) query) facts ≡ flat_map (keys_of rows query) facts
  every_key_kept query [] all = refl
  every_key_kept query (row ∷ facts) all =
      let here = keys_kept rows more row (All-head (HasKeys rows) row facts all) query in
      let rest = every_key_kept query facts (All-tail (HasKeys rows) row facts all) in
      λ i. here i ++ rest i

  of_key_kept : (query : Query) (key : List Member) (facts : List LineOrder) → All (HasKeys rows) facts
      → rows_of_key (joined rows more) query key facts ≡ rows_of_key rows query key facts
  of_key_kept query key [] all = refl
  of_key_kept query key (row ∷ facts) all =
      let here = keys_kept rows more row (All-head (HasKeys rows) row facts all) query in
      let rest = of_key_kept query key facts (All-tail (HasKeys rows) row facts all) in
      λ i. cond (list_any (eq_by_cmp key_cmp key) (here i)) (row ∷ rest i) (rest i)

  unknown_kept : (number : ℕ) (facts : List LineOrder) → All (HasKeys rows) facts
      → unknown_key (joined rows more) number facts ≡ unknown_key rows number facts
  unknown_kept number [] all = refl
  unknown_kept number (row ∷ facts) all =
      let here = axis_kept rows more row (All-head (HasKeys rows) row facts all) number in
      let rest = unknown_kept (number + 1) facts (All-tail (HasKeys rows) row facts all) in
      λ i. first_cause (here i ∷ rest i ∷ [])

pub answers_kept : AnswersStay
answers_kept query rows more facts known =
    let all = all_known rows 1 facts known in
    let chosen = selected rows query.conditions facts in
    let among : All (HasKeys rows) chosen = All-filter (is_selected rows query.conditions) (HasKeys rows) facts all in
    let keys = every_key_kept rows more query chosen among in
    let over : List LineOrder → Answer = λ some. record {
      lines = in_order query.order
          (map (line_of (joined rows more) query some) (keys_among (joined rows more) query some));
    } in
    ap over (selected_kept rows more query.conditions facts all)
    ∙ (λ i. record {
      lines = in_order query.order (map (λ key. record {
        key = key;
        values = map (λ agg. aggregate agg (of_key_kept rows more query key chosen among i)) query.aggregates;
      }) (ascending key_cmp (keys i)));
    })

pub admissions_kept : AdmissionsStay
admissions_kept rows more batches number batch e =
    let sums = sums_cause (all_rows batches ++ batch) ∷ [] in
    let texts = long_text 1 batch in
    let sizes = cause_if (nat_lt most_batch_rows (length batch)) TooManyRows in
    let counts = cause_if (nat_le most_batches (length batches)) TooManyBatches in
    let gaps = cause_if (nat_lt (length batches + 1) number) Gap in
    let repeated = cause_if (nat_le number (length batches)) Repeated in
    let known = unknown_key rows 1 batch in
    let early = both (early_refusal rows batches number batch) sums e in
    let one = both repeated (gaps ∷ counts ∷ sizes ∷ texts ∷ known ∷ []) early.0 in
    let two = both gaps (counts ∷ sizes ∷ texts ∷ known ∷ []) one.1 in
    let three = both counts (sizes ∷ texts ∷ known ∷ []) two.1 in
    let four = both sizes (texts ∷ known ∷ []) three.1 in
    let five = both texts (known ∷ []) four.1 in
    let six = both known [] five.1 in
    ap (λ cause. first_cause (first_cause (repeated ∷ gaps ∷ counts ∷ sizes ∷ texts ∷ cause ∷ []) ∷ sums))
    (unknown_kept rows more 1 batch (all_known rows 1 batch six.0)) ∙ e
