-- Lemmas of `running`, by subject.
use Rattle.std.proofs.Common.{◌≡◌, Result, Ok, Err, OnErr, OnOk, ℕ, ℤ, pos, ◌-ℤ◌, ◌*◌, Bool, true, false, ◌||◌, ◌&&◌}
use Rattle.std.proofs.Common.{cond, nat_le, List, [], ◌∷◌, ◌++◌, length, map, refl, sym, ap, subst, ◌∙◌, arith, ◌⊎◌}
use Rattle.std.proofs.Common.{inl, inr, ◌<◌, ◌^◌, ◌+◌, Option, Some, None, get_or, true≢false, ◌≤◌, length-append, zero}
use Rattle.std.proofs.Common.{suc, append-nil}
use Rattle.std.specs.List.{AllByRecursion, filter, list_any, All, range_with_len, Contains}
use Rattle.std.specs.Ordering.{eq_by_cmp}
use Rattle.cube_model.specs.declared.answer.Member.{Member}
use Rattle.cube_model.specs.declared.answer.Member.TheVariants.{Text}
use Rattle.cube_model.specs.declared.attr.Attr.{Attr}
use Rattle.cube_model.specs.declared.attr.Axis.{Axis}
use Rattle.cube_model.specs.declared.attr.Axis.TheVariants.{Customer, Supplier, Part, Date}
use Rattle.cube_model.specs.declared.measure.Agg.{Agg}
use Rattle.cube_model.specs.declared.measure.Agg.TheVariants.{Count, Sum, Min, Max, Avg}
use Rattle.cube_model.specs.declared.measure.Measure.{Measure}
use Rattle.cube_model.specs.declared.query.Cond.{Cond}
use Rattle.cube_model.specs.declared.query.Cond.TheVariants.{OneOf, Between, Quantity, Discount}
use Rattle.cube_model.specs.declared.query.Kind.TheVariants.{Plain}
use Rattle.cube_model.specs.declared.query.Query.{Query}
use Rattle.cube_model.specs.declared.rows.DimRows.{DimRows}
use Rattle.cube_model.specs.declared.rows.LineOrder.{LineOrder}
use Rattle.cube_model.specs.Attributes.{attribute_at, attribute_of, axis_of, key_on}
use Rattle.cube_model.specs.Keys.{key_cmp, key_under, keys_of}
use Rattle.cube_model.specs.Measures.{measure_of}
use Rattle.cube_model.specs.Selection.{holds_of, is_selected, text_le}
use Rattle.std.specs.Str.{bytes_eq}
use Rattle.std.specs.Option.{unwrap_or}
use Rattle.column_segment.specs.declared.columns.FactColumn.TheVariants.{OrderKey, LineNumber, CustKey, PartKey}
use Rattle.column_segment.specs.declared.columns.FactColumn.TheVariants.{SuppKey, OrderDate, ExtendedPrice}
use Rattle.column_segment.specs.declared.columns.FactColumn.TheVariants.{OrdTotalPrice, Revenue, SupplyCost}
use Rattle.column_segment.specs.declared.columns.FactColumn.TheVariants as facts
use Rattle.column_segment.specs.declared.columns.FactColumn.{FactColumn}
use Rattle.column_segment.specs.Columns.{fact_value}
use Rattle.column_segment.specs.Projected.{AgreeOn}
use Rattle.cube_query.specs.Asked.{AreSame, SameIn, aggregate_asks, asked_columns, condition_asks, fact_columns}
use Rattle.cube_query.specs.Asked.{has_keys_of, is_asked, is_made_of}
use Rattle.cube_query.specs.Groups.{FoldState, RepresentsRows, Takes}
use Rattle.group_tallies.specs.Groups.{finest, rows_at}
use Rattle.group_tallies.specs.Tallies.{aggregated, tallies_of, tally_of}
use Rattle.group_tallies.proofs.OneRow.{plain_key, rows_at-skip, rows_at-take, rows_at-append}
use Rattle.std.specs.Prelude.{nat_abs, ◌==◌}
use Rattle.std.specs.declared.alloc.Global.{Global}
use Rattle.std.specs.declared.vec.Vec.{Vec}
use Rattle.std.proofs.lemmas.List.Elements.{All-cons, All-head, All-tail}
use Rattle.std.proofs.lemmas.List.Folds.{list_any_at}
use Rattle.std.proofs.lemmas.List.Sums.{sum_by-cons, sum_by-append}
use Rattle.cube_model.specs.Places.{row_count_of, row_index_of}
use Rattle.column_kernels.specs.Masks.{selected_by}
use Rattle.group_numbers.specs.Numbers.{IsKnown, group_count, group_key_at, KeysRise}
use Rattle.group_numbers.specs.Parts.{IsKnownFor, is_on, is_same, is_used}
use Rattle.group_numbers.proofs.Numbers.{is_same-same}
use Rattle.group_tallies.specs.Columns.{can_add, rows_with_slots, aggregate_size, tally_at, tallies_at, is_seen}
use Rattle.group_tallies.specs.Columns.{slotted}
use Rattle.group_tallies.specs.FoldInvariant.{AreGroupSlots, HaveRoom, IsGroupSlot, CountIn, AreTallied, IsFold, IsKept}
use Rattle.group_tallies.specs.FoldInvariant.{all_tallies, tallies_in, tallies_or_none}
use Rattle.cube_query.specs.WholeBatch.{HaveRoomAt, all_at, has_one_group, tallies_with_rows}
use Rattle.group_tallies.specs.declared.tally.Tally.{Tally}
use Rattle.std.proofs.lemmas.List.{length-map}
use Rattle.group_tallies.specs.Limits.{AreFoldable}
use Rattle.group_tallies.specs.Slots.{slot_of, AreSlots, Grow, entries_of, Cover, CanPlace}
use Rattle.group_tallies.proofs.Marking.{keys_apart, slotted-none, rows_at-none, rows_at-slotted, AreGroupSlots-at}
use Rattle.group_tallies.proofs.Marking.{key_eq-same, key_eq-true}
use Rattle.group_tallies.proofs.Columnwise.{All-at, tallies-length, tallies-one}
use Rattle.group_tallies.proofs.Counting.{fits-can_add}
use Rattle.group_tallies.proofs.Ranges.{range_of_agg}
use Rattle.group_tallies.proofs.Sums.{length-filter-le, nat_abs-total, sum_by-filter}
use Rattle.std.proofs.lemmas.List.FromFn.{get_or-map-range_with_len}
use Rattle.std.proofs.lemmas.Bool.{cases_lt}
use Rattle.group_tallies.specs.declared.slots.Slots.{Slots}
use Rattle.group_numbers.specs.GroupNumbers.{IsGroupNumbersOf, IsGroupNumbersOver, count_of, query_of}
use Rattle.group_numbers.specs.declared.group_numbers.GroupNumbers.{GroupNumbers}
use Rattle.group_numbers.proofs.Extending.{grouping_of_over}
use Rattle.group_tallies.proofs.Seen.{some_seen}
use Rattle.group_tallies.specs.declared.slots.Slots.TheVariants.{Direct, Below, Seen}
use Rattle.cube_query.proofs.WholeBatches.{batch_counted, one_at_least, room_at, slots_are}
use Rattle.std.proofs.lemmas.Bool.Decides.{nat_tests}
use Rattle.lattice.specs.declared.view.View.{View}
use Rattle.lattice.specs.Determined.{Serves}
use Rattle.cuboid_cells.specs.declared.cell.Cell.{Cell}
use Rattle.cuboid_cells.specs.Cells.{AreAscending, PlainCells, cell_at, key_as_number}
use Rattle.cuboid_upkeep.specs.Grouping.{HasMembers, RepresentRows, cell_over, key_of, rows_of_number}
use Rattle.cuboid_upkeep.proofs.Represented.{row_of_cell}
use Rattle.cube_query.specs.CellRuns.{AreWantedMerged}
use Rattle.cube_query.specs.CellSlots.{AreMergedIn, asked_of}
use Rattle.cube_query.specs.CellTallies.{SlotsAreBelow, GroupsHaveRoomFor, HasRoomForCells, HaveRoomFor, with_cells}
use Rattle.cube_query.proofs.CellGroups.{AreApart, cells_are_rows, counts-rows, sizes-rows, slot_by, slotted-filter}
use Rattle.cube_query.proofs.CellGroups.{tally_over}
use Rattle.cube_query.proofs.CellMerges.{all_untouched}
use Rattle.cube_query.proofs.CellSlotsLemmas.{cell_slots-length}
use Rattle.cube_query.proofs.RowSlots.{HasSlot}
use Rattle.cube_query.proofs.Wanted.{leaves_none, slots_for, slots_for-length, wanted_slot, with_wanted}
use Rattle.cube_model.specs.declared.measure.Measure.TheVariants as measures
use Rattle.dimensions.specs.Shown.{AreStorable}
use Rattle.cuboid_upkeep.proofs.LawsLemmas.{one_group}

-- ==== Fact rows that agree in the columns at which a query looks are the same to a fold of it.

-- ---- tests

pub or_left : (a b : Bool) → a ≡ true → (a || b) ≡ true
or_left true b is = refl
or_left false b is = absurd cc

pub or_right : (a b : Bool) → b ≡ true → (a || b) ≡ true
or_right true b is = refl
or_right false b is = is

-- ---- one row

pub key_same : (axis : Axis) (row other : LineOrder) → SameIn (has_keys_of axis) row other
    → key_on axis row ≡ key_on axis other
key_same Customer row other same = same CustKey refl
key_same Supplier row other same = same SuppKey refl
key_same Part row other same = same PartKey refl
key_same Date row other same = same OrderDate refl

measure_same : (measure : Measure) (row other : LineOrder) → SameIn (is_made_of measure) row other
    → measure_of measure row ≡ measure_of measure other
measure_same measures.Quantity row other same = ap pos (same facts.Quantity refl)
measure_same measures.ExtendedPrice row other same = ap pos (same ExtendedPrice refl)
measure_same measures.Revenue row other same = ap pos (same Revenue refl)
measure_same measures.SupplyCost row other same = ap pos (same SupplyCost refl)
measure_same measures.Discounted row other same =
    let price = same ExtendedPrice refl in
    let discount = same facts.Discount refl in
    λ i. pos (price i * discount i)
measure_same measures.Profit row other same =
    let revenue = same Revenue refl in
    let cost = same SupplyCost refl in
    λ i. pos (revenue i) -ℤ pos (cost i)

pub number_same : (agg : Agg) (row other : LineOrder) → SameIn (λ column. aggregate_asks column agg) row other
    → aggregated agg row ≡ aggregated agg other
number_same Count row other same = refl
number_same (Sum measure) row other same = measure_same measure row other same
number_same (Min measure) row other same = measure_same measure row other same
number_same (Max measure) row other same = measure_same measure row other same
number_same (Avg measure) row other same = measure_same measure row other same

module _ (dimensions : DimRows) where
  attribute_same : (attr : Attr) (row other : LineOrder) → SameIn (has_keys_of (axis_of attr)) row other
      → attribute_of dimensions attr row ≡ attribute_of dimensions attr other
  attribute_same attr row other same = ap (λ (key : ℕ). unwrap_or (attribute_at dimensions (axis_of attr) key attr) [])
      (key_same (axis_of attr) row other same)

  condition_same : (condition : Cond) (row other : LineOrder)
      → SameIn (λ column. condition_asks column condition) row other
      → holds_of dimensions condition row ≡ holds_of dimensions condition other
  condition_same (OneOf attr texts) row other same =
      ap (λ (own : List ℕ). list_any (λ text. bytes_eq text own) texts) (attribute_same attr row other same)
  condition_same (Between attr low high) row other same =
      ap (λ (own : List ℕ). text_le low own && text_le own high) (attribute_same attr row other same)
  condition_same (Quantity low high) row other same =
      ap (λ (own : ℕ). nat_le low own && nat_le own high) (same facts.Quantity refl)
  condition_same (Discount low high) row other same =
      ap (λ (own : ℕ). nat_le low own && nat_le own high) (same facts.Discount refl)

  selected_same : (conditions : List Cond) (row other : LineOrder)
      → SameIn (λ column. list_any (condition_asks column) conditions) row other
      → is_selected dimensions conditions row ≡ is_selected dimensions conditions other
  selected_same [] row other same = refl
  selected_same (condition ∷ conditions) row other same =
      let own = condition_same condition row other
      (λ column asks. same column (or_left _ (list_any (condition_asks column) conditions) asks)) in
      let rest = selected_same conditions row other
      (λ column asks. same column (or_right (condition_asks column condition) _ asks)) in
      λ i. own i && rest i

  plain_key_same : (columns : List Attr) (row other : LineOrder)
      → SameIn (λ column. list_any (λ attr. has_keys_of (axis_of attr) column) columns) row other
      → key_under dimensions row columns (map (λ _. true) columns)
      ≡ key_under dimensions other columns (map (λ _. true) columns)
  plain_key_same [] row other same = refl
  plain_key_same (attr ∷ columns) row other same =
      let own = attribute_same attr row other
      (λ column asks. same column (or_left _ (list_any (λ a. has_keys_of (axis_of a) column) columns) asks)) in
      let rest = plain_key_same columns row other
      (λ column asks. same column (or_right (has_keys_of (axis_of attr) column) _ asks)) in
      λ i. Text (own i) ∷ rest i

-- ---- rows one by one

are_same_with : (asks : FactColumn → Bool) (so_far rows others : List LineOrder) → AreSame asks rows others
    → AreSame asks (so_far ++ rows) (so_far ++ others)
are_same_with asks [] rows others same = same
are_same_with asks (row ∷ so_far) rows others same =
    ((λ column asked. refl), are_same_with asks so_far rows others same)

module _ (dimensions : DimRows) (query : Query) (plain : query.kind ≡ Plain) (key : List Member) where
  -- what is made of the rows of a key
  made_same : (asks : FactColumn → Bool) (made : LineOrder → ℤ)
      → ((row other : LineOrder) → SameIn asks row other
      → is_selected dimensions query.conditions row ≡ is_selected dimensions query.conditions other)
      → ((row other : LineOrder) → SameIn asks row other
      → plain_key dimensions query row ≡ plain_key dimensions query other)
      → ((row other : LineOrder) → SameIn asks row other → made row ≡ made other)
      → (rows others : List LineOrder) → AreSame asks rows others
      → map made (rows_at dimensions query key rows) ≡ map made (rows_at dimensions query key others)
  made_same asks made chosen keyed number [] [] same = refl
  made_same asks made chosen keyed number [] (other ∷ others) same = absurd same
  made_same asks made chosen keyed number (row ∷ rows) [] same = absurd same
  made_same asks made chosen keyed number (row ∷ rows) (other ∷ others) same =
      by (is_selected dimensions query.conditions row) refl (made_same asks made chosen keyed number rows others same.1)
    where
      by : (b : Bool) → is_selected dimensions query.conditions row ≡ b
          → map made (rows_at dimensions query key rows) ≡ map made (rows_at dimensions query key others)
          → map made (rows_at dimensions query key (row ∷ rows))
          ≡ map made (rows_at dimensions query key (other ∷ others))
      by false is rest =
          ap (map made) (rows_at-skip dimensions query key row rows is) ∙ rest
          ∙ ap (map made) (sym (rows_at-skip dimensions query key other others (sym (chosen row other same.0) ∙ is)))
      by true is rest =
          ap (map made) (rows_at-take dimensions query plain key row rows is)
          ∙ out (eq_by_cmp key_cmp key (plain_key dimensions query row)) row (rows_at dimensions query key rows)
          ∙ (λ i. cond (eq_by_cmp key_cmp key (keyed row other same.0 i)) (number row other same.0 i ∷ rest i) (rest i))
          ∙ sym (out (eq_by_cmp key_cmp key (plain_key dimensions query other)) other
          (rows_at dimensions query key others))
          ∙ ap (map made)
          (sym (rows_at-take dimensions query plain key other others (sym (chosen row other same.0) ∙ is)))
        where
          out : (b : Bool) (one : LineOrder) (more : List LineOrder)
              → map made (cond b (one ∷ more) more) ≡ cond b (made one ∷ map made more) (map made more)
          out true one more = refl
          out false one more = refl

-- ---- a query

no_items : {X Y : Type 0} (f : X → Y) (xs : List X) → map f xs ≡ [] → xs ≡ []
no_items f [] none = refl
no_items f (x ∷ xs) none = absurd cc

module _ (dimensions : DimRows) (query : Query) where
  pub same_selected : (row other : LineOrder) → SameIn (is_asked query) row other
      → is_selected dimensions query.conditions row ≡ is_selected dimensions query.conditions other
  same_selected row other same = selected_same dimensions query.conditions row other (λ column asks.
      same column
      (or_right (list_any (λ attr. has_keys_of (axis_of attr) column) query.columns) _
      (or_left _ (list_any (aggregate_asks column) query.aggregates) asks)))

  pub same_key : (row other : LineOrder) → SameIn (is_asked query) row other
      → plain_key dimensions (finest query) row ≡ plain_key dimensions (finest query) other
  same_key row other same =
      plain_key_same dimensions query.columns row other
      (λ column asks. same column
      (or_left _ (list_any (condition_asks column) query.conditions || list_any (aggregate_asks column)
      query.aggregates) asks))

  module _ (rows others : List LineOrder) (same : AreSame (is_asked query) rows others) (key : List Member) where
    tallies_among : (aggs : List Agg)
        → ((column : FactColumn) → list_any (aggregate_asks column) aggs ≡ true → is_asked query column ≡ true)
        → tallies_of aggs (rows_at dimensions (finest query) key rows)
        ≡ tallies_of aggs (rows_at dimensions (finest query) key others)
    tallies_among [] asked = refl
    tallies_among (agg ∷ aggs) asked =
        let own = made_same dimensions (finest query) refl key (is_asked query) (aggregated agg) same_selected same_key
        (λ row other alike. number_same agg row other
        (λ column asks. alike column (asked column (or_left _ (list_any (aggregate_asks column) aggs) asks)))) rows
        others same in
        let rest = tallies_among aggs (λ column asks. asked column (or_right (aggregate_asks column agg) _ asks)) in
        λ i. tally_of (own i) ∷ rest i

    same_tallies : tallies_of query.aggregates (rows_at dimensions (finest query) key rows)
        ≡ tallies_of query.aggregates (rows_at dimensions (finest query) key others)
    same_tallies = tallies_among query.aggregates (λ column asks.
        or_right (list_any (λ attr. has_keys_of (axis_of attr) column) query.columns) _
        (or_right (list_any (condition_asks column) query.conditions) _ asks))

    same_none : rows_at dimensions (finest query) key rows ≡ [] → rows_at dimensions (finest query) key others ≡ []
    same_none none =
        let both = made_same dimensions (finest query) refl key (is_asked query) (aggregated Count) same_selected
        same_key (λ row other alike. refl) rows others same in
        no_items (aggregated Count) (rows_at dimensions (finest query) key others)
        (sym both ∙ ap (map (aggregated Count)) none)

  -- agreement by columns is agreement row by row
  picked : (P : FactColumn → Type 0) (asks : FactColumn → Bool) (columns : List FactColumn)
      → AllByRecursion P (filter asks columns) → AllByRecursion (λ column. asks column ≡ true → P column) columns
  picked P asks [] all = tt
  picked P asks (column ∷ columns) all = by (picked P asks columns) (asks column) refl all
    where
      by : (AllByRecursion P (filter asks columns) → AllByRecursion (λ c. asks c ≡ true → P c) columns) → (b : Bool)
          → asks column ≡ b
          → AllByRecursion P (cond b (column ∷ filter asks columns) (filter asks columns))
          → AllByRecursion (λ c. asks c ≡ true → P c) (column ∷ columns)
      by rest true is found = ((λ yes. found.0), rest found.1)
      by rest false is found = ((λ yes. let no : true ≡ false = sym yes ∙ is in absurd cc), rest found)

  each_column : (P : FactColumn → Type 0) → AllByRecursion P fact_columns → (column : FactColumn) → P column
  each_column P all OrderKey = all.0
  each_column P all LineNumber = all.1.0
  each_column P all CustKey = all.1.1.0
  each_column P all PartKey = all.1.1.1.0
  each_column P all SuppKey = all.1.1.1.1.0
  each_column P all OrderDate = all.1.1.1.1.1.0
  each_column P all facts.Quantity = all.1.1.1.1.1.1.0
  each_column P all ExtendedPrice = all.1.1.1.1.1.1.1.0
  each_column P all OrdTotalPrice = all.1.1.1.1.1.1.1.1.0
  each_column P all facts.Discount = all.1.1.1.1.1.1.1.1.1.0
  each_column P all Revenue = all.1.1.1.1.1.1.1.1.1.1.0
  each_column P all SupplyCost = all.1.1.1.1.1.1.1.1.1.1.1.0
  each_column P all facts.Tax = all.1.1.1.1.1.1.1.1.1.1.1.1.0

  row_by_row : (rows others : List LineOrder) → length rows ≡ length others
      → ((column : FactColumn) → is_asked query column ≡ true
      → map (fact_value column) rows ≡ map (fact_value column) others) → AreSame (is_asked query) rows others
  row_by_row [] [] many same = tt
  row_by_row [] (other ∷ others) many same = absurd (omega (arith, many))
  row_by_row (row ∷ rows) [] many same = absurd (omega (arith, many))
  row_by_row (row ∷ rows) (other ∷ others) many same = (
    (λ column asks. (split _ _ _ _ (same column asks)).0),
    row_by_row rows others (omega (arith, many))
        (λ column asks. (split _ _ _ _ (same column asks)).1),
  )
    where
      split : (a b : ℕ) (xs ys : List ℕ) → a ∷ xs ≡ b ∷ ys → (a ≡ b) × (xs ≡ ys)
      split a b xs ys e = (cc, cc)

  pub agreeing_same : (rows others : List LineOrder) → AgreeOn (asked_columns query) rows others
      → AreSame (is_asked query) rows others
  agreeing_same rows others agree =
      row_by_row rows others agree.count
      (each_column (λ column. is_asked query column ≡ true
      → map (fact_value column) rows ≡ map (fact_value column) others)
      (picked (λ column. map (fact_value column) rows ≡ map (fact_value column) others) (is_asked query) fact_columns
      agree.each))

-- ---- a fold

represents_for_both : (dimensions : DimRows) (fold : FoldState) (rows others : List LineOrder)
    → AreSame (is_asked fold.query) rows others → RepresentsRows dimensions fold rows
    → RepresentsRows dimensions fold others
represents_for_both dimensions fold rows others same represents = record {
  over = represents.over;
  each = λ number below. represents.each number below ∙ same_tallies dimensions fold.query rows others same _;
  others = λ key none. same_none dimensions fold.query rows others same key (represents.others key none);
}

pub takes_both : (dimensions : DimRows) (old new : FoldState) (rows others : List LineOrder)
    → AgreeOn (asked_columns old.query) rows others → Takes dimensions old rows new → Takes dimensions old others new
takes_both dimensions old new rows others agree takes = record {
  query = takes.query;
  represents = λ so_far represents.
      let same = subst (λ (query : Query). AreSame (is_asked query) (so_far ++ rows) (so_far ++ others))
      (sym takes.query)
      (are_same_with (is_asked old.query) so_far rows others (agreeing_same dimensions old.query rows others agree)) in
      represents_for_both dimensions new (so_far ++ rows) (so_far ++ others) same (takes.represents so_far represents);
}

pub query_stays : {T E : Type 0} (dimensions : DimRows) (old new : FoldState) (rows : List LineOrder)
    (result : Result T E) → OnOk result (Takes dimensions old rows new) → OnErr result (new ≡ old)
    → new.query ≡ old.query
query_stays dimensions old new rows (Ok value) takes same = takes.query
query_stays dimensions old new rows (Err error) takes same = ap (λ (fold : FoldState). fold.query) same

-- ==== A fold refuses fact rows by what they have in the columns at which its query looks, and by nothing else.

-- ---- rows one by one

module _ (asks : FactColumn → Bool) where
  same_length : (rows others : List LineOrder) → AreSame asks rows others → length rows ≡ length others
  same_length [] [] same = refl
  same_length [] (other ∷ others) same = absurd same
  same_length (row ∷ rows) [] same = absurd same
  same_length (row ∷ rows) (other ∷ others) same = omega (arith, same_length rows others same.1)

  pub same_self : (rows : List LineOrder) → AreSame asks rows rows
  same_self [] = tt
  same_self (row ∷ rows) = ((λ column asked. refl), same_self rows)

  pub masked_same : (marks : List Bool) (rows others : List LineOrder) → AreSame asks rows others
      → AreSame asks (selected_by marks rows) (selected_by marks others)
  masked_same [] rows others same = tt
  masked_same (mark ∷ marks) [] [] same = tt
  masked_same (mark ∷ marks) [] (other ∷ others) same = absurd same
  masked_same (mark ∷ marks) (row ∷ rows) [] same = absurd same
  masked_same (true ∷ marks) (row ∷ rows) (other ∷ others) same = (same.0, masked_same marks rows others same.1)
  masked_same (false ∷ marks) (row ∷ rows) (other ∷ others) same = masked_same marks rows others same.1

  chosen_same : (rows others : List LineOrder) (group_slots : List (Option ℕ)) → AreSame asks rows others
      → AreSame asks (rows_with_slots rows group_slots) (rows_with_slots others group_slots)
  chosen_same [] [] group_slots same = tt
  chosen_same [] (other ∷ others) group_slots same = absurd same
  chosen_same (row ∷ rows) [] group_slots same = absurd same
  chosen_same (row ∷ rows) (other ∷ others) [] same = tt
  chosen_same (row ∷ rows) (other ∷ others) (None ∷ group_slots) same = chosen_same rows others group_slots same.1
  chosen_same (row ∷ rows) (other ∷ others) (Some slot ∷ group_slots) same =
      (same.0, chosen_same rows others group_slots same.1)

  size_same : (agg : Agg) → ((column : FactColumn) → aggregate_asks column agg ≡ true → asks column ≡ true)
      → (rows others : List LineOrder) → AreSame asks rows others → aggregate_size agg rows ≡ aggregate_size agg others
  size_same agg asked [] [] same = refl
  size_same agg asked [] (other ∷ others) same = absurd same
  size_same agg asked (row ∷ rows) [] same = absurd same
  size_same agg asked (row ∷ rows) (other ∷ others) same =
      let size = λ (one : LineOrder). nat_abs (aggregated agg one) in
      let own = number_same agg row other (λ column it. same.0 column (asked column it)) in
      let rest = size_same agg asked rows others same.1 in
      sum_by-cons size row rows ∙ (λ i. nat_abs (own i) + rest i) ∙ sym (sum_by-cons size other others)

-- ---- keys that are known

module _ (query : Query) (axis : Axis) (column : FactColumn) (keys : has_keys_of axis column ≡ true) where
  either : (a b : Bool) → (a || b) ≡ true → (a ≡ true) ⊎ (b ≡ true)
  either true b is = inl refl
  either false b is = inr is

  keys_on : (own : Axis) → is_same own axis ≡ true → has_keys_of own column ≡ true
  keys_on own is = ap (λ (a : Axis). has_keys_of a column) (is_same-same own axis is) ∙ keys

  by_columns : (attrs : List Attr) → list_any (λ attr. is_same (axis_of attr) axis) attrs ≡ true
      → list_any (λ attr. has_keys_of (axis_of attr) column) attrs ≡ true
  by_columns [] is = absurd (true≢false (sym is))
  by_columns (attr ∷ attrs) is =
      by (by_columns attrs)
      (either (is_same (axis_of attr) axis) (list_any (λ one. is_same (axis_of one) axis) attrs) is)
    where
      by : (list_any (λ one. is_same (axis_of one) axis) attrs ≡ true
          → list_any (λ one. has_keys_of (axis_of one) column) attrs ≡ true)
          → (is_same (axis_of attr) axis ≡ true) ⊎ (list_any (λ one. is_same (axis_of one) axis) attrs ≡ true)
          → list_any (λ one. has_keys_of (axis_of one) column) (attr ∷ attrs) ≡ true
      by rest (inl here) =
          or_left _ (list_any (λ one. has_keys_of (axis_of one) column) attrs) (keys_on (axis_of attr) here)
      by rest (inr more) = or_right (has_keys_of (axis_of attr) column) _ (rest more)

  one_condition : (condition : Cond) → is_on axis condition ≡ true → condition_asks column condition ≡ true
  one_condition (OneOf attr texts) is = keys_on (axis_of attr) is
  one_condition (Between attr low high) is = keys_on (axis_of attr) is
  one_condition (Quantity low high) is = absurd (true≢false (sym is))
  one_condition (Discount low high) is = absurd (true≢false (sym is))

  by_conditions : (conditions : List Cond) → list_any (is_on axis) conditions ≡ true
      → list_any (condition_asks column) conditions ≡ true
  by_conditions [] is = absurd (true≢false (sym is))
  by_conditions (condition ∷ conditions) is =
      by (by_conditions conditions) (either (is_on axis condition) (list_any (is_on axis) conditions) is)
    where
      by : (list_any (is_on axis) conditions ≡ true → list_any (condition_asks column) conditions ≡ true)
          → (is_on axis condition ≡ true) ⊎ (list_any (is_on axis) conditions ≡ true)
          → list_any (condition_asks column) (condition ∷ conditions) ≡ true
      by rest (inl here) = or_left _ (list_any (condition_asks column) conditions) (one_condition condition here)
      by rest (inr more) = or_right (condition_asks column condition) _ (rest more)

  asked_key : is_used query axis ≡ true → is_asked query column ≡ true
  asked_key used =
      by (either (list_any (λ attr. is_same (axis_of attr) axis) query.columns) (list_any (is_on axis) query.conditions)
      used)
    where
      by : (list_any (λ attr. is_same (axis_of attr) axis) query.columns ≡ true)
          ⊎ (list_any (is_on axis) query.conditions ≡ true) → is_asked query column ≡ true
      by (inl columns) = or_left _ _ (by_columns query.columns columns)
      by (inr conditions) =
          or_right (list_any (λ attr. has_keys_of (axis_of attr) column) query.columns) _
          (or_left _ (list_any (aggregate_asks column) query.aggregates) (by_conditions query.conditions conditions))

module _ (dimensions : DimRows) (query : Query) where
  pub known_for : (rows others : List LineOrder) → AreSame (is_asked query) rows others
      → All (IsKnown dimensions) others → All (IsKnownFor dimensions query) rows
  known_for [] others same known = λ k d lt. absurd (omega (arith, lt))
  known_for (row ∷ rows) [] same known = absurd same
  known_for (row ∷ rows) (other ∷ others) same known =
      All-cons (IsKnownFor dimensions query) row rows
      (λ axis used.
      subst (λ (key : ℕ). row_index_of dimensions axis key < row_count_of dimensions axis)
      (sym (key_same axis row other (λ column keys. same.0 column (asked_key query axis column keys used))))
      (All-head (IsKnown dimensions) other others known axis))
      (known_for rows others same.1 (All-tail (IsKnown dimensions) other others known))

  -- ---- groups

  pub marks_same : (rows others : List LineOrder) → AreSame (is_asked query) rows others
      → map (is_selected dimensions query.conditions) rows ≡ map (is_selected dimensions query.conditions) others
  marks_same [] [] same = refl
  marks_same [] (other ∷ others) same = absurd same
  marks_same (row ∷ rows) [] same = absurd same
  marks_same (row ∷ rows) (other ∷ others) same =
      let own = same_selected dimensions query row other same.0 in
      let rest = marks_same rows others same.1 in
      λ i. own i ∷ rest i

  slot_same : (entries : List (ℕ × ℕ)) (group_slot : Option ℕ) (row other : LineOrder)
      → SameIn (is_asked query) row other → IsGroupSlot dimensions query entries row group_slot
      → IsGroupSlot dimensions query entries other group_slot
  slot_same entries None row other same is = sym (same_selected dimensions query row other same) ∙ is
  slot_same entries (Some slot) row other same is = (
    is.0,
    (
      sym (same_selected dimensions query row other same) ∙ is.1.0,
      is.1.1,
      is.1.2
          ∙ same_key dimensions query row other same,
    ),
    is.2,
  )

  pub slots_same : (entries : List (ℕ × ℕ)) (rows others : List LineOrder) (group_slots : List (Option ℕ))
      → AreSame (is_asked query) rows others → AreGroupSlots dimensions query entries rows group_slots
      → AreGroupSlots dimensions query entries others group_slots
  slots_same entries [] [] group_slots same are = are
  slots_same entries [] (other ∷ others) group_slots same are = absurd same
  slots_same entries (row ∷ rows) [] group_slots same are = absurd same
  slots_same entries (row ∷ rows) (other ∷ others) [] same are = absurd are
  slots_same entries (row ∷ rows) (other ∷ others) (group_slot ∷ group_slots) same are =
      (slot_same entries group_slot row other same.0 are.0, slots_same entries rows others group_slots same.1 are.1)

-- ---- room

module _ (query : Query) (columns : List (Vec Tally Global)) where
  asks_of : (k : ℕ) (agg : Agg) → k < length query.aggregates → (column : FactColumn)
      → aggregate_asks column (get_or query.aggregates k agg) ≡ true → is_asked query column ≡ true
  asks_of k agg lt column is =
      or_right _ _ (or_right _ _ (list_any_at (aggregate_asks column) query.aggregates k agg lt is))

  pub room_same : (rows others : List LineOrder) (group_slots : List (Option ℕ)) → AreSame (is_asked query) rows others
      → HaveRoom query.aggregates columns others group_slots
      → HaveRoom query.aggregates columns rows group_slots
  room_same rows others group_slots same room k lt agg column =
      let own = get_or query.aggregates k agg in
      let there = room k lt agg column in
      let size = size_same (is_asked query) own (asks_of k agg lt) (rows_with_slots rows group_slots)
      (rows_with_slots others group_slots)
      (chosen_same (is_asked query) rows others group_slots same) in
      let many = same_length (is_asked query) rows others same in
      record {
        small = subst (λ (n : ℕ). n < 2 ^ 63) (sym size) there.small;
        each = λ place slot at.
            let each = there.each place slot at in
            (each.0, (λ i. can_add (tally_at (get_or columns k column).items slot) (many i) (size i)) ∙ each.1);
      }

  pub room_at_same : (slot : ℕ) (rows others : List LineOrder) → AreSame (is_asked query) rows others
      → HaveRoomAt query.aggregates columns slot others → HaveRoomAt query.aggregates columns slot rows
  room_at_same slot rows others same room k lt agg column =
      let size = size_same (is_asked query) (get_or query.aggregates k agg) (asks_of k agg lt) rows others same in
      let many = same_length (is_asked query) rows others same in
      (λ i. can_add (tally_at (get_or columns k column).items slot) (many i) (size i)) ∙ room k lt agg column

-- ==== How a fold goes on: to more slots, and to more rows.

-- ---- more slots
pub AreTallied-grow : (dimensions : DimRows) (query : Query) (old new : List (ℕ × ℕ))
    (columns longer : List (Vec Tally Global)) (rows : List LineOrder) → KeysRise dimensions query.columns
    → AreSlots (group_count dimensions query.columns) old → Grow (group_count dimensions query.columns) old new
    → ((slot : ℕ) → tallies_at longer slot ≡ tallies_at columns slot)
    → AreTallied dimensions query old columns rows → AreTallied dimensions query new longer rows
AreTallied-grow dimensions query old new columns longer rows rising slots grow same tallied =
    let aggs = query.aggregates in
    let key_of = group_key_at dimensions query.columns in
    record {
      each = λ number slot found. same slot ∙ elim (grow.fresh number slot found) [
        | inl kept ↦ tallied.each number slot kept
        | inr added ↦
            let none : rows_at dimensions query (key_of number) rows ≡ [] =
            tallied.others (key_of number) (λ other place taken one.
            let is : other ≡ number =
            keys_apart dimensions query.columns rising other number (slots.below other place taken)
            (grow.slots.below number slot found) one in
            let there : slot_of old number ≡ Some place = ap (slot_of old) (sym is) ∙ taken in
            cc (there, added.0)) in
            tallied.fresh slot added.1 ∙ ap (tallies_of aggs) (sym none)
      ];
      others = λ key absent. tallied.others key (λ number slot taken. absent number slot (grow.keep number slot taken));
      fresh = λ slot h. same slot ∙ tallied.fresh slot (omega (arith, h, grow.longer));
    }

-- ---- more rows
pub AreTallied-count : (dimensions : DimRows) (query : Query) (entries : List (ℕ × ℕ))
    (old new : List (Vec Tally Global)) (so_far rows : List LineOrder) (group_slots : List (Option ℕ))
    → query.kind ≡ Plain → KeysRise dimensions query.columns
    → AreSlots (group_count dimensions query.columns) entries → AreGroupSlots dimensions query entries rows group_slots
    → CountIn query.aggregates rows group_slots old new
    → AreTallied dimensions query entries old so_far → AreTallied dimensions query entries new (so_far ++ rows)
AreTallied-count dimensions query entries old new so_far rows group_slots plain rising slots group_slots_are counted
    tallied =
    let aggs = query.aggregates in
    let key_of = group_key_at dimensions query.columns in
    record {
      each = λ number slot found.
          counted slot (rows_at dimensions query (key_of number) so_far) (tallied.each number slot found)
          ∙ ap (λ more. tallies_of aggs (rows_at dimensions query (key_of number) so_far ++ more))
          (sym (rows_at-slotted dimensions query plain rising entries slots number slot found rows group_slots
          group_slots_are))
          ∙ ap (tallies_of aggs) (sym (rows_at-append dimensions query (key_of number) so_far rows));
      others = λ key absent.
          rows_at-append dimensions query key so_far rows
          ∙ ap (λ front. front ++ rows_at dimensions query key rows) (tallied.others key absent)
          ∙ rows_at-none dimensions query plain entries key absent rows group_slots group_slots_are;
      fresh = λ slot h.
          counted slot [] (tallied.fresh slot h)
          ∙ ap (tallies_of aggs)
          (slotted-none dimensions query (group_count dimensions query.columns) entries slots rows group_slots
          group_slots_are slot h);
    }

-- ---- room for them
size-chosen : (agg : Agg) (rows : List LineOrder) (group_slots : List (Option ℕ))
    → aggregate_size agg (rows_with_slots rows group_slots) ≤ aggregate_size agg rows
size-chosen agg [] group_slots = omega arith
size-chosen agg (row ∷ rows) [] = omega arith
size-chosen agg (row ∷ rows) (None ∷ group_slots) =
    omega (arith, size-chosen agg rows group_slots, sum_by-cons (λ row. nat_abs (aggregated agg row)) row rows)
size-chosen agg (row ∷ rows) (Some slot ∷ group_slots) =
    let size = λ (row : LineOrder). nat_abs (aggregated agg row) in
    omega (
      arith,
      size-chosen agg rows group_slots,
      sum_by-cons size row rows,
      sum_by-cons size row (rows_with_slots rows group_slots),
    )

-- rows that may be folded have room
pub HaveRoom-foldable : (dimensions : DimRows) (query : Query) (entries : List (ℕ × ℕ))
    (columns : List (Vec Tally Global)) (so_far rows : List LineOrder) (group_slots : List (Option ℕ))
    → AreSlots (group_count dimensions query.columns) entries → AreGroupSlots dimensions query entries rows group_slots
    → AllByRecursion (λ column. length entries ≤ length column.items) columns
    → AreFoldable dimensions (so_far ++ rows) → AreTallied dimensions query entries columns so_far
    → HaveRoom query.aggregates columns rows group_slots
HaveRoom-foldable dimensions query entries columns so_far rows group_slots slots group_slots_are long foldable tallied k
    h default column =
    let aggs = query.aggregates in
    let agg = get_or aggs k default in
    let size = λ (row : LineOrder). nat_abs (aggregated agg row) in
    let number = aggregated agg in
    let p = is_selected dimensions query.conditions in
    let total = range_of_agg (so_far ++ rows) foldable.in_range agg in
    let both = sum_by-append size so_far rows in
    let front = size-chosen agg rows group_slots in
    let count = tallies-length aggs columns (length entries) [] (tallied.fresh (length entries) (omega arith)) in
    record {
      small = omega (arith, total, both, front);
      each = λ place slot at.
          let found = AreGroupSlots-at dimensions query entries rows group_slots group_slots_are place slot at in
          let key = group_key_at dimensions query.columns found.0 in
          let q = λ (row : LineOrder). list_any (eq_by_cmp key_cmp key) (keys_of dimensions query row) in
          let own = rows_at dimensions query key so_far in
          let within = slots.within found.0 slot found.1 in
          let tally : tally_at (get_or columns k column).items slot ≡ tally_of (map number own) =
          tallies-one aggs columns slot own (tallied.each found.0 slot found.1) k h default column in (
            omega (
              arith,
              within,
              All-at (λ (column : Vec Tally Global). length entries ≤ length column.items) columns
                  long k (omega (arith, h, count)) column,
            ),
            ap (λ tally. can_add tally (length rows) (aggregate_size agg (rows_with_slots rows group_slots))) tally
                ∙ fits-can_add (tally_of (map number own)) (length rows)
                (aggregate_size agg (rows_with_slots rows group_slots))
                (omega (
                  arith,
                  foldable.few,
                  length-append so_far rows,
                  length-map own number,
                  length-filter-le q (filter p so_far),
                  length-filter-le p so_far,
                ))
                (omega (
                  arith,
                  nat_abs-total number own,
                  sum_by-filter size q (filter p so_far),
                  sum_by-filter size p so_far,
                  total,
                  both,
                  front,
                )),
          );
    }

-- ==== What a fold keeps, and what it represents: as it begins, with more slots, and with more rows.

-- group_slots say nothing of the kind of a query
AreGroupSlots-finest : (dimensions : DimRows) (query : Query) (entries : List (ℕ × ℕ)) (rows : List LineOrder)
    (group_slots : List (Option ℕ)) → AreGroupSlots dimensions query entries rows group_slots
    → AreGroupSlots dimensions (finest query) entries rows group_slots
AreGroupSlots-finest dimensions query entries [] [] are = tt
AreGroupSlots-finest dimensions query entries [] (group_slot ∷ group_slots) are = absurd are
AreGroupSlots-finest dimensions query entries (row ∷ rows) [] are = absurd are
AreGroupSlots-finest dimensions query entries (row ∷ rows) (None ∷ group_slots) are =
    (are.0, AreGroupSlots-finest dimensions query entries rows group_slots are.1)
AreGroupSlots-finest dimensions query entries (row ∷ rows) (Some slot ∷ group_slots) are =
    (are.0, AreGroupSlots-finest dimensions query entries rows group_slots are.1)

-- tallies over no row are over no row alone
no_rows : (aggs : List Agg) (rows : List LineOrder) → 1 ≤ length aggs → tallies_of aggs [] ≡ tallies_of aggs rows
    → rows ≡ []
no_rows [] rows some same = absurd (omega (arith, some))
no_rows (agg ∷ aggs) [] some same = refl
no_rows (agg ∷ aggs) (row ∷ rows) some same =
    let seen : false ≡ true = ap is_seen same ∙ some_seen (agg ∷ aggs) row rows in
    absurd (cc seen)

-- whether a key is that of a number below a bound
which_number : (dimensions : DimRows) (columns : List Attr) (key : List Member) (bound : ℕ)
    → ((number : ℕ) × (number < bound) × (group_key_at dimensions columns number ≡ key))
    ⊎ ((number : ℕ) → number < bound → group_key_at dimensions columns number ≡ key → ⊥)
which_number dimensions columns key zero = inr (λ number h same. absurd (omega (arith, h)))
which_number dimensions columns key (suc bound) =
    elim (which_number dimensions columns key bound) [
      | inl found ↦ inl (found.0, omega (arith, found.1), found.2)
      | inr absent ↦
          (elim (eq_by_cmp key_cmp (group_key_at dimensions columns bound) key) as
          (λ b. eq_by_cmp key_cmp (group_key_at dimensions columns bound) key ≡ b
          → ((number : ℕ) × (number < suc bound) × (group_key_at dimensions columns number ≡ key))
          ⊎ ((number : ℕ) → number < suc bound → group_key_at dimensions columns number ≡ key → ⊥)) [
            | true ↦ λ equal. inl (bound, omega arith, key_eq-true (group_key_at dimensions columns bound) key equal)
            | false ↦ λ unequal. inr (λ number h same. elim (cases_lt number bound) [
              | inl below ↦ absent number below same
              | inr above ↦
                  let here : number ≡ bound = omega (arith, h, above) in
                  let equal : eq_by_cmp key_cmp (group_key_at dimensions columns bound) key ≡ true =
                  ap (eq_by_cmp key_cmp (group_key_at dimensions columns bound))
                  (sym same ∙ ap (group_key_at dimensions columns) here)
                  ∙ key_eq-same (group_key_at dimensions columns bound) in
                  cc (equal, unequal)
            ])
          ]) refl
    ]

-- what a fold shows of what it keeps
abbrev pub shown : GroupNumbers → Slots → List (Vec Tally Global) → FoldState
shown grouping slots columns =
    record { query = query_of grouping; grouping = grouping; tallies = all_tallies grouping slots columns }

module _ (dimensions : DimRows) (grouping : GroupNumbers) (over : IsGroupNumbersOver dimensions grouping) where
  made : IsGroupNumbersOf dimensions grouping
  made = grouping_of_over dimensions grouping over

  -- what it shows at a number
  shown_at : (slots : Slots) (columns : List (Vec Tally Global)) (number : ℕ)
      → number < group_count dimensions (query_of grouping).columns
      → get_or (all_tallies grouping slots columns) number [] ≡ tallies_in (query_of grouping) slots columns number
  shown_at slots columns number h =
      get_or-map-range_with_len (tallies_in (query_of grouping) slots columns) 0 (count_of grouping) number number []
      (omega (arith, h, made.counted)) (omega arith)

  -- ---- bounds of the query are those of the dimensions
  module _ (slots : Slots) (columns : List (Vec Tally Global)) (kept : IsKept grouping slots columns) where
    pub kept_numbers : AreSlots (group_count dimensions (query_of grouping).columns) (entries_of slots)
    kept_numbers = subst (λ n. AreSlots n (entries_of slots)) made.counted kept.numbers

    pub kept_cover : Cover (group_count dimensions (query_of grouping).columns) slots
    kept_cover = subst (λ n. Cover n slots) made.counted kept.cover

    -- ---- rows that it represents
    pub tallied_for : (rows : List LineOrder) → RepresentsRows dimensions (shown grouping slots columns) rows
        → AreTallied dimensions (finest (query_of grouping)) (entries_of slots) columns rows
    tallied_for rows represents =
        let query = query_of grouping in
        let aggs = query.aggregates in
        let entries = entries_of slots in
        let bound = group_count dimensions query.columns in
        record {
          each = λ number slot found.
              let below = kept_numbers.below number slot found in
              sym (shown_at slots columns number below ∙ ap (tallies_or_none query columns) found)
              ∙ represents.each number below;
          others = λ key absent. elim (which_number dimensions query.columns key bound) [
            | inl found ↦
                (elim (slot_of entries found.0) as (λ o. slot_of entries found.0 ≡ o
                → rows_at dimensions (finest query) key rows ≡ []) [
                  | None ↦ λ e.
                      let same : tallies_of aggs []
                      ≡ tallies_of aggs
                      (rows_at dimensions (finest query) (group_key_at dimensions query.columns found.0) rows) =
                      sym (shown_at slots columns found.0 found.1 ∙ ap (tallies_or_none query columns) e)
                      ∙ represents.each found.0 found.1 in
                      ap (λ k. rows_at dimensions (finest query) k rows) (sym found.2)
                      ∙ no_rows aggs
                      (rows_at dimensions (finest query) (group_key_at dimensions query.columns found.0) rows)
                      kept.proper.some_aggregate same
                  | Some slot ↦ λ e. absurd (absent found.0 slot e found.2)
                ]) refl
            | inr none ↦ represents.others key none
          ];
          fresh = kept.fresh;
        }

  pub represents_for : (slots : Slots) (columns : List (Vec Tally Global)) (rows : List LineOrder)
      → AreSlots (group_count dimensions (query_of grouping).columns) (entries_of slots)
      → AreTallied dimensions (finest (query_of grouping)) (entries_of slots) columns rows
      → RepresentsRows dimensions (shown grouping slots columns) rows
  represents_for slots columns rows numbers tallied =
      let query = query_of grouping in
      let aggs = query.aggregates in
      let entries = entries_of slots in
      let key_of = group_key_at dimensions query.columns in
      record {
        over = over;
        each = λ number h. shown_at slots columns number h ∙
            (elim (slot_of entries number) as (λ o. slot_of entries number ≡ o
            → tallies_or_none query columns o
            ≡ tallies_of aggs (rows_at dimensions (finest query) (key_of number) rows)) [
              | None ↦ λ e.
                  let none : rows_at dimensions (finest query) (key_of number) rows ≡ [] =
                  tallied.others (key_of number) (λ other slot taken one.
                  let is : other ≡ number =
                  keys_apart dimensions query.columns made.rising other number (numbers.below other slot taken) h
                  one in
                  let there : slot_of entries number ≡ Some slot = ap (slot_of entries) (sym is) ∙ taken in
                  cc (there, e)) in
                  ap (tallies_of aggs) (sym none)
              | Some slot ↦ λ e. tallied.each number slot e
            ]) refl;
        others = λ key none. tallied.others key
            (λ number slot found same. none number (numbers.below number slot found) same);
      }

  -- ---- as it begins
  pub begun : (slots : Slots) (columns : List (Vec Tally Global))
      → AreSlots (group_count dimensions (query_of grouping).columns) (entries_of slots)
      → ((slot : ℕ) → tallies_at columns slot ≡ tallies_of (query_of grouping).aggregates [])
      → RepresentsRows dimensions (shown grouping slots columns) []
  begun slots columns numbers none = represents_for slots columns [] numbers (record {
    each = λ number slot found. none slot;
    others = λ key absent. refl;
    fresh = λ slot h. none slot;
  })

  -- ---- over its dimensions
  pub fold_over : (slots : Slots) (columns : List (Vec Tally Global)) → IsKept grouping slots columns
      → IsFold dimensions (query_of grouping) slots columns
  fold_over slots columns kept = record {
    proper = kept.proper;
    rising = made.rising;
    numbers = kept_numbers slots columns kept;
    cover = kept_cover slots columns kept;
    count = tallies-length (query_of grouping).aggregates columns (length (entries_of slots)) []
        (kept.fresh (length (entries_of slots)) (omega arith));
  }

  -- ---- with more slots
  module _ (old : Slots) (columns : List (Vec Tally Global)) (kept : IsKept grouping old columns) (new : Slots)
      (longer : List (Vec Tally Global)) (cover : Cover (group_count dimensions (query_of grouping).columns) new)
      (grow : Grow (group_count dimensions (query_of grouping).columns) (entries_of old) (entries_of new))
      (same : (slot : ℕ) → tallies_at longer slot ≡ tallies_at columns slot) where
    pub kept_ready : IsKept grouping new longer
    kept_ready = record {
      proper = kept.proper;
      numbers = subst (λ n. AreSlots n (entries_of new)) (sym made.counted) grow.slots;
      cover = subst (λ n. Cover n new) (sym made.counted) cover;
      fresh = λ slot h. same slot ∙ kept.fresh slot (omega (arith, h, grow.longer));
    }

    -- it has the same tallies at each number
    same_at : (number : ℕ)
        → tallies_in (query_of grouping) new longer number ≡ tallies_in (query_of grouping) old columns number
    same_at number =
        let query = query_of grouping in
        let tallies = tallies_or_none query columns in
        (elim (slot_of (entries_of new) number) as (λ o. slot_of (entries_of new) number ≡ o
        → tallies_or_none query longer o ≡ tallies (slot_of (entries_of old) number)) [
          | None ↦ λ e.
              (elim (slot_of (entries_of old) number) as (λ o. slot_of (entries_of old) number ≡ o
              → tallies_of query.aggregates [] ≡ tallies o) [
                | None ↦ λ before. refl
                | Some slot ↦ λ before. (let kept_slot = grow.keep number slot before in absurd (cc (kept_slot, e)))
              ]) refl
          | Some slot ↦ λ e. same slot ∙ elim (grow.fresh number slot e) [
            | inl before ↦ sym (ap tallies before)
            | inr added ↦ kept.fresh slot added.1 ∙ sym (ap tallies added.0)
          ]
        ]) refl

    pub shown_ready : shown grouping new longer ≡ shown grouping old columns
    shown_ready = λ i. record {
      query = query_of grouping;
      grouping = grouping;
      tallies = map (λ number. same_at number i) (range_with_len 0 (count_of grouping));
    }

    tallied_ready : (rows : List LineOrder)
        → AreTallied dimensions (finest (query_of grouping)) (entries_of old) columns rows
        → AreTallied dimensions (finest (query_of grouping)) (entries_of new) longer rows
    tallied_ready rows tallied =
        AreTallied-grow dimensions (finest (query_of grouping)) (entries_of old) (entries_of new) columns longer rows
        made.rising (kept_numbers old columns kept) grow same tallied

    -- ---- and with more rows
    module _ (rows : List LineOrder) (group_slots : List (Option ℕ))
        (group_slots_are : AreGroupSlots dimensions (query_of grouping) (entries_of new) rows group_slots) where
      pub HaveRoom-ready : (so_far : List LineOrder) → RepresentsRows dimensions (shown grouping old columns) so_far
          → AreFoldable dimensions (so_far ++ rows)
          → AllByRecursion (λ column. length (entries_of new) ≤ length column.items) longer
          → HaveRoom (query_of grouping).aggregates longer rows group_slots
      HaveRoom-ready so_far represents foldable long =
          HaveRoom-foldable dimensions (finest (query_of grouping)) (entries_of new) longer so_far rows group_slots
          grow.slots
          (AreGroupSlots-finest dimensions (query_of grouping) (entries_of new) rows group_slots group_slots_are) long
          foldable
          (tallied_ready so_far (tallied_for old columns kept so_far represents))

      module _ (counted : List (Vec Tally Global))
          (count : CountIn (query_of grouping).aggregates rows group_slots longer counted) where
        tallied_count : (so_far : List LineOrder) → RepresentsRows dimensions (shown grouping old columns) so_far
            → AreTallied dimensions (finest (query_of grouping)) (entries_of new) counted (so_far ++ rows)
        tallied_count so_far represents =
            AreTallied-count dimensions (finest (query_of grouping)) (entries_of new) longer counted so_far rows
            group_slots
            refl made.rising grow.slots
            (AreGroupSlots-finest dimensions (query_of grouping) (entries_of new) rows group_slots group_slots_are)
            count
            (tallied_ready so_far (tallied_for old columns kept so_far represents))

        pub kept_count : IsKept grouping new counted
        kept_count = record {
          proper = kept.proper;
          numbers = kept_ready.numbers;
          cover = kept_ready.cover;
          fresh = λ slot h.
              count slot [] (kept_ready.fresh slot h)
              ∙ ap (tallies_of (query_of grouping).aggregates)
              (slotted-none dimensions (query_of grouping) (group_count dimensions (query_of grouping).columns)
              (entries_of new) grow.slots rows group_slots group_slots_are slot h);
        }

        pub represents_count : (so_far : List LineOrder) → RepresentsRows dimensions (shown grouping old columns) so_far
            → RepresentsRows dimensions (shown grouping new counted) (so_far ++ rows)
        represents_count so_far represents =
            represents_for new counted (so_far ++ rows) grow.slots (tallied_count so_far represents)

-- ==== What a fold of one group represents when the selected rows of a batch were merged in.

-- ---- the slot of the first number
pub can_place : (bound : ℕ) (slots : Slots) → 0 < bound → Cover bound slots → CanPlace slots 0
can_place bound (Direct count) some cover = omega (arith, some, cover)
can_place bound (Below table) some cover = omega (arith, some, cover)
can_place bound (Seen numbers) some cover = tt

below_all : (slot len : ℕ) (columns : List (Vec Tally Global)) → slot < len
    → AllByRecursion (λ column. len ≤ length column.items) columns
    → AllByRecursion (λ column. slot < length column.items) columns
below_all slot len [] below long = tt
below_all slot len (column ∷ columns) below long =
    (omega (arith, below, long.0), below_all slot len columns below long.1)

-- ---- no row changes nothing
pub takes_none : (dimensions : DimRows) (fold : FoldState) → Takes dimensions fold [] fold
takes_none dimensions fold =
    record {
      query = refl;
      represents = λ so_far represents. subst (RepresentsRows dimensions fold)
          (sym (append-nil so_far)) represents;
    }

-- ---- a fold
module _ (dimensions : DimRows) (grouping : GroupNumbers) (over : IsGroupNumbersOver dimensions grouping) (old : Slots)
    (columns : List (Vec Tally Global)) (kept : IsKept grouping old columns)
    (one : has_one_group (query_of grouping) ≡ true)
  where
    abbrev query : Query
    query = query_of grouping

    abbrev bound : ℕ
    bound = group_count dimensions query.columns

    pub place_first : CanPlace old 0
    place_first =
        can_place bound old (one_at_least dimensions query one) (kept_cover dimensions grouping over old columns kept)

    module _ (new : Slots) (longer : List (Vec Tally Global)) (covers : (bound : ℕ) → Cover bound old → Cover bound new)
        (grows : (bound : ℕ) → 0 < bound → AreSlots bound (entries_of old)
        → Grow bound (entries_of old) (entries_of new))
        (same : (slot : ℕ) → tallies_at longer slot ≡ tallies_at columns slot) where
      cover : Cover bound new
      cover = covers bound (kept_cover dimensions grouping over old columns kept)

      grow : Grow bound (entries_of old) (entries_of new)
      grow = grows bound (one_at_least dimensions query one) (kept_numbers dimensions grouping over old columns kept)

      pub shown_one : shown grouping new longer ≡ shown grouping old columns
      shown_one = shown_ready dimensions grouping over old columns kept new longer cover grow same

      pub kept_one : IsKept grouping new longer
      kept_one = kept_ready dimensions grouping over old columns kept new longer cover grow same

      module _ (slot : ℕ) (there : slot_of (entries_of new) 0 ≡ Some slot) where
        pub slot_within : AllByRecursion (λ column. length (entries_of new) ≤ length column.items) longer
            → AllByRecursion (λ column. slot < length column.items) longer
        slot_within long = below_all slot (length (entries_of new)) longer (grow.slots.within 0 slot there) long

        module _ (marks : List Bool) (rows : List LineOrder)
            (marks_are : marks ≡ map (is_selected dimensions query.conditions) rows) where
          abbrev some : List LineOrder
          some = selected_by marks rows

          have : AreGroupSlots dimensions query (entries_of new) some (all_at slot some)
          have = slots_are dimensions query (entries_of new) slot one there marks rows marks_are

          pub room_one : (so_far : List LineOrder) → RepresentsRows dimensions (shown grouping old columns) so_far
              → AreFoldable dimensions (so_far ++ some)
              → AllByRecursion (λ column. length (entries_of new) ≤ length column.items) longer → 0 < length some
              → HaveRoomAt query.aggregates longer slot some
          room_one so_far represents foldable long any =
              room_at query.aggregates longer slot some any
              (HaveRoom-ready dimensions grouping over old columns kept new longer cover grow same some
              (all_at slot some)
              have so_far represents foldable long)

          module _ (merged : List (Vec Tally Global))
              (merged_is : (other : ℕ)
              → tallies_at merged other ≡ tallies_with_rows query.aggregates some slot other (tallies_at longer other))
            where
              counted : CountIn query.aggregates some (all_at slot some) longer merged
              counted = batch_counted query.aggregates some slot longer merged merged_is

              pub kept_batch : IsKept grouping new merged
              kept_batch = kept_count dimensions grouping over old columns kept new longer cover grow same some
                  (all_at slot some) have merged counted

              pub represents_batch : (so_far : List LineOrder)
                  → RepresentsRows dimensions (shown grouping old columns) so_far
                  → RepresentsRows dimensions (shown grouping new merged) (so_far ++ some)
              represents_batch so_far represents =
                  represents_count dimensions grouping over old columns kept new longer cover grow same some
                  (all_at slot some)
                  have merged counted so_far represents

-- ==== What a fold represents when cells were merged in: the rows that they represent.

-- ---- cells that ascend are apart
none_above : (number : ℕ) (cells : List Cell)
    → ((k : ℕ) (d : Cell) → k < length cells → number < key_as_number (get_or cells k d).key)
    → cell_at number cells ≡ None
none_above number [] above = refl
none_above number (cell ∷ cells) above =
    let low = above 0 cell (omega arith) in
    let test : (key_as_number cell.key == number) ≡ false = grind (arith, nat_tests) in
    ap (λ (b : Bool). cond b (Some cell) (cell_at number cells)) test
    ∙ none_above number cells (λ k d h. above (suc k) d (omega (arith, h)))

pub apart : (cells : List Cell) → AreAscending cells → AreApart cells
apart [] up = tt
apart (cell ∷ cells) up = (
  none_above (key_as_number cell.key) cells (λ k d h. up 0 (suc k) d (omega arith) (omega (arith, h))),
  apart cells (λ i j d before h. up (suc i) (suc j) d (omega (arith, before)) (omega (arith, h))),
)

-- ---- rows that have the slots of cells
module _ (dimensions : DimRows) (modes : List (List ℕ)) (view : View) (query : Query) (entries : List (ℕ × ℕ)) where
  -- ---- the cell of a row
  row_found : (number : ℕ) (rows : List LineOrder) (row : LineOrder) → Contains rows row
      → key_as_number (key_of dimensions modes view row) ≡ number
      → cell_over dimensions modes view (rows_of_number dimensions modes view number rows) ≡ None → ⊥
  row_found number [] row there own none = absurd (omega (arith, there.1))
  row_found number (first ∷ rows) row (zero, within, is) own none =
      let test : (key_as_number (key_of dimensions modes view first) == number) ≡ true =
      (let same : key_as_number (key_of dimensions modes view first) ≡ number =
      ap (λ (r : LineOrder). key_as_number (key_of dimensions modes view r)) is ∙ own in grind (arith, nat_tests)) in
      let some : cell_over dimensions modes view (first ∷ rows_of_number dimensions modes view number rows) ≡ None =
      sym (ap (λ (b : Bool). cell_over dimensions modes view
      (cond b (first ∷ rows_of_number dimensions modes view number rows)
      (rows_of_number dimensions modes view number rows)))
      test) ∙ none in
      absurd (cc some)
  row_found number (first ∷ rows) row (suc k, within, is) own none =
      (elim (key_as_number (key_of dimensions modes view first) == number) as
      (λ b. cell_over dimensions modes view
      (cond b (first ∷ rows_of_number dimensions modes view number rows)
      (rows_of_number dimensions modes view number rows))
      ≡ None → ⊥) [
        | true ↦ λ some. absurd (cc some)
        | false ↦ λ still. row_found number rows row (k, omega (arith, within), is) own still
      ]) none

  module _ (storable : AreStorable dimensions) (serves : Serves view query) (cells : List Cell)
      (group_slots : List (Option ℕ))
      (have : (number : ℕ) (found : Cell) → cell_at number cells ≡ Some found
      → HasSlot dimensions modes view query entries number (slot_by cells group_slots number)) (rows : List LineOrder)
      (represent : RepresentRows dimensions modes rows (record { view = view; cells = cells })) where
    abbrev pub slot_of_row : LineOrder → Option ℕ
    slot_of_row row = slot_by cells group_slots (key_as_number (key_of dimensions modes view row))

    row_slot : (row : LineOrder) → Contains rows row → IsGroupSlot dimensions query entries row (slot_of_row row)
    row_slot row there =
        let number = key_as_number (key_of dimensions modes view row) in
        let members : HasMembers dimensions modes view row =
        subst (HasMembers dimensions modes view) there.2 (represent.known there.0 row there.1) in
        (elim (cell_at number cells) as (λ o. cell_at number cells ≡ o
        → IsGroupSlot dimensions query entries row (slot_of_row row)) [
          | None ↦ λ e. absurd (row_found number rows row there refl (sym (represent.group number) ∙ e))
          | Some found ↦ λ e. turned row members (have number found e)
        ]) refl
      where
        turned : (row : LineOrder) → HasMembers dimensions modes view row
            → HasSlot dimensions modes view query entries (key_as_number (key_of dimensions modes view row))
            (slot_of_row row) → IsGroupSlot dimensions query entries row (slot_of_row row)
        turned row members has =
            (elim (slot_of_row row) as (λ o. IsGroupSlot dimensions query entries has.row o
            → IsGroupSlot dimensions query entries row o) [
              | None ↦ λ is. one_group dimensions storable modes view query has.row row None serves has.members members
                  has.number_is is
              | Some slot ↦ λ is. (
                is.0,
                one_group dimensions storable modes view query has.row row (Some is.0) serves has.members members
                    has.number_is is.1,
                is.2,
              )
            ]) has.slot

    all_slots : (part : List LineOrder) → ((row : LineOrder) → Contains part row → Contains rows row)
        → AreGroupSlots dimensions query entries part (map slot_of_row part)
    all_slots [] among = tt
    all_slots (row ∷ part) among = (
      row_slot row (among row (zero, omega arith, refl)),
      all_slots part (λ other there. among other (suc there.0, omega (arith, there.1), there.2)),
    )

    pub rows_have_slots : AreGroupSlots dimensions query entries rows (map slot_of_row rows)
    rows_have_slots = all_slots rows (λ row there. there)

    pub rows_counted : (aggs : List Agg) (longer merged : List (Vec Tally Global)) → length group_slots ≡ length cells
        → ((slot : ℕ) → tallies_at merged slot ≡ with_cells aggs slot cells group_slots (tallies_at longer slot))
        → CountIn aggs rows (map slot_of_row rows) longer merged
    rows_counted aggs longer merged same is slot before reads =
        is slot ∙ ap (with_cells aggs slot cells group_slots) reads ∙ each aggs
      where
        each : (aggs : List Agg) → with_cells aggs slot cells group_slots (tallies_of aggs before)
            ≡ tallies_of aggs (before ++ slotted slot rows (map slot_of_row rows))
        each [] = refl
        each (agg ∷ aggs) =
            let one = cells_are_rows dimensions modes view agg slot cells group_slots rows before same represent.group
            (apart cells represent.ascending)
            ∙ sym (ap (λ (more : List LineOrder). tally_over agg (before ++ more))
            (slotted-filter slot slot_of_row rows)) in
            λ i. one i ∷ each aggs i

-- tallies over some of the rows so far have room for the cells that represent others
module _ (dimensions : DimRows) (modes : List (List ℕ)) (plain : PlainCells) (so_far rows : List LineOrder)
    (represent : RepresentRows dimensions modes rows plain) (foldable : AreFoldable dimensions (so_far ++ rows))
    (own : List LineOrder) (fewer : length own ≤ length so_far)
    (smaller : (agg : Agg) → aggregate_size agg own ≤ aggregate_size agg so_far) where
  room_for : (agg : Agg) → HasRoomForCells agg plain.cells (tally_of (map (aggregated agg) own))
  room_for agg =
      let number = aggregated agg in
      let up = apart plain.cells represent.ascending in
      let counts = counts-rows dimensions modes plain.view plain.cells rows represent.group up in
      let sizes = sizes-rows dimensions modes plain.view agg plain.cells rows represent.group up in
      let total = range_of_agg (so_far ++ rows) foldable.in_range agg in
      let sums = sum_by-append (λ (row : LineOrder). nat_abs (number row)) so_far rows in
      record {
        few = omega (arith, foldable.few, length-append so_far rows, length-map own number, fewer, counts);
        small = omega (arith, nat_abs-total number own, smaller agg, total, sums, sizes);
      }

  pub rooms_for : (aggs : List Agg) → HaveRoomFor aggs plain.cells (tallies_of aggs own)
  rooms_for [] = tt
  rooms_for (agg ∷ aggs) = (room_for agg, rooms_for aggs)

-- ---- a fold
module _ (dimensions : DimRows) (grouping : GroupNumbers) (over : IsGroupNumbersOver dimensions grouping) (old : Slots)
    (columns : List (Vec Tally Global)) (kept : IsKept grouping old columns) (new : Slots)
    (cover : Cover (group_count dimensions (query_of grouping).columns) new)
    (grow : Grow (group_count dimensions (query_of grouping).columns) (entries_of old) (entries_of new)) where
  abbrev as_they_are : (slot : ℕ) → tallies_at columns slot ≡ tallies_at columns slot
  as_they_are slot = refl

  -- with more slots it represents what it represented
  pub shown_with_slots : shown grouping new columns ≡ shown grouping old columns
  shown_with_slots = shown_ready dimensions grouping over old columns kept new columns cover grow as_they_are

  pub kept_with_slots : IsKept grouping new columns
  kept_with_slots = kept_ready dimensions grouping over old columns kept new columns cover grow as_they_are

  -- whatever was merged in at the slots
  pub kept_after : (merged : List (Vec Tally Global))
      → ((slot : ℕ) → length (entries_of new) ≤ slot → tallies_at merged slot ≡ tallies_at columns slot)
      → IsKept grouping new merged
  kept_after merged same = record {
    proper = kept_with_slots.proper;
    numbers = kept_with_slots.numbers;
    cover = kept_with_slots.cover;
    fresh = λ slot h. same slot h ∙ kept_with_slots.fresh slot h;
  }

  module _ (modes : List (List ℕ)) (plain : PlainCells) where
    module _ (merged : List (Vec Tally Global))
        (are : AreMergedIn (asked_of dimensions (query_of grouping) plain.view modes) (query_of grouping).aggregates
        (entries_of new) plain.cells columns merged) where
      slots_below : SlotsAreBelow (length (entries_of new)) are.group_slots
      slots_below place slot at =
          let found = AreGroupSlots-at dimensions (query_of grouping) (entries_of new) are.slots.rows are.group_slots
          are.slots.slots place slot at in
          grow.slots.within found.0 slot found.1

      pub kept_merged : IsKept grouping new merged
      kept_merged =
          let aggs = (query_of grouping).aggregates in
          record {
            proper = kept_with_slots.proper;
            numbers = kept_with_slots.numbers;
            cover = kept_with_slots.cover;
            fresh = λ slot h. are.merged slot
                ∙ ap (with_cells aggs slot plain.cells are.group_slots) (kept_with_slots.fresh slot h)
                ∙ all_untouched aggs slot (length (entries_of new)) plain.cells are.group_slots [] slots_below h;
          }

    pub represents_wanted : (merged : List (Vec Tally Global))
        → AreWantedMerged (asked_of dimensions (query_of grouping) plain.view modes) (query_of grouping).aggregates
        (entries_of new) plain.cells columns merged
        → AreStorable dimensions → Serves plain.view (query_of grouping) → (rows : List LineOrder)
        → RepresentRows dimensions modes rows plain
        → (so_far : List LineOrder) → RepresentsRows dimensions (shown grouping old columns) so_far
        → RepresentsRows dimensions (shown grouping new merged) (so_far ++ rows)
    represents_wanted merged are storable serves rows represent so_far represents =
        let query = query_of grouping in
        let asked = asked_of dimensions query plain.view modes in
        let entries = entries_of new in
        let own = are.merged in
        let group_slots = slots_for asked plain.cells are.wanted are.out own.group_slots in
        let count = cell_slots-length asked entries are.wanted own.group_slots own.slots in
        let rows_there = λ (cell : Cell) (among : Contains plain.cells cell). row_of_cell dimensions modes plain rows
        (HasMembers dimensions modes plain.view) cell represent represent.known among in
        let have = λ (number : ℕ) (found : Cell) (is : cell_at number plain.cells ≡ Some found).
        wanted_slot asked entries plain.cells are.wanted are.out own.slots.rows own.group_slots number found
        own.slots.represent own.slots.slots rows_there is in
        let slots = rows_have_slots dimensions modes plain.view query entries storable serves plain.cells group_slots
        have
        rows represent in
        let counted = rows_counted dimensions modes plain.view query entries storable serves plain.cells group_slots
        have
        rows represent query.aggregates columns merged
        (slots_for-length asked plain.cells are.wanted are.out own.group_slots)
        (λ slot. own.merged slot ∙ sym
        (with_wanted asked slot plain.cells are.wanted are.out own.group_slots count query.aggregates
        (tallies_at columns slot))) in
        represents_count dimensions grouping over old columns kept new columns cover grow as_they_are rows
        (map (slot_of_row dimensions modes plain.view query entries storable serves plain.cells group_slots have rows
        represent) rows) slots merged counted so_far represents

    pub represents_merged : (merged : List (Vec Tally Global))
        → AreMergedIn (asked_of dimensions (query_of grouping) plain.view modes) (query_of grouping).aggregates
        (entries_of new)
        plain.cells columns merged
        → AreStorable dimensions → Serves plain.view (query_of grouping) → (rows : List LineOrder)
        → RepresentRows dimensions modes rows plain
        → (so_far : List LineOrder) → RepresentsRows dimensions (shown grouping old columns) so_far
        → RepresentsRows dimensions (shown grouping new merged) (so_far ++ rows)
    represents_merged merged are =
        represents_wanted merged (record {
          wanted = plain.cells;
          out = leaves_none (asked_of dimensions (query_of grouping) plain.view modes)
              plain.cells;
          merged = are;
        })

    pub room_for_cells : (rows : List LineOrder) → RepresentRows dimensions modes rows plain → (so_far : List LineOrder)
        → RepresentsRows dimensions (shown grouping old columns) so_far → AreFoldable dimensions (so_far ++ rows)
        → GroupsHaveRoomFor (entries_of new) (query_of grouping).aggregates plain.cells columns
    room_for_cells rows represent so_far represents foldable number slot found =
        let query = finest (query_of grouping) in
        let made = grouping_of_over dimensions grouping over in
        let tallied = AreTallied-grow dimensions query (entries_of old) (entries_of new) columns columns so_far
        made.rising (kept_numbers dimensions grouping over old columns kept) grow as_they_are
        (tallied_for dimensions grouping over old columns kept so_far represents) in
        let p = is_selected dimensions query.conditions in
        let key = group_key_at dimensions query.columns number in
        let q = λ (row : LineOrder). list_any (eq_by_cmp key_cmp key) (keys_of dimensions query row) in
        let size = λ (agg : Agg) (row : LineOrder). nat_abs (aggregated agg row) in
        let own = rows_at dimensions query key so_far in
        subst (HaveRoomFor query.aggregates plain.cells) (sym (tallied.each number slot found))
        (rooms_for dimensions modes plain so_far rows represent foldable own
        (omega (arith, length-filter-le q (filter p so_far), length-filter-le p so_far))
        (λ agg. omega (arith, sum_by-filter (size agg) q (filter p so_far), sum_by-filter (size agg) p so_far))
        query.aggregates)
