-- The selected rows of a batch in the one group of a query.
use Rattle.std.proofs.Common.{◌≡◌, ◌≢◌, ◌∙◌, sym, ap, refl, subst, ℕ, zero, suc, ◌+◌, ◌<◌, ◌≤◌, ◌^◌, ◌&&◌, ◌==◌, Bool}
use Rattle.std.proofs.Common.{true, false, cond, Some, List, [], ◌∷◌, ◌++◌, map, length, take, get_or, arith}
use Rattle.std.proofs.Common.{append-nil}
use Rattle.std.specs.Prelude.{nat_abs, nat_le, nat_lt, slice_set}
use Rattle.std.specs.List.{All, count_by, filter, list_all}
use Rattle.std.specs.declared.alloc.Global.{Global}
use Rattle.std.specs.declared.vec.Vec.{Vec}
use Rattle.std.proofs.lemmas.Bool.Decides.{nat_tests}
use Rattle.std.proofs.lemmas.List.{length-map, map-append, take_more, get_or-set_same, get_or-set_other}
use Rattle.cube_model.specs.Keys.{key_under}
use Rattle.cube_model.specs.Selection.{is_selected}
use Rattle.cube_model.specs.declared.attr.Attr.{Attr}
use Rattle.cube_model.specs.declared.measure.Agg.{Agg}
use Rattle.cube_model.specs.declared.query.Cond.{Cond}
use Rattle.cube_model.specs.declared.query.Cond.TheVariants.{OneOf, Between, Quantity, Discount}
use Rattle.cube_model.specs.declared.query.Query.{Query}
use Rattle.cube_model.specs.declared.rows.DimRows.{DimRows}
use Rattle.cube_model.specs.declared.rows.LineOrder.{LineOrder}
use Rattle.column_kernels.specs.Masks.{selected_by}
use Rattle.column_kernels.proofs.CallerLemmas.{count_selected}
use Rattle.column_segment.specs.Projected.{HaveSmallFigures}
use Rattle.group_numbers.specs.Numbers.{group_count, group_key_at}
use Rattle.group_numbers.specs.Parts.{holds_in}
use Rattle.group_numbers.specs.GroupNumbers.{AreBounds}
use Rattle.group_numbers.specs.declared.bounds.Bounds.{Bounds}
use Rattle.cube_query.specs.Chosen.{KeepSelected, lies_within}
use Rattle.group_tallies.specs.Columns.{can_add, rows_with_slots, no_tally, aggregate_size, slotted, tallies_at}
use Rattle.group_tallies.specs.Columns.{tally_at}
use Rattle.group_tallies.specs.FoldInvariant.{AreGroupSlots, CountIn, HaveRoom, IsGroupSlot}
use Rattle.group_tallies.specs.Slots.{slot_of}
use Rattle.group_tallies.specs.Tallies.{merged_tally, aggregated, tallies_of, tally_of}
use Rattle.cube_query.specs.WholeBatch.{HaveRoomAt, all_at, has_one_group, is_on_row, tallies_with_rows}
use Rattle.group_tallies.specs.declared.tally.Tally.{Tally}
use Rattle.group_tallies.proofs.MergeLaws.{tally_of-append}

-- ---- what the conditions of the query say
and_left : (a b : Bool) → (a && b) ≡ true → a ≡ true
and_left true b e = refl
and_left false b e = e

and_right : (a b : Bool) → (a && b) ≡ true → b ≡ true
and_right true b e = e
and_right false b e = absurd (cc e)

no_columns : (columns : List Attr) → (length columns == 0) ≡ true → columns ≡ []
no_columns [] none = refl
no_columns (column ∷ columns) none =
    let some : (length (column ∷ columns) == 0) ≡ false = grind (arith, nat_tests) in
    absurd (cc (some, none))

pub columns_none : (query : Query) → has_one_group query ≡ true → query.columns ≡ []
columns_none query one =
    no_columns query.columns (and_left (length query.columns == 0) (list_all is_on_row query.conditions) one)

pub conditions_on_rows : (query : Query) → has_one_group query ≡ true → list_all is_on_row query.conditions ≡ true
conditions_on_rows query one = and_right (length query.columns == 0) (list_all is_on_row query.conditions) one

on_row : (dimensions : DimRows) (row : LineOrder) (conditions : List Cond) → list_all is_on_row conditions ≡ true
    → list_all (holds_in row) conditions ≡ is_selected dimensions conditions row
on_row dimensions row [] all = refl
on_row dimensions row (OneOf attr texts ∷ conditions) all = absurd (cc all)
on_row dimensions row (Between attr low high ∷ conditions) all = absurd (cc all)
on_row dimensions row (Quantity low high ∷ conditions) all =
    ap (λ (b : Bool). (nat_le low row.quantity && nat_le row.quantity high) && b) (on_row dimensions row conditions all)
on_row dimensions row (Discount low high ∷ conditions) all =
    ap (λ (b : Bool). (nat_le low row.discount && nat_le row.discount high) && b) (on_row dimensions row conditions all)

and_assoc : (a b c : Bool) → (a && b) && c ≡ a && (b && c)
and_assoc true b c = refl
and_assoc false b c = refl

same_marks : (p q : LineOrder → Bool) (rows : List LineOrder)
    → ((row : LineOrder) → (row.quantity < 256) × (row.discount < 256) → p row ≡ q row)
    → All (λ row. row.quantity < 256) rows → All (λ row. row.discount < 256) rows → map p rows ≡ map q rows
same_marks p q [] same quantities discounts = refl
same_marks p q (row ∷ rows) same quantities discounts =
    let first = same row (quantities 0 row (omega arith), discounts 0 row (omega arith)) in
    let rest = same_marks p q rows same (λ k d h. quantities (suc k) d (omega (arith, h)))
    (λ k d h. discounts (suc k) d (omega (arith, h))) in
    λ i. first i ∷ rest i

-- the bounds tell the selected rows
pub bounds_tell : (dimensions : DimRows) (conditions : List Cond) (bounds : Bounds) (rows : List LineOrder)
    → list_all is_on_row conditions ≡ true → AreBounds conditions bounds → HaveSmallFigures rows
    → map (lies_within bounds) rows ≡ map (is_selected dimensions conditions) rows
bounds_tell dimensions conditions bounds rows all are fit =
    same_marks (lies_within bounds) (is_selected dimensions conditions) rows
    (λ row small.
    and_assoc (nat_le bounds.least_quantity row.quantity) (nat_le row.quantity bounds.greatest_quantity) _
    ∙ are row small.0 small.1 ∙ on_row dimensions row conditions all)
    fit.quantities fit.discounts

-- ---- the selected rows
selected_twice : (p : LineOrder → Bool) (rows : List LineOrder)
    → filter p (selected_by (map p rows) rows) ≡ filter p rows
selected_twice p [] = refl
selected_twice p (row ∷ rows) =
    (elim (p row) as
    (λ b. p row ≡ b → filter p (selected_by (b ∷ map p rows) (row ∷ rows))
    ≡ cond b (row ∷ filter p rows) (filter p rows)) [
      | true ↦ λ is. ap
          (λ (b : Bool). cond b (row ∷ filter p (selected_by (map p rows) rows))
          (filter p (selected_by (map p rows) rows)))
          is ∙ ap (λ (l : List LineOrder). row ∷ l) (selected_twice p rows)
      | false ↦ λ is. selected_twice p rows
    ]) refl

pub mask_keeps : (dimensions : DimRows) (conditions : List Cond) (marks : List Bool) (rows : List LineOrder)
    → marks ≡ map (is_selected dimensions conditions) rows
    → KeepSelected dimensions conditions (selected_by marks rows) rows
mask_keeps dimensions conditions marks rows is = record {
  part = (marks, refl);
  same = ap (λ (l : List Bool). filter (is_selected dimensions conditions) (selected_by l rows)) is
      ∙ selected_twice (is_selected dimensions conditions) rows;
}

-- ---- they have one slot
first_key : (dimensions : DimRows) (row : LineOrder) (columns : List Attr) → columns ≡ []
    → (0 < group_count dimensions columns)
    × (group_key_at dimensions columns 0 ≡ key_under dimensions row columns (map (λ _. true) columns))
first_key dimensions row [] none = (omega arith, refl)
first_key dimensions row (column ∷ columns) none = absurd (cc none)

pub one_at_least : (dimensions : DimRows) (query : Query) → has_one_group query ≡ true
    → 0 < group_count dimensions query.columns
one_at_least dimensions query one =
    subst (λ (columns : List Attr). 0 < group_count dimensions columns) (sym (columns_none query one)) (omega arith)

module _ (dimensions : DimRows) (query : Query) (entries : List (ℕ × ℕ)) (slot : ℕ) (one : has_one_group query ≡ true)
    (there : slot_of entries 0 ≡ Some slot) where
  abbrev p : LineOrder → Bool
  p = is_selected dimensions query.conditions

  row_slot : (row : LineOrder) → p row ≡ true → IsGroupSlot dimensions query entries row (Some slot)
  row_slot row is =
      let key = first_key dimensions row query.columns (columns_none query one) in
      (0, (is, key.0, key.1), there)

  slots_of : (rows : List LineOrder)
      → AreGroupSlots dimensions query entries (selected_by (map p rows) rows)
      (all_at slot (selected_by (map p rows) rows))
  slots_of [] = tt
  slots_of (row ∷ rows) =
      (elim (p row) as
      (λ b. p row ≡ b
      → AreGroupSlots dimensions query entries (selected_by (b ∷ map p rows) (row ∷ rows))
      (all_at slot (selected_by (b ∷ map p rows) (row ∷ rows)))) [
        | true ↦ λ is. (row_slot row is, slots_of rows)
        | false ↦ λ is. slots_of rows
      ]) refl

  pub slots_are : (marks : List Bool) (rows : List LineOrder) → marks ≡ map p rows
      → AreGroupSlots dimensions query entries (selected_by marks rows) (all_at slot (selected_by marks rows))
  slots_are marks rows is =
      subst (λ (l : List Bool). AreGroupSlots dimensions query entries (selected_by l rows)
      (all_at slot (selected_by l rows))) (sym is) (slots_of rows)

-- ---- the tallies with them
slotted_own : (own slot : ℕ) (rows : List LineOrder) → (own == slot) ≡ true → slotted slot rows (all_at own rows) ≡ rows
slotted_own own slot [] is = refl
slotted_own own slot (row ∷ rows) is =
    ap (λ (b : Bool). cond b (row ∷ slotted slot rows (all_at own rows)) (slotted slot rows (all_at own rows))) is
    ∙ ap (λ (l : List LineOrder). row ∷ l) (slotted_own own slot rows is)

slotted_other : (own slot : ℕ) (rows : List LineOrder) → (own == slot) ≡ false
    → slotted slot rows (all_at own rows) ≡ []
slotted_other own slot [] is = refl
slotted_other own slot (row ∷ rows) is =
    ap (λ (b : Bool). cond b (row ∷ slotted slot rows (all_at own rows)) (slotted slot rows (all_at own rows))) is
    ∙ slotted_other own slot rows is

with_own : (aggs : List Agg) (before rows : List LineOrder) (own slot : ℕ) → (own == slot) ≡ true
    → tallies_with_rows aggs rows own slot (tallies_of aggs before) ≡ tallies_of aggs (before ++ rows)
with_own [] before rows own slot is = refl
with_own (agg ∷ aggs) before rows own slot is =
    let first =
    ap (λ (b : Bool). cond b
    (merged_tally (tally_of (map (aggregated agg) before)) (tally_of (map (aggregated agg) rows)))
    (tally_of (map (aggregated agg) before))) is
    ∙ sym (tally_of-append (map (aggregated agg) before) (map (aggregated agg) rows))
    ∙ ap tally_of (sym (map-append (aggregated agg) before rows)) in
    λ i. first i ∷ with_own aggs before rows own slot is i

with_other : (aggs : List Agg) (before rows : List LineOrder) (own slot : ℕ) → (own == slot) ≡ false
    → tallies_with_rows aggs rows own slot (tallies_of aggs before) ≡ tallies_of aggs before
with_other [] before rows own slot is = refl
with_other (agg ∷ aggs) before rows own slot is =
    let first =
    ap (λ (b : Bool). cond b
    (merged_tally (tally_of (map (aggregated agg) before)) (tally_of (map (aggregated agg) rows)))
    (tally_of (map (aggregated agg) before))) is in
    λ i. first i ∷ with_other aggs before rows own slot is i

pub batch_counted : (aggs : List Agg) (rows : List LineOrder) (own : ℕ) (columns new : List (Vec Tally Global))
    → ((slot : ℕ) → tallies_at new slot ≡ tallies_with_rows aggs rows own slot (tallies_at columns slot))
    → CountIn aggs rows (all_at own rows) columns new
batch_counted aggs rows own columns new is slot before reads =
    is slot ∙ ap (tallies_with_rows aggs rows own slot) reads
    ∙ (elim (own == slot) as
    (λ b. (own == slot) ≡ b → tallies_with_rows aggs rows own slot (tallies_of aggs before)
    ≡ tallies_of aggs (before ++ slotted slot rows (all_at own rows))) [
      | true ↦ λ e. with_own aggs before rows own slot e
          ∙ ap (λ (more : List LineOrder). tallies_of aggs (before ++ more)) (sym (slotted_own own slot rows e))
      | false ↦ λ e. with_other aggs before rows own slot e ∙ ap (tallies_of aggs) (sym (append-nil before))
          ∙ ap (λ (more : List LineOrder). tallies_of aggs (before ++ more)) (sym (slotted_other own slot rows e))
    ]) refl

-- ---- one column more
with_rows-append : (rows : List LineOrder) (own slot : ℕ) (aggs : List Agg) (agg : Agg) (tallies : List Tally)
    (tally : Tally) → length tallies ≡ length aggs
    → tallies_with_rows (aggs ++ agg ∷ []) rows own slot (tallies ++ tally ∷ [])
    ≡ tallies_with_rows aggs rows own slot tallies
    ++ cond (own == slot) (merged_tally tally (tally_of (map (aggregated agg) rows))) tally ∷ []
with_rows-append rows own slot [] agg [] tally same = refl
with_rows-append rows own slot [] agg (first ∷ tallies) tally same = absurd (omega (arith, same))
with_rows-append rows own slot (one ∷ aggs) agg [] tally same = absurd (omega (arith, same))
with_rows-append rows own slot (one ∷ aggs) agg (first ∷ tallies) tally same =
    ap (λ (more : List Tally). cond (own == slot) (merged_tally first (tally_of (map (aggregated one) rows))) first
    ∷ more)
    (with_rows-append rows own slot aggs agg tallies tally (omega (arith, same)))

length-take-below : {X : Type 0} (xs : List X) (n : ℕ) → n ≤ length xs → length (take n xs) ≡ n
length-take-below xs zero h = refl
length-take-below [] (suc n) h = absurd (omega (arith, h))
length-take-below (x ∷ xs) (suc n) h = ap suc (length-take-below xs n (omega (arith, h)))

pub one_column : (rows : List LineOrder) (own slot : ℕ) (aggs : List Agg)
    (columns merged_so_far : List (Vec Tally Global)) (count : ℕ) (agg : Agg) (column new : Vec Tally Global)
    → length columns ≡ length aggs → count < length columns
    → tallies_at merged_so_far slot ≡ tallies_with_rows (take count aggs) rows own slot
    (tallies_at (take count columns) slot)
    → tally_at new.items slot
    ≡ cond (own == slot)
    (merged_tally (tally_at (get_or columns count column).items slot)
    (tally_of (map (aggregated (get_or aggs count agg)) rows))) (tally_at (get_or columns count column).items slot)
    → tallies_at (merged_so_far ++ new ∷ []) slot ≡ tallies_with_rows (take (count + 1) aggs) rows own slot
    (tallies_at (take (count + 1) columns) slot)
one_column rows own slot aggs columns merged_so_far count agg column new same h so_far is =
    let read = λ (v : Vec Tally Global). tally_at v.items slot in
    map-append read merged_so_far (new ∷ [])
    ∙ (λ i. so_far i ++ is i ∷ [])
    ∙ sym (with_rows-append rows own slot (take count aggs) (get_or aggs count agg)
    (tallies_at (take count columns) slot) (read (get_or columns count column))
    (length-map (take count columns) read ∙ length-take-below columns count (omega (arith, h))
    ∙ sym (length-take-below aggs count (omega (arith, h, same)))))
    ∙ (λ i. tallies_with_rows (sym (take_more aggs count agg (omega (arith, h, same))) i) rows own slot
    (sym (ap (map read) (take_more columns count column h)
    ∙ map-append read (take count columns) (get_or columns count column ∷ [])) i))

-- what is at a place of a list is read there, whatever would be read after its end
pub same_at : {X : Type 0} (xs : List X) (i : ℕ) (d e : X) → i < length xs → get_or xs i d ≡ get_or xs i e
same_at [] i d e h = absurd (omega (arith, h))
same_at (x ∷ xs) zero d e h = refl
same_at (x ∷ xs) (suc i) d e h = same_at xs i d e (omega (arith, h))

-- a tally that is set at a slot is read there alone
pub set_at : (column : List Tally) (own slot : ℕ) (tally : Tally) → own < length column
    → tally_at (slice_set column own (merged_tally (tally_at column own) tally)) slot
    ≡ cond (own == slot) (merged_tally (tally_at column slot) tally) (tally_at column slot)
set_at column own slot tally within =
    let new : Tally = merged_tally (tally_at column own) tally in
    (elim (own == slot) as
    (λ b. (own == slot) ≡ b
    → tally_at (slice_set column own new) slot ≡ cond b (merged_tally (tally_at column slot) tally)
    (tally_at column slot)) [
      | true ↦ λ e.
          (let same : slot ≡ own = grind (arith, nat_tests) in
          ap (tally_at (slice_set column own new)) same ∙ get_or-set_same column own new no_tally within
          ∙ ap (λ (s : ℕ). merged_tally (tally_at column s) tally) (sym same))
      | false ↦ λ e.
          (let apart : slot ≢ own = grind (arith, nat_tests) in get_or-set_other column own slot new no_tally apart)
    ]) refl

-- ---- room for them
chosen_all : (slot : ℕ) (rows : List LineOrder) → rows_with_slots rows (all_at slot rows) ≡ rows
chosen_all slot [] = refl
chosen_all slot (row ∷ rows) = ap (λ (l : List LineOrder). row ∷ l) (chosen_all slot rows)

pub room_at : (aggs : List Agg) (columns : List (Vec Tally Global)) (slot : ℕ) (rows : List LineOrder) → 0 < length rows
    → HaveRoom aggs columns rows (all_at slot rows) → HaveRoomAt aggs columns slot rows
room_at aggs columns slot [] some room k h agg column = absurd (omega (arith, some))
room_at aggs columns slot (row ∷ rows) some room k h agg column =
    let own = get_or aggs k agg in
    let there = (room k h agg column).each 0 slot refl in
    ap (λ (l : List LineOrder). can_add (tally_at (get_or columns k column).items slot) (length (row ∷ rows))
    (aggregate_size own l)) (sym (chosen_all slot (row ∷ rows))) ∙ there.1

pub can_add_parts : (tally : Tally) (count size : ℕ) → can_add tally count size ≡ true → (tally.count + count < 2 ^ 63)
    × (nat_abs tally.sum + size < 2 ^ 63)
can_add_parts tally count size can =
    let few = and_left (nat_lt (tally.count + count) (2 ^ 63)) (nat_lt (nat_abs tally.sum + size) (2 ^ 63)) can in
    let low = and_right (nat_lt (tally.count + count) (2 ^ 63)) (nat_lt (nat_abs tally.sum + size) (2 ^ 63)) can in
    (grind (arith, nat_tests, few), grind (arith, nat_tests, low))

-- ---- whether any row is selected
pub none_selected : (marks : List Bool) (rows : List LineOrder) → length marks ≡ length rows
    → count_by (λ (chosen : Bool). chosen) marks ≡ 0 → selected_by marks rows ≡ []
none_selected marks rows long none = empty (selected_by marks rows) (sym (count_selected marks rows long) ∙ none)
  where
    empty : (list : List LineOrder) → length list ≡ 0 → list ≡ []
    empty [] is = refl
    empty (row ∷ list) is = absurd (omega (arith, is))

pub some_selected : (marks : List Bool) (rows : List LineOrder) → length marks ≡ length rows
    → (count_by (λ (chosen : Bool). chosen) marks ≡ 0 → ⊥) → 0 < length (selected_by marks rows)
some_selected marks rows long some =
    positive (length (selected_by marks rows)) (λ is. some (count_selected marks rows long ∙ is))
  where
    positive : (n : ℕ) → (n ≡ 0 → ⊥) → 0 < n
    positive zero not = absurd (not refl)
    positive (suc n) not = omega arith
