-- Rows that a mask leaves out change nothing that a fold represents. Our own.
use Rattle.std.proofs.Common.{◌≡◌, ◌∙◌, sym, ap, refl, subst, ℕ, zero, suc, ◌+◌, ◌<◌, ◌≤◌, ◌&&◌, Bool, true, false}
use Rattle.std.proofs.Common.{cond, Option, Some, None, List, [], ◌∷◌, ◌++◌, Result, Ok, Err, length, map, take, drop}
use Rattle.std.proofs.Common.{slice_get, arith, append_assoc}
use Rattle.std.specs.Prelude.{nat_abs, nat_le, slice_set, unwrap_or, IfOk, OnOk}
use Rattle.std.specs.Int.{from_bool}
use Rattle.std.specs.List.{All, filter, range_with_len, sum_by}
use Rattle.std.proofs.lemmas.List.{length-append, length-map, take_more_set, take-set}
use Rattle.std.proofs.lemmas.List.Elements.{All-filter, filter-append}
use Rattle.std.proofs.lemmas.List.Sums.{sum_by-append, sum_by-cons}
use Rattle.cube_model.specs.declared.fault.Fault.{Fault}
use Rattle.cube_model.specs.declared.fault.Fault.TheVariants.{UnknownCustomer, UnknownSupplier, UnknownPart}
use Rattle.cube_model.specs.declared.fault.Fault.TheVariants.{UnknownDate}
use Rattle.cube_model.specs.declared.query.Cond.{Cond}
use Rattle.cube_model.specs.declared.query.Kind.TheVariants.{Plain}
use Rattle.cube_model.specs.declared.query.Query.{Query}
use Rattle.cube_model.specs.declared.rows.DimRows.{DimRows}
use Rattle.cube_model.specs.declared.rows.LineOrder.{LineOrder}
use Rattle.cube_model.specs.Admission.{unknown_axis, unknown_key}
use Rattle.cube_model.specs.Answers.{rows_of_key}
use Rattle.cube_model.specs.Causes.{first_cause, cause_if}
use Rattle.cube_model.specs.Measures.{measure_of}
use Rattle.cube_model.specs.Selection.{is_selected, selected}
use Rattle.column_kernels.specs.Masks.{selected_by}
use Rattle.column_segment.specs.Projected.{HaveSmallFigures}
use Rattle.group_numbers.specs.Kept.{ArePlaces, KeepPlaces}
use Rattle.group_numbers.specs.Numbers.{Asked, group_key_at}
use Rattle.group_numbers.specs.GroupNumbers.{AreBounds, is_within}
use Rattle.group_numbers.specs.Rows.{row_at}
use Rattle.group_numbers.specs.declared.bounds.Bounds.{Bounds}
use Rattle.group_numbers.proofs.Outcomes.{out_of_bounds}
use Rattle.cube_query.specs.Chosen.{KeepSelected, lies_within, places_from}
use Rattle.cube_query.specs.Groups.{CanTake, FoldState, RepresentsRows, Takes}
use Rattle.group_tallies.specs.Groups.{finest}
use Rattle.group_tallies.specs.Limits.{AreFoldable}
use Rattle.group_tallies.specs.Tallies.{tallies_of}

from_nought : (k : ℕ) → 0 + k ≡ k
from_nought k = omega arith

-- ---- the places of a mask's rows
next_rows : (f : ℕ → LineOrder) (place : ℕ) (row : LineOrder) (rows : List LineOrder)
    → ((k : ℕ) → k < length (row ∷ rows) → f (place + k) ≡ row_at (row ∷ rows) k) → (k : ℕ) → k < length rows
    → f (place + 1 + k) ≡ row_at rows k
next_rows f place row rows are k h =
    let moved : place + 1 + k ≡ place + suc k = omega arith in
    ap f moved ∙ are (suc k) (omega (arith, h))

pub rows_at_places : (f : ℕ → LineOrder) (place : ℕ) (marks : List Bool) (rows : List LineOrder)
    → length marks ≡ length rows
    → ((k : ℕ) → k < length rows → f (place + k) ≡ row_at rows k)
    → map f (places_from place marks) ≡ selected_by marks rows
rows_at_places f place [] rows many are = refl
rows_at_places f place (mark ∷ marks) [] many are = absurd (omega (arith, many))
rows_at_places f place (true ∷ marks) (row ∷ rows) many are =
    let here : place ≡ place + 0 = omega arith in
    let first : f place ≡ row = ap f here ∙ are 0 (omega arith) in
    let rest = rows_at_places f (place + 1) marks rows (omega (arith, many)) (next_rows f place row rows are) in
    (λ i. first i ∷ rest i)
rows_at_places f place (false ∷ marks) (row ∷ rows) many are =
    rows_at_places f (place + 1) marks rows (omega (arith, many)) (next_rows f place row rows are)

pub places_below : (place : ℕ) (marks : List Bool) → All (λ p. p < place + length marks) (places_from place marks)
places_below place [] k d h = absurd (omega (arith, h))
places_below place (true ∷ marks) zero d h = omega arith
places_below place (true ∷ marks) (suc k) d h = omega (arith, places_below (place + 1) marks k d (omega (arith, h)))
places_below place (false ∷ marks) k d h = omega (arith, places_below (place + 1) marks k d h)

-- the mark at a place, and those after it
next_mark : (marks : List Bool) (place : ℕ) → place < length marks
    → drop place marks ≡ unwrap_or (slice_get marks place) false ∷ drop (suc place) marks
next_mark [] place h = absurd (omega (arith, h))
next_mark (mark ∷ marks) zero h = refl
next_mark (mark ∷ marks) (suc place) h = next_mark marks place (omega (arith, h))

marked : (marks : List Bool) (place : ℕ) (mark : Bool) → place < length marks
    → mark ≡ unwrap_or (slice_get marks place) false → drop place marks ≡ mark ∷ drop (place + 1) marks
marked marks place mark within is =
    let further : suc place ≡ place + 1 = omega arith in
    next_mark marks place within ∙ ap (λ (b : Bool). b ∷ drop (suc place) marks) (sym is)
    ∙ ap (λ (n : ℕ). mark ∷ drop n marks) further

-- one place more
pub one_chosen : (marks : List Bool) (places : List ℕ) (place : ℕ) (all : List ℕ) → place < length marks
    → true ≡ unwrap_or (slice_get marks place) false
    → places ++ places_from place (drop place marks) ≡ all
    → (places ++ place ∷ []) ++ places_from (place + 1) (drop (place + 1) marks) ≡ all
one_chosen marks places place all within is before =
    append_assoc places (place ∷ []) (places_from (place + 1) (drop (place + 1) marks))
    ∙ ap (λ (l : List Bool). places ++ places_from place l) (sym (marked marks place true within is)) ∙ before

pub one_left_out : (marks : List Bool) (places : List ℕ) (place : ℕ) (all : List ℕ) → place < length marks
    → false ≡ unwrap_or (slice_get marks place) false
    → places ++ places_from place (drop place marks) ≡ all → places ++ places_from (place + 1) (drop (place + 1) marks)
    ≡ all
one_left_out marks places place all within is before =
    ap (λ (l : List Bool). places ++ places_from place l) (sym (marked marks place false within is)) ∙ before

-- the places are those of rows
pub all_below : (marks : List Bool) (places : List ℕ) (count : ℕ) → places ≡ places_from 0 marks → length marks ≡ count
    → All (λ place. place < count) places
all_below marks places count are many =
    subst (λ (l : List ℕ). All (λ place. place < count) l) (sym are)
    (λ k d h. omega (arith, many, places_below 0 marks k d h))

-- ---- a row out of the bounds is not selected
and_assoc : (a b c : Bool) → (a && b) && c ≡ a && (b && c)
and_assoc true b c = refl
and_assoc false b c = refl

out_of : (dimensions : DimRows) (conditions : List Cond) (bounds : Bounds) → AreBounds conditions bounds
    → (row : LineOrder) → row.quantity < 256 → row.discount < 256
    → lies_within bounds row ≡ false → is_selected dimensions conditions row ≡ false
out_of dimensions conditions bounds are row quantity discount out =
    let within : is_within bounds row.quantity row.discount ≡ false =
    sym (and_assoc (nat_le bounds.least_quantity row.quantity) (nat_le row.quantity bounds.greatest_quantity) _)
    ∙ out in
    out_of_bounds dimensions (asked conditions) row (sym (are row quantity discount) ∙ within)
  where
    asked : List Cond → Query
    asked conditions = record { kind = Plain; columns = []; conditions = conditions; aggregates = []; order = None }

left_out : (p marks : LineOrder → Bool) (Fine : LineOrder → Type 0)
    → ((row : LineOrder) → Fine row → marks row ≡ false → p row ≡ false)
    → (rows : List LineOrder) → All Fine rows → filter p (selected_by (map marks rows) rows) ≡ filter p rows
left_out p marks Fine out [] fine = refl
left_out p marks Fine out (row ∷ rows) fine =
    let rest : filter p (selected_by (map marks rows) rows) ≡ filter p rows =
    left_out p marks Fine out rows (λ k d h. fine (suc k) d (omega (arith, h))) in
    (elim (marks row) as
    (λ b. marks row ≡ b → filter p (selected_by (b ∷ map marks rows) (row ∷ rows)) ≡ filter p (row ∷ rows)) [
      | true ↦ λ is. ap (λ (l : List LineOrder). cond (p row) (row ∷ l) l) rest
      | false ↦ λ is. rest
          ∙ sym (ap (λ (b : Bool). cond b (row ∷ filter p rows) (filter p rows))
          (out row (fine 0 row (omega arith)) is))
    ]) refl

pub keeps : (bounds : Bounds) (rows : List LineOrder) → All (λ row. row.quantity < 256) rows
    → All (λ row. row.discount < 256) rows → (dimensions : DimRows) (conditions : List Cond)
    → AreBounds conditions bounds
    → KeepSelected dimensions conditions (selected_by (map (lies_within bounds) rows) rows) rows
keeps bounds rows quantities discounts dimensions conditions are = record {
  part = (map (lies_within bounds) rows, refl);
  same = left_out (is_selected dimensions conditions) (lies_within bounds)
      (λ row. (row.quantity < 256) × (row.discount < 256))
      (λ row fine out. out_of dimensions conditions bounds are row fine.0 fine.1 out) rows
      (λ k d h. (quantities k d h, discounts k d h));
}

pub chosen_keep : (bounds : Bounds) (rows kept : List LineOrder) (marks : List Bool) (places : List ℕ)
    → HaveSmallFigures rows → kept ≡ rows → marks ≡ map (lies_within bounds) rows
    → places ≡ places_from 0 marks → (dimensions : DimRows) (conditions : List Cond) → AreBounds conditions bounds
    → KeepSelected dimensions conditions (map (row_at kept) places) rows
chosen_keep bounds rows kept marks places fit own tell are dimensions conditions bound =
    let many : length (map (lies_within bounds) rows) ≡ length rows = length-map rows (lies_within bounds) in
    let chosen : map (row_at rows) (places_from 0 (map (lies_within bounds) rows))
    ≡ selected_by (map (lies_within bounds) rows) rows =
    rows_at_places (row_at rows) 0 (map (lies_within bounds) rows) rows many
    (λ k h. ap (row_at rows) (from_nought k)) in
    let same : map (row_at kept) places ≡ selected_by (map (lies_within bounds) rows) rows =
    ap (λ (l : List LineOrder). map (row_at l) places) own ∙ ap (map (row_at rows)) (are ∙ ap (places_from 0) tell)
    ∙ chosen in
    subst (λ (l : List LineOrder). KeepSelected dimensions conditions l rows) (sym same)
    (keeps bounds rows fit.quantities fit.discounts dimensions conditions bound)

-- ---- all rows
pub range_more : (place count : ℕ) → range_with_len place (count + 1) ≡ range_with_len place count ++ (place + count)
    ∷ []
range_more place zero =
    let here : place ≡ place + 0 = omega arith in
    ap (λ (n : ℕ). n ∷ []) here
range_more place (suc count) =
    let longer : suc count + 1 ≡ suc (count + 1) = omega arith in
    let moved : place + 1 + count ≡ place + suc count = omega arith in
    ap (range_with_len place) longer
    ∙ ap (λ (l : List ℕ). place ∷ l)
    (range_more (place + 1) count ∙ ap (λ (n : ℕ). range_with_len (place + 1) count ++ n ∷ []) moved)

pub range_next : (count : ℕ) → range_with_len 0 (count + 1) ≡ range_with_len 0 count ++ count ∷ []
range_next count = range_more 0 count ∙ ap (λ (n : ℕ). range_with_len 0 count ++ n ∷ []) (from_nought count)

pub rows_at_range : (f : ℕ → LineOrder) (place : ℕ) (rows : List LineOrder)
    → ((k : ℕ) → k < length rows → f (place + k) ≡ row_at rows k)
    → map f (range_with_len place (length rows)) ≡ rows
rows_at_range f place [] are = refl
rows_at_range f place (row ∷ rows) are =
    let here : place ≡ place + 0 = omega arith in
    let first : f place ≡ row = ap f here ∙ are 0 (omega arith) in
    let rest = rows_at_range f (place + 1) rows (next_rows f place row rows are) in
    (λ i. first i ∷ rest i)

pub range_below : (place count : ℕ) → All (λ p. p < place + count) (range_with_len place count)
range_below place zero k d h = absurd (omega (arith, h))
range_below place (suc count) zero d h = omega arith
range_below place (suc count) (suc k) d h = omega (arith, range_below (place + 1) count k d (omega (arith, h)))

pub all_rows : (rows kept : List LineOrder) (places : List ℕ) (count : ℕ) → kept ≡ rows → count ≡ length rows
    → places ≡ range_with_len 0 count → map (row_at kept) places ≡ rows
all_rows rows kept places count own many are =
    ap (λ (l : List LineOrder). map (row_at l) places) own
    ∙ ap (map (row_at rows)) (are ∙ ap (range_with_len 0) many)
    ∙ rows_at_range (row_at rows) 0 rows (λ k h. ap (row_at rows) (from_nought k))

pub all_places_below : (places : List ℕ) (count : ℕ) → places ≡ range_with_len 0 count
    → All (λ place. place < count) places
all_places_below places count are =
    subst (λ (l : List ℕ). All (λ place. place < count) l) (sym are) (λ k d h. omega (arith, range_below 0 count k d h))

all_marked : (rows : List LineOrder) → rows ≡ selected_by (map (λ row. true) rows) rows
all_marked [] = refl
all_marked (row ∷ rows) = ap (λ (l : List LineOrder). row ∷ l) (all_marked rows)

pub keep_whole : (dimensions : DimRows) (conditions : List Cond) (some all : List LineOrder) → some ≡ all
    → KeepSelected dimensions conditions some all
keep_whole dimensions conditions some all same = record {
  part = (map (λ row. true) all, same ∙ all_marked all);
  same = ap (selected dimensions conditions) same;
}

pub whole_if_ok : (result : Result (List LineOrder) Fault) (bounds : Bounds) (rows : List LineOrder)
    → IfOk result (λ chosen. chosen ≡ rows)
    → IfOk result (λ chosen. (dimensions : DimRows) (conditions : List Cond) → AreBounds conditions bounds
    → KeepSelected dimensions conditions chosen rows)
whole_if_ok (Ok chosen) bounds rows same =
    λ dimensions conditions are. keep_whole dimensions conditions chosen rows same
whole_if_ok (Err fault) bounds rows same = tt

-- ---- a pass over places
pub bit_small : (b : Bool) (one : ℕ) → one ≡ from_bool b → one ≤ 1
bit_small true one is = omega (arith, is)
bit_small false one is = omega (arith, is)

-- one place more, written first and counted only where it is chosen
pub one_more : (marks : List Bool) (places : List ℕ) (kept place one : ℕ) (mark : Bool) (all : List ℕ)
    → kept < length places → place < length marks
    → mark ≡ unwrap_or (slice_get marks place) false → one ≡ from_bool mark
    → take kept places ++ places_from place (drop place marks) ≡ all
    → take (kept + one) (slice_set places kept place) ++ places_from (place + 1) (drop (place + 1) marks) ≡ all
one_more marks places kept place one true all room within is counted before =
    let after = places_from (place + 1) (drop (place + 1) marks) in
    let more : one ≡ 1 = omega (arith, counted) in
    ap (λ (n : ℕ). take (kept + n) (slice_set places kept place) ++ after) more
    ∙ ap (λ (l : List ℕ). l ++ after) (take_more_set places kept place room)
    ∙ one_chosen marks (take kept places) place all within is before
one_more marks places kept place one false all room within is counted before =
    let after = places_from (place + 1) (drop (place + 1) marks) in
    let same : kept + one ≡ kept = omega (arith, counted) in
    ap (λ (n : ℕ). take n (slice_set places kept place) ++ after) same
    ∙ ap (λ (l : List ℕ). l ++ after) (take-set places kept place)
    ∙ one_left_out marks (take kept places) place all within is before

rows_of_test : (test : LineOrder → Bool) (f : ℕ → LineOrder) (places : List ℕ)
    → map f (filter (λ place. test (f place)) places) ≡ selected_by (map test (map f places)) (map f places)
rows_of_test test f [] = refl
rows_of_test test f (place ∷ places) =
    let rest : map f (filter (λ p. test (f p)) places) ≡ selected_by (map test (map f places)) (map f places) =
    rows_of_test test f places in
    elim (test (f place)) as
    (λ b. map f (cond b (place ∷ filter (λ p. test (f p)) places) (filter (λ p. test (f p)) places))
    ≡ selected_by (b ∷ map test (map f places)) (f place ∷ map f places)) [
      | true ↦ ap (λ (l : List LineOrder). f place ∷ l) rest
      | false ↦ rest
    ]

pub kept_places : (dimensions : DimRows) (conditions : List Cond) (rows : List LineOrder) (all some : List ℕ)
    → KeepPlaces dimensions conditions rows all some
    → KeepSelected dimensions conditions (map (row_at rows) some) (map (row_at rows) all)
kept_places dimensions conditions rows all some keep =
    let is : map (row_at rows) some ≡ selected_by (map keep.test (map (row_at rows) all)) (map (row_at rows) all)
    = ap (map (row_at rows)) keep.kept ∙ rows_of_test keep.test (row_at rows) all in
    record {
      part = (map keep.test (map (row_at rows) all), is);
      same = ap (selected dimensions conditions) is
          ∙ left_out (is_selected dimensions conditions) keep.test (λ row. Unit {0}) (λ row fine. keep.fails row)
          (map (row_at rows) all) (λ k d h. tt);
    }

pub kept_below : (dimensions : DimRows) (conditions : List Cond) (rows : List LineOrder) (all some : List ℕ)
    → KeepPlaces dimensions conditions rows all some
    → ArePlaces rows all → ArePlaces rows some
kept_below dimensions conditions rows all some keep are =
    subst (λ (l : List ℕ). ArePlaces rows l) (sym keep.kept)
    (All-filter (λ place. keep.test (row_at rows place)) (λ place. place < length rows) all are)

-- marks of what is left after others
abbrev compose : List Bool → List Bool → List Bool
compose [] outer = []
compose (mark ∷ inner) [] = []
compose (mark ∷ inner) (true ∷ outer) = mark ∷ compose inner outer
compose (mark ∷ inner) (false ∷ outer) = false ∷ compose (mark ∷ inner) outer

composed : (inner outer : List Bool) (rows : List LineOrder)
    → selected_by inner (selected_by outer rows) ≡ selected_by (compose inner outer) rows
composed [] outer rows = refl
composed (mark ∷ inner) [] rows = refl
composed (mark ∷ inner) (true ∷ outer) [] = refl
composed (mark ∷ inner) (false ∷ outer) [] = refl
composed (true ∷ inner) (true ∷ outer) (row ∷ rows) = ap (λ (l : List LineOrder). row ∷ l) (composed inner outer rows)
composed (false ∷ inner) (true ∷ outer) (row ∷ rows) = composed inner outer rows
composed (mark ∷ inner) (false ∷ outer) (row ∷ rows) = composed (mark ∷ inner) outer rows

pub keep_on : (dimensions : DimRows) (conditions : List Cond) (some more all : List LineOrder)
    → KeepSelected dimensions conditions some more
    → KeepSelected dimensions conditions more all → KeepSelected dimensions conditions some all
keep_on dimensions conditions some more all inner outer = record {
  part = (
    compose inner.part.0 outer.part.0,
    inner.part.1 ∙ ap (selected_by inner.part.0) outer.part.1
        ∙ composed inner.part.0 outer.part.0 all,
  );
  same = inner.same ∙ outer.same;
}

-- the query of the group numbers is that of the fold
pub keep_over : (asked : Asked) (dimensions : DimRows) (query old : Query) (some all : List LineOrder)
    → asked ≡ record { dimensions = dimensions; query = query }
    → query.conditions ≡ old.conditions → KeepSelected asked.dimensions asked.query.conditions some all
    → KeepSelected dimensions old.conditions some all
keep_over asked dimensions query old some all is same keep =
    subst (λ (conditions : List Cond). KeepSelected dimensions conditions some all) same
    (subst (λ (a : Asked). KeepSelected a.dimensions a.query.conditions some all) is keep)

-- ---- what a fold represents
pub represents_for_all : (dimensions : DimRows) (fold : FoldState) (some all : List LineOrder)
    → selected dimensions fold.query.conditions some ≡ selected dimensions fold.query.conditions all
    → RepresentsRows dimensions fold some → RepresentsRows dimensions fold all
represents_for_all dimensions fold some all same represents = record {
  over = represents.over;
  each = λ number h. represents.each number h
      ∙ ap (λ (chosen : List LineOrder). tallies_of fold.query.aggregates
      (rows_of_key dimensions (finest fold.query) (group_key_at dimensions fold.query.columns number) chosen)) same;
  others = λ key none. sym
      (ap (λ (chosen : List LineOrder). rows_of_key dimensions (finest fold.query) key chosen) same)
      ∙ represents.others key none;
}

takes : (dimensions : DimRows) (old : FoldState) (some all : List LineOrder) (new : FoldState)
    → KeepSelected dimensions old.query.conditions some all
    → Takes dimensions old some new → Takes dimensions old all new
takes dimensions old some all new keep taken = record {
  query = taken.query;
  represents = λ so_far represents.
      let p = is_selected dimensions new.query.conditions in
      let same : filter p some ≡ filter p all =
      subst (λ (q : Query). selected dimensions q.conditions some ≡ selected dimensions q.conditions all)
      (sym taken.query) keep.same in
      represents_for_all dimensions new (so_far ++ some) (so_far ++ all)
      (filter-append p so_far some ∙ ap (λ (l : List LineOrder). filter p so_far ++ l) same
      ∙ sym (filter-append p so_far all)) (taken.represents so_far represents);
}

pub takes_all : {T : Type 0} (result : Result T Fault) (dimensions : DimRows) (old : FoldState)
    (some all : List LineOrder) (new : FoldState) → KeepSelected dimensions old.query.conditions some all
    → OnOk result (Takes dimensions old some new) → OnOk result (Takes dimensions old all new)
takes_all (Ok value) dimensions old some all new keep taken = takes dimensions old some all new keep taken
takes_all (Err fault) dimensions old some all new keep taken = tt

-- ---- some of the rows may be folded where all may
fewer : (marks : List Bool) (rows : List LineOrder) → length (selected_by marks rows) ≤ length rows
fewer [] rows = omega arith
fewer (mark ∷ marks) [] = omega arith
fewer (true ∷ marks) (row ∷ rows) = omega (arith, fewer marks rows)
fewer (false ∷ marks) (row ∷ rows) = omega (arith, fewer marks rows)

smaller : (size : LineOrder → ℕ) (marks : List Bool) (rows : List LineOrder)
    → sum_by size (selected_by marks rows) ≤ sum_by size rows
smaller size [] rows = omega arith
smaller size (mark ∷ marks) [] = omega arith
smaller size (true ∷ marks) (row ∷ rows) =
    let with_row : sum_by size (row ∷ selected_by marks rows) ≤ sum_by size (row ∷ rows) =
    omega (arith, smaller size marks rows, sum_by-cons size row rows, sum_by-cons size row (selected_by marks rows)) in
    with_row
smaller size (false ∷ marks) (row ∷ rows) =
    let without_row : sum_by size (selected_by marks rows) ≤ sum_by size (row ∷ rows) =
    omega (arith, smaller size marks rows, sum_by-cons size row rows) in without_row

-- rows of another number have the same causes
renumbered : (customer supplier part date : Bool) (n m : ℕ)
    → first_cause (cause_if customer (UnknownCustomer n) ∷ cause_if supplier (UnknownSupplier n)
    ∷ cause_if part (UnknownPart n) ∷ cause_if date (UnknownDate n) ∷ []) ≡ None
    → first_cause (cause_if customer (UnknownCustomer m) ∷ cause_if supplier (UnknownSupplier m)
    ∷ cause_if part (UnknownPart m) ∷ cause_if date (UnknownDate m) ∷ []) ≡ None
renumbered true supplier part date n m none = absurd (cc none)
renumbered false true part date n m none = absurd (cc none)
renumbered false false true date n m none = absurd (cc none)
renumbered false false false true n m none = absurd (cc none)
renumbered false false false false n m none = refl

first_none : (cause after : Option Fault) → first_cause (cause ∷ after ∷ []) ≡ None → (cause ≡ None) × (after ≡ None)
first_none None None none = (refl, refl)
first_none None (Some fault) none = absurd (cc none)
first_none (Some fault) after none = absurd (cc none)

both_none : (cause after : Option Fault) → cause ≡ None → after ≡ None → first_cause (cause ∷ after ∷ []) ≡ None
both_none None None a b = refl
both_none None (Some fault) a b = absurd (cc b)
both_none (Some fault) after a b = absurd (cc a)

still_known : (dimensions : DimRows) (row : LineOrder) (n m : ℕ) → unknown_axis dimensions n row ≡ None
    → unknown_axis dimensions m row ≡ None
still_known dimensions row n m none = renumbered _ _ _ _ n m none

known_among : (dimensions : DimRows) (n m : ℕ) (marks : List Bool) (rows : List LineOrder)
    → unknown_key dimensions n rows ≡ None → unknown_key dimensions m (selected_by marks rows) ≡ None
known_among dimensions n m [] rows none = refl
known_among dimensions n m (mark ∷ marks) [] none = refl
known_among dimensions n m (true ∷ marks) (row ∷ rows) none =
    let parts = first_none (unknown_axis dimensions n row) (unknown_key dimensions (n + 1) rows) none in
    both_none (unknown_axis dimensions m row) (unknown_key dimensions (m + 1) (selected_by marks rows))
    (still_known dimensions row n m parts.0) (known_among dimensions (n + 1) (m + 1) marks rows parts.1)
known_among dimensions n m (false ∷ marks) (row ∷ rows) none =
    let parts = first_none (unknown_axis dimensions n row) (unknown_key dimensions (n + 1) rows) none in
    known_among dimensions (n + 1) m marks rows parts.1

known_after : (dimensions : DimRows) (n : ℕ) (so_far : List LineOrder) (marks : List Bool) (rows : List LineOrder)
    → unknown_key dimensions n (so_far ++ rows) ≡ None
    → unknown_key dimensions n (so_far ++ selected_by marks rows) ≡ None
known_after dimensions n [] marks rows none = known_among dimensions n n marks rows none
known_after dimensions n (row ∷ so_far) marks rows none =
    let parts = first_none (unknown_axis dimensions n row) (unknown_key dimensions (n + 1) (so_far ++ rows)) none in
    both_none (unknown_axis dimensions n row) (unknown_key dimensions (n + 1) (so_far ++ selected_by marks rows))
    parts.0
    (known_after dimensions (n + 1) so_far marks rows parts.1)

foldable_some : (dimensions : DimRows) (so_far : List LineOrder) (marks : List Bool) (rows : List LineOrder)
    → AreFoldable dimensions (so_far ++ rows) → AreFoldable dimensions (so_far ++ selected_by marks rows)
foldable_some dimensions so_far marks rows foldable = record {
  few = omega (
    arith,
    foldable.few,
    length-append so_far rows,
    length-append so_far (selected_by marks rows),
    fewer marks rows,
  );
  known = known_after dimensions 1 so_far marks rows foldable.known;
  in_range = λ measure.
      let size = λ (row : LineOrder). nat_abs (measure_of measure row) in
      omega (
        arith,
        foldable.in_range measure,
        sum_by-append size so_far rows,
        sum_by-append size so_far (selected_by marks rows),
        smaller size marks rows,
      );
}

pub can_take_marked : (dimensions : DimRows) (old : FoldState) (marks : List Bool) (all : List LineOrder)
    → CanTake dimensions old all → CanTake dimensions old (selected_by marks all)
can_take_marked dimensions old marks all can = (can.0, (can.1.0, foldable_some dimensions can.0 marks all can.1.1))
