-- Lemmas of `dimension`, by subject.
use Rattle.std.proofs.Common.{◌≡◌, ◌<◌, ◌≤◌, ◌+◌, ◌∙◌, ◌⊎◌, inl, inr, sym, ap, refl, subst, arith, ℕ, false, nat_lt}
use Rattle.std.proofs.Common.{List, [], ◌∷◌, ◌++◌, length, take, drop, get_or, Option, Some, None, Ok, Err, ◌-◌, suc}
use Rattle.std.proofs.Common.{true, Result, OnOk, IfErr, map, vec_len, append_assoc, length-append, Bool, not, ◌&&◌}
use Rattle.std.proofs.Common.{◌==◌, codes, ◌^◌}
use Rattle.std.proofs.lemmas.List.{take_more, drop_more, append-nil, get_or-map, length-map, map_push, length_push}
use Rattle.cube_model.specs.declared.attr.Axis.{Axis}
use Rattle.cube_model.specs.declared.fault.Fault.{Fault}
use Rattle.cube_model.specs.declared.fault.Fault.TheVariants.{TooManyRows, Memory, DuplicateKey, HierarchyBroken}
use Rattle.cube_model.specs.declared.fault.Fault.TheVariants.{ReservedMember, TooManyMembers}
use Rattle.cube_model.specs.Causes.{first_cause, cause_if}
use Rattle.cube_model.specs.Validity.{Rules, row_cause, rows_cause, dimension_cause, members_of, repeats_key, names_all}
use Rattle.cube_model.specs.Validity.{overflows, breaks_link}
use Rattle.dimensions.specs.declared.dimension.Dimension.{Dimension}
use Rattle.dimensions.specs.TextRows.{TextRow, text_in, column_of, KeysFit}
use Rattle.dimensions.specs.Shapes.{row_limit_of, text_rules, lowers_of, lower_of}
use Rattle.dimensions.specs.Dimensions.{StoresRows, AddsRow, HoldsRows, column_at, no_column, lower_texts, AddsRows}
use Rattle.dimensions.specs.Dimensions.{BuildsDimension, Numbers, HasNoRoom, place_for, EntersAt}
use Rattle.std.specs.Option.{option_map}
use Rattle.cube_model.specs.declared.fault.MemberPlace.TheVariants.{InDimension}
use Rattle.dimensions.specs.Added.{counted_after, added_cause}
use Rattle.dimensions.specs.Columns.{code_place, ranked, unranked, IsColumn, HasNoCodeLeft, Enters}
use Rattle.std.specs.Str.{bytes_eq}
use Rattle.std.specs.List.{list_any, position_or_len}
use Rattle.dictionary.specs.Dictionary.{firsts}
use Rattle.dictionary.proofs.CallerLemmas.{bytes_eq-same, bytes_eq-refl, bytes_eq-apart, list_any-map, list_any_place}
use Rattle.dictionary.proofs.CallerLemmas.{list_any_here, list_any_nowhere, list_any-firsts, firsts-new}
use Rattle.dimensions.specs.declared.column.Column.{Column}
use Rattle.dimensions.proofs.MemberLaws.{length-members}
use Rattle.dimensions.proofs.ColumnLaws.{has_room, grows_above_rows, fits_above_rows, grows_above, agrees_above}
use Rattle.dimensions.proofs.ColumnLaws.{disagrees_above}
use Rattle.dimensions.proofs.ShapeLaws.{texts_none, texts_some, links_none, links_some, lower_below}
use Rattle.dimensions.proofs.Refusals.{no_cause, cause_repeats, cause_names, cause_overflows, cause_breaks}

-- ==== Building a dimension row by row.

first_alone : (cause : Option Fault) → first_cause (cause ∷ []) ≡ cause
first_alone None = refl
first_alone (Some fault) = refl

module _ {Row : Type 0} (rules_of : Rules Row) (all : List Row) (i : ℕ) (row : Row) (lt : i < length all)
    (at : get_or all i row ≡ row) where
  rest_is : drop i all ≡ row ∷ drop (i + 1) all
  rest_is = drop_more all i row lt ∙ ap (λ r. r ∷ drop (i + 1) all) at

  front_is : take (i + 1) all ≡ take i all ++ row ∷ []
  front_is = take_more all i row lt ∙ ap (λ r. take i all ++ r ∷ []) at

  -- a row that is not refused: the cause is that of the rows after it
  cause_goes_on : row_cause rules_of (take i all) row ≡ None
      → rows_cause rules_of (take i all) (drop i all) ≡ rows_cause rules_of (take (i + 1) all) (drop (i + 1) all)
  cause_goes_on none =
      ap (rows_cause rules_of (take i all)) rest_is
      ∙ ap (λ cause. first_cause (cause ∷ rows_cause rules_of (take i all ++ row ∷ []) (drop (i + 1) all) ∷ [])) none
      ∙ first_alone (rows_cause rules_of (take i all ++ row ∷ []) (drop (i + 1) all))
      ∙ ap (λ front. rows_cause rules_of front (drop (i + 1) all)) (sym front_is)

  -- a row that is refused: its cause
  cause_stops : (fault : Fault) → row_cause rules_of (take i all) row ≡ Some fault
      → rows_cause rules_of (take i all) (drop i all) ≡ Some fault
  cause_stops fault some =
      ap (rows_cause rules_of (take i all)) rest_is
      ∙ ap (λ cause. first_cause (cause ∷ rows_cause rules_of (take i all ++ row ∷ []) (drop (i + 1) all) ∷ [])) some

-- the cause of a dimension with few rows is that of its rows
pub few_rows : {Row : Type 0} (rules_of : Rules Row) (all : List Row) → length all ≤ rules_of.row_limit
    → dimension_cause rules_of all ≡ rows_cause rules_of [] all
few_rows rules_of all le =
    let few : nat_lt rules_of.row_limit (length all) ≡ false = grind arith in
    (λ i. first_cause (cause_if (few i) TooManyRows ∷ rows_cause rules_of [] all ∷ []))
    ∙ first_alone (rows_cause rules_of [] all)

drop_all : {X : Type 0} (xs : List X) → drop (length xs) xs ≡ []
drop_all [] = refl
drop_all (x ∷ xs) = drop_all xs

take_all : {X : Type 0} (xs : List X) → take (length xs) xs ≡ xs
take_all [] = refl
take_all (x ∷ xs) = ap (λ l. x ∷ l) (take_all xs)

-- so far the rows are in the dimension, and the cause is that of the others
abbrev pub SoFar : Axis → List TextRow → ℕ → Dimension → Type 0
SoFar axis all i dimension = StoresRows axis (take i all) dimension
    × (rows_cause (text_rules axis) [] all ≡ rows_cause (text_rules axis) (take i all) (drop i all))

module _ (axis : Axis) (all : List TextRow) (few : length all ≤ row_limit_of axis) where
  module _ (i : ℕ) (old : Dimension) (so_far : SoFar axis all i old) (row : TextRow) (lt : i < length all)
      (at : get_or all i row ≡ row) where
    pub goes_on : (new : Dimension) → AddsRow axis (take i all) row new (Ok tt) → SoFar axis all (i + 1) new
    goes_on new adds = (
      subst (λ l. StoresRows axis l new) (sym (front_is (text_rules axis) all i row lt at)) adds.0,
      so_far.1 ∙ cause_goes_on (text_rules axis) all i row lt at adds.1,
    )

    pub stops : (new : Dimension) (fault : Fault) → AddsRow axis (take i all) row new (Err fault) → (fault ≡ Memory)
        ⊎ (dimension_cause (text_rules axis) all ≡ Some fault)
    stops new fault adds = elim adds [
      | inl memory ↦ inl memory
      | inr cause ↦
          inr (few_rows (text_rules axis) all few ∙ so_far.1
          ∙ cause_stops (text_rules axis) all i row lt at fault cause)
    ]

  -- after the last of them
  pub done : (i : ℕ) (dimension : Dimension) → i ≡ length all → SoFar axis all i dimension
      → HoldsRows axis all dimension
  done i dimension last so_far =
      let whole : take i all ≡ all = ap (λ n. take n all) last ∙ take_all all in
      let rest : drop i all ≡ [] = ap (λ n. drop n all) last ∙ drop_all all in (
        subst (λ l. StoresRows axis l dimension) whole so_far.0,
        few_rows (text_rules axis) all few ∙ so_far.1 ∙ ap (rows_cause (text_rules axis) (take i all)) rest,
      )

-- ==== Rows that come after others: their causes, and dimensions that hold them.

-- ---- causes

-- there is no cause where there is none of two
none_of_two : (first second : Option Fault) → first_cause (first ∷ second ∷ []) ≡ None
    → (first ≡ None) × (second ≡ None)
none_of_two None None e = (refl, refl)
none_of_two None (Some fault) e = absurd cc
none_of_two (Some fault) second e = absurd cc

second_of_two : (first second : Option Fault) → first ≡ None → first_cause (first ∷ second ∷ []) ≡ second
second_of_two None None e = refl
second_of_two None (Some fault) e = refl
second_of_two (Some fault) second e = absurd cc

module _ {Row : Type 0} (rules_of : Rules Row) where
  -- the cause of rows and of others after them, where there is none of the first
  pub rows_cause-append : (earlier rows others : List Row) → rows_cause rules_of earlier rows ≡ None
      → rows_cause rules_of earlier (rows ++ others) ≡ rows_cause rules_of (earlier ++ rows) others
  rows_cause-append earlier [] others none = ap (λ l. rows_cause rules_of l others) (sym (append-nil earlier))
  rows_cause-append earlier (row ∷ rows) others none =
      let both = none_of_two (row_cause rules_of earlier row) (rows_cause rules_of (earlier ++ row ∷ []) rows) none in
      second_of_two (row_cause rules_of earlier row) (rows_cause rules_of (earlier ++ row ∷ []) (rows ++ others)) both.0
      ∙ rows_cause-append (earlier ++ row ∷ []) rows others both.1
      ∙ ap (λ l. rows_cause rules_of l others) (append_assoc earlier (row ∷ []) rows)

  pub no_rows_cause : (rows : List Row) → dimension_cause rules_of rows ≡ None → rows_cause rules_of [] rows ≡ None
  no_rows_cause rows none =
      (none_of_two (cause_if (nat_lt rules_of.row_limit (length rows)) TooManyRows) (rows_cause rules_of [] rows)
      none).1

  -- too many rows with those added
  pub too_many : (old new : List Row) → rules_of.row_limit < length old + length new
      → added_cause rules_of old new ≡ Some TooManyRows
  too_many old new above =
      let count : length (old ++ new) ≡ length old + length new = length-append old new in
      let many : nat_lt rules_of.row_limit (length (old ++ new)) ≡ true = grind arith in
      λ i. option_map (counted_after (length old))
      (first_cause (cause_if (many i) TooManyRows ∷ rows_cause rules_of [] (old ++ new) ∷ []))

-- rows that count from the first after none
from_none : (fault : Fault) → counted_after 0 fault ≡ fault
from_none (DuplicateKey axis row) = let e : row - 0 ≡ row = omega arith in ap (DuplicateKey axis) e
from_none (HierarchyBroken axis row) = let e : row - 0 ≡ row = omega arith in ap (HierarchyBroken axis) e
from_none (ReservedMember (InDimension axis row)) =
    let e : row - 0 ≡ row = omega arith in ap (λ n. ReservedMember (InDimension axis n)) e
from_none (TooManyMembers (InDimension axis row)) =
    let e : row - 0 ≡ row = omega arith in ap (λ n. TooManyMembers (InDimension axis n)) e
from_none _ = refl

all_from_none : (cause : Option Fault) → option_map (counted_after 0) cause ≡ cause
all_from_none None = refl
all_from_none (Some fault) = ap (λ f. Some f) (from_none fault)

-- ---- dimensions

take_front : {X : Type 0} (xs ys : List X) → take (length xs) (xs ++ ys) ≡ xs
take_front [] ys = refl
take_front (x ∷ xs) ys = ap (λ l. x ∷ l) (take_front xs ys)

drop_front : {X : Type 0} (xs ys : List X) → drop (length xs) (xs ++ ys) ≡ ys
drop_front [] ys = refl
drop_front (x ∷ xs) ys = drop_front xs ys

pub get_after : {X : Type 0} (xs ys : List X) (i : ℕ) (d : X) → get_or (xs ++ ys) (length xs + i) d ≡ get_or ys i d
get_after [] ys i d = let e : 0 + i ≡ i = omega arith in ap (λ n. get_or ys n d) e
get_after (x ∷ xs) ys i d = let e : length (x ∷ xs) + i ≡ suc (length xs + i) = omega arith in
    ap (λ n. get_or (x ∷ xs ++ ys) n d) e ∙ get_after xs ys i d

pub holds_count : (axis : Axis) (rows : List TextRow) (dimension : Dimension) → StoresRows axis rows dimension
    → length dimension.keys ≡ length rows
holds_count axis rows dimension is = ap length is.keys ∙ length-map rows (λ r. r.key)

-- the rows are stored by the keys, and by the columns whatever their ranks
pub same_rows : (axis : Axis) (rows : List TextRow) (old new : Dimension) → new.keys ≡ old.keys
    → length new.columns.items ≡ length old.columns.items
    → ((i : ℕ) → i < length old.columns.items → unranked (column_at new i) ≡ unranked (column_at old i))
    → StoresRows axis rows old → StoresRows axis rows new
same_rows axis rows old new keys count same is =
    let same_column : (i : ℕ) → i < length (lowers_of axis) → unranked (column_at new i) ≡ unranked (column_at old i) =
    λ i lt. same i (omega (arith, lt, is.count)) in
    record {
      keys = keys ∙ is.keys;
      fit = is.fit;
      count = count ∙ is.count;
      lowers = λ i lt. ap (λ c. c.lower) (same_column i lt) ∙ is.lowers i lt;
      columns = λ i lt. record {
        limit = ap (λ c. c.texts.limit) (same_column i lt) ∙ (is.columns i lt).limit;
        texts_are = ap (λ c. c.texts.texts) (same_column i lt) ∙ (is.columns i lt).texts_are;
        room = (is.columns i lt).room;
        count = ap (λ c. length c.codes) (same_column i lt) ∙ (is.columns i lt).count;
        reads = λ row below. ap (λ c. get_or c.codes (code_place (lower_texts axis i rows) row) 0) (same_column i lt)
            ∙ (is.columns i lt).reads row below;
      };
    }

-- a copy with no ranks stores the same rows
pub copied_rows : (axis : Axis) (rows : List TextRow) (old new : Dimension) → new.keys ≡ old.keys
    → new.columns.items ≡ map unranked old.columns.items → HoldsRows axis rows old → HoldsRows axis rows new
copied_rows axis rows old new keys columns holds = (
  same_rows axis rows old new keys (ap length columns ∙ length-map old.columns.items unranked)
      (λ i lt. ap (λ l. unranked (get_or l i no_column)) columns
      ∙ ap unranked (get_or-map unranked old.columns.items i no_column no_column lt)) holds.0,
  holds.1,
)

-- each column has room for its texts
pub few_texts : (axis : Axis) (rows : List TextRow) (dimension : Dimension) → StoresRows axis rows dimension → (i : ℕ)
    → i < length dimension.columns.items → length (column_at dimension i).texts.texts ≤ 65535
few_texts axis rows dimension is i lt =
    let column = is.columns i (omega (arith, lt, is.count)) in omega (arith, column.room, ap length column.texts_are)

-- before the first of the rows added
pub so_far_first : (axis : Axis) (old new : List TextRow) (dimension : Dimension) → HoldsRows axis old dimension
    → SoFar axis (old ++ new) (length old + 0) dimension
so_far_first axis old new dimension holds =
    let here : length old + 0 ≡ length old = omega arith in
    let front : take (length old + 0) (old ++ new) ≡ old = ap (λ n. take n (old ++ new)) here ∙ take_front old new in
    let rest : drop (length old + 0) (old ++ new) ≡ new = ap (λ n. drop n (old ++ new)) here ∙ drop_front old new in (
      subst (λ l. StoresRows axis l dimension) (sym front) holds.0,
      rows_cause-append (text_rules axis) [] old new (no_rows_cause (text_rules axis) old holds.1)
          ∙ (λ i. rows_cause (text_rules axis) (sym front i) (sym rest i)),
    )

-- the cause of a row that was added
pub counted_cause : (axis : Axis) (old new : List TextRow) (count : ℕ) (fault : Fault) → count ≡ length old
    → (fault ≡ Memory) ⊎ (dimension_cause (text_rules axis) (old ++ new) ≡ Some fault)
    → (counted_after count fault ≡ Memory) ⊎ (added_cause (text_rules axis) old new ≡ Some (counted_after count fault))
counted_cause axis old new count fault is (inl memory) = inl (ap (counted_after count) memory)
counted_cause axis old new count fault is (inr cause) =
    inr (ap (λ n. option_map (counted_after n) (dimension_cause (text_rules axis) (old ++ new))) (sym is)
    ∙ ap (option_map (counted_after count)) cause)

-- one more of the rows added
module _ (axis : Axis) (old new : List TextRow) (few : length old + length new ≤ row_limit_of axis) (i : ℕ)
    (before : Dimension) (so_far : SoFar axis (old ++ new) (length old + i) before)
    (row : TextRow) (lt : i < length new) (at : get_or new i row ≡ row) where
  all_few : length (old ++ new) ≤ row_limit_of axis
  all_few = omega (arith, few, length-append old new)

  all_lt : length old + i < length (old ++ new)
  all_lt = omega (arith, lt, length-append old new)

  pub goes_on_after : (after : Dimension) → AddsRow axis (take (length old + i) (old ++ new)) row after (Ok tt)
      → SoFar axis (old ++ new) (length old + (i + 1)) after
  goes_on_after after adds =
      let next : length old + i + 1 ≡ length old + (i + 1) = omega arith in
      subst (λ n. SoFar axis (old ++ new) n after) next
      (goes_on axis (old ++ new) all_few (length old + i) before so_far row all_lt (get_after old new i row ∙ at)
      after adds)

  pub stops_after : (after : Dimension) (count : ℕ) (fault : Fault) → count ≡ length old
      → AddsRow axis (take (length old + i) (old ++ new)) row after (Err fault)
      → (counted_after count fault ≡ Memory)
      ⊎ (added_cause (text_rules axis) old new ≡ Some (counted_after count fault))
  stops_after after count fault is adds =
      counted_cause axis old new count fault is
      (stops axis (old ++ new) all_few (length old + i) before so_far row all_lt (get_after old new i row ∙ at) after
      fault adds)

-- after the last of them
pub done_after : (axis : Axis) (old new : List TextRow) (i : ℕ) (dimension : Dimension)
    → length old + length new ≤ row_limit_of axis → i ≡ length new
    → SoFar axis (old ++ new) (length old + i) dimension → HoldsRows axis (old ++ new) dimension
done_after axis old new i dimension few last so_far =
    let all_few : length (old ++ new) ≤ row_limit_of axis = omega (arith, few, length-append old new) in
    let whole : length old + i ≡ length (old ++ new) = omega (arith, last, length-append old new) in
    done axis (old ++ new) all_few (length old + i) dimension whole so_far

-- the ranks, which are made at last
pub ranks_made : (axis : Axis) (old new : List TextRow) (before after : Dimension) (result : Result (Unit {0}) Fault)
    → HoldsRows axis (old ++ new) before → after.keys ≡ before.keys
    → vec_len after.columns ≡ vec_len before.columns
    → OnOk result ((i : ℕ) → i < vec_len before.columns → column_at after i ≡ ranked (column_at before i))
    → IfErr result (λ fault. fault ≡ Memory) → AddsRows axis old new after result
ranks_made axis old new before after (Ok unit) holds keys count ranked_all memory = (
  record {
    stores = same_rows axis (old ++ new) before after keys
        (omega (arith, count, before.columns.ok.0, after.columns.ok.0))
        (λ i lt. ap unranked (ranked_all i (omega (arith, lt, before.columns.ok.0)))) holds.0;
    ranks = λ i lt. subst (λ c. c.ranks ≡ c.texts.texts)
        (sym (ranked_all i (omega (arith, lt, count, before.columns.ok.0, after.columns.ok.0)))) refl;
  },
  holds.1,
)
ranks_made axis old new before after (Err fault) holds keys count ranked_all memory = inl memory

-- ---- rows from nothing

pub none_at_first : (axis : Axis) → dimension_cause (text_rules axis) [] ≡ None
none_at_first axis = few_rows (text_rules axis) [] (omega arith)

pub not_built : (axis : Axis) (rows : List TextRow) (dimension : Dimension) (fault : Fault)
    → AddsRows axis [] rows dimension (Err fault) → BuildsDimension axis rows (Err fault)
not_built axis rows dimension fault (inl memory) = inl memory
not_built axis rows dimension fault (inr cause) =
    inr (sym (all_from_none (dimension_cause (text_rules axis) rows)) ∙ cause)

-- ==== A dimension by codes and one row more.

abbrev no_row : TextRow
no_row = record { key = 0; texts = [] }

-- the test of the rules on one link: an earlier row has the lower text with another upper text
abbrev link_test : List TextRow → TextRow → ((TextRow → List ℕ) × (TextRow → List ℕ)) → Bool
link_test rows row link =
    list_any (λ other. bytes_eq (link.0 other) (link.0 row) && not (bytes_eq (link.1 other) (link.1 row))) rows

module _ (rows : List TextRow) (row : TextRow) (j i : ℕ) where
  agreement : ((k : ℕ) → k < length rows → text_in j (get_or rows k no_row) ≡ text_in j row
      → text_in i (get_or rows k no_row) ≡ text_in i row) → link_test rows row (text_in j, text_in i) ≡ false
  agreement agree =
      list_any_nowhere
      (λ other. bytes_eq (text_in j other) (text_in j row) && not (bytes_eq (text_in i other) (text_in i row))) rows
      no_row
      (λ k lt. elim (bytes_eq (text_in j (get_or rows k no_row)) (text_in j row)) as
      (λ b. bytes_eq (text_in j (get_or rows k no_row)) (text_in j row) ≡ b
      → (b && not (bytes_eq (text_in i (get_or rows k no_row)) (text_in i row))) ≡ false) [
        | true ↦ λ e. ap not
            (ap (λ t. bytes_eq t (text_in i row))
            (agree k lt (bytes_eq-same (text_in j (get_or rows k no_row)) (text_in j row) e))
            ∙ bytes_eq-refl (text_in i row))
        | false ↦ λ e. refl
      ] refl)

  disagreement : (k : ℕ) → k < length rows → text_in j (get_or rows k no_row) ≡ text_in j row
      → (text_in i (get_or rows k no_row) ≡ text_in i row → ⊥) → link_test rows row (text_in j, text_in i) ≡ true
  disagreement k lt here apart =
      let first : bytes_eq (text_in j (get_or rows k no_row)) (text_in j row) ≡ true =
      ap (λ t. bytes_eq t (text_in j row)) here ∙ bytes_eq-refl (text_in j row) in
      let second : bytes_eq (text_in i (get_or rows k no_row)) (text_in i row) ≡ false =
      bytes_eq-apart (text_in i (get_or rows k no_row)) (text_in i row) apart in
      list_any_here
      (λ other. bytes_eq (text_in j other) (text_in j row) && not (bytes_eq (text_in i other) (text_in i row))) rows
      k no_row lt (λ z. first z && not (second z))

-- the key of one row more
keys_fit : (rows : List TextRow) (row : TextRow) → KeysFit rows → row.key < 2 ^ 32 → KeysFit (rows ++ row ∷ [])
keys_fit [] row fit fits = (fits, tt)
keys_fit (first ∷ rows) row fit fits = (fit.0, keys_fit rows row fit.1 fits)

module _ (axis : Axis) (rows : List TextRow) (old : Dimension) (row : TextRow) (is : StoresRows axis rows old) where
  column_more : (i : ℕ) → column_of i (rows ++ row ∷ []) ≡ column_of i rows ++ text_in i row ∷ []
  column_more i = map_push (text_in i) rows row

  pub row_number : length old.keys ≡ length rows
  row_number = ap length is.keys ∙ length-map rows (λ r. r.key)

  pub limits : (i : ℕ) → i < length old.columns.items → (column_at old i).texts.limit ≡ 65535
  limits i lt = (is.columns i (omega (arith, lt, is.count))).limit

  -- ---- the causes

  repeats_is : repeats_key (text_rules axis) rows row ≡ nat_lt (position_or_len (λ key. key == row.key) old.keys)
      (length old.keys)
  repeats_is = sym (list_any-map (λ key. key == row.key) (λ r. r.key) rows)
      ∙ ap (list_any (λ key. key == row.key)) (sym is.keys) ∙ list_any_place (λ key. key == row.key) old.keys

  module _ (new : Dimension) (n : ℕ) (is_n : n ≡ length old.keys + 1) where
    numbered : length rows + 1 ≡ n
    numbered = omega (arith, row_number, is_n)

    pub refuses_key : position_or_len (λ key. key == row.key) old.keys < length old.keys
        → AddsRow axis rows row new (Err (DuplicateKey axis n))
    refuses_key lt =
        inr (cause_repeats (text_rules axis) rows row (repeats_is ∙ grind arith)
        ∙ ap (λ m. Some (DuplicateKey axis m)) numbered)

    module _ (fresh : length old.keys ≤ position_or_len (λ key. key == row.key) old.keys) where
      new_key : repeats_key (text_rules axis) rows row ≡ false
      new_key = repeats_is ∙ grind arith

      pub refuses_name : (i : ℕ) × (i < length old.columns.items) × (bytes_eq (codes "ALL") (text_in i row) ≡ true)
          → AddsRow axis rows row new (Err (ReservedMember (InDimension axis n)))
      refuses_name named =
          let some : names_all (text_rules axis) row ≡ true =
          texts_some (λ text. bytes_eq (codes "ALL") (text row)) (lowers_of axis) named.0
          (omega (arith, named.1, is.count)) named.2 in
          inr (cause_names (text_rules axis) rows row new_key some
          ∙ ap (λ m. Some (ReservedMember (InDimension axis m))) numbered)

      module _ (unnamed : (i : ℕ) → i < length old.columns.items → bytes_eq (codes "ALL") (text_in i row) ≡ false) where
        no_name : names_all (text_rules axis) row ≡ false
        no_name = texts_none (λ text. bytes_eq (codes "ALL") (text row)) (lowers_of axis)
            (λ i lt. unnamed i (omega (arith, lt, is.count)))

        overflow_at : (i : ℕ) → i < length old.columns.items → HasNoCodeLeft (column_at old i).texts (text_in i row)
            → nat_lt 65535 (length (members_of (map (text_in i) (rows ++ row ∷ [])))) ≡ true
        overflow_at i lt lacks =
            let column = is.columns i (omega (arith, lt, is.count)) in
            let fresh_text : list_any (bytes_eq (text_in i row)) (column_of i rows) ≡ false =
            sym (list_any-firsts (text_in i row) (column_of i rows))
            ∙ ap (list_any (bytes_eq (text_in i row))) (sym column.texts_are) ∙ lacks.0 in
            let count : length (members_of (map (text_in i) (rows ++ row ∷ []))) ≡ length (firsts (column_of i rows))
            + 1 =
            ap (λ l. length (members_of l)) (column_more i) ∙ length-members (column_of i rows ++ text_in i row ∷ [])
            ∙ ap length (firsts-new (column_of i rows) (text_in i row) fresh_text)
            ∙ length_push (firsts (column_of i rows)) (text_in i row) in
            let full : 65535 ≤ length (firsts (column_of i rows)) =
            omega (arith, lacks.1, ap length column.texts_are) in
            grind arith

        pub refuses_room : HasNoRoom old row → AddsRow axis rows row new (Err (TooManyMembers (InDimension axis n)))
        refuses_room none =
            let some : overflows (text_rules axis) rows row ≡ true =
            texts_some (λ text. nat_lt 65535 (length (members_of (map text (rows ++ row ∷ []))))) (lowers_of axis)
            none.0 (omega (arith, none.1, is.count)) (overflow_at none.0 none.1 none.2) in
            inr (cause_overflows (text_rules axis) rows row new_key no_name some
            ∙ ap (λ m. Some (TooManyMembers (InDimension axis m))) numbered)

        module _ (numbers : List ℕ) (numbers_are : Numbers old row numbers) where
          fits_at : (i : ℕ) → i < length (lowers_of axis)
              → nat_lt 65535 (length (members_of (map (text_in i) (rows ++ row ∷ [])))) ≡ false
          fits_at i lt =
              let room = has_room (column_of i rows) (column_at old i) (column_at old i) (text_in i row)
              (get_or numbers i 0) 0 (numbers_are i (omega (arith, lt, is.count))) (lower_texts axis i rows)
              (is.columns i lt) in
              let count : length (members_of (map (text_in i) (rows ++ row ∷ [])))
              ≡ length (firsts (column_of i rows ++ text_in i row ∷ [])) =
              ap (λ l. length (members_of l)) (column_more i)
              ∙ length-members (column_of i rows ++ text_in i row ∷ []) in
              grind arith

          room_for_all : overflows (text_rules axis) rows row ≡ false
          room_for_all = texts_none (λ text. nat_lt 65535 (length (members_of (map text (rows ++ row ∷ [])))))
              (lowers_of axis) fits_at

          -- ---- one column

          long : (i j : ℕ) → length (column_of j rows) ≡ length (column_of i rows)
          long i j = length-map rows (text_in j) ∙ sym (length-map rows (text_in i))

          place_above : (j : ℕ) → j < length (lowers_of axis)
              → get_or numbers j 0 ≡ position_or_len (bytes_eq (text_in j row)) (firsts (column_of j rows))
          place_above j lt = (numbers_are j (omega (arith, lt, is.count))).0
              ∙ ap (position_or_len (bytes_eq (text_in j row))) (is.columns j lt).texts_are

          module _ (i : ℕ) (lt : i < length (lowers_of axis)) (grown : Column) where
            entered : (o : Option ℕ) (fits : Bool) → lower_of axis i ≡ o → EntersAt old row numbers i fits grown
                → Enters (column_at old i) (place_for o (length old.keys) numbers) (text_in i row) (get_or numbers i 0)
                fits grown
            entered o fits e enters =
                subst (λ l. Enters (column_at old i) (place_for l (length old.keys) numbers) (text_in i row)
                (get_or numbers i 0) fits grown) (is.lowers i lt ∙ e) enters

            column_over : (o : Option ℕ) → lower_of axis i ≡ o
                → IsColumn (column_of i rows) (option_map (λ j. column_of j rows) o) (column_at old i)
            column_over o e =
                subst (λ l. IsColumn (column_of i rows) (option_map (λ j. column_of j rows) l) (column_at old i)) e
                (is.columns i lt)

            at_rows : length old.keys ≡ length (column_of i rows)
            at_rows = row_number ∙ sym (length-map rows (text_in i))

            column_lt : i < length old.columns.items
            column_lt = omega (arith, lt, is.count)

            grows_at : EntersAt old row numbers i true grown
                → IsColumn (column_of i (rows ++ row ∷ [])) (lower_texts axis i (rows ++ row ∷ [])) grown
            grows_at enters =
                elim (lower_of axis i) as
                (λ o. lower_of axis i ≡ o
                → IsColumn (column_of i (rows ++ row ∷ [])) (option_map (λ j. column_of j (rows ++ row ∷ [])) o)
                grown) [
                  | None ↦ λ e. subst (λ t. IsColumn t None grown) (sym (column_more i))
                      (grows_above_rows (column_of i rows) (column_at old i) grown (text_in i row) (get_or numbers i 0)
                      (length old.keys) (numbers_are i column_lt) (column_over None e) at_rows
                      (entered None true e enters))
                  | Some j ↦ λ e.
                      let below = lower_below axis i j e in
                      let above : IsColumn (column_of i rows ++ text_in i row ∷ [])
                      (Some (column_of j rows ++ text_in j row ∷ [])) grown =
                      grows_above (column_of i rows) (column_at old i) grown (text_in i row) (get_or numbers i 0)
                      (get_or numbers j 0) (numbers_are i column_lt) (column_of j rows) (text_in j row)
                      (column_over (Some j) e) (long i j) (place_above j (omega (arith, below, lt)))
                      (entered (Some j) true e enters) in
                      subst (λ t. IsColumn (column_of i (rows ++ row ∷ [])) (Some t) grown) (sym (column_more j))
                      (subst (λ t. IsColumn t (Some (column_of j rows ++ text_in j row ∷ [])) grown)
                      (sym (column_more i)) above)
                ] refl

            unbroken_at : EntersAt old row numbers i true grown → (j : ℕ) → lower_of axis i ≡ Some j
                → link_test rows row (text_in j, text_in i) ≡ false
            unbroken_at enters j e = agreement rows row j i (λ k k_lt here.
                let below = lower_below axis i j e in
                let agree = agrees_above (column_of i rows) (column_at old i) grown (text_in i row) (get_or numbers i 0)
                (get_or numbers j 0) (numbers_are i column_lt) (column_of j rows) (text_in j row)
                (column_over (Some j) e) (long i j) (place_above j (omega (arith, below, lt)))
                (entered (Some j) true e enters) k (omega (arith, k_lt, length-map rows (text_in i)))
                (get_or-map (text_in j) rows k no_row [] k_lt ∙ here) in
                sym (get_or-map (text_in i) rows k no_row [] k_lt) ∙ agree)

            broken_at : EntersAt old row numbers i false grown → breaks_link (text_rules axis) rows row ≡ true
            broken_at enters =
                elim (lower_of axis i) as (λ o. lower_of axis i ≡ o → breaks_link (text_rules axis) rows row ≡ true) [
                  | None ↦ λ e. absurd
                      (fits_above_rows (column_of i rows) (column_at old i) grown (text_in i row) (get_or numbers i 0)
                      (length old.keys) (numbers_are i column_lt) (column_over None e) at_rows
                      (entered None false e enters))
                  | Some j ↦ λ e.
                      let below = lower_below axis i j e in
                      let bad = disagrees_above (column_of i rows) (column_at old i) grown (text_in i row)
                      (get_or numbers i 0) (get_or numbers j 0) (numbers_are i column_lt) (column_of j rows)
                      (text_in j row)
                      (column_over (Some j) e) (long i j) (place_above j (omega (arith, below, lt)))
                      (entered (Some j) false e enters) in
                      let k_lt : bad.0 < length rows = omega (arith, bad.1.0, length-map rows (text_in i)) in
                      links_some (link_test rows row) (lowers_of axis) i j e
                      (disagreement rows row j i bad.0 k_lt (sym (get_or-map (text_in j) rows bad.0 no_row [] k_lt)
                      ∙ bad.1.1) (λ again. bad.1.2 (get_or-map (text_in i) rows bad.0 no_row [] k_lt ∙ again)))
                ] refl

          -- ---- all columns

          pub refuses_link : (i : ℕ) × (i < length old.columns.items)
              × ((grown : Column) × EntersAt old row numbers i false grown)
              → AddsRow axis rows row new (Err (HierarchyBroken axis n))
          refuses_link bad =
              let broken = broken_at bad.0 (omega (arith, bad.1, is.count)) bad.2.0 bad.2.1 in
              inr (cause_breaks (text_rules axis) rows row new_key no_name room_for_all broken
              ∙ ap (λ m. Some (HierarchyBroken axis m)) numbered)

          pub adds_row : row.key < 2 ^ 32 → new.keys ≡ old.keys ++ row.key ∷ []
              → length new.columns.items ≡ length old.columns.items
              → ((i : ℕ) → i < length old.columns.items → EntersAt old row numbers i true (column_at new i))
              → AddsRow axis rows row new (Ok tt)
          adds_row fits keys count enters = (
            record {
              keys = keys ∙ ap (λ l. l ++ row.key ∷ []) is.keys ∙ sym (map_push (λ r. r.key) rows row);
              fit = keys_fit rows row is.fit fits;
              count = count ∙ is.count;
              lowers = λ i lt. (enters i (omega (arith, lt, is.count))).lower ∙ is.lowers i lt;
              columns = λ i lt. grows_at i lt (column_at new i) (enters i (omega (arith, lt, is.count)));
            },
            no_cause (text_rules axis) rows row new_key no_name room_for_all
                (links_none (link_test rows row) (lowers_of axis)
                (λ i j lt e. unbroken_at i lt (column_at new i) (enters i (omega (arith, lt, is.count))) j e)),
          )

          pub adds_or_fails : row.key < 2 ^ 32 → (result : Result (Unit {0}) Fault)
              → OnOk result (new.keys ≡ old.keys ++ row.key ∷ [])
              → length new.columns.items ≡ length old.columns.items
              → ((i : ℕ) → i < length old.columns.items → EntersAt old row numbers i true (column_at new i))
              → IfErr result (λ fault. fault ≡ Memory) → AddsRow axis rows row new result
          adds_or_fails fits (Ok tt) keys count enters memory = adds_row fits keys count enters
          adds_or_fails fits (Err fault) keys count enters memory = inl memory
