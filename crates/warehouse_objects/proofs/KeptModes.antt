-- The ship modes that a warehouse keeps, and how they grow by a batch.
use Rattle.std.proofs.Common.{◌≡◌, ◌≤◌, ◌+◌, ◌∙◌, suc, sym, ap, refl, subst, arith}
use Rattle.std.proofs.Common.{nat_lt, if◌then◌else◌, ℕ, Bool, true, false, ◌||◌, List, [], ◌∷◌, ◌++◌, length}
use Rattle.std.proofs.Common.{Option, Some, None, IfNone, All, get_or, slice_get, take, drop, take-append-drop}
use Rattle.std.proofs.Common.{length-append}
use Rattle.std.proofs.lemmas.Grind.{flat_map-append}
use Rattle.std.specs.Prelude.{cond, not}
use Rattle.std.specs.List.{filter, list_any, position_or_len}
use Rattle.std.specs.Option.{option_map}
use Rattle.std.specs.Prelude.{codes, position}
use Rattle.std.specs.Str.{bytes_eq}
use Rattle.std.proofs.lemmas.Bool.Decides.{nat_tests}
use Rattle.std.proofs.lemmas.List.{append-nil, append_assoc, map-append}
use Rattle.std.proofs.lemmas.List.Elements.{All-append, All-head, All-map, All-nil, All-tail, filter-append}
use Rattle.std.proofs.lemmas.Option.{slice_get-get_or}
use Rattle.std.proofs.lemmas.List.Folds.{list_any-append}
use Rattle.cube_model.specs.declared.fault.Fault.{Fault}
use Rattle.cube_model.specs.declared.fault.Fault.TheVariants.{ReservedMember, TooManyMembers}
use Rattle.cube_model.specs.declared.fault.MemberPlace.TheVariants.{InBatch}
use Rattle.cube_model.specs.declared.rows.DimRows.{DimRows}
use Rattle.cube_model.specs.declared.rows.LineOrder.{LineOrder}
use Rattle.cube_model.specs.Admission.{IsAdmissible, all_rows, early_refusal, sums_cause}
use Rattle.cube_model.specs.Causes.{first_cause}
use Rattle.cube_model.specs.Limits.{longest_text, most_members}
use Rattle.cube_model.specs.ShipModes.{crowded_place, modes_cause, modes_in, reserved_place}
use Rattle.cube_model.specs.Validity.{members_of}
use Rattle.batch_admission.proofs.CallerLemmas.{all_rows-last}
use Rattle.batch_admission.specs.ShipModes.{row_number_at}
use Rattle.dictionary.specs.Dictionary.{EachOnce, firsts}
use Rattle.dictionary.specs.Spelling.{AreShort}
use Rattle.dictionary.proofs.CallerLemmas.{absent, list_any-firsts, list_any_place}
use Rattle.dictionary.proofs.ColumnLaws.{AreProper-firsts}
use Rattle.dimensions.proofs.MemberLaws.{length-members}
use Rattle.column_segment.specs.Segment.{IsBatch}
use Rattle.column_segment.specs.declared.columns.TextColumn.TheVariants.{ShipMode}
use Rattle.warehouse_root.specs.declared.layout.Layout.{Layout}
use Rattle.warehouse_root.specs.declared.layout.Layout.TheVariants.{First, Second}
use Rattle.warehouse_root.specs.Modes.{AreModes, kept_modes}
use Rattle.warehouse_objects.specs.Facts.{IsAdmissibleIn}
use Rattle.warehouse_objects.specs.Warehouse.{AreInOrder}
use Rattle.warehouse_objects.proofs.Batches.{batch_at, both, is_batch, only, take_next}

-- ---- an admissible batch

none_of : (first second : Option Fault) → first ≡ None → second ≡ None → first_cause (first ∷ second ∷ []) ≡ None
none_of first second a b = rw (a, b) refl

-- a batch that is admissible in a layout is so whatever its ship modes are
pub admissible_in : (layout : Layout) (rows : DimRows) (batches : List (List LineOrder)) (number : ℕ)
    (batch : List LineOrder) → IsAdmissibleIn layout rows batches number batch → IsAdmissible rows batches number batch
admissible_in First rows batches number batch is = is
admissible_in Second rows batches number batch is =
    let early = both (early_refusal rows batches number batch) _ is in
    let modes = both (modes_cause InBatch (modes_in (all_rows batches)) (modes_in batch)) _ early.1 in
    none_of (early_refusal rows batches number batch) (sums_cause (all_rows batches ++ batch)) early.0
    (only (sums_cause (all_rows batches ++ batch)) modes.1)

-- ---- no ship modes

pub nothing_kept : (layout : Layout) → kept_modes layout [] ≡ []
nothing_kept First = refl
nothing_kept Second = refl

pub no_modes : AreModes []
no_modes = record {
  proper = record { each_once = tt; short = All-nil (λ text. length text ≤ longest_text); most = omega arith };
  free = refl;
}

pub modes_none : (layout : Layout) → AreModes (kept_modes layout (all_rows []))
modes_none layout = subst AreModes (sym (nothing_kept layout)) no_modes

-- ---- more texts

-- the texts of a longer list begin with those of the shorter one
pub firsts_begin : (texts others : List (List ℕ)) → (rest : List (List ℕ))
    × (firsts (texts ++ others) ≡ firsts texts ++ rest)
firsts_begin [] others = (firsts others, refl)
firsts_begin (text ∷ texts) others =
    let shorter = firsts_begin texts others in
    let differs = λ (other : List ℕ). not (bytes_eq text other) in (
      filter differs shorter.0,
      ap (λ l. text ∷ filter differs l) shorter.1
          ∙ ap (λ l. text ∷ l) (filter-append differs (firsts texts) shorter.0),
    )

-- the ship modes of more rows begin with those of the others
pub modes_begin : (layout : Layout) (rows more : List LineOrder) → (rest : List (List ℕ))
    × (kept_modes layout (rows ++ more) ≡ kept_modes layout rows ++ rest)
modes_begin First rows more = ([], refl)
modes_begin Second rows more =
    let longer = firsts_begin (modes_in rows) (modes_in more) in (
      longer.0,
      ap firsts (map-append (λ (row : LineOrder). row.shipmode) rows more) ∙ longer.1,
    )

nothing_after : (xs rest : List (List ℕ)) → length (xs ++ rest) ≡ length xs → xs ++ rest ≡ xs
nothing_after xs [] same = append-nil xs
nothing_after xs (x ∷ rest) same = absurd (omega (arith, same, length-append xs (x ∷ rest)))

-- as many are the same ones
pub modes_same : (layout : Layout) (rows more : List LineOrder)
    → length (kept_modes layout (rows ++ more)) ≡ length (kept_modes layout rows)
    → kept_modes layout (rows ++ more) ≡ kept_modes layout rows
modes_same layout rows more same =
    let longer = modes_begin layout rows more in
    longer.1 ∙ nothing_after (kept_modes layout rows) longer.0 (sym (ap length longer.1) ∙ same)

-- ---- the limits

-- where a fault of a place is none, there is no place
pub unmapped : (f : ℕ → Fault) (o : Option ℕ) → option_map f o ≡ None → o ≡ None
unmapped f None e = refl
unmapped f (Some x) e = absurd cc

nowhere : (texts : List (List ℕ)) → reserved_place texts ≡ None → list_any (bytes_eq (codes "ALL")) texts ≡ false
nowhere texts none = absent texts (codes "ALL") none

-- where no text is one too many, all are few enough
pub never_crowded : (earlier modes : List (List ℕ)) → length (members_of earlier) ≤ most_members
    → crowded_place earlier modes ≡ None → length (members_of (earlier ++ modes)) ≤ most_members
never_crowded earlier [] few none = subst (λ l. length (members_of l) ≤ most_members) (sym (append-nil earlier)) few
never_crowded earlier (mode ∷ modes) few none =
    (elim (nat_lt most_members (length (members_of (earlier ++ mode ∷ [])))) as
    (λ (b : Bool). nat_lt most_members (length (members_of (earlier ++ mode ∷ []))) ≡ b
    → (if b then Some 0 else option_map suc (crowded_place (earlier ++ mode ∷ []) modes)) ≡ None
    → length (members_of (earlier ++ mode ∷ modes)) ≤ most_members) [
      | true ↦ λ e here. absurd (cc here)
      | false ↦ λ e here.
          let low : length (members_of (earlier ++ mode ∷ [])) ≤ most_members = grind (arith, nat_tests, e) in
          subst (λ l. length (members_of l) ≤ most_members) (append_assoc earlier (mode ∷ []) modes)
          (never_crowded (earlier ++ mode ∷ []) modes low
          (later (crowded_place (earlier ++ mode ∷ []) modes) here))
    ]) refl none
  where
    later : (o : Option ℕ) → option_map suc o ≡ None → o ≡ None
    later None e = refl
    later (Some x) e = absurd cc

-- ---- short texts

all_flat : (P : LineOrder → Type 0) (batches : List (List LineOrder)) → All (λ batch. All P batch) batches
    → All P (all_rows batches)
all_flat P [] all = All-nil P
all_flat P (batch ∷ batches) all =
    All-append P batch (all_rows batches) (All-head (λ b. All P b) batch batches all)
    (all_flat P batches (All-tail (λ b. All P b) batch batches all))

abbrev IsShortMode : LineOrder → Type 0
IsShortMode row = length row.shipmode ≤ longest_text

short_modes : (batch : List LineOrder) → IsBatch batch → All IsShortMode batch
short_modes batch is = is.short ShipMode

short_rows : (rows : DimRows) (batches : List (List LineOrder)) → AreInOrder rows batches
    → All IsShortMode (all_rows batches)
short_rows rows batches order =
    all_flat IsShortMode batches (λ k d within.
    short_modes (get_or batches k d) (batch_at rows batches order k (get_or batches k d)
    (slice_get-get_or batches k d within)))

-- ---- the ship modes with those of one batch more

module _ (layout : Layout) (rows : DimRows) (batches : List (List LineOrder)) (number : ℕ) (batch : List LineOrder)
    (order : AreInOrder rows batches) (are : AreModes (kept_modes layout (all_rows batches)))
    (admissible : IsAdmissibleIn layout rows batches number batch) where
  pub modes_more : AreModes (kept_modes layout (all_rows batches ++ batch))
  modes_more = by layout are admissible
    where
      by : (l : Layout) → AreModes (kept_modes l (all_rows batches)) → IsAdmissibleIn l rows batches number batch
          → AreModes (kept_modes l (all_rows batches ++ batch))
      by First was passed = was
      by Second was passed =
          let before : List (List ℕ) = modes_in (all_rows batches) in
          let early = both (early_refusal rows batches number batch) _ passed in
          let modes = both (modes_cause InBatch before (modes_in batch)) _ early.1 in
          let reserved =
          both (option_map (λ place. ReservedMember (InBatch (place + 1))) (reserved_place (modes_in batch))) _
          modes.0 in
          let crowded = only (option_map (λ place. TooManyMembers (InBatch (place + 1)))
          (crowded_place before (modes_in batch))) reserved.1 in
          let free : list_any (bytes_eq (codes "ALL")) (modes_in batch) ≡ false =
          nowhere (modes_in batch)
          (unmapped (λ place. ReservedMember (InBatch (place + 1))) (reserved_place (modes_in batch)) reserved.0) in
          let few_before : length (members_of before) ≤ most_members =
          omega (arith, length-members before, was.proper.most) in
          let few : length (members_of (before ++ modes_in batch)) ≤ most_members =
          never_crowded before (modes_in batch) few_before
          (unmapped (λ place. TooManyMembers (InBatch (place + 1))) (crowded_place before (modes_in batch)) crowded) in
          let parts : modes_in (all_rows batches ++ batch) ≡ before ++ modes_in batch =
          map-append (λ (row : LineOrder). row.shipmode) (all_rows batches) batch in
          let shorts : AreShort (before ++ modes_in batch) =
          All-append (λ text. length text ≤ longest_text) before (modes_in batch)
          (All-map (λ text. length text ≤ longest_text) (λ (row : LineOrder). row.shipmode) (all_rows batches)
          (short_rows rows batches order))
          (All-map (λ text. length text ≤ longest_text) (λ (row : LineOrder). row.shipmode) batch
          (short_modes batch (is_batch rows batches number batch
          (admissible_in Second rows batches number batch passed)))) in
          subst (λ (l : List (List ℕ)). AreModes (firsts l)) (sym parts) (record {
            proper = AreProper-firsts most_members (before ++ modes_in batch) shorts
                (omega (arith, length-members (before ++ modes_in batch), few));
            free = list_any-firsts (codes "ALL") (before ++ modes_in batch)
                ∙ list_any-append (bytes_eq (codes "ALL")) before (modes_in batch)
                ∙ both_false (list_any (bytes_eq (codes "ALL")) before)
                (list_any (bytes_eq (codes "ALL")) (modes_in batch))
                (sym (list_any-firsts (codes "ALL") before) ∙ was.free) free;
          })
        where
          both_false : (a b : Bool) → a ≡ false → b ≡ false → (a || b) ≡ false
          both_false false b x y = y
          both_false true b x y = absurd (cc x)

-- ---- the ship modes that are kept in memory, with those of a batch

keeps_all : (text : List ℕ) (texts : List (List ℕ)) → list_any (bytes_eq text) texts ≡ false
    → filter (λ other. not (bytes_eq text other)) texts ≡ texts
keeps_all text [] none = refl
keeps_all text (other ∷ texts) none =
    (elim (bytes_eq text other) as (λ (b : Bool). (b || list_any (bytes_eq text) texts) ≡ false
    → (if not b then other ∷ filter (λ o. not (bytes_eq text o)) texts else filter (λ o. not (bytes_eq text o)) texts)
    ≡ other ∷ texts) [
      | true ↦ λ e. absurd (cc e)
      | false ↦ λ e. ap (λ l. other ∷ l) (keeps_all text texts e)
    ]) none

-- texts of which none occurs twice are those of their first use
pub firsts-once : (texts : List (List ℕ)) → EachOnce texts → firsts texts ≡ texts
firsts-once [] once = refl
firsts-once (text ∷ texts) once =
    ap (λ l. text ∷ filter (λ other. not (bytes_eq text other)) l) (firsts-once texts once.1)
    ∙ ap (λ l. text ∷ l) (keeps_all text texts once.0)

at_row : (f : ℕ → Fault) (place : Option ℕ) (row : ℕ) → Some row ≡ row_number_at place
    → option_map (λ p. f (p + 1)) place ≡ Some (f row)
at_row f None row e = absurd cc
at_row f (Some p) row e = let same : row ≡ p + 1 = some_number row (p + 1) e in ap (λ n. Some (f n)) (sym same)
  where
    some_number : (a b : ℕ) → Some a ≡ Some b → a ≡ b
    some_number a b e = cc

at_no_row : (f : ℕ → Fault) (place : Option ℕ) → None ≡ row_number_at place → option_map (λ p. f (p + 1)) place ≡ None
at_no_row f None e = refl
at_no_row f (Some p) e = absurd cc

module _ (earlier texts : List (List ℕ)) where
  pub cause_reserved : (row : ℕ) → Some row ≡ row_number_at (reserved_place texts)
      → modes_cause InBatch earlier texts ≡ Some (ReservedMember (InBatch row))
  cause_reserved row e =
      ap (λ (c : Option Fault). first_cause (c ∷ option_map (λ p. TooManyMembers (InBatch (p + 1)))
      (crowded_place earlier texts) ∷ []))
      (at_row (λ n. ReservedMember (InBatch n)) (reserved_place texts) row e)

  pub cause_crowded : (row : ℕ) → None ≡ row_number_at (reserved_place texts)
      → Some row ≡ row_number_at (crowded_place earlier texts)
      → modes_cause InBatch earlier texts ≡ Some (TooManyMembers (InBatch row))
  cause_crowded row none e =
      ap (λ (c : Option Fault). first_cause (c ∷ option_map (λ p. TooManyMembers (InBatch (p + 1)))
      (crowded_place earlier texts) ∷ []))
      (at_no_row (λ n. ReservedMember (InBatch n)) (reserved_place texts) none)
      ∙ ap (λ (c : Option Fault). first_cause (c ∷ []))
      (at_row (λ n. TooManyMembers (InBatch n)) (crowded_place earlier texts) row e)

  pub cause_none : None ≡ row_number_at (reserved_place texts) → None ≡ row_number_at (crowded_place earlier texts)
      → modes_cause InBatch earlier texts ≡ None
  cause_none none also =
      ap (λ (c : Option Fault). first_cause (c ∷ option_map (λ p. TooManyMembers (InBatch (p + 1)))
      (crowded_place earlier texts) ∷ []))
      (at_no_row (λ n. ReservedMember (InBatch n)) (reserved_place texts) none)
      ∙ ap (λ (c : Option Fault). first_cause (c ∷ []))
      (at_no_row (λ n. TooManyMembers (InBatch n)) (crowded_place earlier texts) also)

pub none_then : {P : Type 0} (o : Option ℕ) → o ≡ None → IfNone o P → P
none_then None e there = there
none_then (Some x) e there = absurd cc

-- those of a batch after ship modes that can be members
pub modes_after : (known texts more : List (List ℕ)) → AreModes known → AreShort texts
    → None ≡ row_number_at (reserved_place texts) → more ≡ firsts (known ++ texts) → length more ≤ most_members
    → AreModes more
modes_after known texts more are short free is few =
    let none : list_any (bytes_eq (codes "ALL")) texts ≡ false =
    nowhere texts
    (unmapped (λ p. ReservedMember (InBatch (p + 1))) (reserved_place texts)
    (at_no_row (λ n. ReservedMember (InBatch n)) (reserved_place texts) free)) in
    subst AreModes (sym is) (record {
      proper = AreProper-firsts most_members (known ++ texts)
          (All-append (λ text. length text ≤ longest_text) known texts are.proper.short short)
          (omega (arith, few, ap length is));
      free = list_any-firsts (codes "ALL") (known ++ texts)
          ∙ list_any-append (bytes_eq (codes "ALL")) known texts
          ∙ neither (list_any (bytes_eq (codes "ALL")) known) (list_any (bytes_eq (codes "ALL")) texts) are.free none;
    })
  where
    neither : (a b : Bool) → a ≡ false → b ≡ false → (a || b) ≡ false
    neither false b x y = y
    neither true b x y = absurd (cc x)

-- ---- the first of batches that are represented

no_fewer : (xs ys : List (List ℕ)) → length (members_of xs) ≤ length (members_of (xs ++ ys))
no_fewer xs ys =
    let longer = firsts_begin xs ys in
    omega (
      arith,
      length-members xs,
      length-members (xs ++ ys),
      ap length longer.1,
      length-append (firsts xs) longer.0,
    )

-- where all are few enough, no text is one too many
pub crowded_none : (earlier modes rest : List (List ℕ))
    → length (members_of (earlier ++ (modes ++ rest))) ≤ most_members
    → crowded_place earlier modes ≡ None
crowded_none earlier [] rest few = refl
crowded_none earlier (mode ∷ modes) rest few =
    let parts : (earlier ++ mode ∷ []) ++ (modes ++ rest) ≡ earlier ++ (mode ∷ modes ++ rest) =
    append_assoc earlier (mode ∷ []) (modes ++ rest) in
    let all : length (members_of ((earlier ++ mode ∷ []) ++ (modes ++ rest))) ≤ most_members =
    subst (λ l. length (members_of l) ≤ most_members) (sym parts) few in
    let here : nat_lt most_members (length (members_of (earlier ++ mode ∷ []))) ≡ false =
    enough (length (members_of (earlier ++ mode ∷ [])))
    (omega (arith, no_fewer (earlier ++ mode ∷ []) (modes ++ rest), all)) in
    ap (λ (b : Bool). if b then Some 0 else option_map suc (crowded_place (earlier ++ mode ∷ []) modes)) here
    ∙ ap (option_map suc) (crowded_none (earlier ++ mode ∷ []) modes rest all)
  where
    enough : (n : ℕ) → n ≤ most_members → nat_lt most_members n ≡ false
    enough n le = grind (arith, nat_tests, le)

pub somewhere : (p : List ℕ → Bool) (xs : List (List ℕ)) → list_any p xs ≡ false → position p xs ≡ None
somewhere p xs none = ap (λ b. cond b (Some (position_or_len p xs)) None) (sym (list_any_place p xs) ∙ none)

-- ship modes that can be members give no cause to refuse some of them after others
fit_modes : (before modes rest : List (List ℕ)) → AreModes (firsts (before ++ (modes ++ rest)))
    → modes_cause InBatch before modes ≡ None
fit_modes before modes rest are =
    let all : length (members_of (before ++ (modes ++ rest))) ≤ most_members =
    omega (arith, length-members (before ++ (modes ++ rest)), are.proper.most) in
    let none : list_any (bytes_eq (codes "ALL")) (before ++ (modes ++ rest)) ≡ false =
    sym (list_any-firsts (codes "ALL") (before ++ (modes ++ rest))) ∙ are.free in
    let parts : (list_any (bytes_eq (codes "ALL")) before || (list_any (bytes_eq (codes "ALL")) modes
    || list_any (bytes_eq (codes "ALL")) rest)) ≡ false =
    ap (λ (b : Bool). list_any (bytes_eq (codes "ALL")) before || b)
    (sym (list_any-append (bytes_eq (codes "ALL")) modes rest))
    ∙ sym (list_any-append (bytes_eq (codes "ALL")) before (modes ++ rest)) ∙ none in
    ap (λ (o : Option ℕ). first_cause (option_map (λ p. ReservedMember (InBatch (p + 1))) o
    ∷ option_map (λ p. TooManyMembers (InBatch (p + 1))) (crowded_place before modes) ∷ []))
    (somewhere (bytes_eq (codes "ALL")) modes
    (middle (list_any (bytes_eq (codes "ALL")) before) (list_any (bytes_eq (codes "ALL")) modes) _ parts))
    ∙ ap (λ (o : Option ℕ). first_cause (option_map (λ p. TooManyMembers (InBatch (p + 1))) o ∷ []))
    (crowded_none before modes rest all)
  where
    middle : (a b c : Bool) → (a || (b || c)) ≡ false → b ≡ false
    middle true b c e = absurd (cc e)
    middle false true c e = absurd (cc e)
    middle false false c e = refl

none_of_three : (a b c : Option Fault) → a ≡ None → b ≡ None → c ≡ None → first_cause (a ∷ b ∷ c ∷ []) ≡ None
none_of_three a b c x y z = rw (x, y, z) refl

-- each batch of some in order may follow those before it, also by its ship modes
pub admitted_in_order : (layout : Layout) (rows : DimRows) (batches : List (List LineOrder)) → AreInOrder rows batches
    → AreModes (kept_modes layout (all_rows batches)) → (before : ℕ) (batch : List LineOrder)
    → slice_get batches before ≡ Some batch
    → IsAdmissibleIn layout rows (take before batches) (length (take before batches) + 1) batch
admitted_in_order First rows batches order are before batch here = (order before batch here).admissible
admitted_in_order Second rows batches order are before batch here =
    let front : List (List LineOrder) = take before batches in
    let number : ℕ = length front + 1 in
    let plain = (order before batch here).admissible in
    let early = both (early_refusal rows front number batch) _ plain in
    let all : all_rows batches ≡ all_rows front ++ (batch ++ all_rows (drop (suc before) batches)) =
    ap all_rows (sym (take-append-drop (suc before) batches))
    ∙ flat_map-append (λ (b : List LineOrder). b) (take (suc before) batches) (drop (suc before) batches)
    ∙ ap (λ l. all_rows l ++ all_rows (drop (suc before) batches)) (take_next batches before batch here)
    ∙ ap (λ l. l ++ all_rows (drop (suc before) batches)) (all_rows-last front batch)
    ∙ append_assoc (all_rows front) batch (all_rows (drop (suc before) batches)) in
    let modes : modes_in (all_rows batches)
    ≡ modes_in (all_rows front) ++ (modes_in batch ++ modes_in (all_rows (drop (suc before) batches))) =
    ap modes_in all
    ∙ map-append (λ (row : LineOrder). row.shipmode) (all_rows front)
    (batch ++ all_rows (drop (suc before) batches))
    ∙ ap (λ l. modes_in (all_rows front) ++ l)
    (map-append (λ (row : LineOrder). row.shipmode) batch (all_rows (drop (suc before) batches))) in
    none_of_three (early_refusal rows front number batch)
    (modes_cause InBatch (modes_in (all_rows front)) (modes_in batch)) (sums_cause (all_rows front ++ batch)) early.0
    (fit_modes (modes_in (all_rows front)) (modes_in batch) (modes_in (all_rows (drop (suc before) batches)))
    (subst (λ l. AreModes (firsts l)) modes are))
    (only (sums_cause (all_rows front ++ batch)) early.1)
