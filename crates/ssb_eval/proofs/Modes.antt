-- The ship modes of rows that are looked at one after the other, and the first rows for which they are refused.
use Rattle.std.proofs.Common.{◌≡◌, ◌<◌, ◌≤◌, ◌+◌, ◌||◌, ◌∙◌, suc, sym, ap, refl, subst, arith, true≢false, cond, ℕ}
use Rattle.std.proofs.Common.{Bool}
use Rattle.std.proofs.Common.{true, false, nat_lt, if◌then◌else◌, List, [], ◌∷◌, ◌++◌, length, Option, Some, None}
use Rattle.std.proofs.Common.{is_some}
use Rattle.std.proofs.Common.{MatchOption, append_assoc, append-nil, length-append}
use Rattle.std.specs.Prelude.{codes, position}
use Rattle.std.specs.List.{list_any, position_or_len}
use Rattle.std.specs.Option.{option_map}
use Rattle.std.specs.Str.{bytes_eq}
use Rattle.std.proofs.lemmas.Bool.Decides.{nat_tests}
use Rattle.std.proofs.lemmas.List.{map-append}
use Rattle.cube_model.specs.declared.fault.Fault.{Fault}
use Rattle.cube_model.specs.declared.fault.Fault.TheVariants.{ReservedMember, TooManyMembers}
use Rattle.cube_model.specs.declared.fault.MemberPlace.TheVariants.{InBatch}
use Rattle.cube_model.specs.declared.rows.LineOrder.{LineOrder}
use Rattle.cube_model.specs.Admission.{all_rows}
use Rattle.cube_model.specs.Causes.{first_cause}
use Rattle.cube_model.specs.Limits.{most_members}
use Rattle.cube_model.specs.ShipModes.{crowded_place, modes_cause, modes_in, reserved_place}
use Rattle.cube_model.specs.Validity.{members_of}
use Rattle.batch_admission.proofs.CallerLemmas.{all_rows-last}
use Rattle.batch_admission.specs.ShipModes.{row_number_at}
use Rattle.dictionary.specs.Dictionary.{Adds, Texts, code_of, firsts, with_text}
use Rattle.dictionary.proofs.CallerLemmas.{absent, firsts-new, list_any-firsts, list_any_place, list_any_push}
use Rattle.dictionary.proofs.CallerLemmas.{place_append, place_last}
use Rattle.dictionary.proofs.ColumnLaws.{adds_column}
use Rattle.dimensions.proofs.MemberLaws.{length-members}
use Rattle.ssb_eval.specs.ShipModes.{HasMet, Met, cause_met}

-- ---- the first row with the reserved ship mode

module _ (p : List ℕ → Bool) (xs : List (List ℕ)) where
  position_is : position p xs ≡ cond (list_any p xs) (Some (position_or_len p xs)) None
  position_is = ap (λ b. cond b (Some (position_or_len p xs)) None) (sym (list_any_place p xs))

  position_some : (k : ℕ) → position p xs ≡ Some k → (list_any p xs ≡ true) × (position_or_len p xs ≡ k)
  position_some k e = by (list_any p xs) (sym position_is ∙ e)
    where
      by : (b : Bool) → cond b (Some (position_or_len p xs)) None ≡ Some k → (b ≡ true) × (position_or_len p xs ≡ k)
      by true e = (refl, cc)
      by false e = absurd cc

  position_none : position p xs ≡ None → list_any p xs ≡ false
  position_none e = by (list_any p xs) (sym position_is ∙ e)
    where
      by : (b : Bool) → cond b (Some (position_or_len p xs)) None ≡ None → b ≡ false
      by true e = absurd cc
      by false e = refl

  kept_place : (x : List ℕ) (k : ℕ) → position p xs ≡ Some k → position p (xs ++ x ∷ []) ≡ Some k
  kept_place x k e =
      let is = position_some k e in
      ap (λ b. cond b (Some (position_or_len p (xs ++ x ∷ []))) None)
      (sym (list_any_place p (xs ++ x ∷ [])) ∙ list_any_push p xs x ∙ ap (λ b. b || p x) is.0)
      ∙ ap Some (place_append p xs (x ∷ []) is.0 ∙ is.1)

  last_place : (x : List ℕ) → position p xs ≡ None → p x ≡ true → position p (xs ++ x ∷ []) ≡ Some (length xs)
  last_place x e here =
      ap (λ b. cond b (Some (position_or_len p (xs ++ x ∷ []))) None)
      (sym (list_any_place p (xs ++ x ∷ [])) ∙ list_any_push p xs x ∙ ap (λ b. b || p x) (position_none e) ∙ here)
      ∙ ap Some (place_last p xs x (position_none e) here)

  no_place : (x : List ℕ) → position p xs ≡ None → p x ≡ false → position p (xs ++ x ∷ []) ≡ None
  no_place x e here =
      ap (λ b. cond b (Some (position_or_len p (xs ++ x ∷ []))) None)
      (sym (list_any_place p (xs ++ x ∷ [])) ∙ list_any_push p xs x ∙ ap (λ b. b || p x) (position_none e) ∙ here)

no_row : (place : Option ℕ) → None ≡ row_number_at place → place ≡ None
no_row None e = refl
no_row (Some k) e = absurd cc

pub not_some : (found : Option ℕ) → is_some found ≡ false → found ≡ None
not_some None e = refl
not_some (Some n) e = absurd (true≢false e)

some_of_none : (found : Option ℕ) → is_some found ≡ true → found ≡ None → ⊥
some_of_none None e is = true≢false (sym e)
some_of_none (Some n) e is = absurd cc

module _ (modes : List (List ℕ)) (mode : List ℕ) (first : Option ℕ)
    (first_is : first ≡ row_number_at (reserved_place modes)) where
  pub reserved_before : is_some first ≡ true → first ≡ row_number_at (reserved_place (modes ++ mode ∷ []))
  reserved_before some = by (reserved_place modes) refl first_is
    where
      by : (place : Option ℕ) → reserved_place modes ≡ place → first ≡ row_number_at place
          → first ≡ row_number_at (reserved_place (modes ++ mode ∷ []))
      by None is e = absurd (some_of_none first some e)
      by (Some k) is e = e ∙ ap row_number_at (sym (kept_place (bytes_eq (codes "ALL")) modes mode k is))

  pub reserved_here : (row : ℕ) → is_some first ≡ false → row ≡ length modes + 1 → bytes_eq (codes "ALL") mode ≡ true
      → Some row ≡ row_number_at (reserved_place (modes ++ mode ∷ []))
  reserved_here row none row_is here =
      ap Some row_is
      ∙ ap row_number_at (sym (last_place (bytes_eq (codes "ALL")) modes mode
      (no_row (reserved_place modes) (sym (not_some first none) ∙ first_is)) here))

  pub reserved_nowhere : is_some first ≡ false → bytes_eq (codes "ALL") mode ≡ false
      → None ≡ row_number_at (reserved_place (modes ++ mode ∷ []))
  reserved_nowhere none here =
      ap row_number_at (sym (no_place (bytes_eq (codes "ALL")) modes mode
      (no_row (reserved_place modes) (sym (not_some first none) ∙ first_is)) here))

-- ---- the first row with which there are too many

crowded_before : (earlier modes : List (List ℕ)) (mode : List ℕ) (k : ℕ) → crowded_place earlier modes ≡ Some k
    → crowded_place earlier (modes ++ mode ∷ []) ≡ Some k
crowded_before earlier [] mode k e = absurd cc
crowded_before earlier (other ∷ modes) mode k e =
    (elim (nat_lt most_members (length (members_of (earlier ++ other ∷ [])))) as
    (λ (b : Bool). (if b then Some 0 else option_map suc (crowded_place (earlier ++ other ∷ []) modes)) ≡ Some k
    → (if b then Some 0 else option_map suc (crowded_place (earlier ++ other ∷ []) (modes ++ mode ∷ []))) ≡ Some k) [
      | true ↦ λ here. here
      | false ↦ λ here.
          let was = earlier_place (crowded_place (earlier ++ other ∷ []) modes) k here in
          ap (option_map suc) (crowded_before (earlier ++ other ∷ []) modes mode was.0 was.1) ∙ ap Some was.2
    ]) e
  where
    earlier_place : (place : Option ℕ) (k : ℕ) → option_map suc place ≡ Some k
        → (n : ℕ) × (place ≡ Some n) × (suc n ≡ k)
    earlier_place None k e = absurd cc
    earlier_place (Some n) k e = (n, refl, cc)

crowded_last : (earlier modes : List (List ℕ)) (mode : List ℕ) → crowded_place earlier modes ≡ None
    → crowded_place earlier (modes ++ mode ∷ [])
    ≡ cond (nat_lt most_members (length (members_of ((earlier ++ modes) ++ mode ∷ [])))) (Some (length modes)) None
crowded_last earlier [] mode e =
    ap (λ (l : List (List ℕ)). cond (nat_lt most_members (length (members_of (l ++ mode ∷ [])))) (Some 0) None)
    (sym (append-nil earlier))
crowded_last earlier (other ∷ modes) mode e =
    (elim (nat_lt most_members (length (members_of (earlier ++ other ∷ [])))) as
    (λ (b : Bool). (if b then Some 0 else option_map suc (crowded_place (earlier ++ other ∷ []) modes)) ≡ None
    → (if b then Some 0 else option_map suc (crowded_place (earlier ++ other ∷ []) (modes ++ mode ∷ [])))
    ≡ cond (nat_lt most_members (length (members_of ((earlier ++ other ∷ modes) ++ mode ∷ []))))
    (Some (suc (length modes))) None) [
      | true ↦ λ here. absurd cc
      | false ↦ λ here.
          ap (option_map suc) (crowded_last (earlier ++ other ∷ []) modes mode
          (unmoved (crowded_place (earlier ++ other ∷ []) modes) here))
          ∙ moved (nat_lt most_members (length (members_of (((earlier ++ other ∷ []) ++ modes) ++ mode ∷ []))))
          (length modes)
          ∙ ap (λ (l : List (List ℕ)). cond (nat_lt most_members (length (members_of (l ++ mode ∷ []))))
          (Some (suc (length modes))) None) (append_assoc earlier (other ∷ []) modes)
    ]) e
  where
    unmoved : (place : Option ℕ) → option_map suc place ≡ None → place ≡ None
    unmoved None e = refl
    unmoved (Some n) e = absurd cc

    moved : (b : Bool) (n : ℕ) → option_map suc (cond b (Some n) None) ≡ cond b (Some (suc n)) None
    moved true n = refl
    moved false n = refl

over : (n count : ℕ) → n ≡ count + 1 → most_members ≤ count → nat_lt most_members n ≡ true
over n count same le = grind (arith, nat_tests)

within : (n count : ℕ) → n ≡ count → count ≤ most_members → nat_lt most_members n ≡ false
within n count same le = grind (arith, nat_tests)

module _ (earlier modes : List (List ℕ)) (mode : List ℕ) (known more : Texts)
    (are : known.texts ≡ firsts (earlier ++ modes))
    (none : crowded_place earlier modes ≡ None) where
  -- one text more, with which they are few enough
  not_crowded : more.texts ≡ firsts ((earlier ++ modes) ++ mode ∷ []) → length more.texts ≤ most_members
      → crowded_place earlier (modes ++ mode ∷ []) ≡ None
  not_crowded texts_are few =
      crowded_last earlier modes mode none
      ∙ ap (λ b. cond b (Some (length modes)) None)
      (within _ (length more.texts)
      (length-members ((earlier ++ modes) ++ mode ∷ []) ∙ sym (ap length texts_are)) few)

  -- one with which they are not
  crowded_here : list_any (bytes_eq mode) known.texts ≡ false → most_members ≤ length known.texts
      → crowded_place earlier (modes ++ mode ∷ []) ≡ Some (length modes)
  crowded_here new many =
      let fresh : list_any (bytes_eq mode) (earlier ++ modes) ≡ false =
      sym (list_any-firsts mode (earlier ++ modes)) ∙ sym (ap (list_any (bytes_eq mode)) are) ∙ new in
      let whole : firsts ((earlier ++ modes) ++ mode ∷ []) ≡ known.texts ++ mode ∷ [] =
      firsts-new (earlier ++ modes) mode fresh ∙ ap (λ (l : List (List ℕ)). l ++ mode ∷ []) (sym are) in
      crowded_last earlier modes mode none
      ∙ ap (λ b. cond b (Some (length modes)) None)
      (over _ (length known.texts)
      (length-members ((earlier ++ modes) ++ mode ∷ []) ∙ ap length whole
      ∙ length-append known.texts (mode ∷ [])) many)

-- ---- a dictionary with one text more

abbrev AddsAt : Texts → List ℕ → Option ℕ → Option ℕ → Texts → Type 0
AddsAt old text seen code new = MatchOption seen
    (MatchOption code ((old.limit ≤ length old.texts) × (new ≡ old))
    (λ c. (c ≡ length old.texts) × (length old.texts < old.limit) × (new ≡ with_text old text)))
    (λ c. (code ≡ Some c) × (new ≡ old))

-- it has no more than its limit
few_more : (known more : Texts) (text : List ℕ) (code : ℕ) → Adds known text (Some code) more
    → length known.texts ≤ known.limit → length more.texts ≤ known.limit
few_more known more text code adds few = by (code_of known.texts text) refl adds
  where
    by : (seen : Option ℕ) → code_of known.texts text ≡ seen → AddsAt known text seen (Some code) more
        → length more.texts ≤ known.limit
    by None is new = omega (
      arith,
      ap (λ (t : Texts). length t.texts) new.2,
      length-append known.texts (text ∷ []),
      new.1,
    )
    by (Some c) is old = omega (arith, ap (λ (t : Texts). length t.texts) old.1, few)

none_some : (code : ℕ) → ◌≡◌ {A = Option ℕ} None (Some code) → ⊥
none_some code e = cc

-- one that takes no further text does not have it, is full, and stays as it is
full : (known more : Texts) (text : List ℕ) → Adds known text None more
    → (list_any (bytes_eq text) known.texts ≡ false) × (known.limit ≤ length known.texts) × (more ≡ known)
full known more text adds = by (code_of known.texts text) refl adds
  where
    by : (seen : Option ℕ) → code_of known.texts text ≡ seen → AddsAt known text seen None more
        → (list_any (bytes_eq text) known.texts ≡ false) × (known.limit ≤ length known.texts) × (more ≡ known)
    by None is new = (absent known.texts text is, new.0, new.1)
    by (Some c) is old = absurd (none_some c old.0)

-- ---- what was met, with one row more

module _ (met next : Met) (earlier modes : List (List ℕ)) (mode : List ℕ) (has : HasMet met earlier modes)
    (reserved : next.reserved ≡ row_number_at (reserved_place (modes ++ mode ∷ []))) where
  -- there were too many before
  pub HasMet-crowded : next.known ≡ met.known → next.crowded ≡ met.crowded → is_some met.crowded ≡ true
      → HasMet next earlier (modes ++ mode ∷ [])
  HasMet-crowded same still some = record {
    limit = ap (λ (t : Texts). t.limit) same ∙ has.limit;
    few = subst (λ (t : Texts). length t.texts ≤ most_members) (sym same) has.few;
    known = λ none. absurd (some_of_none met.crowded some (sym still ∙ none));
    reserved = reserved;
    crowded = still ∙ by (crowded_place earlier modes) refl has.crowded;
  }
    where
      by : (place : Option ℕ) → crowded_place earlier modes ≡ place → met.crowded ≡ row_number_at place
          → met.crowded ≡ row_number_at (crowded_place earlier (modes ++ mode ∷ []))
      by None is e = absurd (some_of_none met.crowded some e)
      by (Some k) is e = e ∙ ap row_number_at (sym (crowded_before earlier modes mode k is))

  not_yet : is_some met.crowded ≡ false → crowded_place earlier modes ≡ None
  not_yet none = no_row (crowded_place earlier modes) (sym (not_some met.crowded none) ∙ has.crowded)

  -- they are still few enough
  pub HasMet-more : (code : ℕ) → is_some met.crowded ≡ false → next.crowded ≡ met.crowded
      → Adds met.known mode (Some code) next.known → HasMet next earlier (modes ++ mode ∷ [])
  HasMet-more code none still adds =
      let are = has.known (not_some met.crowded none) in
      let laws = adds_column (earlier ++ modes) mode met.known next.known code are adds in
      let few : length next.known.texts ≤ most_members =
      omega (arith, few_more met.known next.known mode code adds, has.limit, has.few) in
      record {
        limit = laws.1 ∙ has.limit;
        few = few;
        known = λ clear. laws.0 ∙ ap firsts (append_assoc earlier modes (mode ∷ []));
        reserved = reserved;
        crowded = still ∙ not_some met.crowded none
            ∙ ap row_number_at
            (sym (not_crowded earlier modes mode met.known next.known are (not_yet none) laws.0 few));
      }

  -- with it there are too many
  pub HasMet-full : (row : ℕ) → row ≡ length modes + 1 → is_some met.crowded ≡ false → next.crowded ≡ Some row
      → Adds met.known mode None next.known → HasMet next earlier (modes ++ mode ∷ [])
  HasMet-full row row_is none now adds =
      let are = has.known (not_some met.crowded none) in
      let no_room = full met.known next.known mode adds in
      record {
        limit = ap (λ (t : Texts). t.limit) no_room.2 ∙ has.limit;
        few = subst (λ (t : Texts). length t.texts ≤ most_members) (sym no_room.2) has.few;
        known = λ clear. absurd (none_some row (sym clear ∙ now));
        reserved = reserved;
        crowded = now ∙ ap Some row_is
            ∙ ap row_number_at (sym (crowded_here earlier modes mode met.known next.known are (not_yet none) no_room.0
            (omega (arith, no_room.1, has.limit))));
      }

-- ---- the cause, and the batch after it

at_row : (f : ℕ → Fault) (place : Option ℕ) → option_map f (row_number_at place) ≡ option_map (λ k. f (k + 1)) place
at_row f None = refl
at_row f (Some k) = refl

pub cause_is : (met : Met) (earlier modes : List (List ℕ)) → HasMet met earlier modes
    → cause_met met ≡ modes_cause InBatch earlier modes
cause_is met earlier modes has =
    ap (λ (row : Option ℕ). first_cause (option_map (λ r. ReservedMember (InBatch r)) row
    ∷ option_map (λ r. TooManyMembers (InBatch r)) met.crowded ∷ [])) has.reserved
    ∙ ap (λ (row : Option ℕ). first_cause
    (option_map (λ r. ReservedMember (InBatch r)) (row_number_at (reserved_place modes))
    ∷ option_map (λ r. TooManyMembers (InBatch r)) row ∷ [])) has.crowded
    ∙ ap (λ (c : Option Fault). first_cause (c
    ∷ option_map (λ r. TooManyMembers (InBatch r)) (row_number_at (crowded_place earlier modes)) ∷ []))
    (at_row (λ r. ReservedMember (InBatch r)) (reserved_place modes))
    ∙ ap (λ (c : Option Fault). first_cause (option_map (λ k. ReservedMember (InBatch (k + 1))) (reserved_place modes)
    ∷ c ∷ [])) (at_row (λ r. TooManyMembers (InBatch r)) (crowded_place earlier modes))

-- where nothing is refused, the next batch begins
pub HasMet-next : (met : Met) (batches : List (List LineOrder)) (rows : List LineOrder)
    → HasMet met (modes_in (all_rows batches)) (modes_in rows) → cause_met met ≡ None
    → HasMet met (modes_in (all_rows (batches ++ rows ∷ []))) []
HasMet-next met batches rows has none =
    let clear = neither met.reserved met.crowded none in
    let joined : modes_in (all_rows (batches ++ rows ∷ [])) ≡ modes_in (all_rows batches) ++ modes_in rows =
    ap modes_in (all_rows-last batches rows)
    ∙ map-append (λ (row : LineOrder). row.shipmode) (all_rows batches) rows in
    record {
      limit = has.limit;
      few = has.few;
      known = λ free. has.known free ∙ ap firsts (sym joined)
          ∙ ap firsts (sym (append-nil (modes_in (all_rows (batches ++ rows ∷ [])))));
      reserved = clear.0;
      crowded = clear.1;
    }
  where
    neither : (reserved crowded : Option ℕ)
        → first_cause (option_map (λ r. ReservedMember (InBatch r)) reserved
        ∷ option_map (λ r. TooManyMembers (InBatch r)) crowded ∷ []) ≡ None
        → (reserved ≡ None) × (crowded ≡ None)
    neither None None e = (refl, refl)
    neither None (Some r) e = absurd cc
    neither (Some r) crowded e = absurd cc

-- ---- the code of a text, by the test

pub code_in : (code : Option ℕ) → is_some code ≡ true → (c : ℕ) × (code ≡ Some c)
code_in None e = absurd (true≢false (sym e))
code_in (Some c) e = (c, refl)
