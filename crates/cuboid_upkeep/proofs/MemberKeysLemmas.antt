-- Keys of rows by the codes of a level's members.
use Rattle.std.proofs.Common.{◌≡◌, ◌≢◌, ◌∙◌, sym, ap, refl, subst, ℕ, zero, suc, ◌+◌, ◌==◌, ◌<◌, ◌≤◌, ◌⊎◌, inl, inr}
use Rattle.std.proofs.Common.{Bool, true, false, cond, not, List, [], ◌∷◌, map, length, length-set, get_or}
use Rattle.std.proofs.Common.{get_or-set_same, get_or-set_other, slice_set, Option, Some, None, arith}
use Rattle.std.specs.Prelude.{replicate, IfNone, IfSome}
use Rattle.std.specs.List.{position_or_len}
use Rattle.std.specs.Option.{is_some}
use Rattle.std.proofs.lemmas.Bool.{cases_lt}
use Rattle.std.proofs.lemmas.Bool.Decides.{nat_tests}
use Rattle.cube_model.specs.declared.attr.Axis.{Axis}
use Rattle.cube_model.specs.declared.attr.Axis.TheVariants.{Customer, Supplier, Part, Date}
use Rattle.cube_model.specs.declared.rows.DimRows.{DimRows}
use Rattle.cube_model.specs.Places.{row_count_of, row_index_of}
use Rattle.dimensions.specs.Coded.{AreGoodRows}
use Rattle.dimensions.specs.Shown.{rows_on}
use Rattle.dimensions.specs.TextRows.{TextRow}
use Rattle.group_numbers.proofs.Keys as key_laws
use Rattle.lattice.specs.declared.level.Level.{Level}
use Rattle.lattice.specs.declared.level.Level.TheVariants.{All}
use Rattle.cuboid_cells.specs.Limits.{all_code}
use Rattle.cuboid_upkeep.specs.Codes.{member_code}
use Rattle.cuboid_upkeep.specs.Representatives.{AreAtCodes, AreKeysOf, MemberHasCode, HaveAllCodes, HoldAllCodes}
use Rattle.cuboid_upkeep.specs.Representatives.{missing_in}
use Rattle.cuboid_upkeep.specs.Representatives.{with_key}
use Rattle.cuboid_upkeep.specs.declared.member_keys.MemberKeys.{MemberKeys}

-- ---- one key more
with_none : (keys : List (Option ℕ)) (code key : ℕ) → get_or keys code None ≡ None
    → with_key keys code key ≡ slice_set keys code (Some key)
with_none keys code key none = ap (λ (o : Option ℕ). cond (is_some o) keys (slice_set keys code (Some key))) none

with_some : (keys : List (Option ℕ)) (code key own : ℕ) → get_or keys code None ≡ Some own
    → with_key keys code key ≡ keys
with_some keys code key own some = ap (λ (o : Option ℕ). cond (is_some o) keys (slice_set keys code (Some key))) some

some_none : {X : Type 0} (x : X) (o : Option X) → o ≡ Some x → o ≡ None → ⊥
some_none x o is none = absurd (cc (is, none))

-- what is at a code
at_code : (keys : List (Option ℕ)) (code : ℕ) → (get_or keys code None ≡ None)
    ⊎ ((own : ℕ) × (get_or keys code None ≡ Some own))
at_code keys code =
    (elim (get_or keys code None) as (λ (o : Option ℕ). get_or keys code None ≡ o → (get_or keys code None ≡ None)
    ⊎ ((own : ℕ) × (get_or keys code None ≡ Some own))) [
      | None ↦ λ e. inl e
      | Some own ↦ λ e. inr (own, e)
    ]) refl

pub length-with_key : (keys : List (Option ℕ)) (code key : ℕ) → length (with_key keys code key) ≡ length keys
length-with_key keys code key = elim (at_code keys code) [
  | inl none ↦ ap length (with_none keys code key none) ∙ length-set keys code (Some key)
  | inr some ↦ ap length (with_some keys code key some.0 some.1)
]

-- ---- how many are missing
pub one_found : (keys : List (Option ℕ)) (code key : ℕ) → code < length keys → get_or keys code None ≡ None
    → missing_in (slice_set keys code (Some key)) + 1 ≡ missing_in keys
one_found [] code key within none = absurd (omega (arith, within))
one_found (None ∷ keys) zero key within none = omega arith
one_found (Some own ∷ keys) zero key within none = absurd (cc none)
one_found (None ∷ keys) (suc code) key within none =
    let rest = one_found keys code key (omega (arith, within)) none in
    omega (arith, rest)
one_found (Some own ∷ keys) (suc code) key within none = one_found keys code key (omega (arith, within)) none

pub all_found : (keys : List (Option ℕ)) (code : ℕ) → missing_in keys ≡ 0 → code < length keys
    → get_or keys code None ≡ None → ⊥
all_found [] code all within none = absurd (omega (arith, within))
all_found (None ∷ keys) code all within none = absurd (omega (arith, all))
all_found (Some own ∷ keys) zero all within none = absurd (cc none)
all_found (Some own ∷ keys) (suc code) all within none = all_found keys code all (omega (arith, within)) none

pub all_missing : (count : ℕ) → missing_in (replicate count None) ≡ count
all_missing zero = refl
all_missing (suc count) = ap suc (all_missing count)

abbrev nothing : Option ℕ
nothing = None

none_there : (count code : ℕ) → get_or (replicate count nothing) code nothing ≡ nothing
none_there zero code = refl
none_there (suc count) zero = refl
none_there (suc count) (suc code) = none_there count code

pub nothing_at : (o : Option ℕ) → is_some o ≡ false → o ≡ None
nothing_at None e = refl
nothing_at (Some own) e = absurd (cc e)

-- the keys of so many rows, of codes of which so many are missing
pub record AreSoFar (dimensions : DimRows) (axis : Axis) (level : Level) (old : List (Option ℕ)) (count missing : ℕ)
    (keys : List (Option ℕ)) : Type 0 where
  pub sound : AreAtCodes dimensions axis level keys
  pub each : (place : ℕ) → place < count → get_or keys (member_code dimensions axis level place) None ≡ None → ⊥
  pub missing_is : missing ≡ missing_in keys
  pub long : length keys ≡ length old

pub at_first : (dimensions : DimRows) (axis : Axis) (level : Level) (old : List (Option ℕ))
    → old ≡ replicate (length old) None → AreSoFar dimensions axis level old 0 (length old) old
at_first dimensions axis level old none = record {
  sound = λ code key at. absurd
      (some_none key (get_or old code None) at (ap (λ (keys : List (Option ℕ)). get_or keys code None) none
      ∙ none_there (length old) code));
  each = λ place before. absurd (omega (arith, before));
  missing_is = sym (ap missing_in none ∙ all_missing (length old));
  long = refl;
}

-- ---- the rows of a dimension
module _ (dimensions : DimRows) (axis : Axis) (all : List ℕ)
    (is : all ≡ map (λ (row : TextRow). row.key) (rows_on dimensions axis)) where
  pub row_total : length all ≡ row_count_of dimensions axis
  row_total = key_laws.row_total dimensions axis all is

  index_is : (key : ℕ) → position_or_len (λ other. other == key) all ≡ row_index_of dimensions axis key
  index_is = key_laws.index_is dimensions axis all is

  -- the key at a row is that of the row
  pub own_row : AreGoodRows axis (rows_on dimensions axis) → (place : ℕ) → place < length all
      → row_index_of dimensions axis (get_or all place 0) ≡ place
  own_row = key_laws.own_row dimensions axis all is

  first_row : (key : ℕ) (rest : List ℕ) → all ≡ key ∷ rest
      → row_index_of dimensions axis key < row_count_of dimensions axis
  first_row key rest there =
      let total = row_total in
      let own : (key == key) ≡ true = grind (arith, nat_tests) in
      let first : position_or_len (λ other. other == key) (key ∷ rest) ≡ 0 =
      ap (λ (b : Bool). cond (not b) (1 + position_or_len (λ other. other == key) rest) 0) own in
      let index = sym (index_is key) ∙ ap (position_or_len (λ other. other == key)) there ∙ first in
      omega (arith, total, ap length there, index)

  pub first_known : (list : List ℕ) → all ≡ list → 1 ≤ length list
      → row_index_of dimensions axis (get_or list 0 0) < row_count_of dimensions axis
  first_known [] there some = absurd (omega (arith, some))
  first_known (key ∷ rest) there some = first_row key rest there

  module _ (level : Level) where
    module _ (good : AreGoodRows axis (rows_on dimensions axis)) (old : List (Option ℕ)) (count missing : ℕ)
        (keys : List (Option ℕ)) (so_far : AreSoFar dimensions axis level old count missing keys)
        (within : count < length all)
        (code key left : ℕ) (code_is : code ≡ member_code dimensions axis level count)
        (key_is : key ≡ get_or all count 0) (room : code < length old) where
      has_code : MemberHasCode dimensions axis level key code
      has_code =
          let row : row_index_of dimensions axis key ≡ count = ap (row_index_of dimensions axis) key_is
          ∙ own_row good count within in
          record {
            known = (let total = row_total in omega (arith, row, total, within));
            code_is = ap (member_code dimensions axis level) row ∙ sym code_is;
          }

      put : get_or keys code None ≡ None
          → AreSoFar dimensions axis level old (count + 1) left (slice_set keys code (Some key))
          → AreSoFar dimensions axis level old (count + 1) left (with_key keys code key)
      put none so = subst (AreSoFar dimensions axis level old (count + 1) left) (sym (with_none keys code key none)) so

      new_there : code < length keys → get_or (slice_set keys code (Some key)) code None ≡ Some key
      new_there low = get_or-set_same keys code (Some key) None low

      old_there : (other : ℕ) → other ≢ code → get_or (slice_set keys code (Some key)) other None
          ≡ get_or keys other None
      old_there other apart = get_or-set_other keys code other (Some key) None apart

      pub one_more : left ≡ missing_in (with_key keys code key)
          → AreSoFar dimensions axis level old (count + 1) left (with_key keys code key)
      one_more left_is = record {
        sound = sound_more;
        each = each_more;
        missing_is = left_is;
        long = length-with_key keys code key ∙ so_far.long;
      }
        where
          sound_more : AreAtCodes dimensions axis level (with_key keys code key)
          sound_more other own at = elim (at_code keys code) [
            | inr some ↦
                so_far.sound other own
                (sym (ap (λ (ks : List (Option ℕ)). get_or ks other None) (with_some keys code key some.0 some.1)) ∙ at)
            | inl none ↦
                (let there : get_or (slice_set keys code (Some key)) other None ≡ Some own =
                sym (ap (λ (ks : List (Option ℕ)). get_or ks other None) (with_none keys code key none)) ∙ at in
                let low : code < length keys = omega (arith, room, so_far.long) in
                (elim (other == code) as (λ b. (other == code) ≡ b → MemberHasCode dimensions axis level own other) [
                  | true ↦ λ e.
                      (let same : other ≡ code = grind (arith, nat_tests) in
                      let is : Some key ≡ Some own =
                      sym (ap (λ (n : ℕ). get_or (slice_set keys code (Some key)) n None) same ∙ new_there low)
                      ∙ there in
                      let own_is : key ≡ own = cc is in
                      subst (λ (n : ℕ). MemberHasCode dimensions axis level own n) (sym same)
                      (subst (λ (k : ℕ). MemberHasCode dimensions axis level k code) own_is has_code))
                  | false ↦ λ e.
                      (let apart : other ≢ code = grind (arith, nat_tests) in
                      so_far.sound other own (sym (old_there other apart) ∙ there))
                ]) refl)
          ]

          -- a key stays
          stays : (other : ℕ) → get_or (with_key keys code key) other None ≡ None → get_or keys other None ≡ None
          stays other none_new = elim (at_code keys code) [
            | inr some ↦
                sym (ap (λ (ks : List (Option ℕ)). get_or ks other None) (with_some keys code key some.0 some.1))
                ∙ none_new
            | inl none ↦
                (elim (other == code) as (λ b. (other == code) ≡ b → get_or keys other None ≡ None) [
                  | true ↦ λ e.
                      (let same : other ≡ code = grind (arith, nat_tests) in ap (λ (n : ℕ). get_or keys n None) same
                      ∙ none)
                  | false ↦ λ e.
                      (let apart : other ≢ code = grind (arith, nat_tests) in
                      sym (old_there other apart)
                      ∙ sym (ap (λ (ks : List (Option ℕ)). get_or ks other None) (with_none keys code key none))
                      ∙ none_new)
                ]) refl
          ]

          here : get_or (with_key keys code key) code None ≡ None → ⊥
          here none_new = elim (at_code keys code) [
            | inr some ↦ some_none some.0 (get_or keys code None) some.1 (stays code none_new)
            | inl none ↦
                (let low : code < length keys = omega (arith, room, so_far.long) in
                some_none key (get_or (slice_set keys code (Some key)) code None) (new_there low)
                (sym (ap (λ (ks : List (Option ℕ)). get_or ks code None) (with_none keys code key none))
                ∙ none_new))
          ]

          each_more : (place : ℕ) → place < count + 1
              → get_or (with_key keys code key) (member_code dimensions axis level place) None ≡ None → ⊥
          each_more place before none = elim (cases_lt place count) [
            | inl low ↦ so_far.each place low (stays (member_code dimensions axis level place) none)
            | inr high ↦
                (let last : place ≡ count = omega (arith, before, high) in
                here (ap (λ (n : ℕ). get_or (with_key keys code key) n None)
                (code_is ∙ ap (member_code dimensions axis level) (sym last)) ∙ none))
          ]

    -- all rows were looked at
    pub all_seen : (old : List (Option ℕ)) (count missing : ℕ) (keys : List (Option ℕ)) → length all ≤ count
        → AreSoFar dimensions axis level old count missing keys → HoldAllCodes dimensions axis level keys
    all_seen old count missing keys whole so_far key code has none =
        let total = row_total in
        so_far.each (row_index_of dimensions axis key) (omega (arith, has.known, total, whole))
        (ap (λ (n : ℕ). get_or keys n None) has.code_is ∙ none)

    -- none is missing
    pub none_left : (old : List (Option ℕ)) (count missing : ℕ) (keys : List (Option ℕ))
        → ((place : ℕ) → place < row_count_of dimensions axis → member_code dimensions axis level place < length old)
        → AreSoFar dimensions axis level old count missing keys → missing ≡ 0 → HoldAllCodes dimensions axis level keys
    none_left old count missing keys room so_far over key code has none =
        let low = room (row_index_of dimensions axis key) has.known in
        all_found keys code (sym so_far.missing_is ∙ over) (omega (arith, low, has.code_is, so_far.long)) none

-- ---- the key of every member together
member_all : (dimensions : DimRows) (axis : Axis) (place : ℕ) → member_code dimensions axis All place ≡ all_code
member_all dimensions Customer place = refl
member_all dimensions Supplier place = refl
member_all dimensions Part place = refl
member_all dimensions Date place = refl

module _ (dimensions : DimRows) (axis : Axis) (keys : MemberKeys) where
  pub every_sound : keys.members.items ≡ []
      → IfSome keys.every (λ key. row_index_of dimensions axis key < row_count_of dimensions axis)
      → AreKeysOf dimensions axis All keys
  every_sound none known code key at =
      (elim (code == all_code) as (λ b. (code == all_code) ≡ b → cond b keys.every (get_or keys.members.items code None)
      ≡ Some key → MemberHasCode dimensions axis All key code) [
        | true ↦ λ e is.
            (let same : code ≡ all_code = grind (arith, nat_tests) in
            record {
              known = subst
                  (λ (o : Option ℕ). IfSome o (λ key. row_index_of dimensions axis key < row_count_of dimensions axis))
                  is known;
              code_is = member_all dimensions axis (row_index_of dimensions axis key) ∙ sym same;
            })
        | false ↦ λ e is. absurd
            (some_none key (get_or keys.members.items code None) is
            (ap (λ (list : List (Option ℕ)). get_or list code None) none))
      ]) refl at

  pub every_whole : IfNone keys.every (row_count_of dimensions axis ≡ 0) → HaveAllCodes dimensions axis All keys
  every_whole nobody key code has none =
      let same : code ≡ all_code = sym has.code_is ∙ member_all dimensions axis (row_index_of dimensions axis key) in
      let test : (code == all_code) ≡ true = grind (arith, nat_tests) in
      let is : keys.every ≡ None = sym (ap (λ (b : Bool). cond b keys.every (get_or keys.members.items code None)) test)
      ∙ none in
      let no_row : row_count_of dimensions axis ≡ 0 =
      subst (λ (o : Option ℕ). IfNone o (row_count_of dimensions axis ≡ 0)) is nobody in
      omega (arith, has.known, no_row)

  pub members_sound : (level : Level) → keys.every ≡ None → AreAtCodes dimensions axis level keys.members.items
      → AreKeysOf dimensions axis level keys
  members_sound level nothing sound code key at =
      (elim (code == all_code) as (λ b. cond b keys.every (get_or keys.members.items code None) ≡ Some key
      → MemberHasCode dimensions axis level key code) [
        | true ↦ λ is. absurd (some_none key keys.every is nothing)
        | false ↦ λ is. sound code key is
      ]) at

  pub members_whole : (level : Level) → length keys.members.items ≤ all_code
      → HoldAllCodes dimensions axis level keys.members.items → HaveAllCodes dimensions axis level keys
  members_whole level few whole key code has none =
      (elim (code == all_code) as (λ b. (code == all_code) ≡ b → cond b keys.every (get_or keys.members.items code None)
      ≡ None → ⊥) [
        | true ↦ λ e is.
            (let same : code ≡ all_code = grind (arith, nat_tests) in
            whole key code has (get_or-past keys.members.items code None (omega (arith, same, few))))
        | false ↦ λ e is. whole key code has is
      ]) refl none
    where
      get_or-past : (list : List (Option ℕ)) (place : ℕ) (other : Option ℕ) → length list ≤ place
          → get_or list place other ≡ other
      get_or-past [] place other h = refl
      get_or-past (x ∷ list) zero other h = absurd (omega (arith, h))
      get_or-past (x ∷ list) (suc place) other h = get_or-past list place other (omega (arith, h))
