-- Rows that are slotted with a slot are those of its number's key.
use Rattle.std.proofs.Common.{◌≡◌, ◌≢◌, ◌∙◌, sym, ap, refl, ℕ, zero, suc, ◌<◌, ◌≤◌, true, false, cond, List, [], ◌∷◌}
use Rattle.std.proofs.Common.{◌++◌, length, Some, None, arith, inl, inr}
use Rattle.std.specs.Prelude.{Option, ◌==◌, slice_get}
use Rattle.std.specs.Cmp.{Equal-is}
use Rattle.std.specs.Ordering.{eq_by_cmp}
use Rattle.std.specs.declared.cmp.Ordering.TheVariants.{Less, Equal}
use Rattle.std.proofs.lemmas.Bool.{cases_lt}
use Rattle.std.proofs.lemmas.Bool.Decides.{nat_tests}
use Rattle.std.proofs.lemmas.Cmp.{eq_by_cmp_equiv}
use Rattle.cube_model.specs.declared.answer.Member.{Member}
use Rattle.cube_model.specs.declared.attr.Attr.{Attr}
use Rattle.cube_model.specs.declared.query.Query.{Query}
use Rattle.cube_model.specs.declared.query.Kind.TheVariants.{Plain}
use Rattle.cube_model.specs.declared.rows.DimRows.{DimRows}
use Rattle.cube_model.specs.declared.rows.LineOrder.{LineOrder}
use Rattle.cube_model.specs.Keys.{key_cmp}
use Rattle.cube_model.proofs.KeyOrder.{key_cmp_total, key_cmp-IsAntisymmetric}
use Rattle.group_tallies.specs.Columns.{slotted}
use Rattle.group_numbers.specs.Numbers.{group_count, group_key_at, KeysRise}
use Rattle.group_tallies.specs.Slots.{slot_of, AreSlots}
use Rattle.group_tallies.specs.Groups.{rows_at}
use Rattle.group_tallies.specs.FoldInvariant.{IsGroupSlot, AreGroupSlots}
use Rattle.group_tallies.proofs.OneRow.{plain_key, rows_at-skip, rows_at-take}

-- ---- keys
pub key_eq-same : (key : List Member) → eq_by_cmp key_cmp key key ≡ true
key_eq-same key = (eq_by_cmp_equiv key_cmp_total).refl key

pub key_eq-true : (left right : List Member) → eq_by_cmp key_cmp left right ≡ true → left ≡ right
key_eq-true left right e = key_cmp-IsAntisymmetric left right ((Equal-is (key_cmp left right)).0 e)

pub key_eq-apart : (left right : List Member) → (left ≡ right → ⊥) → eq_by_cmp key_cmp left right ≡ false
key_eq-apart left right apart =
    elim (eq_by_cmp key_cmp left right) as (λ b. eq_by_cmp key_cmp left right ≡ b → b ≡ false) [
      | true ↦ λ e. absurd (apart (key_eq-true left right e))
      | false ↦ λ e. refl
    ] refl

not_less : (left right : List Member) → left ≡ right → key_cmp left right ≡ Less → ⊥
not_less left right same less =
    let equal : key_cmp left left ≡ Equal = (Equal-is (key_cmp left left)).0 (key_eq-same left) in
    let below : key_cmp left left ≡ Less = ap (key_cmp left) same ∙ less in
    cc (equal, below)

-- numbers of groups that have one key are one
pub keys_apart : (dimensions : DimRows) (columns : List Attr) → KeysRise dimensions columns → (c d : ℕ)
    → c < group_count dimensions columns → d < group_count dimensions columns
    → group_key_at dimensions columns c ≡ group_key_at dimensions columns d → c ≡ d
keys_apart dimensions columns rising c d in_c in_d same =
    elim (c == d) as (λ b. (c == d) ≡ b → c ≡ d) [
      | true ↦ λ e. grind (arith, nat_tests)
      | false ↦ λ e.
          let apart : c ≢ d = grind (arith, nat_tests) in
          elim (cases_lt c d) [
            | inl below ↦
                absurd (not_less (group_key_at dimensions columns c) (group_key_at dimensions columns d) same
                (rising c d below in_d))
            | inr above ↦
                absurd (not_less (group_key_at dimensions columns d) (group_key_at dimensions columns c) (sym same)
                (rising d c (omega (arith, above, apart)) in_c))
          ]
    ] refl

-- ---- group_slots
module _ (dimensions : DimRows) (query : Query) where
  pub AreGroupSlots-length : (entries : List (ℕ × ℕ)) (rows : List LineOrder) (group_slots : List (Option ℕ))
      → AreGroupSlots dimensions query entries rows group_slots → length group_slots ≡ length rows
  AreGroupSlots-length entries [] [] are = refl
  AreGroupSlots-length entries [] (group_slot ∷ group_slots) are = absurd are
  AreGroupSlots-length entries (row ∷ rows) [] are = absurd are
  AreGroupSlots-length entries (row ∷ rows) (group_slot ∷ group_slots) are =
      ap suc (AreGroupSlots-length entries rows group_slots are.1)

  IsGroupSlot-keep : (old new : List (ℕ × ℕ))
      → ((number slot : ℕ) → slot_of old number ≡ Some slot → slot_of new number ≡ Some slot)
      → (row : LineOrder) (group_slot : Option ℕ) → IsGroupSlot dimensions query old row group_slot
      → IsGroupSlot dimensions query new row group_slot
  IsGroupSlot-keep old new keep row None is = is
  IsGroupSlot-keep old new keep row (Some slot) is = (is.0, is.1, keep is.0 slot is.2)

  pub AreGroupSlots-keep : (old new : List (ℕ × ℕ))
      → ((number slot : ℕ) → slot_of old number ≡ Some slot → slot_of new number ≡ Some slot)
      → (rows : List LineOrder) (group_slots : List (Option ℕ)) → AreGroupSlots dimensions query old rows group_slots
      → AreGroupSlots dimensions query new rows group_slots
  AreGroupSlots-keep old new keep [] [] are = tt
  AreGroupSlots-keep old new keep [] (group_slot ∷ group_slots) are = absurd are
  AreGroupSlots-keep old new keep (row ∷ rows) [] are = absurd are
  AreGroupSlots-keep old new keep (row ∷ rows) (group_slot ∷ group_slots) are =
      (IsGroupSlot-keep old new keep row group_slot are.0, AreGroupSlots-keep old new keep rows group_slots are.1)

  pub AreGroupSlots-push : (entries : List (ℕ × ℕ)) (rows : List LineOrder) (group_slots : List (Option ℕ))
      (row : LineOrder) (group_slot : Option ℕ) → AreGroupSlots dimensions query entries rows group_slots
      → IsGroupSlot dimensions query entries row group_slot
      → AreGroupSlots dimensions query entries (rows ++ row ∷ []) (group_slots ++ group_slot ∷ [])
  AreGroupSlots-push entries [] [] row group_slot are is = (is, tt)
  AreGroupSlots-push entries [] (other ∷ group_slots) row group_slot are is = absurd are
  AreGroupSlots-push entries (first ∷ rows) [] row group_slot are is = absurd are
  AreGroupSlots-push entries (first ∷ rows) (other ∷ group_slots) row group_slot are is =
      (are.0, AreGroupSlots-push entries rows group_slots row group_slot are.1 is)

  -- a slot with which a row is slotted is that of a number
  pub AreGroupSlots-at : (entries : List (ℕ × ℕ)) (rows : List LineOrder) (group_slots : List (Option ℕ))
      → AreGroupSlots dimensions query entries rows group_slots → (place slot : ℕ)
      → slice_get group_slots place ≡ Some (Some slot) → (number : ℕ) × (slot_of entries number ≡ Some slot)
  AreGroupSlots-at entries [] [] are place slot at = absurd (cc at)
  AreGroupSlots-at entries [] (group_slot ∷ group_slots) are place slot at = absurd are
  AreGroupSlots-at entries (row ∷ rows) [] are place slot at = absurd are
  AreGroupSlots-at entries (row ∷ rows) (None ∷ group_slots) are zero slot at = absurd (cc at)
  AreGroupSlots-at entries (row ∷ rows) (Some other ∷ group_slots) are zero slot at =
      let same : other ≡ slot = cc at in
      (are.0.0, are.0.2 ∙ ap Some same)
  AreGroupSlots-at entries (row ∷ rows) (group_slot ∷ group_slots) are (suc place) slot at =
      AreGroupSlots-at entries rows group_slots are.1 place slot at

  -- no row is slotted with a slot after the last
  pub slotted-none : (bound : ℕ) (entries : List (ℕ × ℕ)) → AreSlots bound entries
      → (rows : List LineOrder) (group_slots : List (Option ℕ))
      → AreGroupSlots dimensions query entries rows group_slots → (slot : ℕ) → length entries ≤ slot
      → slotted slot rows group_slots ≡ []
  slotted-none bound entries slots [] group_slots are slot h = refl
  slotted-none bound entries slots (row ∷ rows) [] are slot h = refl
  slotted-none bound entries slots (row ∷ rows) (None ∷ group_slots) are slot h =
      slotted-none bound entries slots rows group_slots are.1 slot h
  slotted-none bound entries slots (row ∷ rows) (Some other ∷ group_slots) are slot h =
      let within = slots.within are.0.0 other are.0.2 in
      let apart : other ≢ slot = omega (arith, within, h) in
      let test : (other == slot) ≡ false = grind (arith, nat_tests) in
      ap (λ b. cond b (row ∷ slotted slot rows group_slots) (slotted slot rows group_slots)) test
      ∙ slotted-none bound entries slots rows group_slots are.1 slot h

  -- no row has a key that is not that of a number with a slot
  pub rows_at-none : query.kind ≡ Plain → (entries : List (ℕ × ℕ)) (key : List Member)
      → ((number slot : ℕ) → slot_of entries number ≡ Some slot → group_key_at dimensions query.columns number ≡ key
      → ⊥)
      → (rows : List LineOrder) (group_slots : List (Option ℕ))
      → AreGroupSlots dimensions query entries rows group_slots → rows_at dimensions query key rows ≡ []
  rows_at-none plain entries key absent [] group_slots are = refl
  rows_at-none plain entries key absent (row ∷ rows) [] are = absurd are
  rows_at-none plain entries key absent (row ∷ rows) (None ∷ group_slots) are =
      rows_at-skip dimensions query key row rows are.0 ∙ rows_at-none plain entries key absent rows group_slots are.1
  rows_at-none plain entries key absent (row ∷ rows) (Some other ∷ group_slots) are =
      let group_slot = are.0 in
      rows_at-take dimensions query plain key row rows group_slot.1.0
      ∙ ap (λ b. cond b (row ∷ rows_at dimensions query key rows) (rows_at dimensions query key rows))
      (key_eq-apart key (plain_key dimensions query row)
      (λ same. absent group_slot.0 other group_slot.2 (group_slot.1.2 ∙ sym same)))
      ∙ rows_at-none plain entries key absent rows group_slots are.1

  -- the rows of a number's key are those that are slotted with its slot
  pub rows_at-slotted : query.kind ≡ Plain → KeysRise dimensions query.columns → (entries : List (ℕ × ℕ))
      → AreSlots (group_count dimensions query.columns) entries → (number slot : ℕ) → slot_of entries number ≡ Some slot
      → (rows : List LineOrder) (group_slots : List (Option ℕ))
      → AreGroupSlots dimensions query entries rows group_slots
      → rows_at dimensions query (group_key_at dimensions query.columns number) rows ≡ slotted slot rows group_slots
  rows_at-slotted plain rising entries slots number slot found [] group_slots are = refl
  rows_at-slotted plain rising entries slots number slot found (row ∷ rows) [] are = absurd are
  rows_at-slotted plain rising entries slots number slot found (row ∷ rows) (None ∷ group_slots) are =
      rows_at-skip dimensions query (group_key_at dimensions query.columns number) row rows are.0
      ∙ rows_at-slotted plain rising entries slots number slot found rows group_slots are.1
  rows_at-slotted plain rising entries slots number slot found (row ∷ rows) (Some other ∷ group_slots) are =
      let group_slot = are.0 in
      let key = group_key_at dimensions query.columns number in
      let rest = rows_at-slotted plain rising entries slots number slot found rows group_slots are.1 in
      rows_at-take dimensions query plain key row rows group_slot.1.0
      ∙ elim (other == slot) as
      (λ b. (other == slot) ≡ b
      → cond (eq_by_cmp key_cmp key (plain_key dimensions query row)) (row ∷ rows_at dimensions query key rows)
      (rows_at dimensions query key rows) ≡ cond b (row ∷ slotted slot rows group_slots)
      (slotted slot rows group_slots)) [
        | true ↦ λ e.
            let same : other ≡ slot = grind (arith, nat_tests) in
            let one : group_slot.0 ≡ number =
            slots.apart group_slot.0 number slot (group_slot.2 ∙ ap Some same) found in
            let equal : eq_by_cmp key_cmp key (plain_key dimensions query row) ≡ true =
            ap (eq_by_cmp key_cmp key) (sym group_slot.1.2 ∙ ap (group_key_at dimensions query.columns) one)
            ∙ key_eq-same key in
            ap (λ b. cond b (row ∷ rows_at dimensions query key rows) (rows_at dimensions query key rows)) equal
            ∙ ap (λ more. row ∷ more) rest
        | false ↦ λ e.
            let apart : other ≢ slot = grind (arith, nat_tests) in
            let unequal : eq_by_cmp key_cmp key (plain_key dimensions query row) ≡ false =
            key_eq-apart key (plain_key dimensions query row) (λ same.
            let one : number ≡ group_slot.0 =
            keys_apart dimensions query.columns rising number group_slot.0 (slots.below number slot found)
            group_slot.1.1 (same ∙ sym group_slot.1.2) in
            let place : Some other ≡ Some slot = sym group_slot.2 ∙ ap (slot_of entries) (sym one) ∙ found in
            apart (cc place)) in
            ap (λ b. cond b (row ∷ rows_at dimensions query key rows) (rows_at dimensions query key rows)) unequal
            ∙ rest
      ] refl
