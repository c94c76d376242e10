-- The groups that are seen are those of the rows that were counted in.
use Rattle.std.proofs.Common.{◌≡◌, ◌∙◌, sym, ap, refl, ℕ, zero, suc, ◌<◌, ◌≤◌, true, false, cond, List, [], ◌∷◌, ◌++◌}
use Rattle.std.proofs.Common.{append-nil, map, length, get_or, Some, None, arith, ◌⊎◌, inl, inr}
use Rattle.std.specs.Prelude.{Option, nat_lt, ◌&&◌}
use Rattle.std.specs.BTreeMap.{is_at}
use Rattle.std.specs.List.{AllByRecursion, list_all}
use Rattle.std.specs.List.Sorted.{IsStrictlySortedBy}
use Rattle.std.specs.Map.{lookup}
use Rattle.std.specs.Ordering.{eq_by_cmp, is_eq, nat_cmp}
use Rattle.std.specs.declared.cmp.Ordering.TheVariants.{Less}
use Rattle.std.proofs.lemmas.Bool.{cases_lt}
use Rattle.std.proofs.lemmas.Bool.Decides.{nat_tests}
use Rattle.std.proofs.lemmas.Cmp.{ranked}
use Rattle.std.proofs.lemmas.List.{map-append}
use Rattle.std.specs.declared.alloc.Global.{Global}
use Rattle.std.specs.declared.vec.Vec.{Vec}
use Rattle.cube_model.specs.declared.answer.Line.{Line}
use Rattle.cube_model.specs.declared.answer.Member.{Member}
use Rattle.cube_model.specs.declared.attr.Attr.{Attr}
use Rattle.cube_model.specs.declared.measure.Agg.{Agg}
use Rattle.cube_model.specs.declared.query.Query.{Query}
use Rattle.cube_model.specs.declared.rows.DimRows.{DimRows}
use Rattle.cube_model.specs.declared.rows.LineOrder.{LineOrder}
use Rattle.cube_model.specs.Keys.{key_cmp}
use Rattle.group_tallies.specs.Columns.{tallies_at, is_seen, seen_groups, line_with}
use Rattle.group_tallies.specs.Groups.{groups_of, rows_at}
use Rattle.group_numbers.specs.Numbers.{group_count, group_key_at, KeysRise}
use Rattle.group_tallies.specs.Slots.{slot_of, AreSlots}
use Rattle.group_tallies.specs.FoldInvariant.{AreTallied}
use Rattle.group_tallies.specs.Tallies.{aggregated, tallies_of, tallies_if_any}
use Rattle.group_tallies.specs.declared.tally.Tally.{Tally}
use Rattle.group_tallies.proofs.Answered.{groups_are}
use Rattle.group_tallies.proofs.Marking.{key_eq-same, key_eq-true, key_eq-apart, keys_apart}
use Rattle.group_tallies.proofs.Placing.{at_same, at_true}

-- ---- numbers in order
slot_of-above : (number : ℕ) (entries : List (ℕ × ℕ))
    → AllByRecursion (λ other. nat_cmp number other ≡ Less) (map (λ e. e.0) entries) → slot_of entries number ≡ None
slot_of-above number [] all = refl
slot_of-above number (entry ∷ entries) all =
    ap (λ r. cond (is_eq r) (Some entry.1) (slot_of entries number)) all.0 ∙ slot_of-above number entries all.1

-- what holds of each number that has a slot holds of each number in the list
pub each_number : (P : ℕ → Type 0) (entries : List (ℕ × ℕ)) → IsStrictlySortedBy nat_cmp (map (λ e. e.0) entries)
    → ((number slot : ℕ) → slot_of entries number ≡ Some slot → P number) → AllByRecursion P (map (λ e. e.0) entries)
unfolding IsStrictlySortedBy
each_number P [] sorted each = tt
each_number P (entry ∷ entries) sorted each = (
  each entry.0 entry.1 (ap (λ b. cond b (Some entry.1) (slot_of entries entry.0)) (at_same entry.0)),
  each_number P entries sorted.1 (λ number slot found. each number slot (
      (elim (is_at (nat_cmp number) entry.0) as (λ b. is_at (nat_cmp number) entry.0 ≡ b
      → cond b (Some entry.1) (slot_of entries number) ≡ Some slot) [
        | true ↦ λ e.
            let none : slot_of entries number ≡ None = ap (slot_of entries) (at_true number entry.0 e)
            ∙ slot_of-above entry.0 entries sorted.0 in
            absurd (cc (none, found))
        | false ↦ λ e. found
      ]) refl)),
)

pub All-numbers : (P : ℕ → Type 0) (entries : List (ℕ × ℕ)) → AllByRecursion P (map (λ e. e.0) entries)
    → (k : ℕ) (d : ℕ × ℕ) → k < length entries → P (get_or entries k d).0
All-numbers P [] all k d h = absurd (omega (arith, h))
All-numbers P (entry ∷ entries) all zero d h = all.0
All-numbers P (entry ∷ entries) all (suc k) d h = All-numbers P entries all.1 k d (omega (arith, h))

-- one entry more
pub seen_groups-push : (key : ℕ → List Member) (tallies : ℕ → List Tally) (entries : List (ℕ × ℕ)) (entry : ℕ × ℕ)
    → seen_groups key tallies (entries ++ entry ∷ []) ≡ seen_groups key tallies entries
    ++ cond (is_seen (tallies entry.1)) ((key entry.0, tallies entry.1) ∷ []) []
seen_groups-push key tallies [] entry = refl
seen_groups-push key tallies (first ∷ entries) entry =
    let last : List (List Member × List Tally) =
    cond (is_seen (tallies entry.1)) ((key entry.0, tallies entry.1) ∷ []) [] in
    let rest : seen_groups key tallies (entries ++ entry ∷ []) ≡ seen_groups key tallies entries ++ last =
    seen_groups-push key tallies entries entry in
    elim (is_seen (tallies first.1)) as
    (λ b. cond b ((key first.0, tallies first.1) ∷ seen_groups key tallies (entries ++ entry ∷ []))
    (seen_groups key tallies (entries ++ entry ∷ []))
    ≡ cond b ((key first.0, tallies first.1) ∷ seen_groups key tallies entries) (seen_groups key tallies entries)
    ++ last) [
      | true ↦ ap (λ more. (key first.0, tallies first.1) ∷ more) rest
      | false ↦ rest
    ]

-- the tallies at a slot, if there is one and they are of some row
abbrev seen_at : (ℕ → List Tally) → Option ℕ → Option (List Tally)
seen_at tallies None = None
seen_at tallies (Some slot) = cond (is_seen (tallies slot)) (Some (tallies slot)) None

module _ (dimensions : DimRows) (columns : List Attr) (rising : KeysRise dimensions columns) (tallies : ℕ → List Tally)
  where
    abbrev seen_of : List (ℕ × ℕ) → List (List Member × List Tally)
    seen_of entries = seen_groups (group_key_at dimensions columns) tallies entries

    seen-above : (low : ℕ) (entries : List (ℕ × ℕ))
        → AllByRecursion (λ other. nat_cmp low other ≡ Less) (map (λ e. e.0) entries)
        → AllByRecursion (λ number. number < group_count dimensions columns) (map (λ e. e.0) entries)
        → AllByRecursion (λ other. key_cmp (group_key_at dimensions columns low) other ≡ Less)
        (map (λ e. e.0) (seen_of entries))
    seen-above low [] above below = tt
    seen-above low (entry ∷ entries) above below =
        let rest = seen-above low entries above.1 below.1 in
        let less : low < entry.0 = ranked low entry.0 Less (sym above.0) in
        elim (is_seen (tallies entry.1)) as
        (λ b. AllByRecursion (λ other. key_cmp (group_key_at dimensions columns low) other ≡ Less)
        (map (λ e. e.0)
        (cond b ((group_key_at dimensions columns entry.0, tallies entry.1) ∷ seen_of entries) (seen_of entries)))) [
          | true ↦ (rising low entry.0 less below.0, rest)
          | false ↦ rest
        ]

    seen-sorted : (entries : List (ℕ × ℕ)) → IsStrictlySortedBy nat_cmp (map (λ e. e.0) entries)
        → AllByRecursion (λ number. number < group_count dimensions columns) (map (λ e. e.0) entries)
        → IsStrictlySortedBy key_cmp (map (λ e. e.0) (seen_of entries))
    unfolding IsStrictlySortedBy
    seen-sorted [] sorted below = tt
    seen-sorted (entry ∷ entries) sorted below =
        let rest = seen-sorted entries sorted.1 below.1 in
        elim (is_seen (tallies entry.1)) as
        (λ b. IsStrictlySortedBy key_cmp
        (map (λ e. e.0)
        (cond b ((group_key_at dimensions columns entry.0, tallies entry.1) ∷ seen_of entries) (seen_of entries)))) [
          | true ↦ (seen-above entry.0 entries sorted.0 below.1, rest)
          | false ↦ rest
        ]

    -- a key that no number in the list has
    seen-absent : (key : List Member) (entries : List (ℕ × ℕ))
        → AllByRecursion (λ number. group_key_at dimensions columns number ≡ key → ⊥) (map (λ e. e.0) entries)
        → lookup (is_at (key_cmp key)) (seen_of entries) ≡ None
    seen-absent key [] absent = refl
    seen-absent key (entry ∷ entries) absent =
        let rest = seen-absent key entries absent.1 in
        elim (is_seen (tallies entry.1)) as
        (λ b. lookup (is_at (key_cmp key))
        (cond b ((group_key_at dimensions columns entry.0, tallies entry.1) ∷ seen_of entries) (seen_of entries))
        ≡ None) [
          | true ↦ ap (λ b. cond b (Some (tallies entry.1)) (lookup (is_at (key_cmp key)) (seen_of entries)))
              (key_eq-apart key (group_key_at dimensions columns entry.0) (λ same. absent.0 (sym same))) ∙ rest
          | false ↦ rest
        ]

    seen-lookup : (number : ℕ) → number < group_count dimensions columns → (entries : List (ℕ × ℕ))
        → IsStrictlySortedBy nat_cmp (map (λ e. e.0) entries)
        → AllByRecursion (λ number. number < group_count dimensions columns) (map (λ e. e.0) entries)
        → lookup (is_at (key_cmp (group_key_at dimensions columns number))) (seen_of entries)
        ≡ seen_at tallies (slot_of entries number)
    unfolding IsStrictlySortedBy
    seen-lookup number h [] sorted below = refl
    seen-lookup number h (entry ∷ entries) sorted below =
        let key = group_key_at dimensions columns number in
        let rest = seen-lookup number h entries sorted.1 below.1 in
        elim (is_at (nat_cmp number) entry.0) as (λ b. is_at (nat_cmp number) entry.0 ≡ b
        → lookup (is_at (key_cmp key)) (seen_of (entry ∷ entries))
        ≡ seen_at tallies (cond b (Some entry.1) (slot_of entries number))) [
          | true ↦ λ e.
              let same : number ≡ entry.0 = at_true number entry.0 e in
              let here : eq_by_cmp key_cmp key (group_key_at dimensions columns entry.0) ≡ true =
              ap (λ n. eq_by_cmp key_cmp key (group_key_at dimensions columns n)) (sym same) ∙ key_eq-same key in
              let none : slot_of entries number ≡ None = ap (slot_of entries) same
              ∙ slot_of-above entry.0 entries sorted.0 in
              elim (is_seen (tallies entry.1)) as
              (λ b. lookup (is_at (key_cmp key))
              (cond b ((group_key_at dimensions columns entry.0, tallies entry.1) ∷ seen_of entries) (seen_of entries))
              ≡ cond b (Some (tallies entry.1)) None) [
                | true ↦ ap (λ b. cond b (Some (tallies entry.1)) (lookup (is_at (key_cmp key)) (seen_of entries))) here
                | false ↦ rest ∙ ap (seen_at tallies) none
              ]
          | false ↦ λ e.
              let apart : key ≡ group_key_at dimensions columns entry.0 → ⊥ =
              (λ same. let one : number ≡ entry.0 = keys_apart dimensions columns rising number entry.0 h below.0
              same in
              let test : is_at (nat_cmp number) entry.0 ≡ true = ap (is_at (nat_cmp number)) (sym one)
              ∙ at_same number in
              cc (test, e)) in
              elim (is_seen (tallies entry.1)) as
              (λ b. lookup (is_at (key_cmp key))
              (cond b ((group_key_at dimensions columns entry.0, tallies entry.1) ∷ seen_of entries) (seen_of entries))
              ≡ seen_at tallies (slot_of entries number)) [
                | true ↦ ap (λ b. cond b (Some (tallies entry.1)) (lookup (is_at (key_cmp key)) (seen_of entries)))
                    (key_eq-apart key (group_key_at dimensions columns entry.0) apart) ∙ rest
                | false ↦ rest
              ]
        ] refl

-- whether a key is that of a number below a bound with a slot
pub which : (dimensions : DimRows) (columns : List Attr) (entries : List (ℕ × ℕ)) (key : List Member) (bound : ℕ)
    → ((number : ℕ) × (slot : ℕ) × (number < bound) × (slot_of entries number ≡ Some slot)
    × (group_key_at dimensions columns number ≡ key))
    ⊎ ((number slot : ℕ) → number < bound → slot_of entries number ≡ Some slot
    → group_key_at dimensions columns number ≡ key → ⊥)
which dimensions columns entries key zero = inr (λ number slot h found same. absurd (omega (arith, h)))
which dimensions columns entries key (suc bound) =
    elim (which dimensions columns entries key bound) [
      | inl found ↦ inl (found.0, found.1, omega (arith, found.2), found.3, found.4)
      | inr absent ↦
          (elim (slot_of entries bound) as (λ o. slot_of entries bound ≡ o
          → ((number : ℕ) × (slot : ℕ) × (number < suc bound) × (slot_of entries number ≡ Some slot)
          × (group_key_at dimensions columns number ≡ key))
          ⊎ ((number slot : ℕ) → number < suc bound → slot_of entries number ≡ Some slot
          → group_key_at dimensions columns number ≡ key → ⊥)) [
            | None ↦ λ e. inr (λ number slot h found same. elim (cases_lt number bound) [
              | inl below ↦ absent number slot below found same
              | inr above ↦
                  let here : number ≡ bound = omega (arith, h, above) in
                  let none : slot_of entries number ≡ None = ap (slot_of entries) here ∙ e in
                  cc (none, found)
            ])
            | Some slot ↦ λ e.
                elim (eq_by_cmp key_cmp (group_key_at dimensions columns bound) key) as
                (λ b. eq_by_cmp key_cmp (group_key_at dimensions columns bound) key ≡ b
                → ((number : ℕ) × (slot : ℕ) × (number < suc bound) × (slot_of entries number ≡ Some slot)
                × (group_key_at dimensions columns number ≡ key))
                ⊎ ((number slot : ℕ) → number < suc bound → slot_of entries number ≡ Some slot
                → group_key_at dimensions columns number ≡ key → ⊥)) [
                  | true ↦ λ equal. inl
                      (bound, slot, omega arith, e, key_eq-true (group_key_at dimensions columns bound) key equal)
                  | false ↦ λ unequal. inr (λ number other h found same. elim (cases_lt number bound) [
                    | inl below ↦ absent number other below found same
                    | inr above ↦
                        let here : number ≡ bound = omega (arith, h, above) in
                        let equal : eq_by_cmp key_cmp (group_key_at dimensions columns bound) key ≡ true =
                        ap (eq_by_cmp key_cmp (group_key_at dimensions columns bound))
                        (sym same ∙ ap (group_key_at dimensions columns) here)
                        ∙ key_eq-same (group_key_at dimensions columns bound) in
                        cc (equal, unequal)
                  ])
                ] refl
          ]) refl
    ]

pub some_seen : (aggs : List Agg) (row : LineOrder) (rows : List LineOrder)
    → list_all (λ (tally : Tally). nat_lt 0 tally.count) (tallies_of aggs (row ∷ rows)) ≡ true
some_seen [] row rows = refl
some_seen (agg ∷ aggs) row rows =
    let here : nat_lt 0 (length (map (aggregated agg) (row ∷ rows))) ≡ true = grind (arith, nat_tests) in
    ap (λ b. b && list_all (λ (tally : Tally). nat_lt 0 tally.count) (tallies_of aggs (row ∷ rows))) here
    ∙ some_seen aggs row rows

seen-tallies_of : (aggs : List Agg) (rows : List LineOrder) → 1 ≤ length aggs
    → cond (is_seen (tallies_of aggs rows)) (Some (tallies_of aggs rows)) None ≡ tallies_if_any aggs rows
seen-tallies_of [] rows some = absurd (omega (arith, some))
seen-tallies_of (agg ∷ aggs) [] some = refl
seen-tallies_of (agg ∷ aggs) (row ∷ rows) some =
    ap (λ b. cond b (Some (tallies_of (agg ∷ aggs) (row ∷ rows))) None) (some_seen (agg ∷ aggs) row rows)

-- the groups that are seen
pub seen_are : (dimensions : DimRows) (query : Query) (entries : List (ℕ × ℕ)) (columns : List (Vec Tally Global))
    (rows : List LineOrder) → 1 ≤ length query.aggregates → KeysRise dimensions query.columns
    → AreSlots (group_count dimensions query.columns) entries → AreTallied dimensions query entries columns rows
    → seen_groups (group_key_at dimensions query.columns) (tallies_at columns) entries ≡ groups_of dimensions query rows
seen_are dimensions query entries columns rows some rising slots tallied =
    let aggs = query.aggregates in
    let tallies = tallies_at columns in
    let below = each_number (λ number. number < group_count dimensions query.columns) entries slots.sorted
    slots.below in
    groups_are dimensions query rows (seen_groups (group_key_at dimensions query.columns) tallies entries)
    (seen-sorted dimensions query.columns rising tallies entries slots.sorted below)
    (λ key. elim (which dimensions query.columns entries key (group_count dimensions query.columns)) [
      | inl found ↦
          ap (λ k. lookup (is_at (key_cmp k)) (seen_groups (group_key_at dimensions query.columns) tallies entries))
          (sym found.4)
          ∙ seen-lookup dimensions query.columns rising tallies found.0 found.2 entries slots.sorted below
          ∙ ap (seen_at tallies) found.3
          ∙ ap (λ t. cond (is_seen t) (Some t) None) (tallied.each found.0 found.1 found.3)
          ∙ seen-tallies_of aggs (rows_at dimensions query (group_key_at dimensions query.columns found.0) rows) some
          ∙ ap (λ k. tallies_if_any aggs (rows_at dimensions query k rows)) found.4
      | inr absent ↦
          let none = λ (number slot : ℕ) (found : slot_of entries number ≡ Some slot). absent number slot
          (slots.below number slot found) found in
          seen-absent dimensions query.columns rising tallies key entries
          (each_number (λ number. group_key_at dimensions query.columns number ≡ key → ⊥) entries slots.sorted none)
          ∙ ap (tallies_if_any aggs) (sym (tallied.others key none))
    ])

-- ---- lines, one entry after another
module _ (aggs : List Agg) (key : ℕ → List Member) (tallies : ℕ → List Tally) (front : List (ℕ × ℕ)) (entry : ℕ × ℕ)
    (lines : List Line) (before : lines ≡ map (line_with aggs) (seen_groups key tallies front)) where
  pub lines-push : (line : Line) → is_seen (tallies entry.1) ≡ true
      → line ≡ line_with aggs (key entry.0, tallies entry.1)
      → lines ++ line ∷ [] ≡ map (line_with aggs) (seen_groups key tallies (front ++ entry ∷ []))
  lines-push line seen is =
      ap (λ ls. ls ++ line ∷ []) before
      ∙ ap (λ l. map (line_with aggs) (seen_groups key tallies front) ++ l ∷ []) is
      ∙ sym (map-append (line_with aggs) (seen_groups key tallies front) ((key entry.0, tallies entry.1) ∷ []))
      ∙ ap (map (line_with aggs)) (sym (seen_groups-push key tallies front entry
      ∙ ap (λ b. seen_groups key tallies front ++ cond b ((key entry.0, tallies entry.1) ∷ []) []) seen))

  pub lines-skip : is_seen (tallies entry.1) ≡ false
      → lines ≡ map (line_with aggs) (seen_groups key tallies (front ++ entry ∷ []))
  lines-skip unseen =
      before
      ∙ ap (map (line_with aggs)) (sym (seen_groups-push key tallies front entry
      ∙ ap (λ b. seen_groups key tallies front ++ cond b ((key entry.0, tallies entry.1) ∷ []) []) unseen
      ∙ append-nil (seen_groups key tallies front)))
