-- Lemmas of `coarser`, by subject.
use Rattle.std.proofs.Common.{◌≡◌, ◌≢◌, ◌∙◌, sym, ap, refl, subst, ℕ, zero, suc, ◌<◌, ◌≤◌, Bool, true, false, cond}
use Rattle.std.proofs.Common.{List, [], ◌∷◌, ◌++◌, append-nil, length, get_or, slice_set, Some, arith, ◌⊎◌, inl, inr}
use Rattle.std.proofs.Common.{map}
use Rattle.std.specs.Prelude.{◌==◌, ◌||◌, ◌&&◌, slice_get, nat_abs}
use Rattle.std.specs.List.{AllByRecursion, filter, list_any}
use Rattle.std.specs.Ordering.{eq_by_cmp, nat_cmp}
use Rattle.std.specs.BTreeMap.{is_at}
use Rattle.std.specs.declared.alloc.Global.{Global}
use Rattle.std.specs.declared.vec.Vec.{Vec}
use Rattle.std.proofs.lemmas.Bool.Decides.{nat_tests}
use Rattle.std.proofs.lemmas.List.{set-get_or, set-set}
use Rattle.cube_model.specs.Keys.{key_cmp}
use Rattle.cube_model.specs.Selection.{selected, is_selected}
use Rattle.cube_model.specs.declared.answer.Member.{Member}
use Rattle.cube_model.specs.declared.answer.Member.TheVariants.{All}
use Rattle.cube_model.specs.declared.attr.Attr.{Attr}
use Rattle.cube_model.specs.declared.measure.Agg.{Agg}
use Rattle.cube_model.specs.declared.query.Query.{Query}
use Rattle.cube_model.specs.declared.rows.DimRows.{DimRows}
use Rattle.cube_model.specs.declared.rows.LineOrder.{LineOrder}
use Rattle.group_numbers.specs.Columns.{attr_at}
use Rattle.cube_model.specs.Keys.{is_all}
use Rattle.group_numbers.specs.Numbers.{group_count, group_key_at, KeysRise}
use Rattle.group_tallies.specs.Coarser.{keys_from, rows_from, leads, sources_of, AreTalliedFrom, IsTarget, AreTargets}
use Rattle.group_tallies.specs.Coarser.{gathered, AddIn, CanMergeAll, HaveMergeRoom, LieWithin, MayMerge}
use Rattle.group_tallies.specs.Columns.{is_seen, tallies_at, IsCountable}
use Rattle.group_tallies.specs.Slots.{slot_of, AreSlots, Grow}
use Rattle.group_tallies.specs.Tallies.{tallies_of, aggregated}
use Rattle.group_tallies.specs.declared.tally.Tally.{Tally}
use Rattle.group_tallies.proofs.Marking.{key_eq-same, key_eq-true, key_eq-apart, keys_apart}
use Rattle.group_tallies.proofs.MergeLaws.{SameRows, SameRows-trans, SameRows-sym, SameRows-is, SameRows-after}
use Rattle.group_tallies.proofs.MergeLaws.{SameRows-split}
use Rattle.group_tallies.proofs.Placing.{at_true, at_same, at_apart}
use Rattle.group_tallies.proofs.Seen.{which, some_seen}
use Rattle.group_tallies.proofs.Stages.{stage, text_before, text_on}
use Rattle.std.specs.List.Sorted.{IsStrictlySortedBy}
use Rattle.std.specs.declared.cmp.Ordering.TheVariants.{Less}
use Rattle.std.proofs.lemmas.Cmp.{ranked}
use Rattle.group_tallies.specs.Limits.{AreFoldable}
use Rattle.group_tallies.proofs.Columnwise.{tallies-length}
use Rattle.group_tallies.proofs.Merging.{gathered-none}
use Rattle.group_tallies.proofs.Ranges.{range_of_agg}
use Rattle.group_tallies.proofs.Sums.{sum_by-filter, length-filter-le}

-- ==== The groups with ALL at one more column, made from those without.

-- ---- lists and tests
pub In : {X : Type 0} → X → List X → Type 0
In x [] = ⊥
In x (y ∷ ys) = (x ≡ y) ⊎ In x ys

pub each : {X : Type 0} (P : X → Type 0) (xs : List X) → ((x : X) → In x xs → P x) → AllByRecursion P xs
unfolding In
each P [] f = tt
each P (x ∷ xs) f = (f x (inl refl), each P xs (λ y i. f y (inr i)))

same_test : (a b : Bool) → (a ≡ true → b ≡ true) → (b ≡ true → a ≡ true) → a ≡ b
same_test true b p q = sym (p refl)
same_test false true p q = q refl
same_test false false p q = refl

pub and_left : (a b : Bool) → (a && b) ≡ true → a ≡ true
and_left true b e = refl
and_left false b e = e

pub and_right : (a b : Bool) → (a && b) ≡ true → b ≡ true
and_right true b e = e
and_right false b e = cc

or_cases : (a b : Bool) → (a || b) ≡ true → (a ≡ true) ⊎ (b ≡ true)
or_cases true b e = inl refl
or_cases false b e = inr e

or_right : (a b : Bool) → b ≡ true → (a || b) ≡ true
or_right true b e = refl
or_right false b e = e

-- something that passes, with what holds of each
pub witness : {X : Type 0} (P : X → Type 0) (t : X → Bool) (xs : List X) → AllByRecursion P xs → list_any t xs ≡ true
    → (x : X) × (t x ≡ true) × P x
witness P t [] all some = cc
witness P t (x ∷ xs) all some =
    (elim (t x) as (λ b. t x ≡ b → (b || list_any t xs) ≡ true → (x : _) × (t x ≡ true) × P x) [
      | true ↦ λ e found. (x, e, all.0)
      | false ↦ λ e found. witness P t xs all.1 found
    ]) refl some

-- a key among others that passes with what holds of each, and is among them
key_witness : (P : List Member → Type 0) (t : List Member → Bool) (keys : List (List Member)) → AllByRecursion P keys
    → list_any t keys ≡ true
    → (key : List Member) × (t key ≡ true) × P key × (list_any (eq_by_cmp key_cmp key) keys ≡ true)
key_witness P t [] all some = cc
key_witness P t (key ∷ keys) all some =
    (elim (t key) as (λ b. t key ≡ b → (b || list_any t keys) ≡ true → (k : List Member) × (t k ≡ true) × P k
    × ((eq_by_cmp key_cmp k key || list_any (eq_by_cmp key_cmp k) keys) ≡ true)) [
      | true ↦ λ e found. (key, e, all.0, ap (λ b. b || list_any (eq_by_cmp key_cmp key) keys) (key_eq-same key))
      | false ↦ λ e found.
          (let rest = key_witness P t keys all.1 found in (
            rest.0,
            rest.1,
            rest.2,
            or_right (eq_by_cmp key_cmp rest.0 key) (list_any (eq_by_cmp key_cmp rest.0) keys)
                rest.3,
          ))
    ]) refl some

-- what holds of each key holds of one that is among them
among_all : (P : List Member → Type 0) (key : List Member) (keys : List (List Member)) → AllByRecursion P keys
    → list_any (eq_by_cmp key_cmp key) keys ≡ true → P key
among_all P key keys all some =
    let found = key_witness P (eq_by_cmp key_cmp key) keys all some in
    subst P (sym (key_eq-true key found.0 found.1)) found.2

-- a test that passes at a key among them passes at one of them
among_any : (t : List Member → Bool) (key : List Member) (keys : List (List Member))
    → list_any (eq_by_cmp key_cmp key) keys ≡ true → t key ≡ true → list_any t keys ≡ true
among_any t key [] some passes = cc
among_any t key (first ∷ keys) some passes =
    elim (or_cases (eq_by_cmp key_cmp key first) (list_any (eq_by_cmp key_cmp key) keys) some) [
      | inl here ↦ ap (λ b. b || list_any t keys) (ap t (sym (key_eq-true key first here)) ∙ passes)
      | inr there ↦ or_right (t first) (list_any t keys) (among_any t key keys there passes)
    ]

pub in-filter : {X : Type 0} (p : X → Bool) (x : X) (xs : List X) → In x xs → p x ≡ true → filter p xs ≡ [] → ⊥
unfolding In
in-filter p x [] i passes none = i
in-filter p x (y ∷ ys) (inl e) passes none =
    let here : p y ≡ true = ap p (sym e) ∙ passes in
    cc (ap (λ b. cond b (y ∷ filter p ys) (filter p ys)) (sym here) ∙ none)
in-filter p x (y ∷ ys) (inr i) passes none =
    (elim (p y) as (λ b. cond b (y ∷ filter p ys) (filter p ys) ≡ [] → ⊥) [
      | true ↦ λ e. cc e
      | false ↦ λ e. in-filter p x ys i passes e
    ]) none

filter-among : {X : Type 0} (p q : X → Bool) (xs : List X) → AllByRecursion (λ x. p x ≡ q x) xs
    → filter p xs ≡ filter q xs
filter-among p q [] all = refl
filter-among p q (x ∷ xs) all = (λ i. cond (all.0 i) (x ∷ filter-among p q xs all.1 i) (filter-among p q xs all.1 i))

pub filter-none : {X : Type 0} (p : X → Bool) (xs : List X) → AllByRecursion (λ x. p x ≡ false) xs → filter p xs ≡ []
filter-none p [] all = refl
filter-none p (x ∷ xs) all = ap (λ b. cond b (x ∷ filter p xs) (filter p xs)) all.0 ∙ filter-none p xs all.1

any-filter : {X : Type 0} (t f : X → Bool) (xs : List X) → list_any t (filter f xs) ≡ list_any (λ x. f x && t x) xs
any-filter t f [] = refl
any-filter t f (x ∷ xs) =
    elim (f x) as
    (λ b. list_any t (cond b (x ∷ filter f xs) (filter f xs)) ≡ ((b && t x) || list_any (λ x. f x && t x) xs)) [
      | true ↦ ap (λ b. t x || b) (any-filter t f xs)
      | false ↦ any-filter t f xs
    ]

pub passing : {X : Type 0} (f : X → Bool) (xs : List X) → AllByRecursion (λ x. f x ≡ true) (filter f xs)
passing f [] = tt
passing f (x ∷ xs) =
    (elim (f x) as (λ b. f x ≡ b → AllByRecursion (λ x. f x ≡ true) (cond b (x ∷ filter f xs) (filter f xs))) [
      | true ↦ λ e. (e, passing f xs)
      | false ↦ λ e. passing f xs
    ]) refl

lookup-any : (t : ℕ × ℕ → Bool) (number slot : ℕ) (entries : List (ℕ × ℕ)) → slot_of entries number ≡ Some slot
    → t (number, slot) ≡ true → list_any t entries ≡ true
lookup-any t number slot [] found passes = cc
lookup-any t number slot (entry ∷ entries) found passes =
    (elim (is_at (nat_cmp number) entry.0) as (λ b. is_at (nat_cmp number) entry.0 ≡ b
    → cond b (Some entry.1) (slot_of entries number) ≡ Some slot → (t entry || list_any t entries) ≡ true) [
      | true ↦ λ e is.
          let one : number ≡ entry.0 = at_true number entry.0 e in
          let two : slot ≡ entry.1 = cc is in
          let here : t entry ≡ true = ap t (λ i. (sym one i, sym two i)) ∙ passes in
          ap (λ b. b || list_any t entries) here
      | false ↦ λ e is. or_right (t entry) (list_any t entries) (lookup-any t number slot entries is passes)
    ]) refl found

seen-some : (aggs : List Agg) (rows : List LineOrder) → 1 ≤ length aggs → (rows ≡ [] → ⊥)
    → is_seen (tallies_of aggs rows) ≡ true
seen-some [] rows some more = absurd (omega (arith, some))
seen-some (agg ∷ aggs) [] some more = absurd (more refl)
seen-some (agg ∷ aggs) (row ∷ rows) some more = some_seen (agg ∷ aggs) row rows

-- a key is determined by what it has at a place and what it is with ALL there
fact : (key other : List Member) (i : ℕ) (text : Member) → get_or key i All ≡ text → get_or other i All ≡ text
    → slice_set key i All ≡ slice_set other i All → key ≡ other
fact key other i text here there same =
    sym (set-get_or key i All) ∙ ap (slice_set key i) here ∙ sym (set-set key i All text)
    ∙ ap (λ k. slice_set k i text) same
    ∙ set-set other i All text ∙ ap (slice_set other i) (sym there) ∙ set-get_or other i All

pub all_there : (key : List Member) (i : ℕ) → get_or (slice_set key i All) i All ≡ All
all_there [] i = refl
all_there (member ∷ key) zero = refl
all_there (member ∷ key) (suc i) = all_there key i

-- entries of numbers that differ, and are below a bound
abbrev pub Apart : ℕ → List (ℕ × ℕ) → Type 0
Apart bound [] = Unit {0}
Apart bound (entry ∷ others) = (entry.0 < bound)
    × AllByRecursion (λ other. (other.0 < bound) × (entry.0 ≢ other.0)) others × Apart bound others

module _ (dimensions : DimRows) (query : Query) (i : ℕ) (within : i < length query.columns)
    (some : 1 ≤ length query.aggregates) (rising : KeysRise dimensions query.columns) where
  abbrev columns_of : List Attr
  columns_of = query.columns

  abbrev key_of : ℕ → List Member
  key_of number = group_key_at dimensions query.columns number

  -- a row has a key, from a column on
  abbrev pub has : ℕ → List Member → LineOrder → Bool
  has j key row = list_any (eq_by_cmp key_cmp key) (keys_from dimensions query.kind j query.columns row)

  -- the key that a group has with ALL at the column
  abbrev pub image : ℕ × ℕ → List Member
  image source = slice_set (key_of source.0) i All

  -- a source from which a key is made, and a row that it has
  abbrev pub comes : List Member → LineOrder → ℕ × ℕ → Bool
  comes key row source = eq_by_cmp key_cmp key (image source) && has (suc i) (key_of source.0) row

  texts : (row : LineOrder)
      → AllByRecursion (λ key. get_or key i All ≡ text_on dimensions row (attr_at query.columns i))
      (keys_from dimensions query.kind (suc i) query.columns row)
  texts row = text_before dimensions row query.kind i query.columns within

  -- a key with ALL at the column is none of those from the next column on
  pub no_all : (key : List Member) (row : LineOrder) → is_all (get_or key i All) ≡ true → has (suc i) key row ≡ false
  no_all key row all =
      (elim (has (suc i) key row) as (λ b. has (suc i) key row ≡ b → b ≡ false) [
        | true ↦ λ e.
            let text : get_or key i All ≡ text_on dimensions row (attr_at query.columns i) =
            among_all (λ k. get_or k i All ≡ text_on dimensions row (attr_at query.columns i)) key
            (keys_from dimensions query.kind (suc i) query.columns row) (texts row) e in
            cc (sym (ap is_all text) ∙ all)
        | false ↦ λ e. refl
      ]) refl

  -- and one with a text there is one of those from the column on exactly if it is one of those from the next on
  pub still_text : (key : List Member) (row : LineOrder) → is_all (get_or key i All) ≡ false
      → has i key row ≡ has (suc i) key row
  still_text key row text =
      let keys = keys_from dimensions query.kind (suc i) query.columns row in
      let none : list_any (λ k. leads query.kind i k && eq_by_cmp key_cmp key (slice_set k i All)) keys ≡ false =
      (elim (list_any (λ k. leads query.kind i k && eq_by_cmp key_cmp key (slice_set k i All)) keys) as
      (λ b. list_any (λ k. leads query.kind i k && eq_by_cmp key_cmp key (slice_set k i All)) keys ≡ b → b ≡ false) [
        | true ↦ λ e.
            let found = key_witness (λ k. get_or k i All ≡ text_on dimensions row (attr_at query.columns i))
            (λ k. leads query.kind i k && eq_by_cmp key_cmp key (slice_set k i All)) keys (texts row) e in
            let same : key ≡ slice_set found.0 i All =
            key_eq-true key (slice_set found.0 i All) (and_right (leads query.kind i found.0) _ found.1) in
            let all : is_all (get_or key i All) ≡ true =
            ap is_all (ap (λ k. get_or k i All) same ∙ all_there found.0 i) in
            cc (sym all ∙ text)
        | false ↦ λ e. refl
      ]) refl in
      stage dimensions row query.kind i query.columns within (eq_by_cmp key_cmp key)
      ∙ ap (λ b. has (suc i) key row || b) none ∙ or-false (has (suc i) key row)
    where
      or-false : (b : Bool) → (b || false) ≡ b
      or-false true = refl
      or-false false = refl

  module _ (entries : List (ℕ × ℕ)) (columns : List (Vec Tally Global)) (rows : List LineOrder)
      (slots : AreSlots (group_count dimensions query.columns) entries)
      (tallied : AreTalliedFrom dimensions query (suc i) entries columns rows) where
    abbrev pub chosen : List LineOrder
    chosen = selected dimensions query.conditions rows

    abbrev pub sources : List (ℕ × ℕ)
    sources = sources_of dimensions query i (tallies_at columns) entries

    -- the group of a selected row's key that leads is a source
    is_source : (row : LineOrder) → In row chosen → (key : List Member) → has (suc i) key row ≡ true
        → leads query.kind i key ≡ true → (t : ℕ × ℕ → Bool)
        → ((number slot : ℕ) → key_of number ≡ key → t (number, slot) ≡ true) → list_any t sources ≡ true
    is_source row there key had led t passes =
        let more : rows_from dimensions query (suc i) key rows ≡ []
        → ⊥ = in-filter (has (suc i) key) row chosen there had in
        elim (which dimensions query.columns entries key (group_count dimensions query.columns)) [
          | inl found ↦
              let number = found.0 in
              let slot = found.1 in
              let is : key_of number ≡ key = found.4 in
              let seen : is_seen (tallies_at columns slot) ≡ true =
              ap is_seen (tallied.each number slot found.3
              ∙ ap (λ k. tallies_of query.aggregates (rows_from dimensions query (suc i) k rows)) is)
              ∙ seen-some query.aggregates (rows_from dimensions query (suc i) key rows) some more in
              any-filter t
              (λ (entry : ℕ × ℕ). is_seen (tallies_at columns entry.1) && leads query.kind i (key_of entry.0))
              entries
              ∙ lookup-any
              (λ (entry : ℕ × ℕ). (is_seen (tallies_at columns entry.1) && leads query.kind i (key_of entry.0)) && t
              entry) number slot entries found.3
              ((λ j. (seen j && (ap (leads query.kind i) is ∙ led) j) && passes number slot is j))
          | inr absent ↦
              absurd (more
              (tallied.others key
              (λ number slot found is. absent number slot (slots.below number slot found) found is)))
        ]

    -- a selected row has a key with ALL at the column exactly if it is of a source from which the key is made
    pub from_sources : (key : List Member) → is_all (get_or key i All) ≡ true → (row : LineOrder) → In row chosen
        → has i key row ≡ list_any (comes key row) sources
    from_sources key all row there =
        let keys = keys_from dimensions query.kind (suc i) query.columns row in
        let t = λ (k : List Member). leads query.kind i k && eq_by_cmp key_cmp key (slice_set k i All) in
        stage dimensions row query.kind i query.columns within (eq_by_cmp key_cmp key)
        ∙ ap (λ b. b || list_any t keys) (no_all key row all)
        ∙ same_test (list_any t keys) (list_any (comes key row) sources)
        (λ e.
        let found = key_witness (λ k. get_or k i All ≡ text_on dimensions row (attr_at query.columns i)) t keys
        (texts row) e in
        let led = and_left (leads query.kind i found.0) _ found.1 in
        let made : eq_by_cmp key_cmp key (slice_set found.0 i All) ≡ true =
        and_right (leads query.kind i found.0) _ found.1 in
        is_source row there found.0 found.3 led (comes key row)
        (λ number slot is.
        (λ j. (ap (λ k. eq_by_cmp key_cmp key (slice_set k i All)) is ∙ made) j &&
        (ap (λ k. has (suc i) k row) is ∙ found.3) j)))
        (λ e.
        let found =
        witness (λ (source : ℕ × ℕ). (is_seen (tallies_at columns source.1) && leads query.kind i (key_of source.0))
        ≡ true) (comes key row) sources
        (passing (λ (entry : ℕ × ℕ). is_seen (tallies_at columns entry.1) && leads query.kind i (key_of entry.0))
        entries) e in
        let led = and_right (is_seen (tallies_at columns found.0.1)) _ found.2 in
        let made = and_left (eq_by_cmp key_cmp key (image found.0)) _ found.1 in
        let had = and_right (eq_by_cmp key_cmp key (image found.0)) _ found.1 in
        among_any t (key_of found.0.0) keys had (λ j. led j && made j))

    -- ---- what comes to a target
    abbrev pub part : ℕ × ℕ → List LineOrder
    part source = rows_from dimensions query (suc i) (key_of source.0) rows

    -- no row is of two sources from which one key is made
    apart : (key : List Member) (source : ℕ × ℕ) (others : List (ℕ × ℕ))
        → source.0 < group_count dimensions query.columns
        → AllByRecursion (λ other. (other.0 < group_count dimensions query.columns) × (source.0 ≢ other.0)) others
        → eq_by_cmp key_cmp key (image source) ≡ true → (row : LineOrder)
        → (has (suc i) (key_of source.0) row && list_any (comes key row) others) ≡ false
    apart key source others below all made row =
        let keys = keys_from dimensions query.kind (suc i) query.columns row in
        let P = λ (k : List Member). get_or k i All ≡ text_on dimensions row (attr_at query.columns i) in
        (elim (has (suc i) (key_of source.0) row && list_any (comes key row) others) as
        (λ b. (has (suc i) (key_of source.0) row && list_any (comes key row) others) ≡ b → b ≡ false) [
          | true ↦ λ e.
              let here : P (key_of source.0) =
              among_all P (key_of source.0) keys (texts row) (and_left (has (suc i) (key_of source.0) row) _ e) in
              let found =
              witness (λ (other : ℕ × ℕ). (other.0 < group_count dimensions query.columns) × (source.0 ≢ other.0))
              (comes key row) others all (and_right (has (suc i) (key_of source.0) row) _ e) in
              let there : P (key_of found.0.0) =
              among_all P (key_of found.0.0) keys (texts row)
              (and_right (eq_by_cmp key_cmp key (image found.0)) _ found.1) in
              let same : image source ≡ image found.0 = sym (key_eq-true key (image source) made)
              ∙ key_eq-true key (image found.0) (and_left (eq_by_cmp key_cmp key (image found.0)) _ found.1) in
              let one : key_of source.0 ≡ key_of found.0.0 =
              fact (key_of source.0) (key_of found.0.0) i (text_on dimensions row (attr_at query.columns i)) here
              there same in
              absurd (found.2.1 (keys_apart dimensions query.columns rising source.0 found.0.0 below found.2.0 one))
          | false ↦ λ e. refl
        ]) refl

    module _ (new : List (ℕ × ℕ)) (placed : AreSlots (group_count dimensions query.columns) new) (number slot : ℕ)
        (found : slot_of new number ≡ Some slot) where
      -- a target is a slot exactly where the key with ALL is that of its number
      is_target : (source : ℕ × ℕ) (target : ℕ) → IsTarget dimensions query.columns i new source target
          → (target == slot) ≡ eq_by_cmp key_cmp (key_of number) (image source)
      is_target source target is =
          same_test (target == slot) (eq_by_cmp key_cmp (key_of number) (image source))
          (λ e.
          let same : target ≡ slot = grind (arith, nat_tests) in
          let one : is.0 ≡ number = placed.apart is.0 number slot (is.1 ∙ ap Some same) found in
          ap (eq_by_cmp key_cmp (key_of number)) (sym is.2 ∙ ap key_of one) ∙ key_eq-same (key_of number))
          (λ e.
          let keys : key_of number ≡ key_of is.0 = key_eq-true (key_of number) (image source) e ∙ sym is.2 in
          let one : number ≡ is.0 =
          keys_apart dimensions query.columns rising number is.0 (placed.below number slot found)
          (placed.below is.0 target is.1) keys in
          let same : Some target ≡ Some slot = sym is.1 ∙ ap (slot_of new) (sym one) ∙ found in
          let equal : target ≡ slot = cc same in
          grind (arith, nat_tests))

      gathered_rows : (list : List (ℕ × ℕ)) (targets : List ℕ) → AreTargets dimensions query.columns i new list targets
          → Apart (group_count dimensions query.columns) list
          → SameRows (gathered slot part list targets)
          (filter (λ row. list_any (comes (key_of number) row) list) chosen)
      gathered_rows [] [] are differ =
          SameRows-is [] _
          (sym (filter-none (λ row. false) chosen (each (λ row. false ≡ false) chosen (λ row there. refl))))
      gathered_rows [] (target ∷ targets) are differ = absurd are
      gathered_rows (source ∷ list) [] are differ = absurd are
      gathered_rows (source ∷ list) (target ∷ targets) are differ =
          let rest = gathered_rows list targets are.1 differ.2 in
          let key = key_of number in
          let others = λ (row : LineOrder). list_any (comes key row) list in
          subst (λ b. SameRows
          (cond b (part source ++ gathered slot part list targets) (gathered slot part list targets))
          (filter (λ row. comes key row source || others row) chosen)) (sym (is_target source target are.0))
          ((elim (eq_by_cmp key_cmp key (image source)) as (λ b. eq_by_cmp key_cmp key (image source) ≡ b
          → SameRows (cond b (part source ++ gathered slot part list targets) (gathered slot part list targets))
          (filter (λ row. (b && has (suc i) (key_of source.0) row) || others row) chosen)) [
            | true ↦ λ e.
                SameRows-trans (part source ++ gathered slot part list targets) (part source ++ filter others chosen)
                (filter (λ row. has (suc i) (key_of source.0) row || others row) chosen)
                (SameRows-after (part source) (gathered slot part list targets) (filter others chosen) rest)
                (SameRows-sym (filter (λ row. has (suc i) (key_of source.0) row || others row) chosen)
                (part source ++ filter others chosen)
                (SameRows-split (has (suc i) (key_of source.0)) others (apart key source list differ.0 differ.1 e)
                chosen))
            | false ↦ λ e. rest
          ]) refl)

      -- no target is the slot of a number whose key has a text at the column
      gathered_none : is_all (get_or (key_of number) i All) ≡ false → (list : List (ℕ × ℕ)) (targets : List ℕ)
          → AreTargets dimensions query.columns i new list targets → gathered slot part list targets ≡ []
      gathered_none text [] [] are = refl
      gathered_none text [] (target ∷ targets) are = absurd are
      gathered_none text (source ∷ list) [] are = absurd are
      gathered_none text (source ∷ list) (target ∷ targets) are =
          let unequal : (key_of number ≡ image source → ⊥) =
          λ same. (let all : is_all (get_or (key_of number) i All)
          ≡ true = ap is_all (ap (λ k. get_or k i All) same ∙ all_there (key_of source.0) i) in
          cc (sym all ∙ text)) in
          ap (λ b. cond b (part source ++ gathered slot part list targets) (gathered slot part list targets))
          (is_target source target are.0 ∙ key_eq-apart (key_of number) (image source) unequal)
          ∙ gathered_none text list targets are.1

      -- what comes to a slot is the rows that its key has from the column on, and no others
      pub came : (targets : List ℕ) → AreTargets dimensions query.columns i new sources targets
          → Apart (group_count dimensions query.columns) sources
          → SameRows (rows_from dimensions query (suc i) (key_of number) rows ++ gathered slot part sources targets)
          (rows_from dimensions query i (key_of number) rows)
      came targets are differ =
          let key = key_of number in
          (elim (is_all (get_or key i All)) as (λ b. is_all (get_or key i All) ≡ b
          → SameRows (rows_from dimensions query (suc i) key rows ++ gathered slot part sources targets)
          (rows_from dimensions query i key rows)) [
            | true ↦ λ e.
                let none : rows_from dimensions query (suc i) key rows ≡ [] =
                filter-none (has (suc i) key) chosen
                (each (λ row. has (suc i) key row ≡ false) chosen (λ row there. no_all key row e)) in
                let made : filter (λ row. list_any (comes key row) sources) chosen
                ≡ rows_from dimensions query i key rows =
                filter-among (λ row. list_any (comes key row) sources) (has i key) chosen
                (each (λ row. list_any (comes key row) sources ≡ has i key row) chosen
                (λ row there. sym (from_sources key e row there))) in
                SameRows-trans (rows_from dimensions query (suc i) key rows ++ gathered slot part sources targets)
                (filter (λ row. list_any (comes key row) sources) chosen) (rows_from dimensions query i key rows)
                (SameRows-trans (rows_from dimensions query (suc i) key rows ++ gathered slot part sources targets)
                (gathered slot part sources targets) (filter (λ row. list_any (comes key row) sources) chosen)
                (SameRows-is _ _ (ap (λ front. front ++ gathered slot part sources targets) none))
                (gathered_rows sources targets are differ))
                (SameRows-is _ _ made)
            | false ↦ λ e.
                SameRows-is _ _
                (ap (λ more. rows_from dimensions query (suc i) key rows ++ more)
                (gathered_none e sources targets are) ∙ append-nil (rows_from dimensions query (suc i) key rows)
                ∙ sym (filter-among (has i key) (has (suc i) key) chosen
                (each (λ row. has i key row ≡ has (suc i) key row) chosen (λ row there. still_text key row e))))
          ]) refl

-- ==== The slots of groups with ALL at one more column, and how a fold goes on to them.

module _ (dimensions : DimRows) (columns : List Attr) (i : ℕ) where
  IsTarget-keep : (old new : List (ℕ × ℕ))
      → ((number slot : ℕ) → slot_of old number ≡ Some slot → slot_of new number ≡ Some slot)
      → (source : ℕ × ℕ) (target : ℕ)
      → IsTarget dimensions columns i old source target → IsTarget dimensions columns i new source target
  IsTarget-keep old new keep source target is = (is.0, keep is.0 target is.1, is.2)

  pub AreTargets-keep : (old new : List (ℕ × ℕ))
      → ((number slot : ℕ) → slot_of old number ≡ Some slot → slot_of new number ≡ Some slot)
      → (sources : List (ℕ × ℕ)) (targets : List ℕ)
      → AreTargets dimensions columns i old sources targets → AreTargets dimensions columns i new sources targets
  AreTargets-keep old new keep [] [] are = tt
  AreTargets-keep old new keep [] (target ∷ targets) are = absurd are
  AreTargets-keep old new keep (source ∷ sources) [] are = absurd are
  AreTargets-keep old new keep (source ∷ sources) (target ∷ targets) are =
      (IsTarget-keep old new keep source target are.0, AreTargets-keep old new keep sources targets are.1)

  pub AreTargets-push : (entries : List (ℕ × ℕ)) (sources : List (ℕ × ℕ)) (targets : List ℕ) (source : ℕ × ℕ)
      (target : ℕ) → AreTargets dimensions columns i entries sources targets
      → IsTarget dimensions columns i entries source target
      → AreTargets dimensions columns i entries (sources ++ source ∷ []) (targets ++ target ∷ [])
  AreTargets-push entries [] [] source target are is = (is, tt)
  AreTargets-push entries [] (other ∷ targets) source target are is = absurd are
  AreTargets-push entries (first ∷ sources) [] source target are is = absurd are
  AreTargets-push entries (first ∷ sources) (other ∷ targets) source target are is =
      (are.0, AreTargets-push entries sources targets source target are.1 is)

  pub AreTargets-length : (entries : List (ℕ × ℕ)) (sources : List (ℕ × ℕ)) (targets : List ℕ)
      → AreTargets dimensions columns i entries sources targets → length targets ≡ length sources
  AreTargets-length entries [] [] are = refl
  AreTargets-length entries [] (target ∷ targets) are = absurd are
  AreTargets-length entries (source ∷ sources) [] are = absurd are
  AreTargets-length entries (source ∷ sources) (target ∷ targets) are =
      ap suc (AreTargets-length entries sources targets are.1)

  -- a target, with the source that it is of
  pub AreTargets-at : (entries : List (ℕ × ℕ)) (sources : List (ℕ × ℕ)) (targets : List ℕ)
      → AreTargets dimensions columns i entries sources targets → (place target : ℕ)
      → slice_get targets place ≡ Some target
      → (source : ℕ × ℕ) × IsTarget dimensions columns i entries source target
  AreTargets-at entries [] [] are place target at = absurd (cc at)
  AreTargets-at entries [] (first ∷ targets) are place target at = absurd are
  AreTargets-at entries (source ∷ sources) [] are place target at = absurd are
  AreTargets-at entries (source ∷ sources) (first ∷ targets) are zero target at =
      (source, subst (IsTarget dimensions columns i entries source) (cc at) are.0)
  AreTargets-at entries (source ∷ sources) (first ∷ targets) are (suc place) target at =
      AreTargets-at entries sources targets are.1 place target at

-- ==== How a fold goes on to the groups with ALL at one more column.

-- ---- entries that differ
apart_from : (bound low : ℕ) (entries : List (ℕ × ℕ))
    → AllByRecursion (λ other. nat_cmp low other ≡ Less) (map (λ e. e.0) entries)
    → AllByRecursion (λ number. number < bound) (map (λ e. e.0) entries)
    → AllByRecursion (λ other. (other.0 < bound) × (low ≢ other.0)) entries
apart_from bound low [] above below = tt
apart_from bound low (entry ∷ entries) above below =
    let less : low < entry.0 = ranked low entry.0 Less (sym above.0) in
    let differ : low ≢ entry.0 = omega (arith, less) in
    ((below.0, differ), apart_from bound low entries above.1 below.1)

pub Apart-sorted : (bound : ℕ) (entries : List (ℕ × ℕ)) → IsStrictlySortedBy nat_cmp (map (λ e. e.0) entries)
    → AllByRecursion (λ number. number < bound) (map (λ e. e.0) entries) → Apart bound entries
unfolding IsStrictlySortedBy
Apart-sorted bound [] sorted below = tt
Apart-sorted bound (entry ∷ entries) sorted below =
    (below.0, apart_from bound entry.0 entries sorted.0 below.1, Apart-sorted bound entries sorted.1 below.1)

all-filter : {X : Type 0} (P : X → Type 0) (f : X → Bool) (xs : List X) → AllByRecursion P xs
    → AllByRecursion P (filter f xs)
all-filter P f [] all = tt
all-filter P f (x ∷ xs) all = elim (f x) as (λ b. AllByRecursion P (cond b (x ∷ filter f xs) (filter f xs))) [
  | true ↦ (all.0, all-filter P f xs all.1)
  | false ↦ all-filter P f xs all.1
]

pub Apart-filter : (bound : ℕ) (f : ℕ × ℕ → Bool) (entries : List (ℕ × ℕ)) → Apart bound entries
    → Apart bound (filter f entries)
Apart-filter bound f [] apart = tt
Apart-filter bound f (entry ∷ entries) apart =
    let rest = Apart-filter bound f entries apart.2 in
    elim (f entry) as (λ b. Apart bound (cond b (entry ∷ filter f entries) (filter f entries))) [
      | true ↦ (
        apart.0,
        all-filter (λ (other : ℕ × ℕ). (other.0 < bound) × (entry.0 ≢ other.0)) f entries apart.1,
        rest,
      )
      | false ↦ rest
    ]

-- each entry is found
further : (bound : ℕ) (entry : ℕ × ℕ) (entries list : List (ℕ × ℕ))
    → AllByRecursion (λ other. (other.0 < bound) × (entry.0 ≢ other.0)) list
    → AllByRecursion (λ e. slot_of entries e.0 ≡ Some e.1) list
    → AllByRecursion (λ e. slot_of (entry ∷ entries) e.0 ≡ Some e.1) list
further bound entry entries [] differ found = tt
further bound entry entries (e ∷ list) differ found = (
  ap (λ b. cond b (Some entry.1) (slot_of entries e.0)) (at_apart e.0 entry.0 (λ same. differ.0.1 (sym same)))
      ∙ found.0,
  further bound entry entries list differ.1 found.1,
)

pub all-found : (bound : ℕ) (entries : List (ℕ × ℕ)) → Apart bound entries
    → AllByRecursion (λ e. slot_of entries e.0 ≡ Some e.1) entries
all-found bound [] apart = tt
all-found bound (entry ∷ entries) apart = (
  ap (λ b. cond b (Some entry.1) (slot_of entries entry.0)) (at_same entry.0),
  further bound entry entries entries apart.1 (all-found bound entries apart.2),
)

all-get : {X : Type 0} (P : X → Type 0) (xs : List X) (place : ℕ) (x : X) → AllByRecursion P xs
    → slice_get xs place ≡ Some x → P x
all-get P [] place x all at = absurd (cc at)
all-get P (y ∷ ys) zero x all at = subst P (cc at) all.0
all-get P (y ∷ ys) (suc place) x all at = all-get P ys place x all.1 at

all-both : {X : Type 0} (P Q : X → Type 0) (xs : List X) → AllByRecursion P xs → AllByRecursion Q xs
    → AllByRecursion (λ x. P x × Q x) xs
all-both P Q [] p q = tt
all-both P Q (x ∷ xs) p q = ((p.0, q.0), all-both P Q xs p.1 q.1)

all-weaker : {X : Type 0} (P Q : X → Type 0) (xs : List X) → ((x : X) → P x → Q x) → AllByRecursion P xs
    → AllByRecursion Q xs
all-weaker P Q [] weaker all = tt
all-weaker P Q (x ∷ xs) weaker all = (weaker x all.0, all-weaker P Q xs weaker all.1)

unseen : (aggs : List Agg) → is_seen (tallies_of aggs []) ≡ false
unseen [] = refl
unseen (agg ∷ aggs) = refl

module _ (dimensions : DimRows) (query : Query) (rising : KeysRise dimensions query.columns) (j : ℕ)
    (old new : List (ℕ × ℕ)) (columns longer : List (Vec Tally Global))
    (slots : AreSlots (group_count dimensions query.columns) old)
    (grow : Grow (group_count dimensions query.columns) old new)
    (same : (slot : ℕ) → tallies_at longer slot ≡ tallies_at columns slot) (rows : List LineOrder) where
  -- with more slots
  pub AreTalliedFrom-grow : AreTalliedFrom dimensions query j old columns rows
      → AreTalliedFrom dimensions query j new longer rows
  AreTalliedFrom-grow tallied = record {
    each = λ number slot found. same slot ∙ elim (grow.fresh number slot found) [
      | inl kept ↦ tallied.each number slot kept
      | inr fresh ↦
          let none : rows_from dimensions query j (group_key_at dimensions query.columns number) rows ≡ [] =
          tallied.others (group_key_at dimensions query.columns number) (λ other place there is.
          let one : other ≡ number =
          keys_apart dimensions query.columns rising other number (slots.below other place there)
          (grow.slots.below number slot found) is in
          let here : slot_of old number ≡ Some place = ap (slot_of old) (sym one) ∙ there in
          cc (here, fresh.0)) in
          tallied.fresh slot fresh.1 ∙ ap (tallies_of query.aggregates) (sym none)
    ];
    others = λ key absent. tallied.others key
        (λ number slot found is. absent number slot (grow.keep number slot found) is);
    fresh = λ slot h. same slot ∙ tallied.fresh slot (omega (arith, h, grow.longer));
  }

tallies_alike : (aggs : List Agg) (rows others : List LineOrder) → SameRows rows others
    → tallies_of aggs rows ≡ tallies_of aggs others
tallies_alike [] rows others same = refl
tallies_alike (agg ∷ aggs) rows others same = λ i. same.tallies (aggregated agg) i
    ∷ tallies_alike aggs rows others same i

-- rows of a key from a column on can be counted where all rows may be folded
countable_from : (dimensions : DimRows) (query : Query) (j : ℕ) (key : List Member) (rows : List LineOrder)
    → AreFoldable dimensions rows → (agg : Agg) → IsCountable agg (rows_from dimensions query j key rows)
countable_from dimensions query j key rows foldable agg =
    let p = is_selected dimensions query.conditions in
    let q = λ (row : LineOrder). list_any (eq_by_cmp key_cmp key)
    (keys_from dimensions query.kind j query.columns row) in
    let size = λ (row : LineOrder). nat_abs (aggregated agg row) in
    record {
      few = omega (arith, length-filter-le q (filter p rows), length-filter-le p rows, foldable.few);
      small = omega (
        arith,
        sum_by-filter size q (filter p rows),
        sum_by-filter size p rows,
        range_of_agg rows foldable.in_range agg,
      );
    }

countable_alike : (agg : Agg) (rows others : List LineOrder) → SameRows rows others → IsCountable agg others
    → IsCountable agg rows
countable_alike agg rows others same countable = record {
  few = omega (arith, same.lengths, countable.few);
  small = omega (arith, same.sums (λ row. nat_abs (aggregated agg row)), countable.small);
}

-- the sources that are found among entries have their slots in columns that are long enough, and so have the targets
pub may_merge : (dimensions : DimRows) (query : Query) (i : ℕ) (old new : List (ℕ × ℕ))
    (columns longer : List (Vec Tally Global)) → AreSlots (group_count dimensions query.columns) old
    → Apart (group_count dimensions query.columns) old
    → Grow (group_count dimensions query.columns) old new → (targets : List ℕ)
    → AreTargets dimensions query.columns i new (sources_of dimensions query i (tallies_at columns) old) targets
    → AllByRecursion (λ column. length new ≤ length column.items) longer
    → MayMerge (sources_of dimensions query i (tallies_at columns) old) targets longer
may_merge dimensions query i old new columns longer slots differ grow targets are long =
    let bound = group_count dimensions query.columns in
    let sources = sources_of dimensions query i (tallies_at columns) old in
    let test = λ (entry : ℕ × ℕ). is_seen (tallies_at columns entry.1) && leads query.kind i
    (group_key_at dimensions query.columns entry.0) in
    let sources_found : AllByRecursion (λ e. slot_of old e.0 ≡ Some e.1) sources =
    all-filter (λ (e : ℕ × ℕ). slot_of old e.0 ≡ Some e.1) test old (all-found bound old differ) in
    all-weaker (λ (column : Vec Tally Global). length new ≤ length column.items)
    (λ (column : Vec Tally Global). LieWithin sources targets (length column.items)) longer (λ column h. record {
      from = λ place source at.
          let in_slots =
          slots.within source.0 source.1
          (all-get (λ (e : ℕ × ℕ). slot_of old e.0 ≡ Some e.1) sources place source sources_found at) in
          omega (arith, in_slots, grow.longer, h);
      to = λ place target at.
          let is = AreTargets-at dimensions query.columns i new sources targets are place target at in
          let in_slots = grow.slots.within is.1.0 target is.1.1 in
          omega (arith, in_slots, h);
    }) long

module _ (dimensions : DimRows) (query : Query) (i : ℕ) (within : i < length query.columns)
    (some : 1 ≤ length query.aggregates) (rising : KeysRise dimensions query.columns)
    (old new : List (ℕ × ℕ)) (columns longer : List (Vec Tally Global))
    (slots : AreSlots (group_count dimensions query.columns) old)
    (differ : Apart (group_count dimensions query.columns) old)
    (grow : Grow (group_count dimensions query.columns) old new)
    (same : (slot : ℕ) → tallies_at longer slot ≡ tallies_at columns slot)
    (targets : List ℕ)
    (are : AreTargets dimensions query.columns i new (sources_of dimensions query i (tallies_at columns) old)
    targets)
    (rows : List LineOrder) (tallied : AreTalliedFrom dimensions query (suc i) old columns rows) where
  abbrev old_sources : List (ℕ × ℕ)
  old_sources = sources_of dimensions query i (tallies_at columns) old

  abbrev bound : ℕ
  bound = group_count dimensions query.columns

  abbrev group_key : ℕ → List Member
  group_key number = group_key_at dimensions query.columns number

  abbrev chosen_rows : List LineOrder
  chosen_rows = selected dimensions query.conditions rows

  -- the rows of a source
  abbrev pub part_of : ℕ × ℕ → List LineOrder
  part_of source = rows_from dimensions query (suc i) (group_key source.0) rows

  test : ℕ × ℕ → Bool
  test entry = is_seen (tallies_at columns entry.1) && leads query.kind i (group_key entry.0)

  sources_apart : Apart bound old_sources
  sources_apart =
      Apart-filter bound
      (λ (entry : ℕ × ℕ). is_seen (tallies_at columns entry.1) && leads query.kind i (group_key entry.0)) old differ

  -- each source is of the old entries, has rows and a target
  sources_found : AllByRecursion (λ e. slot_of old e.0 ≡ Some e.1) old_sources
  sources_found =
      all-filter (λ (e : ℕ × ℕ). slot_of old e.0 ≡ Some e.1)
      (λ (entry : ℕ × ℕ). is_seen (tallies_at columns entry.1) && leads query.kind i (group_key entry.0)) old
      (all-found bound old differ)

  sources_seen : AllByRecursion (λ e. (is_seen (tallies_at columns e.1) && leads query.kind i (group_key e.0)) ≡ true)
      old_sources
  sources_seen =
      passing (λ (entry : ℕ × ℕ). is_seen (tallies_at columns entry.1) && leads query.kind i (group_key entry.0)) old

  have_targets : (list : List (ℕ × ℕ)) (ts : List ℕ) → AreTargets dimensions query.columns i new list ts
      → AllByRecursion (λ e. (t : ℕ) × IsTarget dimensions query.columns i new e t) list
  have_targets [] ts are_so = tt
  have_targets (e ∷ list) [] are_so = absurd are_so
  have_targets (e ∷ list) (t ∷ ts) are_so = ((t, are_so.0), have_targets list ts are_so.1)

  abbrev grown : AreTalliedFrom dimensions query (suc i) new longer rows
  grown = AreTalliedFrom-grow dimensions query rising (suc i) old new columns longer slots grow same rows tallied

  arrived : (number slot : ℕ) → slot_of new number ≡ Some slot
      → SameRows (rows_from dimensions query (suc i) (group_key number) rows
      ++ gathered slot part_of old_sources targets)
      (rows_from dimensions query i (group_key number) rows)
  arrived number slot found = came dimensions query i within some rising old columns rows slots tallied new grow.slots
      number slot found targets are sources_apart

  pub passed : (counted : List (Vec Tally Global))
      → AddIn query.aggregates (λ slot. gathered slot part_of old_sources targets) longer counted
      → AreTalliedFrom dimensions query i new counted rows
  passed counted added = record {
    each = λ number slot found.
        added slot (rows_from dimensions query (suc i) (group_key number) rows) (grown.each number slot found)
        ∙ tallies_alike query.aggregates _ _ (arrived number slot found);
    others = λ key absent. filter-none (has dimensions query i within some rising i key) chosen_rows
        (each (λ row. has dimensions query i within some rising i key row ≡ false) chosen_rows (λ row there.
        let none : rows_from dimensions query (suc i) key rows ≡ [] = grown.others key absent in
        let not_next : has dimensions query i within some rising (suc i) key row ≡ false =
        (elim (has dimensions query i within some rising (suc i) key row) as
        (λ b. has dimensions query i within some rising (suc i) key row ≡ b → b ≡ false) [
          | true ↦ λ e. absurd
              (in-filter (has dimensions query i within some rising (suc i) key) row chosen_rows there e none)
          | false ↦ λ e. refl
        ]) refl in
        (elim (is_all (get_or key i All)) as (λ b. is_all (get_or key i All) ≡ b
        → has dimensions query i within some rising i key row ≡ false) [
          | true ↦ λ all.
              from_sources dimensions query i within some rising old columns rows slots tallied key all row there
              ∙ (elim (list_any (comes dimensions query i within some rising key row) old_sources) as
              (λ b. list_any (comes dimensions query i within some rising key row) old_sources ≡ b → b ≡ false) [
                | true ↦ λ e.
                    let found = witness (λ (source : ℕ × ℕ). (t : ℕ) × IsTarget dimensions query.columns i new source t)
                    (comes dimensions query i within some rising key row) old_sources
                    (have_targets old_sources targets are)
                    e in
                    let made : key ≡ slice_set (group_key found.0.0) i All =
                    key_eq-true key (slice_set (group_key found.0.0) i All) (and_left _ _ found.1) in
                    let target = found.2 in
                    absurd (absent target.1.0 target.0 target.1.1 (target.1.2 ∙ sym made))
                | false ↦ λ e. refl
              ]) refl
          | false ↦ λ text. still_text dimensions query i within some rising key row text ∙ not_next
        ]) refl));
    fresh = λ slot h.
        let none : gathered slot part_of old_sources targets ≡ [] =
        gathered-none slot part_of old_sources targets (λ other target at.
        let is = AreTargets-at dimensions query.columns i new old_sources targets are other target at in
        let in_slots = grow.slots.within is.1.0 target is.1.1 in
        let apart : target ≢ slot = omega (arith, in_slots, h) in
        grind (arith, nat_tests)) in
        added slot [] (grown.fresh slot h) ∙ ap (tallies_of query.aggregates) none;
  }

  -- the sources can be merged
  pub can_merge : AllByRecursion (λ column. length new ≤ length column.items) longer
      → CanMergeAll query.aggregates longer old_sources targets part_of
  can_merge long = record {
    count = tallies-length query.aggregates longer (length new) [] (grown.fresh (length new) (omega arith));
    parts = λ place source at.
        let found : slot_of old source.0 ≡ Some source.1 =
        all-get (λ (e : ℕ × ℕ). slot_of old e.0 ≡ Some e.1) old_sources place source sources_found at in
        let in_slots = slots.within source.0 source.1 found in (
          all-weaker (λ (column : Vec Tally Global). length new ≤ length column.items)
              (λ (column : Vec Tally Global). source.1 < length column.items) longer
              (λ column h. omega (arith, in_slots, grow.longer, h)) long,
          same source.1 ∙ tallied.each source.0 source.1 found,
        );
    apart = λ place other source target at to.
        let found : slot_of old source.0 ≡ Some source.1 =
        all-get (λ (e : ℕ × ℕ). slot_of old e.0 ≡ Some e.1) old_sources place source sources_found at in
        let passes : (is_seen (tallies_at columns source.1) && leads query.kind i (group_key source.0)) ≡ true =
        all-get (λ (e : ℕ × ℕ). (is_seen (tallies_at columns e.1) && leads query.kind i (group_key e.0)) ≡ true)
        old_sources
        place source sources_seen at in
        let seen : is_seen (tallies_at columns source.1) ≡ true =
        and_left (is_seen (tallies_at columns source.1)) (leads query.kind i (group_key source.0)) passes in
        let is = AreTargets-at dimensions query.columns i new old_sources targets are other target to in
        (elim (target == source.1) as (λ b. (target == source.1) ≡ b → b ≡ false) [
          | true ↦ λ e.
              let equal : target ≡ source.1 = grind (arith, nat_tests) in
              let one : is.1.0 ≡ source.0 =
              grow.slots.apart is.1.0 source.0 source.1 (is.1.1 ∙ ap Some equal)
              (grow.keep source.0 source.1 found) in
              let all : is_all (get_or (group_key source.0) i All) ≡ true =
              ap is_all (ap (λ k. get_or k i All) (ap group_key (sym one) ∙ is.1.2) ∙ all_there (group_key is.0.0) i) in
              let none : part_of source ≡ [] =
              filter-none (has dimensions query i within some rising (suc i) (group_key source.0)) chosen_rows
              (each (λ row. has dimensions query i within some rising (suc i) (group_key source.0) row ≡ false)
              chosen_rows
              (λ row there. no_all dimensions query i within some rising (group_key source.0) row all)) in
              let dark : is_seen (tallies_at columns source.1) ≡ false =
              ap is_seen (tallied.each source.0 source.1 found ∙ ap (tallies_of query.aggregates) none)
              ∙ unseen query.aggregates in
              cc (sym seen ∙ dark)
          | false ↦ λ e. refl
        ]) refl;
    within = λ place target at.
        let is = AreTargets-at dimensions query.columns i new old_sources targets are place target at in
        let in_slots = grow.slots.within is.1.0 target is.1.1 in
        all-weaker (λ (column : Vec Tally Global). length new ≤ length column.items)
        (λ (column : Vec Tally Global). target < length column.items) longer
        (λ column h. omega (arith, in_slots, h)) long;
  }

  -- and there is room for what comes
  pub room_to_merge : AreFoldable dimensions rows → HaveMergeRoom query.aggregates longer old_sources targets part_of
  room_to_merge foldable = λ place target at.
      let is = AreTargets-at dimensions query.columns i new old_sources targets are place target at in (
        rows_from dimensions query (suc i) (group_key is.1.0) rows,
        grown.each is.1.0 target is.1.1,
        λ agg. countable_alike agg _ _ (arrived is.1.0 target is.1.1)
            (countable_from dimensions query i (group_key is.1.0) rows foldable agg),
      )
