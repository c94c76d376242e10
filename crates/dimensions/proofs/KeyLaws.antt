-- Keys that are all different, and the rows of keys that are read one by one.
use Rattle.std.proofs.Common.{◌≡◌, ◌≢◌, ◌<◌, ◌+◌, ◌-◌, ◌∙◌, ◌==◌, zero, suc, sym, ap, refl, arith, cond, not, ℕ, Bool}
use Rattle.std.proofs.Common.{true, false, nat_eq, List, [], ◌∷◌, ◌++◌, length, get_or, set, take, position, subst}
use Rattle.std.proofs.Common.{Option, Some, None, unwrap_or, is_some, if◌then◌else◌}
use Rattle.std.specs.List.{position_or_len}
use Rattle.std.proofs.lemmas.Bool.{eqb-true, eq-eqb}
use Rattle.std.proofs.lemmas.Grind.{common_steps}
use Rattle.std.proofs.lemmas.List.{take_more}
use Rattle.dimensions.specs.Coded.{KeysAreDistinct}
use Rattle.dimensions.specs.RowIndexes.{AreRowIndexes, has_entry, row_entered}
use Rattle.dimensions.proofs.CodedTexts.{all_from_get}
use Rattle.dimensions.proofs.EntryLaws.{position-push_kept, position-push_new, position-push_same, put_at}
use Rattle.dimensions.proofs.Keys.{place_or_len}
use Rattle.dimensions.proofs.ShortLaws.{all_at}

abbrev has : ℕ → ℕ → Bool
has key other = other == key

same_key : (key : ℕ) → has key key ≡ true
same_key key = eq-eqb key key refl

other_key : (one key : ℕ) → one ≢ key → has key one ≡ false
other_key one key differ = elim (has key one) as (λ b. has key one ≡ b → b ≡ false) [
  | true ↦ λ e. absurd (differ (eqb-true one key e))
  | false ↦ λ e. refl
] refl

-- ---- keys that differ

-- each of them has its own row as its first
pub distinct_place : (keys : List ℕ) (row : ℕ) → KeysAreDistinct keys → row < length keys
    → position_or_len (has (get_or keys row 0)) keys ≡ row
distinct_place [] row distinct lt = absurd (omega (arith, lt))
distinct_place (key ∷ keys) zero distinct lt =
    ap (λ b. cond (not b) (1 + position_or_len (has key) keys) 0) (same_key key)
distinct_place (key ∷ keys) (suc row) distinct lt =
    let lt' : row < length keys = omega (arith, lt) in
    let differ : key ≢ get_or keys row 0 = all_at (λ other. key ≢ other) keys row 0 lt' distinct.0 in
    let next : 1 + row ≡ suc row = omega arith in
    ap (λ b. cond (not b) (1 + position_or_len (has (get_or keys row 0)) keys) 0)
    (other_key key (get_or keys row 0) differ)
    ∙ ap (λ n. 1 + n) (distinct_place keys row distinct.1 lt') ∙ next

pub places_distinct : (keys : List ℕ)
    → ((row : ℕ) → row < length keys → position_or_len (has (get_or keys row 0)) keys ≡ row) → KeysAreDistinct keys
places_distinct [] own = tt
places_distinct (key ∷ keys) own = (
  all_from_get (λ other. key ≢ other) keys 0 differs,
  places_distinct keys
      (λ row lt. after row (own (suc row) (omega (arith, lt))) (other_key key (get_or keys row 0) (differs row lt))),
)
  where
    differs : (row : ℕ) → row < length keys → key ≢ get_or keys row 0
    differs row lt same =
        let here : has (get_or keys row 0) key ≡ true = ap (λ k. has k key) (sym same) ∙ same_key key in
        let first : 0 ≡ suc row =
        sym (ap (λ b. cond (not b) (1 + position_or_len (has (get_or keys row 0)) keys) 0) here)
        ∙ own (suc row) (omega (arith, lt)) in
        absurd (omega (arith, first))

    after : (row : ℕ) → cond (not (has (get_or keys row 0) key)) (1 + position_or_len (has (get_or keys row 0)) keys) 0
        ≡ suc row → has (get_or keys row 0) key ≡ false
        → position_or_len (has (get_or keys row 0)) keys ≡ row
    after row at apart =
        let next : 1 + position_or_len (has (get_or keys row 0)) keys ≡ suc row =
        sym (ap (λ b. cond (not b) (1 + position_or_len (has (get_or keys row 0)) keys) 0) apart) ∙ at in
        omega (arith, next)

-- ---- the row indexes of keys, and of one more

-- a new key has the next one
pub rows_pushed : (keys : List ℕ) (key place : ℕ) (rows after : ℕ → Option ℕ) → AreRowIndexes rows keys
    → position (has key) keys ≡ None → place ≡ length keys
    → ((other : ℕ) → after other ≡ (if nat_eq key other then Some place else rows other))
    → AreRowIndexes after (keys ++ key ∷ [])
rows_pushed keys key place rows after are none here put = λ other.
    put other
    ∙ elim (nat_eq key other) as (λ b. nat_eq key other ≡ b
    → (if b then Some place else rows other) ≡ position (has other) (keys ++ key ∷ [])) [
      | true ↦ λ e.
          let same : key ≡ other = eqb-true key other e in
          let absent : position (has other) keys ≡ None = ap (λ k. position (has k) keys) (sym same) ∙ none in
          ap (λ n. Some n) here ∙ sym (position-push_new (has other) keys key absent e)
      | false ↦ λ e. are other ∙ sym (position-push_same (has other) keys key e)
    ] refl

-- a key that occurred before keeps its own
rows_kept : (keys : List ℕ) (key first : ℕ) (rows : ℕ → Option ℕ) → AreRowIndexes rows keys → rows key ≡ Some first
    → AreRowIndexes rows (keys ++ key ∷ [])
rows_kept keys key first rows are some = λ other.
    elim (nat_eq key other) as (λ b. nat_eq key other ≡ b → rows other ≡ position (has other) (keys ++ key ∷ [])) [
      | true ↦ λ e.
          let there : rows other ≡ Some first = ap rows (sym (eqb-true key other e)) ∙ some in
          there ∙ sym (position-push_kept (has other) keys key first (sym (are other) ∙ there))
      | false ↦ λ e. are other ∙ sym (position-push_same (has other) keys key e)
    ] refl

none_of : (o : Option ℕ) → is_some o ≡ false → o ≡ None
none_of None e = refl
none_of (Some n) e = absurd cc

some_of : (o : Option ℕ) → is_some o ≡ true → (n : ℕ) × (o ≡ Some n)
some_of None e = absurd cc
some_of (Some n) e = (n, refl)

module _ (keys : List ℕ) (row : ℕ) (lt : row < length keys) (rows : ℕ → Option ℕ)
    (are : AreRowIndexes rows (take row keys)) where
  abbrev own : ℕ
  own = get_or keys row 0

  front : take row keys ++ own ∷ [] ≡ take (row + 1) keys
  front = sym (take_more keys row 0 lt)

  pub new_row : (after : ℕ → Option ℕ) → is_some (rows own) ≡ false
      → ((key : ℕ) → after key ≡ (if nat_eq own key then Some row else rows key))
      → AreRowIndexes after (take (row + 1) keys)
  new_row after none put =
      let count : row ≡ length (take row keys) = let l = lt in grind (arith, common_steps) in
      subst (AreRowIndexes after) front
      (rows_pushed (take row keys) own row rows after are (sym (are own) ∙ none_of (rows own) none) count put)

  pub old_row : is_some (rows own) ≡ true → AreRowIndexes rows (take (row + 1) keys)
  old_row some = let found = some_of (rows own) some in
      subst (AreRowIndexes rows) front (rows_kept (take row keys) own found.0 rows are found.1)

-- an entry is put for a new key
pub entry_pushed : (keys : List ℕ) (key first : ℕ) (entries : List ℕ) → AreRowIndexes (row_entered first entries) keys
    → position (has key) keys ≡ None → has_entry first entries key ≡ true
    → AreRowIndexes (row_entered first (set entries (key - first) (length keys + 1))) (keys ++ key ∷ [])
entry_pushed keys key first entries are none here =
    rows_pushed keys key (length keys) (row_entered first entries)
    (row_entered first (set entries (key - first) (length keys + 1))) are none refl
    (put_at first entries key (length keys) here)

-- a row index as found, or the number of keys
pub row_or_len : (rows : ℕ → Option ℕ) (keys : List ℕ) (key : ℕ) → AreRowIndexes rows keys
    → unwrap_or (rows key) (length keys) ≡ position_or_len (has key) keys
row_or_len rows keys key are = ap (λ o. unwrap_or o (length keys)) (are key) ∙ place_or_len (has key) keys
