-- Entries of a window of keys, and what they say of places.
use Rattle.std.proofs.Common.{◌≡◌, ◌<◌, ◌≤◌, ◌+◌, ◌-◌, ◌∙◌, ◌==◌, zero, suc, sym, ap, refl, subst, arith, true≢false, ℕ}
use Rattle.std.proofs.Common.{Bool, true, false, ◌&&◌, nat_eq, nat_le, nat_lt, List, [], ◌∷◌, ◌++◌, length, get_or, set}
use Rattle.std.proofs.Common.{take, position, Some, None, if◌then◌else◌}
use Rattle.std.specs.List.{AllWithin}
use Rattle.std.proofs.lemmas.Grind.{common_steps}
use Rattle.std.proofs.lemmas.List.Quantifiers.{position-Some}
use Rattle.dimensions.proofs.Keys.{position_or_len-le}
use Rattle.dimensions.specs.RowIndexes.{AreRowIndexes, entry_row, has_entry, row_entered}

-- one more than a place is its entry
entry_next : (place : ℕ) → entry_row (place + 1) ≡ Some place
entry_next place = let e : place + 1 ≡ suc place = omega arith in rw e refl

-- an entry is put, and the others stay
module _ (first : ℕ) (items : List ℕ) (key place : ℕ) (here : has_entry first items key ≡ true) where
  abbrev after : List ℕ
  after = set items (key - first) (place + 1)

  first_le : first ≤ key
  first_le = let h = here in grind arith

  within : key - first < length items
  within = let h = here in grind arith

  same_length : length after ≡ length items
  same_length = grind (arith, common_steps)

  at_key : row_entered first after key ≡ Some place
  at_key = let l = same_length in
      let e : get_or after (key - first) 0 ≡ place + 1 = let w = within in grind (arith, common_steps) in
      rw (l, here, e) (entry_next place)

  at_other : (other : ℕ) → nat_eq key other ≡ false → row_entered first after other ≡ row_entered first items other
  at_other other apart = rw same_length (elim (has_entry first items other) as
      (λ b. has_entry first items other ≡ b → (if b then entry_row (get_or after (other - first) 0) else None)
      ≡ (if b then entry_row (get_or items (other - first) 0) else None)) [
        | true ↦ λ e. let f = first_le in let w = within in
            let same : get_or after (other - first) 0 ≡ get_or items (other - first) 0 = grind (arith, common_steps) in
            ap entry_row same
        | false ↦ λ e. refl
      ] refl)

  pub put_at : (other : ℕ)
      → row_entered first after other ≡ (if nat_eq key other then Some place else row_entered first items other)
  put_at other =
      elim (nat_eq key other) as (λ b. nat_eq key other ≡ b
      → row_entered first after other ≡ (if b then Some place else row_entered first items other)) [
        | true ↦ λ e. let same : key ≡ other = grind arith in
            subst (λ k. row_entered first after k ≡ Some place) same at_key
        | false ↦ λ e. at_other other e
      ] refl

-- the place of a key in a list with one key more
module _ {X : Type 0} (p : X → Bool) (xs : List X) (y : X) where
  pub position-push_kept : (k : ℕ) → position p xs ≡ Some k → position p (xs ++ y ∷ []) ≡ Some k
  position-push_kept k e = let le = position_or_len-le p xs in grind (arith, common_steps)

  pub position-push_new : position p xs ≡ None → p y ≡ true → position p (xs ++ y ∷ []) ≡ Some (length xs)
  position-push_new e here = let le = position_or_len-le p xs in grind (arith, common_steps)

  pub position-push_none : position p xs ≡ None → p y ≡ false → position p (xs ++ y ∷ []) ≡ None
  position-push_none e other = let le = position_or_len-le p xs in grind (arith, common_steps)

  pub position-push_same : p y ≡ false → position p (xs ++ y ∷ []) ≡ position p xs
  position-push_same other = elim (position p xs) as (λ o. position p xs ≡ o → position p (xs ++ y ∷ []) ≡ o) [
    | None ↦ λ e. position-push_none e other
    | Some k ↦ λ e. position-push_kept k e
  ] refl

-- the entries of some keys, and one key more
module _ (keys : List ℕ) (first width place key : ℕ) (old new : List ℕ) (long : length old ≡ width) (low : first ≤ key)
    (high : key < first + width) (here : place ≡ length keys)
    (is : new ≡ (if nat_eq (get_or old (key - first) 0) 0 then set old (key - first) (place + 1) else old))
    (entries : (k : ℕ) → k < width → entry_row (get_or old k 0) ≡ position (λ other. other == first + k) keys) where
  pub length_entered : length new ≡ width
  length_entered =
      elim (nat_eq (get_or old (key - first) 0) 0) as (λ b. new ≡ (if b then set old (key - first) (place + 1) else old)
      → length new ≡ width) [
        | true ↦ λ e. grind (arith, common_steps)
        | false ↦ λ e. cc
      ] is

  empty_entry : (n : ℕ) → nat_eq n 0 ≡ true → entry_row n ≡ None
  empty_entry zero e = refl
  empty_entry (suc n) e = absurd (let no : suc n ≡ 0 = grind arith in omega (arith, no))

  full_entry : (n : ℕ) → nat_eq n 0 ≡ false → (m : ℕ) × (entry_row n ≡ Some m)
  full_entry zero e = absurd (true≢false e)
  full_entry (suc n) e = (n, refl)

  at_the_key : entry_row (get_or new (key - first) 0) ≡ position (λ other. other == first + (key - first))
      (keys ++ key ∷ [])
  at_the_key =
      elim (nat_eq (get_or old (key - first) 0) 0) as (λ b. nat_eq (get_or old (key - first) 0) 0 ≡ b
      → new ≡ (if b then set old (key - first) (place + 1) else old)
      → entry_row (get_or new (key - first) 0) ≡ position (λ other. other == first + (key - first))
      (keys ++ key ∷ [])) [
        | true ↦ λ e set_is.
            let none : position (λ other. other == first + (key - first)) keys ≡ None =
            sym (entries (key - first) (omega (arith, low, high))) ∙ empty_entry _ e in
            let same : (key == first + (key - first)) ≡ true = grind arith in
            let read : get_or new (key - first) 0 ≡ place + 1 = grind (arith, common_steps) in
            ap entry_row read ∙ entry_next place ∙ ap Some here
            ∙ sym (position-push_new (λ other. other == first + (key - first)) keys key none same)
        | false ↦ λ e kept.
            let full = full_entry (get_or old (key - first) 0) e in
            let some : position (λ other. other == first + (key - first)) keys ≡ Some full.0 =
            sym (entries (key - first) (omega (arith, low, high))) ∙ full.1 in
            ap (λ l. entry_row (get_or l (key - first) 0)) kept ∙ full.1
            ∙ sym (position-push_kept (λ other. other == first + (key - first)) keys key full.0 some)
      ] refl is

  read_other : (k : ℕ) → nat_eq k (key - first) ≡ false → get_or new k 0 ≡ get_or old k 0
  read_other k apart =
      elim (nat_eq (get_or old (key - first) 0) 0) as (λ b. new ≡ (if b then set old (key - first) (place + 1) else old)
      → get_or new k 0 ≡ get_or old k 0) [
        | true ↦ λ e. grind (arith, common_steps)
        | false ↦ λ e. ap (λ l. get_or l k 0) e
      ] is

  at_another : (k : ℕ) → k < width → nat_eq k (key - first) ≡ false
      → entry_row (get_or new k 0) ≡ position (λ other. other == first + k) (keys ++ key ∷ [])
  at_another k lt apart =
      let other_key : (key == first + k) ≡ false = grind arith in
      ap entry_row (read_other k apart) ∙ entries k lt
      ∙ sym (position-push_same (λ other. other == first + k) keys key other_key)

  pub entries_more : (k : ℕ) → k < width
      → entry_row (get_or new k 0) ≡ position (λ other. other == first + k) (keys ++ key ∷ [])
  entries_more k lt =
      elim (nat_eq k (key - first)) as (λ b. nat_eq k (key - first) ≡ b
      → entry_row (get_or new k 0) ≡ position (λ other. other == first + k) (keys ++ key ∷ [])) [
        | true ↦ λ e. let same : key - first ≡ k = grind arith in
            subst (λ n. entry_row (get_or new n 0) ≡ position (λ other. other == first + n) (keys ++ key ∷ [])) same
            at_the_key
        | false ↦ λ e. at_another k lt e
      ] refl

pub take_push : (keys : List ℕ) (k : ℕ) → k < length keys → take k keys ++ get_or keys k 0 ∷ [] ≡ take (k + 1) keys
take_push keys k lt = grind (arith, common_steps)

-- the entries of the first keys of a list, and of one more
pub entries_step : (keys : List ℕ) (first width place : ℕ) (old new : List ℕ) → length old ≡ width → place < length keys
    → AllWithin (λ key. (first ≤ key) × (key < first + width)) keys 0 (length keys)
    → new ≡ (if nat_eq (get_or old (get_or keys place 0 - first) 0) 0 then set old (get_or keys place 0 - first)
    (place + 1) else old)
    → ((k : ℕ) → k < width → entry_row (get_or old k 0) ≡ position (λ other. other == first + k) (take place keys))
    → (length new ≡ width)
    × ((k : ℕ) → k < width
    → entry_row (get_or new k 0) ≡ position (λ other. other == first + k) (take (place + 1) keys))
entries_step keys first width place old new long lt within is entries =
    let bounds = within place 0 (omega arith) lt in
    let here : place ≡ length (take place keys) = grind (arith, common_steps) in (
      length_entered (take place keys) first width place (get_or keys place 0) old new long bounds.0 bounds.1 here is
          entries,
      λ k inside. entries_more (take place keys) first width place (get_or keys place 0) old new long bounds.0 bounds.1
          here is entries k inside
          ∙ ap (position (λ other. other == first + k)) (take_push keys place lt),
    )

inside : (first width key : ℕ) → first ≤ key → key - first < width → (nat_le first key && nat_lt (key - first) width)
    ≡ true
inside first width key low high = grind arith

-- no key of a list is elsewhere
pub none_outside : (keys : List ℕ) (first width key : ℕ)
    → AllWithin (λ k. (first ≤ k) × (k < first + width)) keys 0 (length keys)
    → (nat_le first key && nat_lt (key - first) width) ≡ false
    → position (λ other. other == key) keys ≡ None
none_outside keys first width key within out =
    elim (position (λ other. other == key) keys) as (λ o. position (λ other. other == key) keys ≡ o → o ≡ None) [
      | None ↦ λ e. refl
      | Some k ↦ λ e.
          let at = position-Some (λ other. other == key) keys k 0 e in
          let bounds = within k 0 (omega arith) at.0 in
          let same : get_or keys k 0 ≡ key = let h = at.1 in grind arith in
          let low : first ≤ key = omega (arith, bounds.0, same) in
          let high : key - first < width = omega (arith, bounds.1, bounds.0, same) in
          absurd (true≢false (sym (inside first width key low high) ∙ out))
    ] refl

-- entries for all rows of keys give their row indexes
pub rows_entered : (keys : List ℕ) (first width place : ℕ) (entries : List ℕ) → length entries ≡ width
    → length keys ≤ place → AllWithin (λ k. (first ≤ k) × (k < first + width)) keys 0 (length keys)
    → ((k : ℕ) → k < width → entry_row (get_or entries k 0) ≡ position (λ other. other == first + k) (take place keys))
    → AreRowIndexes (row_entered first entries) keys
rows_entered keys first width place entries long all within are = λ key.
    elim (has_entry first entries key) as (λ b. has_entry first entries key ≡ b
    → (if b then entry_row (get_or entries (key - first) 0) else None) ≡ position (λ other. other == key) keys) [
      | true ↦ λ e.
          let lt : key - first < width = grind arith in
          let same : first + (key - first) ≡ key = grind arith in
          let whole : take place keys ≡ keys = grind (arith, common_steps) in
          are (key - first) lt ∙ ap (λ n. position (λ other. other == n) (take place keys)) same
          ∙ ap (position (λ other. other == key)) whole
      | false ↦ λ e.
          let out : (nat_le first key && nat_lt (key - first) width) ≡ false =
          sym (ap (λ n. nat_le first key && nat_lt (key - first) n) long) ∙ e in
          sym (none_outside keys first width key within out)
    ] refl
