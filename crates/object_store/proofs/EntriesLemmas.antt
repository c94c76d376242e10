-- Where an element is in a list by ascending keys.
use Rattle.std.proofs.Common.{◌≡◌, ◌≢◌, ◌⊎◌, inl, inr, ℕ, zero, suc, ◌<◌, ◌≤◌, cond, ltb, eqb, List, [], ◌∷◌, ◌++◌}
use Rattle.std.proofs.Common.{length, take, drop, set, get_or, Some, None, refl, sym, ◌∙◌, ap, arith}
use Rattle.std.specs.List.{AllPairs}
use Rattle.std.specs.List.Sorted.{IsNonDecreasingBy}
use Rattle.std.proofs.lemmas.Bool.{cond-true, cond-false, lt-ltb, le-ltb, eq-eqb, ne_eqb, cases_lt, cases_eq}
use Rattle.object_store.specs.Commit.{put_by, drop_by, find_by}

-- the keys before a place are below a key, and those after it are not
abbrev pub IsPlace : {A : Type 0} → (A → ℕ) → ℕ → List A → ℕ → Type 0
IsPlace {A} key id l n = (n ≤ length l) × ((k : ℕ) (d : A) → k < n → key (get_or l k d) < id)
    × ((k : ℕ) (d : A) → n ≤ k → k < length l → id ≤ key (get_or l k d))

place_tail : {A : Type 0} (key : A → ℕ) (id : ℕ) (y : A) (l : List A) (n : ℕ) → IsPlace key id (y ∷ l) (suc n)
    → IsPlace key id l n
place_tail key id y l n place = (
  omega (arith, place.0),
  λ k d lt. place.1 (suc k) d (omega arith),
  λ k d le lt. place.2 (suc k) d (omega arith)
      (omega arith),
)

pub put_new : {A : Type 0} (key : A → ℕ) (x : A) (l : List A) (n : ℕ) → IsPlace key (key x) l n
    → ((d : A) → n < length l → key (get_or l n d) ≢ key x) → put_by key x l ≡ take n l ++ x ∷ drop n l
put_new key x [] zero place other = refl
put_new key x [] (suc n) place other = absurd (omega (arith, place.0))
put_new key x (y ∷ l) zero place other =
    let le : key x ≤ key y = place.2 zero y (omega arith) (omega arith) in
    let ne : key y ≢ key x = other y (omega arith) in
    cond-true (ltb (key x) (key y)) (x ∷ y ∷ l) (cond (eqb (key x) (key y)) (x ∷ l) (y ∷ put_by key x l))
    (lt-ltb (key x) (key y) (omega (arith, le, ne)))
put_new {A} key x (y ∷ l) (suc n) place other =
    let lt : key y < key x = place.1 zero y (omega arith) in
    cond-false (ltb (key x) (key y)) (x ∷ y ∷ l) (cond (eqb (key x) (key y)) (x ∷ l) (y ∷ put_by key x l))
    (le-ltb (key x) (key y) (omega (arith, lt)))
    ∙ cond-false (eqb (key x) (key y)) (x ∷ l) (y ∷ put_by key x l) (ne_eqb (key x) (key y) (λ e. omega (arith, lt, e)))
    ∙ ap (λ (r : List A). y ∷ r)
    (put_new key x l n (place_tail key (key x) y l n place) (λ d more. other d (omega (arith, more))))

pub put_again : {A : Type 0} (key : A → ℕ) (x : A) (l : List A) (n : ℕ) → IsPlace key (key x) l n → n < length l
    → ((d : A) → key (get_or l n d) ≡ key x) → put_by key x l ≡ set l n x
put_again key x [] n place less same = absurd (omega (arith, less))
put_again key x (y ∷ l) zero place less same =
    let e : key y ≡ key x = same y in
    cond-false (ltb (key x) (key y)) (x ∷ y ∷ l) (cond (eqb (key x) (key y)) (x ∷ l) (y ∷ put_by key x l))
    (le-ltb (key x) (key y) (omega (arith, e)))
    ∙ cond-true (eqb (key x) (key y)) (x ∷ l) (y ∷ put_by key x l) (eq-eqb (key x) (key y) (sym e))
put_again {A} key x (y ∷ l) (suc n) place less same =
    let lt : key y < key x = place.1 zero y (omega arith) in
    cond-false (ltb (key x) (key y)) (x ∷ y ∷ l) (cond (eqb (key x) (key y)) (x ∷ l) (y ∷ put_by key x l))
    (le-ltb (key x) (key y) (omega (arith, lt)))
    ∙ cond-false (eqb (key x) (key y)) (x ∷ l) (y ∷ put_by key x l) (ne_eqb (key x) (key y) (λ e. omega (arith, lt, e)))
    ∙ ap (λ (r : List A). y ∷ r) (put_again key x l n (place_tail key (key x) y l n place) (omega (arith, less)) same)

-- a list without this key
pub drop_none : {A : Type 0} (key : A → ℕ) (id : ℕ) (l : List A)
    → ((k : ℕ) (d : A) → k < length l → key (get_or l k d) ≢ id) → drop_by key id l ≡ l
drop_none key id [] none = refl
drop_none {A} key id (y ∷ l) none =
    cond-false (eqb (key y) id) (drop_by key id l) (y ∷ drop_by key id l)
    (ne_eqb (key y) id (none zero y (omega arith)))
    ∙ ap (λ (r : List A). y ∷ r) (drop_none key id l (λ k d lt. none (suc k) d (omega arith)))

pub drop_one : {A : Type 0} (key : A → ℕ) (id : ℕ) (l : List A) (n : ℕ) → n < length l
    → ((d : A) → key (get_or l n d) ≡ id) → ((k : ℕ) (d : A) → k ≢ n → k < length l → key (get_or l k d) ≢ id)
    → drop_by key id l ≡ take n l ++ drop (suc n) l
drop_one key id [] n less same others = absurd (omega (arith, less))
drop_one key id (y ∷ l) zero less same others =
    cond-true (eqb (key y) id) (drop_by key id l) (y ∷ drop_by key id l) (eq-eqb (key y) id (same y))
    ∙ drop_none key id l (λ k d lt. others (suc k) d (λ e. omega (arith, e)) (omega arith))
drop_one {A} key id (y ∷ l) (suc n) less same others =
    cond-false (eqb (key y) id) (drop_by key id l) (y ∷ drop_by key id l)
    (ne_eqb (key y) id (others zero y (λ e. omega (arith, e)) (omega arith)))
    ∙ ap (λ (r : List A). y ∷ r)
    (drop_one key id l n (omega (arith, less)) same
    (λ k d ne lt. others (suc k) d (λ e. ne (omega (arith, e))) (omega arith)))

pub find_none : {A : Type 0} (key : A → ℕ) (id : ℕ) (l : List A)
    → ((k : ℕ) (d : A) → k < length l → key (get_or l k d) ≢ id) → find_by key id l ≡ None
find_none key id [] none = refl
find_none key id (y ∷ l) none =
    cond-false (eqb (key y) id) (Some y) (find_by key id l) (ne_eqb (key y) id (none zero y (omega arith)))
    ∙ find_none key id l (λ k d lt. none (suc k) d (omega arith))

pub find_at : {A : Type 0} (key : A → ℕ) (id : ℕ) (l : List A) (n : ℕ) (d : A) → n < length l → key (get_or l n d) ≡ id
    → ((k : ℕ) (e : A) → k < n → key (get_or l k e) < id) → find_by key id l ≡ Some (get_or l n d)
find_at key id [] n d less same before = absurd (omega (arith, less))
find_at key id (y ∷ l) zero d less same before =
    cond-true (eqb (key y) id) (Some y) (find_by key id l) (eq-eqb (key y) id same)
find_at key id (y ∷ l) (suc n) d less same before =
    let lt : key y < id = before zero y (omega arith) in
    cond-false (eqb (key y) id) (Some y) (find_by key id l) (ne_eqb (key y) id (λ e. omega (arith, lt, e)))
    ∙ find_at key id l n d (omega (arith, less)) same (λ k e more. before (suc k) e (omega arith))

-- in an ascending list only its place has a key
pub only_there : {A : Type 0} (key : A → ℕ) (id : ℕ) (l : List A) (n : ℕ) → AllPairs (λ a b. key a < key b) l
    → IsPlace key id l n → (k : ℕ) (d : A) → k ≢ n → k < length l → key (get_or l k d) ≢ id
only_there key id l n rise place k d ne lt same = by (cases_lt k n)
  where
    by : (k < n) ⊎ (n ≤ k) → ⊥
    by (inl before) = let less : key (get_or l k d) < id = place.1 k d before in omega (arith, less, same)
    by (inr after) =
        let least : id ≤ key (get_or l n d) = place.2 n d (omega arith) (omega (arith, after, lt)) in
        let more : key (get_or l n d) < key (get_or l k d) = rise n k d (omega (arith, after, ne)) lt in
        omega (arith, least, more, same)

-- and where its place has another one, none has it
pub not_there : {A : Type 0} (key : A → ℕ) (id : ℕ) (l : List A) (n : ℕ) → AllPairs (λ a b. key a < key b) l
    → IsPlace key id l n → ((d : A) → n < length l → key (get_or l n d) ≢ id) → (k : ℕ) (d : A) → k < length l
    → key (get_or l k d) ≢ id
not_there key id l n rise place other k d lt = by (cases_eq k n)
  where
    by : (k ≡ n) ⊎ (k ≡ n → ⊥) → key (get_or l k d) ≢ id
    by (inl e) = λ same. other d (omega (arith, e, lt)) (ap (λ (i : ℕ). key (get_or l i d)) (sym e) ∙ same)
    by (inr ne) = only_there key id l n rise place k d ne lt

pub not_falling : {A : Type 0} (key : A → ℕ) (l : List A) → AllPairs (λ a b. key a < key b) l → IsNonDecreasingBy key l
not_falling key l rise i j d le lt = by (cases_eq i j)
  where
    by : (i ≡ j) ⊎ (i ≡ j → ⊥) → key (get_or l i d) ≤ key (get_or l j d)
    by (inl e) = let same : key (get_or l i d) ≡ key (get_or l j d) = ap (λ (k : ℕ). key (get_or l k d)) e in
        omega (arith, same)
    by (inr ne) = let less : key (get_or l i d) < key (get_or l j d) = rise i j d (omega (arith, le, ne)) lt in
        omega (arith, less)
