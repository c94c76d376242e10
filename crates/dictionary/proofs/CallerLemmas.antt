-- What callers need of texts in the order of their first use.
use Rattle.std.proofs.Common.{◌≡◌, ◌<◌, ◌≤◌, ◌+◌, ◌∙◌, zero, suc, sym, ap, refl, subst, arith, true≢false, cond, not, ℕ}
use Rattle.std.proofs.Common.{Bool, true, false, ◌||◌, nat_lt, List, [], ◌∷◌, ◌++◌, map, length, get_or, slice_get}
use Rattle.std.proofs.Common.{Some, None}
use Rattle.std.specs.Str.{bytes_eq}
use Rattle.std.specs.List.{list_any, filter, position_or_len}
use Rattle.std.specs.Cmp.Lexicographic.{nat_list_eq_equiv}
use Rattle.std.proofs.lemmas.Slice.Eq.{bytes_eq-Decides}
use Rattle.std.proofs.lemmas.List.{append-nil}
use Rattle.std.proofs.lemmas.List.Elements.{filter-append}
use Rattle.std.proofs.lemmas.List.Folds.{list_any-append}
use Rattle.std.proofs.lemmas.List.Sums.{passes_at_first}
use Rattle.std.proofs.lemmas.Map.Views.{any-filter_same}
use Rattle.dictionary.specs.Dictionary.{EachOnce, firsts, code_of}

-- ---- texts that are the same

pub bytes_eq-same : (a b : List ℕ) → bytes_eq a b ≡ true → a ≡ b
bytes_eq-same a b e = (bytes_eq-Decides a b).0 e

pub bytes_eq-refl : (a : List ℕ) → bytes_eq a a ≡ true
bytes_eq-refl a = (bytes_eq-Decides a a).1 refl

pub bytes_eq-symm : (a b : List ℕ) → bytes_eq a b ≡ bytes_eq b a
bytes_eq-symm a b = nat_list_eq_equiv.symm a b

pub bytes_eq-apart : (a b : List ℕ) → (a ≡ b → ⊥) → bytes_eq a b ≡ false
bytes_eq-apart a b differs = elim (bytes_eq a b) as (λ t. bytes_eq a b ≡ t → t ≡ false) [
  | true ↦ λ e. absurd (differs (bytes_eq-same a b e))
  | false ↦ λ e. refl
] refl

-- ---- texts among texts

or_false : (b : Bool) → (b || false) ≡ b
or_false true = refl
or_false false = refl

pub or_both : (a b : Bool) → a ≡ false → b ≡ false → (a || b) ≡ false
or_both a b p q = (λ i. p i || q i)

pub or_first : (a b : Bool) → (a || b) ≡ false → a ≡ false
or_first true b e = e
or_first false b e = refl

pub or_second : (a b : Bool) → (a || b) ≡ false → b ≡ false
or_second true b e = absurd (true≢false e)
or_second false b e = e

pub list_any_push : {X : Type 0} (p : X → Bool) (xs : List X) (x : X)
    → list_any p (xs ++ x ∷ []) ≡ (list_any p xs || p x)
list_any_push p xs x = list_any-append p xs (x ∷ []) ∙ ap (λ b. list_any p xs || b) (or_false (p x))

pub list_any_here : {X : Type 0} (p : X → Bool) (xs : List X) (k : ℕ) (d : X) → k < length xs → p (get_or xs k d) ≡ true
    → list_any p xs ≡ true
list_any_here p [] k d lt e = absurd (omega arith)
list_any_here p (x ∷ xs) zero d lt e = λ i. e i || list_any p xs
list_any_here p (x ∷ xs) (suc k) d lt e = elim (p x) as (λ b. (b || list_any p xs) ≡ true) [
  | true ↦ refl
  | false ↦ list_any_here p xs k d (omega arith) e
]

-- a test that fails at each place passes nowhere
pub list_any_nowhere : {X : Type 0} (p : X → Bool) (xs : List X) (d : X)
    → ((k : ℕ) → k < length xs → p (get_or xs k d) ≡ false) → list_any p xs ≡ false
list_any_nowhere p [] d none = refl
list_any_nowhere p (x ∷ xs) d none =
    or_both _ _ (none 0 (omega arith)) (list_any_nowhere p xs d (λ k lt. none (suc k) (omega (arith, lt))))

-- an item passes exactly where the first place is one of the list
pub list_any_place : {X : Type 0} (p : X → Bool) (xs : List X)
    → list_any p xs ≡ nat_lt (position_or_len p xs) (length xs)
list_any_place p [] = refl
list_any_place p (x ∷ xs) =
    elim (p x) as (λ b. (b || list_any p xs) ≡ nat_lt (cond (not b) (1 + position_or_len p xs) 0) (suc (length xs))) [
      | true ↦ grind arith
      | false ↦ list_any_place p xs ∙ grind arith
    ]

pub place_within : {X : Type 0} (p : X → Bool) (xs : List X) → list_any p xs ≡ true → position_or_len p xs < length xs
place_within p xs some = let e : nat_lt (position_or_len p xs) (length xs) ≡ true = sym (list_any_place p xs) ∙ some in
    grind arith

pub place_le : {X : Type 0} (p : X → Bool) (xs : List X) → position_or_len p xs ≤ length xs
place_le p [] = omega arith
place_le p (x ∷ xs) = elim (p x) as (λ b. cond (not b) (1 + position_or_len p xs) 0 ≤ suc (length xs)) [
  | true ↦ omega arith
  | false ↦ omega (arith, place_le p xs)
]

pub place_after : {X : Type 0} (p : X → Bool) (xs : List X) → list_any p xs ≡ false → position_or_len p xs ≡ length xs
place_after p xs none = let e : nat_lt (position_or_len p xs) (length xs) ≡ false = sym (list_any_place p xs) ∙ none in
    let le = place_le p xs in grind arith

-- an item that is there has its place in the front, whatever comes after
pub place_append : {X : Type 0} (p : X → Bool) (xs ys : List X) → list_any p xs ≡ true
    → position_or_len p (xs ++ ys) ≡ position_or_len p xs
place_append p [] ys some = absurd (true≢false (sym some))
place_append p (x ∷ xs) ys some =
    elim (p x) as (λ b. (b || list_any p xs) ≡ true → cond (not b) (1 + position_or_len p (xs ++ ys)) 0
    ≡ cond (not b) (1 + position_or_len p xs) 0) [
      | true ↦ λ s. refl
      | false ↦ λ s. ap (λ n. 1 + n) (place_append p xs ys s)
    ] some

-- an item that is not there has its place after the front
pub place_last : {X : Type 0} (p : X → Bool) (xs : List X) (y : X) → list_any p xs ≡ false → p y ≡ true
    → position_or_len p (xs ++ y ∷ []) ≡ length xs
place_last p [] y none here = ap (λ b. cond (not b) (1 + 0) 0) here
place_last p (x ∷ xs) y none here =
    let next : 1 + length xs ≡ suc (length xs) = omega arith in
    ap (λ b. cond (not b) (1 + position_or_len p (xs ++ y ∷ [])) 0) (or_first _ _ none)
    ∙ ap (λ n. 1 + n) (place_last p xs y (or_second _ _ none) here) ∙ next

pub slice_get-lt : {X : Type 0} (xs : List X) (k : ℕ) (x : X) → slice_get xs k ≡ Some x → k < length xs
slice_get-lt [] k x e = absurd cc
slice_get-lt (y ∷ ys) zero x e = omega arith
slice_get-lt (y ∷ ys) (suc k) x e = let rest = slice_get-lt ys k x e in omega (arith, rest)

absent_at : {X : Type 0} (p : X → Bool) (xs : List X) (k : ℕ) (x : X) → list_any p xs ≡ false → slice_get xs k ≡ Some x
    → p x ≡ false
absent_at p [] k x none at = absurd cc
absent_at p (y ∷ ys) zero x none at = let same : y ≡ x = cc in subst (λ z. p z ≡ false) same (or_first _ _ none)
absent_at p (y ∷ ys) (suc k) x none at = absent_at p ys k x (or_second _ _ none) at

pub list_any-map : {A B : Type 0} (p : B → Bool) (f : A → B) (xs : List A)
    → list_any p (map f xs) ≡ list_any (λ x. p (f x)) xs
list_any-map p f [] = refl
list_any-map p f (x ∷ xs) = ap (λ b. p (f x) || b) (list_any-map p f xs)

-- the text at its place
pub text_at_place : (texts : List (List ℕ)) (text : List ℕ) → position_or_len (bytes_eq text) texts < length texts
    → get_or texts (position_or_len (bytes_eq text) texts) [] ≡ text
text_at_place texts text lt = sym (bytes_eq-same text _ (passes_at_first (bytes_eq text) texts [] lt))

-- ---- each once

pub EachOnce-push : (texts : List (List ℕ)) (text : List ℕ) → EachOnce texts → list_any (bytes_eq text) texts ≡ false
    → EachOnce (texts ++ text ∷ [])
EachOnce-push [] text once new = (refl, tt)
EachOnce-push (first ∷ texts) text once new = (
  list_any_push (bytes_eq first) texts text ∙ or_both _ _ once.0 (bytes_eq-symm first text ∙ or_first _ _ new),
  EachOnce-push texts text once.1 (or_second _ _ new),
)

any_kept : (p : List ℕ → Bool) (q : List ℕ) (texts : List (List ℕ)) → list_any (bytes_eq q) texts ≡ false
    → list_any (bytes_eq q) (filter p texts) ≡ false
any_kept p q [] none = refl
any_kept p q (text ∷ texts) none =
    elim (p text) as (λ b. list_any (bytes_eq q) (cond b (text ∷ filter p texts) (filter p texts)) ≡ false) [
      | true ↦ or_both _ _ (or_first _ _ none) (any_kept p q texts (or_second _ _ none))
      | false ↦ any_kept p q texts (or_second _ _ none)
    ]

EachOnce-filter : (p : List ℕ → Bool) (texts : List (List ℕ)) → EachOnce texts → EachOnce (filter p texts)
EachOnce-filter p [] once = tt
EachOnce-filter p (text ∷ texts) once =
    elim (p text) as (λ b. EachOnce (cond b (text ∷ filter p texts) (filter p texts))) [
      | true ↦ (any_kept p text texts once.0, EachOnce-filter p texts once.1)
      | false ↦ EachOnce-filter p texts once.1
    ]

abbrev others : List ℕ → List ℕ → Bool
others text other = not (bytes_eq text other)

any_out : (text : List ℕ) (texts : List (List ℕ)) → list_any (bytes_eq text) (filter (others text) texts) ≡ false
any_out text texts = any-filter_same (bytes_eq text) (others text) false (λ k e. ap not e) texts

pub EachOnce-firsts : (texts : List (List ℕ)) → EachOnce (firsts texts)
EachOnce-firsts [] = tt
EachOnce-firsts (text ∷ texts) =
    (any_out text (firsts texts), EachOnce-filter (others text) (firsts texts) (EachOnce-firsts texts))

-- the same texts
pub list_any-firsts : (q : List ℕ) (texts : List (List ℕ))
    → list_any (bytes_eq q) (firsts texts) ≡ list_any (bytes_eq q) texts
list_any-firsts q [] = refl
list_any-firsts q (text ∷ texts) =
    elim (bytes_eq q text) as
    (λ b. bytes_eq q text ≡ b → (b || list_any (bytes_eq q) (filter (others text) (firsts texts)))
    ≡ (b || list_any (bytes_eq q) texts)) [
      | true ↦ λ e. refl
      | false ↦ λ e.
          any-filter_same (bytes_eq q) (others text) true
          (λ k same. ap (λ t. not (bytes_eq text t)) (sym (bytes_eq-same q k same)) ∙ ap not (bytes_eq-symm text q ∙ e))
          (firsts texts)
          ∙ list_any-firsts q texts
    ] refl

-- one text more, that is new
pub firsts-new : (texts : List (List ℕ)) (text : List ℕ) → list_any (bytes_eq text) texts ≡ false
    → firsts (texts ++ text ∷ []) ≡ firsts texts ++ text ∷ []
firsts-new [] text new = refl
firsts-new (first ∷ texts) text new =
    let differs : bytes_eq first text ≡ false = bytes_eq-symm first text ∙ or_first _ _ new in
    ap (λ l. first ∷ filter (others first) l) (firsts-new texts text (or_second _ _ new))
    ∙ ap (λ l. first ∷ l) (filter-append (others first) (firsts texts) (text ∷ []))
    ∙ ap (λ b. first ∷ (filter (others first) (firsts texts) ++ cond (not b) (text ∷ []) [])) differs

-- one text more, that was seen before
pub firsts-again : (texts : List (List ℕ)) (text : List ℕ) → list_any (bytes_eq text) texts ≡ true
    → firsts (texts ++ text ∷ []) ≡ firsts texts
firsts-again [] text seen = absurd (true≢false (sym seen))
firsts-again (first ∷ texts) text seen =
    elim (list_any (bytes_eq text) texts) as (λ b. list_any (bytes_eq text) texts ≡ b
    → firsts ((first ∷ texts) ++ text ∷ []) ≡ firsts (first ∷ texts)) [
      | true ↦ λ e. ap (λ l. first ∷ filter (others first) l) (firsts-again texts text e)
      | false ↦ λ e.
          let same : bytes_eq first text ≡ true = bytes_eq-symm first text
          ∙ sym (ap (λ b. bytes_eq text first || b) e ∙ or_false (bytes_eq text first)) ∙ seen in
          ap (λ l. first ∷ filter (others first) l) (firsts-new texts text e)
          ∙ ap (λ l. first ∷ l) (filter-append (others first) (firsts texts) (text ∷ []))
          ∙ ap (λ b. first ∷ (filter (others first) (firsts texts) ++ cond (not b) (text ∷ []) [])) same
          ∙ ap (λ l. first ∷ l) (append-nil (filter (others first) (firsts texts)))
    ] refl

-- the place of a text in the order of first use, before and after one more text
pub place-kept : (texts : List (List ℕ)) (text q : List ℕ) → list_any (bytes_eq q) texts ≡ true
    → position_or_len (bytes_eq q) (firsts (texts ++ text ∷ [])) ≡ position_or_len (bytes_eq q) (firsts texts)
place-kept texts text q seen =
    elim (list_any (bytes_eq text) texts) as (λ b. list_any (bytes_eq text) texts ≡ b
    → position_or_len (bytes_eq q) (firsts (texts ++ text ∷ [])) ≡ position_or_len (bytes_eq q) (firsts texts)) [
      | true ↦ λ e. ap (position_or_len (bytes_eq q)) (firsts-again texts text e)
      | false ↦ λ e. ap (position_or_len (bytes_eq q)) (firsts-new texts text e)
          ∙ place_append (bytes_eq q) (firsts texts) (text ∷ []) (list_any-firsts q texts ∙ seen)
    ] refl

pub place-own : (texts : List (List ℕ)) (text : List ℕ) → position_or_len (bytes_eq text) (firsts (texts ++ text ∷ []))
    ≡ position_or_len (bytes_eq text) (firsts texts)
place-own texts text =
    elim (list_any (bytes_eq text) texts) as (λ b. list_any (bytes_eq text) texts ≡ b
    → position_or_len (bytes_eq text) (firsts (texts ++ text ∷ []))
    ≡ position_or_len (bytes_eq text) (firsts texts)) [
      | true ↦ λ e. place-kept texts text text e
      | false ↦ λ e. let none = list_any-firsts text texts ∙ e in
          ap (position_or_len (bytes_eq text)) (firsts-new texts text e)
          ∙ place_last (bytes_eq text) (firsts texts) text none (bytes_eq-refl text)
          ∙ sym (place_after (bytes_eq text) (firsts texts) none)
    ] refl

-- where no text occurs twice, the place of a text is the one where it is
pub place_again : (texts : List (List ℕ)) (code : ℕ) (text : List ℕ) → EachOnce texts → slice_get texts code ≡ Some text
    → position_or_len (bytes_eq text) texts ≡ code
place_again [] code text once at = absurd cc
place_again (first ∷ texts) zero text once at =
    let same : first ≡ text = cc in
    ap (λ b. cond (not b) (1 + position_or_len (bytes_eq text) texts) 0) (ap (bytes_eq text) same ∙ bytes_eq-refl text)
place_again (first ∷ texts) (suc code) text once at =
    let differs : bytes_eq text first ≡ false = bytes_eq-symm text first
    ∙ absent_at (bytes_eq first) texts code text once.0 at in
    let next : 1 + code ≡ suc code = omega arith in
    ap (λ b. cond (not b) (1 + position_or_len (bytes_eq text) texts) 0) differs
    ∙ ap (λ n. 1 + n) (place_again texts code text once.1 at) ∙ next

pub code_again : (texts : List (List ℕ)) (code : ℕ) (text : List ℕ) → EachOnce texts → slice_get texts code ≡ Some text
    → code_of texts text ≡ Some code
code_again texts code text once at =
    let place = place_again texts code text once at in
    let lt : code < length texts = slice_get-lt texts code text at in
    let test : nat_lt code (length texts) ≡ true = grind arith in
    (λ i. cond (nat_lt (place i) (length texts)) (Some (place i)) None) ∙ ap (λ b. cond b (Some code) None) test

-- an item is there exactly where its place is
pub place_seen : {X : Type 0} (p : X → Bool) (xs : List X) → position_or_len p xs < length xs → list_any p xs ≡ true
place_seen p xs lt = list_any_place p xs ∙ grind arith

pub place_unseen : {X : Type 0} (p : X → Bool) (xs : List X) → position_or_len p xs ≡ length xs → list_any p xs ≡ false
place_unseen p xs last = list_any_place p xs ∙ grind arith

-- a text without a code is not there, and one with a code is
pub absent : (texts : List (List ℕ)) (text : List ℕ) → code_of texts text ≡ None
    → list_any (bytes_eq text) texts ≡ false
absent texts text none = list_any_place (bytes_eq text) texts ∙ test _ _ none
  where
    test : (b : Bool) (n : ℕ) → cond b (Some n) None ≡ None → b ≡ false
    test true n e = cc
    test false n e = refl

pub present : (texts : List (List ℕ)) (text : List ℕ) (code : ℕ) → code_of texts text ≡ Some code
    → list_any (bytes_eq text) texts ≡ true
present texts text code some = list_any_place (bytes_eq text) texts ∙ test _ _ some
  where
    test : (b : Bool) (n : ℕ) → cond b (Some n) None ≡ Some code → b ≡ true
    test true n e = refl
    test false n e = cc
