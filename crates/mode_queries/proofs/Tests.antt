-- Tests over lists.
use Rattle.std.proofs.Common.{◌≡◌, ◌∙◌, sym, ap, refl, Bool, true, false, cond, List, [], ◌∷◌, map}
use Rattle.std.proofs.Common.{◌||◌, ◌&&◌}
use Rattle.std.specs.List.{AllByRecursion, filter, flat_map, list_any}
use Rattle.std.proofs.lemmas.List.Folds.{list_any-append}

-- ---- truth values
pub or_false : (b : Bool) → (b || false) ≡ b
or_false true = refl
or_false false = refl

pub or_swap : (a b c d : Bool) → ((a || b) || (c || d)) ≡ ((a || c) || (b || d))
or_swap true b c d = refl
or_swap false true true d = refl
or_swap false true false d = refl
or_swap false false c d = refl

pub or_assoc : (a b c : Bool) → ((a || b) || c) ≡ (a || (b || c))
or_assoc true b c = refl
or_assoc false b c = refl

pub and_or : (a b c : Bool) → (a && (b || c)) ≡ ((a && b) || (a && c))
and_or true b c = refl
and_or false b c = refl

pub and_false : (b : Bool) → (b && false) ≡ false
and_false true = refl
and_false false = refl

pub and_assoc : (a b c : Bool) → ((a && b) && c) ≡ (a && (b && c))
and_assoc true b c = refl
and_assoc false b c = refl

pub and_swap : (a b c : Bool) → (a && (b && c)) ≡ (b && (a && c))
and_swap true b c = refl
and_swap false true c = refl
and_swap false false c = refl

pub and_only : (a b : Bool) → (b ≡ true → a ≡ true) → (a && b) ≡ b
and_only true b sure = refl
and_only false b sure = (elim b as (λ t. b ≡ t → false ≡ t) [
  | true ↦ λ e. sure e
  | false ↦ λ e. refl
]) refl

-- ---- some item passes
pub any_map : {X Y : Type 0} (p : Y → Bool) (f : X → Y) (xs : List X)
    → list_any p (map f xs) ≡ list_any (λ x. p (f x)) xs
any_map p f [] = refl
any_map p f (x ∷ xs) = ap (λ b. p (f x) || b) (any_map p f xs)

pub any_filter : {X : Type 0} (p test : X → Bool) (xs : List X)
    → list_any p (filter test xs) ≡ list_any (λ x. test x && p x) xs
any_filter p test [] = refl
any_filter p test (x ∷ xs) =
    elim (test x) as (λ b. list_any p (cond b (x ∷ filter test xs) (filter test xs))
    ≡ ((b && p x) || list_any (λ y. test y && p y) xs)) [
      | true ↦ ap (λ b. p x || b) (any_filter p test xs)
      | false ↦ any_filter p test xs
    ]

pub any_flat_map : {X Y : Type 0} (p : Y → Bool) (f : X → List Y) (xs : List X)
    → list_any p (flat_map f xs) ≡ list_any (λ x. list_any p (f x)) xs
any_flat_map p f [] = refl
any_flat_map p f (x ∷ xs) = list_any-append p (f x) (flat_map f xs)
    ∙ ap (λ b. list_any p (f x) || b) (any_flat_map p f xs)

pub any_same : {X : Type 0} (p q : X → Bool) → ((x : X) → p x ≡ q x) → (xs : List X) → list_any p xs ≡ list_any q xs
any_same p q each [] = refl
any_same p q each (x ∷ xs) = λ i. each x i || any_same p q each xs i

-- the same where items are known to have a property
pub any_same_of : {X : Type 0} (P : X → Type 0) (p q : X → Bool) → ((x : X) → P x → p x ≡ q x) → (xs : List X)
    → AllByRecursion P xs → list_any p xs ≡ list_any q xs
any_same_of P p q each [] all = refl
any_same_of P p q each (x ∷ xs) all = λ i. each x all.0 i || any_same_of P p q each xs all.1 i

pub any_or : {X : Type 0} (p q : X → Bool) (xs : List X)
    → list_any (λ x. p x || q x) xs ≡ (list_any p xs || list_any q xs)
any_or p q [] = refl
any_or p q (x ∷ xs) = ap (λ b. (p x || q x) || b) (any_or p q xs)
    ∙ or_swap (p x) (q x) (list_any p xs) (list_any q xs)

pub any_and : {X : Type 0} (b : Bool) (p : X → Bool) (xs : List X)
    → list_any (λ x. b && p x) xs ≡ (b && list_any p xs)
any_and b p [] = sym (and_false b)
any_and b p (x ∷ xs) = ap (λ t. (b && p x) || t) (any_and b p xs) ∙ sym (and_or b (p x) (list_any p xs))

pub any_none : {X : Type 0} (xs : List X) → list_any (λ x. false) xs ≡ false
any_none [] = refl
any_none (x ∷ xs) = any_none xs

pub any_swap : {X Y : Type 0} (r : X → Y → Bool) (xs : List X) (ys : List Y)
    → list_any (λ x. list_any (r x) ys) xs ≡ list_any (λ y. list_any (λ x. r x y) xs) ys
any_swap r [] ys = sym (any_none ys)
any_swap r (x ∷ xs) ys = ap (λ b. list_any (r x) ys || b) (any_swap r xs ys)
    ∙ sym (any_or (r x) (λ y. list_any (λ z. r z y) xs) ys)

-- ---- lists of those that pass
pub filter_filter : {X : Type 0} (p q : X → Bool) (xs : List X)
    → filter p (filter q xs) ≡ filter (λ x. q x && p x) xs
filter_filter p q [] = refl
filter_filter p q (x ∷ xs) =
    elim (q x) as (λ b. filter p (cond b (x ∷ filter q xs) (filter q xs))
    ≡ cond (b && p x) (x ∷ filter (λ y. q y && p y) xs) (filter (λ y. q y && p y) xs)) [
      | true ↦ ap (λ rest. cond (p x) (x ∷ rest) rest) (filter_filter p q xs)
      | false ↦ filter_filter p q xs
    ]

pub filter_same : {X : Type 0} (p q : X → Bool) → ((x : X) → p x ≡ q x) → (xs : List X) → filter p xs ≡ filter q xs
filter_same p q each [] = refl
filter_same p q each (x ∷ xs) = λ i. cond (each x i) (x ∷ filter_same p q each xs i) (filter_same p q each xs i)
