-- Lists by ascending keys: what a put and a drop keep.
use Rattle.std.proofs.Common.{◌≡◌, ℕ, zero, suc, ◌<◌, ◌≤◌, Bool, true, false, cond, ltb, eqb, List, [], ◌∷◌, map}
use Rattle.std.proofs.Common.{get_or, refl, sym, ◌∙◌, ap, arith}
use Rattle.std.specs.List.{All, AllPairs}
use Rattle.std.proofs.lemmas.Bool.{cond_both, ltb-true, ltb-false, eqb-true, eqb-false}
use Rattle.std.proofs.lemmas.List.Elements.{All-nil, All-cons, All-head, All-tail, All-weaker}
use Rattle.std.proofs.lemmas.List.Kept.{AllPairs-cons}
use Rattle.object_store.specs.Commit.{put_by, drop_by, put_each, drop_each}

map-cond : {A B : Type 0} (f : A → B) (b : Bool) (xs ys : List A) → map f (cond b xs ys) ≡ cond b (map f xs) (map f ys)
map-cond f b xs ys = elim b as (λ v. map f (cond v xs ys) ≡ cond v (map f xs) (map f ys)) [ true ↦ refl | false ↦ refl ]

-- a map that keeps keys
pub map-put_by : {A B : Type 0} (f : A → B) (key : A → ℕ) (key' : B → ℕ) → ((x : A) → key' (f x) ≡ key x)
    → (x : A) (l : List A) → map f (put_by key x l) ≡ put_by key' (f x) (map f l)
map-put_by f key key' same x [] = refl
map-put_by {A} {B} f key key' same x (y ∷ rest) =
    map-cond f (ltb (key x) (key y)) (x ∷ y ∷ rest) (cond (eqb (key x) (key y)) (x ∷ rest) (y ∷ put_by key x rest))
    ∙ ap (λ (l : List B). cond (ltb (key x) (key y)) (f x ∷ f y ∷ map f rest) l)
    (map-cond f (eqb (key x) (key y)) (x ∷ rest) (y ∷ put_by key x rest)
    ∙ ap (λ (l : List B). cond (eqb (key x) (key y)) (f x ∷ map f rest) (f y ∷ l)) (map-put_by f key key' same x rest))
    ∙ ap (λ (n : ℕ). cond (ltb n (key y)) (f x ∷ f y ∷ map f rest)
    (cond (eqb n (key y)) (f x ∷ map f rest) (f y ∷ put_by key' (f x) (map f rest)))) (sym (same x))
    ∙ ap (λ (n : ℕ). cond (ltb (key' (f x)) n) (f x ∷ f y ∷ map f rest)
    (cond (eqb (key' (f x)) n) (f x ∷ map f rest) (f y ∷ put_by key' (f x) (map f rest)))) (sym (same y))

pub map-drop_by : {A B : Type 0} (f : A → B) (key : A → ℕ) (key' : B → ℕ) → ((x : A) → key' (f x) ≡ key x)
    → (id : ℕ) (l : List A) → map f (drop_by key id l) ≡ drop_by key' id (map f l)
map-drop_by f key key' same id [] = refl
map-drop_by {A} {B} f key key' same id (y ∷ rest) =
    map-cond f (eqb (key y) id) (drop_by key id rest) (y ∷ drop_by key id rest)
    ∙ ap (λ (l : List B). cond (eqb (key y) id) l (f y ∷ l)) (map-drop_by f key key' same id rest)
    ∙ ap (λ (n : ℕ). cond (eqb n id) (drop_by key' id (map f rest)) (f y ∷ drop_by key' id (map f rest))) (sym (same y))

pub map-put_each : {A B : Type 0} (f : A → B) (key : A → ℕ) (key' : B → ℕ) → ((x : A) → key' (f x) ≡ key x)
    → (xs l : List A) → map f (put_each key xs l) ≡ put_each key' (map f xs) (map f l)
map-put_each f key key' same [] l = refl
map-put_each {A} {B} f key key' same (x ∷ xs) l =
    map-put_each f key key' same xs (put_by key x l)
    ∙ ap (λ (r : List B). put_each key' (map f xs) r) (map-put_by f key key' same x l)

pub map-drop_each : {A B : Type 0} (f : A → B) (key : A → ℕ) (key' : B → ℕ) → ((x : A) → key' (f x) ≡ key x)
    → (ids : List ℕ) (l : List A) → map f (drop_each key ids l) ≡ drop_each key' ids (map f l)
map-drop_each f key key' same [] l = refl
map-drop_each {A} {B} f key key' same (id ∷ ids) l =
    map-drop_each f key key' same ids (drop_by key id l)
    ∙ ap (λ (r : List B). drop_each key' ids r) (map-drop_by f key key' same id l)

-- what holds of each element
pub All-put_by : {A : Type 0} (P : A → Type 0) (key : A → ℕ) (x : A) (l : List A) → P x → All P l
    → All P (put_by key x l)
All-put_by P key x [] px all = All-cons P x [] px (All-nil P)
All-put_by P key x (y ∷ rest) px all =
    cond_both (ltb (key x) (key y)) (x ∷ y ∷ rest) (cond (eqb (key x) (key y)) (x ∷ rest) (y ∷ put_by key x rest))
    (All P)
    (λ _. All-cons P x (y ∷ rest) px all)
    (λ _. cond_both (eqb (key x) (key y)) (x ∷ rest) (y ∷ put_by key x rest) (All P)
    (λ _. All-cons P x rest px (All-tail P y rest all))
    (λ _. All-cons P y (put_by key x rest) (All-head P y rest all)
    (All-put_by P key x rest px (All-tail P y rest all))))

pub All-drop_by : {A : Type 0} (P : A → Type 0) (key : A → ℕ) (id : ℕ) (l : List A) → All P l → All P (drop_by key id l)
All-drop_by P key id [] all = all
All-drop_by P key id (y ∷ rest) all =
    cond_both (eqb (key y) id) (drop_by key id rest) (y ∷ drop_by key id rest) (All P)
    (λ _. All-drop_by P key id rest (All-tail P y rest all))
    (λ _. All-cons P y (drop_by key id rest) (All-head P y rest all)
    (All-drop_by P key id rest (All-tail P y rest all)))

pub All-put_each : {A : Type 0} (P : A → Type 0) (key : A → ℕ) (xs l : List A) → All P xs → All P l
    → All P (put_each key xs l)
All-put_each P key [] l each all = all
All-put_each P key (x ∷ xs) l each all =
    All-put_each P key xs (put_by key x l) (All-tail P x xs each) (All-put_by P key x l (All-head P x xs each) all)

pub All-drop_each : {A : Type 0} (P : A → Type 0) (key : A → ℕ) (ids : List ℕ) (l : List A) → All P l
    → All P (drop_each key ids l)
All-drop_each P key [] l all = all
All-drop_each P key (id ∷ ids) l all = All-drop_each P key ids (drop_by key id l) (All-drop_by P key id l all)

-- what holds of each element and each later one
pub AllPairs-head : {A : Type 0} (R : A → A → Type 0) (x : A) (xs : List A) → AllPairs R (x ∷ xs) → All (R x) xs
AllPairs-head R x xs pairs k d lt = pairs zero (suc k) d (omega arith) (omega arith)

pub AllPairs-tail : {A : Type 0} (R : A → A → Type 0) (x : A) (xs : List A) → AllPairs R (x ∷ xs) → AllPairs R xs
AllPairs-tail R x xs pairs i j d lt below = pairs (suc i) (suc j) d (omega arith) (omega arith)

pub AllPairs-nil : {A : Type 0} (R : A → A → Type 0) → AllPairs R []
AllPairs-nil R i j d lt below = absurd (omega arith)

pub AllPairs-put_by : {A : Type 0} (R : A → A → Type 0) (key : A → ℕ) (x : A) (l : List A) → All (λ y. R x y) l
    → All (λ y. R y x) l → AllPairs R l → AllPairs R (put_by key x l)
AllPairs-put_by {A} R key x [] from to pairs = AllPairs-cons R x [] (All-nil (R x)) (AllPairs-nil R)
AllPairs-put_by {A} R key x (y ∷ rest) from to pairs =
    cond_both (ltb (key x) (key y)) (x ∷ y ∷ rest) (cond (eqb (key x) (key y)) (x ∷ rest) (y ∷ put_by key x rest))
    (AllPairs R)
    (λ _. AllPairs-cons R x (y ∷ rest) from pairs)
    (λ _. cond_both (eqb (key x) (key y)) (x ∷ rest) (y ∷ put_by key x rest) (AllPairs R)
    (λ _. AllPairs-cons R x rest (All-tail (λ (z : A). R x z) y rest from) (AllPairs-tail R y rest pairs))
    (λ _. AllPairs-cons R y (put_by key x rest)
    (All-put_by (R y) key x rest (All-head (λ (z : A). R z x) y rest to) (AllPairs-head R y rest pairs))
    (AllPairs-put_by R key x rest (All-tail (λ (z : A). R x z) y rest from) (All-tail (λ (z : A). R z x) y rest to)
    (AllPairs-tail R y rest pairs))))

pub AllPairs-drop_by : {A : Type 0} (R : A → A → Type 0) (key : A → ℕ) (id : ℕ) (l : List A) → AllPairs R l
    → AllPairs R (drop_by key id l)
AllPairs-drop_by R key id [] pairs = pairs
AllPairs-drop_by R key id (y ∷ rest) pairs =
    cond_both (eqb (key y) id) (drop_by key id rest) (y ∷ drop_by key id rest) (AllPairs R)
    (λ _. AllPairs-drop_by R key id rest (AllPairs-tail R y rest pairs))
    (λ _. AllPairs-cons R y (drop_by key id rest) (All-drop_by (R y) key id rest (AllPairs-head R y rest pairs))
    (AllPairs-drop_by R key id rest (AllPairs-tail R y rest pairs)))

pub AllPairs-drop_each : {A : Type 0} (R : A → A → Type 0) (key : A → ℕ) (ids : List ℕ) (l : List A) → AllPairs R l
    → AllPairs R (drop_each key ids l)
AllPairs-drop_each R key [] l pairs = pairs
AllPairs-drop_each R key (id ∷ ids) l pairs =
    AllPairs-drop_each R key ids (drop_by key id l) (AllPairs-drop_by R key id l pairs)

-- two lists, where what holds of pairs holds also the other way round
pub AllPairs-put_each : {A : Type 0} (R : A → A → Type 0) → ((x y : A) → R x y → R y x) → (key : A → ℕ) (xs l : List A)
    → AllPairs R xs → AllPairs R l → All (λ x. All (λ y. R x y) l) xs → AllPairs R (put_each key xs l)
AllPairs-put_each R turned key [] l among pairs across = pairs
AllPairs-put_each {A} R turned key (x ∷ xs) l among pairs across =
    let here : All (λ y. R x y) l = All-head (λ (z : A). All (λ y. R z y) l) x xs across in
    AllPairs-put_each R turned key xs (put_by key x l) (AllPairs-tail R x xs among)
    (AllPairs-put_by R key x l here (All-weaker (λ (y : A). R x y) (λ (y : A). R y x) (λ y. turned x y) l here) pairs)
    (λ k d lt. All-put_by (λ (y : A). R (get_or xs k d) y) key x l
    (turned x (get_or xs k d) (AllPairs-head R x xs among k d lt))
    (All-tail (λ (z : A). All (λ y. R z y) l) x xs across k d lt))

-- keys that ascend
pub ascending-put_by : {A : Type 0} (key : A → ℕ) (x : A) (l : List A) → AllPairs (λ a b. key a < key b) l
    → AllPairs (λ a b. key a < key b) (put_by key x l)
ascending-put_by {A} key x [] rise =
    AllPairs-cons (λ (a : A) (b : A). key a < key b) x [] (All-nil (λ (b : A). key x < key b))
    (AllPairs-nil (λ (a : A) (b : A). key a < key b))
ascending-put_by {A} key x (y ∷ rest) rise =
    let R : A → A → Type 0 = λ a b. key a < key b in
    let later : All (R y) rest = AllPairs-head R y rest rise in
    let tail : AllPairs R rest = AllPairs-tail R y rest rise in
    cond_both (ltb (key x) (key y)) (x ∷ y ∷ rest) (cond (eqb (key x) (key y)) (x ∷ rest) (y ∷ put_by key x rest))
    (AllPairs R)
    (λ test. let lt : key x < key y = ltb-true (key x) (key y) test in
    AllPairs-cons R x (y ∷ rest)
    (All-cons (R x) y rest lt (All-weaker (R y) (R x) (λ b more. omega (arith, lt, more)) rest later)) rise)
    (λ test. let ge : key y ≤ key x = ltb-false (key x) (key y) test in
    cond_both (eqb (key x) (key y)) (x ∷ rest) (y ∷ put_by key x rest) (AllPairs R)
    (λ same. let eq : key x ≡ key y = eqb-true (key x) (key y) same in
    AllPairs-cons R x rest (All-weaker (R y) (R x) (λ b more. omega (arith, eq, more)) rest later) tail)
    (λ other. let ne : key x ≡ key y → ⊥ = eqb-false (key x) (key y) other in
    AllPairs-cons R y (put_by key x rest) (All-put_by (R y) key x rest (omega (arith, ge, ne)) later)
    (ascending-put_by key x rest tail)))

pub ascending-put_each : {A : Type 0} (key : A → ℕ) (xs l : List A) → AllPairs (λ a b. key a < key b) l
    → AllPairs (λ a b. key a < key b) (put_each key xs l)
ascending-put_each key [] l rise = rise
ascending-put_each key (x ∷ xs) l rise = ascending-put_each key xs (put_by key x l) (ascending-put_by key x l rise)

-- pairs of images
pub All-unmap : {A B : Type 0} (P : B → Type 0) (f : A → B) (l : List A) → All P (map f l) → All (λ x. P (f x)) l
All-unmap {A} P f [] all = All-nil (λ (x : A). P (f x))
All-unmap {A} P f (x ∷ l) all =
    All-cons (λ (y : A). P (f y)) x l (All-head P (f x) (map f l) all)
    (All-unmap P f l (All-tail P (f x) (map f l) all))

pub All-mapped : {A B : Type 0} (P : B → Type 0) (f : A → B) (l : List A) → All (λ x. P (f x)) l → All P (map f l)
All-mapped P f [] all = All-nil P
All-mapped {A} P f (x ∷ l) all =
    All-cons P (f x) (map f l) (All-head (λ (y : A). P (f y)) x l all)
    (All-mapped P f l (All-tail (λ (y : A). P (f y)) x l all))

pub AllPairs-unmap : {A B : Type 0} (R : B → B → Type 0) (f : A → B) (l : List A) → AllPairs R (map f l)
    → AllPairs (λ x y. R (f x) (f y)) l
AllPairs-unmap {A} R f [] pairs = AllPairs-nil (λ (x : A) (y : A). R (f x) (f y))
AllPairs-unmap {A} R f (x ∷ l) pairs =
    AllPairs-cons (λ (y : A) (z : A). R (f y) (f z)) x l
    (All-unmap (R (f x)) f l (AllPairs-head R (f x) (map f l) pairs))
    (AllPairs-unmap R f l (AllPairs-tail R (f x) (map f l) pairs))

pub AllPairs-mapped : {A B : Type 0} (R : B → B → Type 0) (f : A → B) (l : List A) → AllPairs (λ x y. R (f x) (f y)) l
    → AllPairs R (map f l)
AllPairs-mapped R f [] pairs = AllPairs-nil R
AllPairs-mapped {A} R f (x ∷ l) pairs =
    AllPairs-cons R (f x) (map f l)
    (All-mapped (R (f x)) f l (AllPairs-head (λ (y : A) (z : A). R (f y) (f z)) x l pairs))
    (AllPairs-mapped R f l (AllPairs-tail (λ (y : A) (z : A). R (f y) (f z)) x l pairs))
