-- Texts that other texts determine, and the texts at the places of a column.
use Rattle.std.proofs.Common.{◌≡◌, ◌<◌, ◌∙◌, zero, suc, sym, ap, refl, arith, cond, not, ℕ, Bool, true, false, List, []}
use Rattle.std.proofs.Common.{◌∷◌, map, length, get_or, slice_get, Some}
use Rattle.std.specs.List.{filter, list_any, position_or_len, AllByRecursion}
use Rattle.std.specs.Str.{bytes_eq}
use Rattle.std.proofs.lemmas.List.{get_or-map}
use Rattle.dictionary.specs.Dictionary.{EachOnce, firsts}
use Rattle.dictionary.proofs.CallerLemmas.{bytes_eq-same, bytes_eq-refl, list_any_here, place_within, text_at_place}
use Rattle.dictionary.proofs.CallerLemmas.{place_again}
use Rattle.dimensions.specs.Coded.{text_next_to, place_texts}

-- ---- items by index

pub slice_get-within : {X : Type 0} (xs : List X) (k : ℕ) (d : X) → k < length xs
    → slice_get xs k ≡ Some (get_or xs k d)
slice_get-within [] k d lt = absurd (omega (arith, lt))
slice_get-within (x ∷ xs) zero d lt = refl
slice_get-within (x ∷ xs) (suc k) d lt = slice_get-within xs k d (omega (arith, lt))

-- where no text occurs twice, the place of the text at an index is the index
pub own_place : (texts : List (List ℕ)) (k : ℕ) → EachOnce texts → k < length texts
    → position_or_len (bytes_eq (get_or texts k [])) texts ≡ k
own_place texts k once lt = place_again texts k (get_or texts k []) once (slice_get-within texts k [] lt)

-- ---- what holds of each

pub all_from_get : {X : Type 0} (P : X → Type 0) (xs : List X) (d : X) → ((k : ℕ) → k < length xs → P (get_or xs k d))
    → AllByRecursion P xs
all_from_get P [] d each = tt
all_from_get P (x ∷ xs) d each = (each 0 (omega arith), all_from_get P xs d (λ k lt. each (suc k) (omega (arith, lt))))

pub all_filter : {X : Type 0} (P : X → Type 0) (p : X → Bool) (xs : List X) → AllByRecursion P xs
    → AllByRecursion P (filter p xs)
all_filter P p [] all = tt
all_filter P p (x ∷ xs) all = elim (p x) as (λ b. AllByRecursion P (cond b (x ∷ filter p xs) (filter p xs))) [
  | true ↦ (all.0, all_filter P p xs all.1)
  | false ↦ all_filter P p xs all.1
]

pub all_firsts : (P : List ℕ → Type 0) (texts : List (List ℕ)) → AllByRecursion P texts
    → AllByRecursion P (firsts texts)
all_firsts P [] all = tt
all_firsts P (text ∷ texts) all =
    (all.0, all_filter P (λ other. not (bytes_eq text other)) (firsts texts) (all_firsts P texts all.1))

-- ---- texts under a function

abbrev others : List ℕ → List ℕ → Bool
others text other = not (bytes_eq text other)

filter_swap : {X : Type 0} (p q : X → Bool) (xs : List X) → filter p (filter q xs) ≡ filter q (filter p xs)
filter_swap p q [] = refl
filter_swap p q (x ∷ xs) =
    elim (p x) as
    (λ b. p x ≡ b → filter p (cond (q x) (x ∷ filter q xs) (filter q xs))
    ≡ filter q (cond b (x ∷ filter p xs) (filter p xs))) [
      | true ↦ λ e. elim (q x) as
          (λ c. filter p (cond c (x ∷ filter q xs) (filter q xs))
          ≡ cond c (x ∷ filter q (filter p xs)) (filter q (filter p xs))) [
            | true ↦ ap (λ b. cond b (x ∷ filter p (filter q xs)) (filter p (filter q xs))) e
                ∙ ap (λ l. x ∷ l) (filter_swap p q xs)
            | false ↦ filter_swap p q xs
          ]
      | false ↦ λ e. elim (q x) as (λ c. filter p (cond c (x ∷ filter q xs) (filter q xs)) ≡ filter q (filter p xs)) [
        | true ↦ ap (λ b. cond b (x ∷ filter p (filter q xs)) (filter p (filter q xs))) e ∙ filter_swap p q xs
        | false ↦ filter_swap p q xs
      ]
    ] refl

filter_twice : {X : Type 0} (p : X → Bool) (xs : List X) → filter p (filter p xs) ≡ filter p xs
filter_twice p [] = refl
filter_twice p (x ∷ xs) =
    elim (p x) as
    (λ b. p x ≡ b → filter p (cond b (x ∷ filter p xs) (filter p xs)) ≡ cond b (x ∷ filter p xs) (filter p xs)) [
      | true ↦ λ e. ap (λ b. cond b (x ∷ filter p (filter p xs)) (filter p (filter p xs))) e
          ∙ ap (λ l. x ∷ l) (filter_twice p xs)
      | false ↦ λ e. filter_twice p xs
    ] refl

module _ (g : List ℕ → List ℕ) where
  -- without the image of a text it does not matter whether the text is there
  without : (text : List ℕ) (texts : List (List ℕ))
      → filter (others (g text)) (firsts (map g (filter (others text) texts)))
      ≡ filter (others (g text)) (firsts (map g texts))
  without text [] = refl
  without text (first ∷ texts) =
      elim (bytes_eq text first) as
      (λ b. bytes_eq text first ≡ b
      → filter (others (g text))
      (firsts (map g (cond (not b) (first ∷ filter (others text) texts) (filter (others text) texts))))
      ≡ filter (others (g text)) (g first ∷ filter (others (g first)) (firsts (map g texts)))) [
        | true ↦ λ e.
            let same : text ≡ first = bytes_eq-same text first e in
            let here : bytes_eq (g text) (g first) ≡ true = ap (λ t. bytes_eq (g text) (g t)) (sym same)
            ∙ bytes_eq-refl (g text) in
            without text texts
            ∙ sym (ap (λ b. cond (not b)
            (g first ∷ filter (others (g text)) (filter (others (g first)) (firsts (map g texts))))
            (filter (others (g text)) (filter (others (g first)) (firsts (map g texts))))) here
            ∙ ap (λ t. filter (others (g text)) (filter (others (g t)) (firsts (map g texts)))) (sym same)
            ∙ filter_twice (others (g text)) (firsts (map g texts)))
        | false ↦ λ e.
            let rest : filter (others (g text))
            (filter (others (g first)) (firsts (map g (filter (others text) texts))))
            ≡ filter (others (g text)) (filter (others (g first)) (firsts (map g texts))) =
            filter_swap (others (g text)) (others (g first)) (firsts (map g (filter (others text) texts)))
            ∙ ap (filter (others (g first))) (without text texts)
            ∙ filter_swap (others (g first)) (others (g text)) (firsts (map g texts)) in
            ap (λ l. cond (not (bytes_eq (g text) (g first))) (g first ∷ l) l) rest
      ] refl

  -- the first uses of images are those of the images of first uses
  pub firsts-map : (texts : List (List ℕ)) → firsts (map g (firsts texts)) ≡ firsts (map g texts)
  firsts-map [] = refl
  firsts-map (text ∷ texts) =
      ap (λ l. g text ∷ l) (without text (firsts texts) ∙ ap (filter (others (g text))) (firsts-map texts))

  -- the text next_to a text is its image
  pub next_to_map : (lowers : List (List ℕ)) (text : List ℕ) → list_any (bytes_eq text) lowers ≡ true
      → text_next_to lowers (map g lowers) text ≡ g text
  next_to_map lowers text some =
      let lt : position_or_len (bytes_eq text) lowers < length lowers = place_within (bytes_eq text) lowers some in
      get_or-map g lowers (position_or_len (bytes_eq text) lowers) [] [] lt ∙ ap g (text_at_place lowers text lt)

  next_to_all : (lowers part : List (List ℕ)) → AllByRecursion (λ text. list_any (bytes_eq text) lowers ≡ true) part
      → map (text_next_to lowers (map g lowers)) part ≡ map g part
  next_to_all lowers [] all = refl
  next_to_all lowers (text ∷ part) all = λ i. next_to_map lowers text all.0 i ∷ next_to_all lowers part all.1 i

  pub place_map : (lowers : List (List ℕ)) → place_texts (Some lowers) (map g lowers) ≡ map g (firsts lowers)
  place_map lowers = next_to_all lowers (firsts lowers)
      (all_firsts (λ text. list_any (bytes_eq text) lowers ≡ true) lowers
      (all_from_get (λ text. list_any (bytes_eq text) lowers ≡ true) lowers []
      (λ k lt. list_any_here (bytes_eq (get_or lowers k [])) lowers k [] lt (bytes_eq-refl (get_or lowers k [])))))

-- ---- texts that lower texts determine

-- each text is the one next_to the first use of its lower text
abbrev pub IsDetermined : List (List ℕ) → List (List ℕ) → Type 0
IsDetermined lowers texts = texts ≡ map (text_next_to lowers texts) lowers

-- the first uses of texts are those of the texts at the places
pub firsts_at_places : (lowers texts : List (List ℕ)) → IsDetermined lowers texts
    → firsts (place_texts (Some lowers) texts) ≡ firsts texts
firsts_at_places lowers texts is =
    firsts-map (text_next_to lowers texts) lowers ∙ ap firsts (sym is)

-- texts that are images of lower texts are determined
pub determined_map : (g : List ℕ → List ℕ) (lowers texts : List (List ℕ)) → texts ≡ map g lowers
    → IsDetermined lowers texts
determined_map g lowers texts is =
    is ∙ sym (next_to_whole lowers
    (all_from_get (λ text. list_any (bytes_eq text) lowers ≡ true) lowers []
    (λ k lt. list_any_here (bytes_eq (get_or lowers k [])) lowers k [] lt (bytes_eq-refl (get_or lowers k [])))))
    ∙ ap (λ l. map (text_next_to lowers l) lowers) (sym is)
  where
    next_to_whole : (part : List (List ℕ)) → AllByRecursion (λ text. list_any (bytes_eq text) lowers ≡ true) part
        → map (text_next_to lowers (map g lowers)) part ≡ map g part
    next_to_whole [] all = refl
    next_to_whole (text ∷ part) all = λ i. next_to_map g lowers text all.0 i ∷ next_to_whole part all.1 i

pub place_image : (g : List ℕ → List ℕ) (lowers texts : List (List ℕ)) → texts ≡ map g lowers
    → place_texts (Some lowers) texts ≡ map g (firsts lowers)
place_image g lowers texts is = ap (place_texts (Some lowers)) is ∙ place_map g lowers
