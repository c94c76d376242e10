-- What the codes of a column of texts represent, and what its spelling determines, for the proofs of other crates too.
use Rattle.std.proofs.Common.{◌≡◌, ◌<◌, ◌≤◌, ◌+◌, ◌^◌, ◌==◌, ◌∙◌, zero, suc, sym, ap, refl, subst, arith, cond, not, ℕ}
use Rattle.std.proofs.Common.{Bool, true, false, ◌||◌, nat_lt, List, [], ◌∷◌, ◌++◌, map, length, Some, None, Option}
use Rattle.std.proofs.Common.{append_assoc}
use Rattle.std.specs.Str.{bytes_eq}
use Rattle.std.specs.List.{AllByRecursion, filter, flat_map, list_any, range_with_len}
use Rattle.std.proofs.lemmas.Bool.{eq-eqb, eqb-true}
use Rattle.std.proofs.lemmas.List.{map-append}
use Rattle.std.proofs.lemmas.List.Elements.{All-cons, All-filter, All-head, All-tail}
use Rattle.std.proofs.lemmas.List.Sums.{count_by-le-length, length-filter}
use Rattle.std.proofs.lemmas.Option.{slice_get-get_or}
use Rattle.std.proofs.lemmas.Simd.{pick_l_whole}
use Rattle.wire.specs.Spelling.{spelling}
use Rattle.wire.proofs.CallerLemmas.{spelling-one}
use Rattle.dictionary.specs.Dictionary.{Adds, EachOnce, Texts, code_of, firsts}
use Rattle.dictionary.specs.Spelling.{AreProper, AreShort, text_spelling, texts_spelling}
use Rattle.dictionary.specs.Columns.{AreCodes, codes_of, first_codes, place_of, text_of_code}
use Rattle.dictionary.proofs.CallerLemmas.{EachOnce-firsts, absent, bytes_eq-refl, bytes_eq-same, firsts-again}
use Rattle.dictionary.proofs.CallerLemmas.{firsts-new, list_any-firsts, place-kept, place_again, place_last}
use Rattle.dictionary.proofs.CallerLemmas.{place_within, present, text_at_place}
use Rattle.dictionary.proofs.Texts.{AddsAt, IsShort, texts-one}

-- ---- codes below a count

abbrev pub Below : ℕ → List ℕ → Type 0
Below count codes = AllByRecursion (λ code. code < count) codes

abbrev other : ℕ → ℕ → Bool
other code found = not (found == code)

below_range : (count start many : ℕ) → start + many ≤ count → Below count (range_with_len start many)
below_range count start zero le = tt
below_range count start (suc many) le = (omega arith, below_range count (start + 1) many (omega arith))

below_back : (count code : ℕ) (codes : List ℕ) → code < count → Below count (filter (other code) codes)
    → Below count codes
below_back count code [] lt below = tt
below_back count code (first ∷ codes) lt below =
    by (λ rest. below_back count code codes lt rest) (first == code) refl below
  where
    by : (Below count (filter (other code) codes) → Below count codes)
        → (same : Bool) → (first == code) ≡ same
        → Below count (cond (not same) (first ∷ filter (other code) codes) (filter (other code) codes))
        → Below count (first ∷ codes)
    by back true is rest = let same : first ≡ code = eqb-true first code is in (omega arith, back rest)
    by back false is rest = (rest.0, back rest.1)

below_all : (count : ℕ) (codes : List ℕ) → Below count (first_codes codes) → Below count codes
below_all count [] below = tt
below_all count (code ∷ codes) below =
    (below.0, below_all count codes (below_back count code (first_codes codes) below.0 below.1))

below_filter : (count : ℕ) (p : ℕ → Bool) (codes : List ℕ) → Below count codes → Below count (filter p codes)
below_filter count p [] below = tt
below_filter count p (code ∷ codes) below =
    elim (p code) as (λ b. Below count (cond b (code ∷ filter p codes) (filter p codes))) [
      | true ↦ (below.0, below_filter count p codes below.1)
      | false ↦ below_filter count p codes below.1
    ]

below_firsts : (count : ℕ) (codes : List ℕ) → Below count codes → Below count (first_codes codes)
below_firsts count [] below = tt
below_firsts count (code ∷ codes) below =
    (below.0, below_filter count (other code) (first_codes codes) (below_firsts count codes below.1))

-- codes in order are below their count
pub AreCodes-below : (count : ℕ) (codes : List ℕ) → AreCodes count codes → Below count codes
AreCodes-below count codes are =
    below_all count codes (subst (Below count) (sym are) (below_range count 0 count (omega arith)))

-- ---- texts by their codes

module _ (texts : List (List ℕ)) (once : EachOnce texts) where
  -- the code of the text of a code is that code
  place_back : (code : ℕ) → code < length texts → place_of texts (text_of_code texts code) ≡ code
  place_back code lt = place_again texts code (text_of_code texts code) once (slice_get-get_or texts code [] lt)

  pub places_back : (codes : List ℕ) → Below (length texts) codes
      → map (place_of texts) (map (text_of_code texts) codes)
      ≡ codes
  places_back [] below = refl
  places_back (code ∷ codes) below = let head = place_back code below.0 in let tail = places_back codes below.1 in
      rw (head, tail) refl

  -- texts of two codes are the same where the codes are
  text_same : (code found : ℕ) → code < length texts → found < length texts
      → bytes_eq (text_of_code texts code) (text_of_code texts found) ≡ (found == code)
  text_same code found lt found_lt = by (bytes_eq (text_of_code texts code) (text_of_code texts found)) refl
    where
      by_codes : (same : Bool) → (found == code) ≡ same → bytes_eq (text_of_code texts code) (text_of_code texts found)
          ≡ false
          → false ≡ same
      by_codes true is differs =
          let same : found ≡ code = eqb-true found code is in
          let alike : bytes_eq (text_of_code texts code) (text_of_code texts found) ≡ true =
          ap (λ (n : ℕ). bytes_eq (text_of_code texts code) (text_of_code texts n)) same
          ∙ bytes_eq-refl (text_of_code texts code) in
          sym differs ∙ alike
      by_codes false is differs = refl

      by : (same : Bool) → bytes_eq (text_of_code texts code) (text_of_code texts found) ≡ same → same ≡ (found == code)
      by true is =
          let alike = bytes_eq-same (text_of_code texts code) (text_of_code texts found) is in
          let same : found ≡ code = sym (place_back found found_lt) ∙ sym (ap (place_of texts) alike)
          ∙ place_back code lt in
          sym (eq-eqb found code same)
      by false is = by_codes (found == code) refl is

  others_map : (code : ℕ) (codes : List ℕ) → code < length texts → Below (length texts) codes
      → filter (λ text. not (bytes_eq (text_of_code texts code) text)) (map (text_of_code texts) codes)
      ≡ map (text_of_code texts) (filter (other code) codes)
  others_map code [] lt below = refl
  others_map code (found ∷ codes) lt below =
      let rest = others_map code codes lt below.1 in
      ap (λ b. cond (not b)
      (text_of_code texts found ∷ filter (λ text. not (bytes_eq (text_of_code texts code) text))
      (map (text_of_code texts) codes))
      (filter (λ text. not (bytes_eq (text_of_code texts code) text)) (map (text_of_code texts) codes)))
      (text_same code found lt below.0)
      ∙ ap (λ l. cond (not (found == code)) (text_of_code texts found ∷ l) l) rest
      ∙ out (not (found == code))
    where
      out : (b : Bool)
          → cond b (text_of_code texts found ∷ map (text_of_code texts) (filter (other code) codes))
          (map (text_of_code texts) (filter (other code) codes))
          ≡ map (text_of_code texts) (cond b (found ∷ filter (other code) codes) (filter (other code) codes))
      out true = refl
      out false = refl

  firsts_map : (codes : List ℕ) → Below (length texts) codes
      → firsts (map (text_of_code texts) codes) ≡ map (text_of_code texts) (first_codes codes)
  firsts_map [] below = refl
  firsts_map (code ∷ codes) below =
      ap (λ l. text_of_code texts code ∷ filter (λ text. not (bytes_eq (text_of_code texts code) text)) l)
      (firsts_map codes below.1)
      ∙ ap (λ l. text_of_code texts code ∷ l)
      (others_map code (first_codes codes) below.0 (below_firsts (length texts) codes below.1))

-- codes in the order of first use, with every text used, represent one column: its texts are those of the dictionary,
-- and its codes are these
pub one_column : (texts : List (List ℕ)) (codes : List ℕ) → EachOnce texts → AreCodes (length texts) codes
    → (firsts (map (text_of_code texts) codes) ≡ texts) × (codes_of (map (text_of_code texts) codes) ≡ codes)
one_column texts codes once are =
    let below = AreCodes-below (length texts) codes are in
    let same : firsts (map (text_of_code texts) codes) ≡ texts =
    firsts_map texts once codes below ∙ ap (map (text_of_code texts)) are ∙ pick_l_whole [] texts (length texts) refl in
    (same, ap (λ l. map (place_of l) (map (text_of_code texts) codes)) same ∙ places_back texts once codes below)

-- ---- the codes of a column

abbrev Seen : List (List ℕ) → List (List ℕ) → Type 0
Seen texts column = AllByRecursion (λ text. list_any (bytes_eq text) texts ≡ true) column

each_seen : (P : List ℕ → Type 0) (column : List (List ℕ))
    → ((text : List ℕ) → list_any (bytes_eq text) column ≡ true → P text) → AllByRecursion P column
each_seen P [] has = tt
each_seen P (text ∷ column) has = (
  has text (ap (λ b. b || list_any (bytes_eq text) column) (bytes_eq-refl text)),
  each_seen P column
      (λ later seen. has later (ap (λ b. bytes_eq later text || b) seen ∙ or_true (bytes_eq later text))),
)
  where
    or_true : (b : Bool) → (b || true) ≡ true
    or_true true = refl
    or_true false = refl

seen_column : (column : List (List ℕ)) → Seen (firsts column) column
seen_column column = each_seen _ column (λ text seen. list_any-firsts text column ∙ seen)

seen_filter : (texts : List (List ℕ)) (p : List ℕ → Bool) (column : List (List ℕ)) → Seen texts column
    → Seen texts (filter p column)
seen_filter texts p [] seen = tt
seen_filter texts p (text ∷ column) seen =
    elim (p text) as (λ b. Seen texts (cond b (text ∷ filter p column) (filter p column))) [
      | true ↦ (seen.0, seen_filter texts p column seen.1)
      | false ↦ seen_filter texts p column seen.1
    ]

seen_firsts : (texts column : List (List ℕ)) → Seen texts column → Seen texts (firsts column)
seen_firsts texts [] seen = tt
seen_firsts texts (text ∷ column) seen =
    (seen.0, seen_filter texts (λ later. not (bytes_eq text later)) (firsts column) (seen_firsts texts column seen.1))

module _ (texts : List (List ℕ)) where
  -- the text of the code of a text is that text
  text_back : (text : List ℕ) → list_any (bytes_eq text) texts ≡ true → text_of_code texts (place_of texts text) ≡ text
  text_back text seen = text_at_place texts text (place_within (bytes_eq text) texts seen)

  texts_back : (column : List (List ℕ)) → Seen texts column → map (text_of_code texts) (map (place_of texts) column)
      ≡ column
  texts_back [] seen = refl
  texts_back (text ∷ column) seen = let head = text_back text seen.0 in let tail = texts_back column seen.1 in
      rw (head, tail) refl

  code_same : (text later : List ℕ) → list_any (bytes_eq text) texts ≡ true → list_any (bytes_eq later) texts ≡ true
      → (place_of texts later == place_of texts text) ≡ bytes_eq text later
  code_same text later seen later_seen = by (bytes_eq text later) refl
    where
      by_codes : (same : Bool) → (place_of texts later == place_of texts text) ≡ same → bytes_eq text later ≡ false
          → same ≡ false
      by_codes true is differs =
          let alike = ap (text_of_code texts) (eqb-true (place_of texts later) (place_of texts text) is) in
          let same : text ≡ later = sym (text_back text seen) ∙ sym alike ∙ text_back later later_seen in
          sym (bytes_eq-refl text) ∙ ap (bytes_eq text) same ∙ differs
      by_codes false is differs = refl

      by : (same : Bool) → bytes_eq text later ≡ same → (place_of texts later == place_of texts text) ≡ same
      by true is =
          eq-eqb (place_of texts later) (place_of texts text) (ap (place_of texts) (sym (bytes_eq-same text later is)))
      by false is = by_codes (place_of texts later == place_of texts text) refl is

  others_place : (text : List ℕ) (column : List (List ℕ)) → list_any (bytes_eq text) texts ≡ true → Seen texts column
      → filter (other (place_of texts text)) (map (place_of texts) column)
      ≡ map (place_of texts) (filter (λ later. not (bytes_eq text later)) column)
  others_place text [] here seen = refl
  others_place text (later ∷ column) here seen =
      let rest = others_place text column here seen.1 in
      ap (λ b. cond (not b) (place_of texts later ∷ filter (other (place_of texts text)) (map (place_of texts) column))
      (filter (other (place_of texts text)) (map (place_of texts) column)))
      (code_same text later here seen.0)
      ∙ ap (λ l. cond (not (bytes_eq text later)) (place_of texts later ∷ l) l) rest
      ∙ out (not (bytes_eq text later))
    where
      out : (b : Bool)
          → cond b (place_of texts later ∷ map (place_of texts) (filter (λ t. not (bytes_eq text t)) column))
          (map (place_of texts) (filter (λ t. not (bytes_eq text t)) column))
          ≡ map (place_of texts)
          (cond b (later ∷ filter (λ t. not (bytes_eq text t)) column) (filter (λ t. not (bytes_eq text t)) column))
      out true = refl
      out false = refl

  first_places : (column : List (List ℕ)) → Seen texts column
      → first_codes (map (place_of texts) column) ≡ map (place_of texts) (firsts column)
  first_places [] seen = refl
  first_places (text ∷ column) seen =
      ap (λ l. place_of texts text ∷ filter (other (place_of texts text)) l) (first_places column seen.1)
      ∙ ap (λ l. place_of texts text ∷ l) (others_place text (firsts column) seen.0 (seen_firsts texts column seen.1))

-- a column has codes, which are in the order of first use and represent it
pub column_has_codes : (column : List (List ℕ)) → AreCodes (length (firsts column)) (codes_of column)
    × (map (text_of_code (firsts column)) (codes_of column) ≡ column)
column_has_codes column =
    let texts : List (List ℕ) = firsts column in
    let count : ℕ = length texts in
    let seen = seen_column column in
    let whole : map (text_of_code texts) (range_with_len 0 count) ≡ texts = pick_l_whole [] texts count refl in
    let places : map (place_of texts) texts ≡ range_with_len 0 count =
    ap (map (place_of texts)) (sym whole)
    ∙ places_back texts (EachOnce-firsts column) (range_with_len 0 count)
    (below_range count 0 count (omega arith)) in
    (first_places texts column seen ∙ places, texts_back texts column seen)

-- ---- one text more

-- the code of a text that has one
pub place_is : (texts : List (List ℕ)) (text : List ℕ) (code : ℕ) → code_of texts text ≡ Some code
    → place_of texts text ≡ code
place_is texts text code is =
    let some = present texts text code is in
    let within = place_within (bytes_eq text) texts some in
    let test : nat_lt (place_of texts text) (length texts) ≡ true = grind arith in
    let here : Some (place_of texts text) ≡ Some code = sym (ap (λ b. cond b (Some (place_of texts text)) None) test)
    ∙ is in
    cc

places_kept : (column : List (List ℕ)) (text : List ℕ) (some : List (List ℕ))
    → AllByRecursion (λ t. list_any (bytes_eq t) column ≡ true) some
    → map (place_of (firsts (column ++ text ∷ []))) some ≡ map (place_of (firsts column)) some
places_kept column text [] seen = refl
places_kept column text (first ∷ some) seen =
    let head = place-kept column text first seen.0 in let tail = places_kept column text some seen.1 in
    rw (head, tail) refl

-- the codes of a column with one text more
pub codes_more : (column : List (List ℕ)) (text : List ℕ) → codes_of (column ++ text ∷ []) ≡ codes_of column
    ++ place_of (firsts (column ++ text ∷ [])) text ∷ []
codes_more column text =
    map-append (place_of (firsts (column ++ text ∷ []))) column (text ∷ [])
    ∙ ap (λ l. l ++ place_of (firsts (column ++ text ∷ [])) text ∷ [])
    (places_kept column text column (each_seen _ column (λ t seen. seen)))

-- a dictionary of the texts of a column, after the next text was added with its code
pub adds_column : (column : List (List ℕ)) (text : List ℕ) (before after : Texts) (code : ℕ)
    → before.texts ≡ firsts column → Adds before text (Some code) after
    → (after.texts ≡ firsts (column ++ text ∷ [])) × (after.limit ≡ before.limit)
    × (place_of (firsts (column ++ text ∷ [])) text ≡ code)
adds_column column text before after code are adds = first (code_of before.texts text) refl adds
  where
    first : (seen : Option ℕ) → code_of before.texts text ≡ seen → AddsAt before text seen (Some code) after
        → (after.texts ≡ firsts (column ++ text ∷ [])) × (after.limit ≡ before.limit)
        × (place_of (firsts (column ++ text ∷ [])) text ≡ code)
    first None is adds =
        let new : list_any (bytes_eq text) column ≡ false = sym (list_any-firsts text column)
        ∙ sym (ap (list_any (bytes_eq text)) are) ∙ absent before.texts text is in
        let whole = firsts-new column text new in (
          ap (λ (t : Texts). t.texts) adds.2 ∙ ap (λ l. l ++ text ∷ []) are ∙ sym whole,
          ap (λ (t : Texts). t.limit) adds.2,
          ap (λ l. place_of l text) whole
              ∙ place_last (bytes_eq text) (firsts column) text (list_any-firsts text column ∙ new) (bytes_eq-refl text)
              ∙ sym (ap length are) ∙ sym adds.0,
        )
    first (Some c) is adds =
        let seen : list_any (bytes_eq text) column ≡ true = sym (list_any-firsts text column)
        ∙ sym (ap (list_any (bytes_eq text)) are) ∙ present before.texts text c is in
        let whole = firsts-again column text seen in
        let same : c ≡ code = cc adds.0 in (
          ap (λ (t : Texts). t.texts) adds.1 ∙ are ∙ sym whole,
          ap (λ (t : Texts). t.limit) adds.1,
          ap (λ l. place_of l text) whole ∙ sym (ap (λ l. place_of l text) are) ∙ place_is before.texts text c is
              ∙ same,
        )

-- a column has no more different texts than texts
pub length-firsts : (column : List (List ℕ)) → length (firsts column) ≤ length column
length-firsts [] = omega arith
length-firsts (text ∷ column) =
    omega (
      arith,
      length-firsts column,
      length-filter (λ later. not (bytes_eq text later)) (firsts column),
      count_by-le-length (λ later. not (bytes_eq text later)) (firsts column),
    )

-- ---- spelling

-- the texts of a column are proper where they are short and few enough
pub AreProper-firsts : (limit : ℕ) (column : List (List ℕ)) → AreShort column → length (firsts column) ≤ limit
    → AreProper limit (firsts column)
AreProper-firsts limit column short few =
    record { each_once = EachOnce-firsts column; short = shorts column short; most = few }
  where
    shorts : (xs : List (List ℕ)) → AreShort xs → AreShort (firsts xs)
    shorts [] all = all
    shorts (x ∷ xs) all =
        All-cons IsShort x (filter (λ later. not (bytes_eq x later)) (firsts xs)) (All-head IsShort x xs all)
        (All-filter (λ later. not (bytes_eq x later)) IsShort (firsts xs) (shorts xs (All-tail IsShort x xs all)))

-- bytes begin with the texts of one dictionary at most
pub texts_spelling-one : (limit : ℕ) (texts others : List (List ℕ)) (xs ys : List ℕ) → limit < 2 ^ 32
    → AreProper limit texts → AreProper limit others
    → texts_spelling texts ++ xs ≡ texts_spelling others ++ ys → (texts ≡ others) × (xs ≡ ys)
texts_spelling-one limit texts others xs ys small proper also same =
    let parts = sym (append_assoc (spelling 4 (length texts)) (flat_map text_spelling texts) xs) ∙ same
    ∙ append_assoc (spelling 4 (length others)) (flat_map text_spelling others) ys in
    let counts = spelling-one 4 (length texts) (length others) (flat_map text_spelling texts ++ xs)
    (flat_map text_spelling others ++ ys)
    (omega (arith, proper.most)) (omega (arith, also.most)) parts in
    texts-one texts others xs ys proper.short also.short counts.0 counts.1
