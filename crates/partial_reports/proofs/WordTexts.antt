-- A text tells the words that it begins with.
use Rattle.std.proofs.Common.{◌≡◌, ◌∙◌, sym, ap, refl, ℕ, Bool, true, false, List, [], ◌∷◌, ◌++◌, length, get_or}
use Rattle.std.proofs.Common.{append_assoc, arith}
use Rattle.std.specs.Prelude.{nat_le, if◌then◌else◌}
use Rattle.std.specs.List.{flat_map, list_all}
use Rattle.std.proofs.lemmas.Bool.{and_parts}
use Rattle.std.proofs.lemmas.List.{append_cancel_left}
use Rattle.partial_reports.specs.declared.words.Word.{Word}
use Rattle.partial_reports.specs.declared.words.WordKind.{WordKind}
use Rattle.partial_reports.specs.declared.words.WordKind.TheVariants.{Q, Set, By, Agg, If}
use Rattle.partial_reports.specs.Head.{is_line_feed, is_short_word, kind_by, kind_text, longest_word, word_text}
use Rattle.partial_reports.proofs.Cuts.{cut_by}

-- the letter with which the name of a kind begins
pub kind_read : (kind : WordKind) (r : List ℕ) → kind_by (get_or (kind_text kind ++ r) 0 0) ≡ kind
kind_read Q r = refl
kind_read Set r = refl
kind_read By r = refl
kind_read Agg r = refl
kind_read If r = refl

kind_same : (one other : WordKind) (r s : List ℕ) → kind_text one ++ r ≡ kind_text other ++ s → one ≡ other
kind_same one other r s e = sym (kind_read one r) ∙ ap (λ (l : List ℕ). kind_by (get_or l 0 0)) e ∙ kind_read other s

-- the name of a kind begins with no line feed
pub kind_starts : (kind : WordKind) (r s : List ℕ) → kind_text kind ++ r ≡ 10 ∷ s → ⊥
kind_starts Q r s e = omega (arith, ap (λ (l : List ℕ). get_or l 0 0) e)
kind_starts Set r s e = omega (arith, ap (λ (l : List ℕ). get_or l 0 0) e)
kind_starts By r s e = omega (arith, ap (λ (l : List ℕ). get_or l 0 0) e)
kind_starts Agg r s e = omega (arith, ap (λ (l : List ℕ). get_or l 0 0) e)
kind_starts If r s e = omega (arith, ap (λ (l : List ℕ). get_or l 0 0) e)

-- a byte that is no line feed
abbrev pub is_inner : ℕ → Bool
is_inner byte = if is_line_feed byte then false else true

pub inner : (word : Word) → is_short_word word ≡ true → list_all is_inner word.text ≡ true
inner word e = (and_parts (nat_le (length word.text) longest_word) (list_all is_inner word.text) e).1

-- the words, and the empty line after them
abbrev pub words_end : List Word → List ℕ → List ℕ
words_end words r = flat_map word_text words ++ 10 ∷ r

-- one word, and what is after it
pub word_front : (word : Word) (words : List Word) (r : List ℕ)
    → words_end (word ∷ words) r ≡ kind_text word.kind ++ (word.text ++ 10 ∷ words_end words r)
word_front word words r =
    append_assoc (word_text word) (flat_map word_text words) (10 ∷ r)
    ∙ append_assoc (kind_text word.kind) (word.text ++ 10 ∷ []) (words_end words r)
    ∙ ap (λ l. kind_text word.kind ++ l) (append_assoc word.text (10 ∷ []) (words_end words r))

word_same : (one other : Word) (r s : List ℕ) → is_short_word one ≡ true → is_short_word other ≡ true
    → kind_text one.kind ++ (one.text ++ 10 ∷ r) ≡ kind_text other.kind ++ (other.text ++ 10 ∷ s)
    → (one ≡ other) × (r ≡ s)
word_same one other r s p q e =
    let kinds = kind_same one.kind other.kind (one.text ++ 10 ∷ r) (other.text ++ 10 ∷ s) e in
    let texts = append_cancel_left (kind_text one.kind) (one.text ++ 10 ∷ r) (other.text ++ 10 ∷ s)
    (e ∙ ap (λ kind. kind_text kind ++ (other.text ++ 10 ∷ s)) (sym kinds)) in
    let halves = cut_by is_inner one.text other.text (10 ∷ r) (10 ∷ s) (inner one p) (inner other q) refl refl texts in
    let rest : r ≡ s = ap (λ (l : List ℕ). tail_of l) halves.1 in
    ((λ i. record { kind = kinds i; text = halves.0 i }), rest)
  where
    tail_of : List ℕ → List ℕ
    tail_of [] = []
    tail_of (x ∷ xs) = xs

-- words, and what is after the empty line
pub words_same : (ones others : List Word) (r s : List ℕ) → list_all is_short_word ones ≡ true
    → list_all is_short_word others ≡ true
    → flat_map word_text ones ++ 10 ∷ r ≡ flat_map word_text others ++ 10 ∷ s → (ones ≡ others) × (r ≡ s)
words_same [] [] r s p q e = let rest : r ≡ s = cc in (refl, rest)
words_same [] (b ∷ others) r s p q e =
    absurd (kind_starts b.kind (b.text ++ 10 ∷ words_end others s) r (sym (word_front b others s) ∙ sym e))
words_same (a ∷ ones) [] r s p q e =
    absurd (kind_starts a.kind (a.text ++ 10 ∷ words_end ones r) s (sym (word_front a ones r) ∙ e))
words_same (a ∷ ones) (b ∷ others) r s p q e =
    let here = and_parts (is_short_word a) (list_all is_short_word ones) p in
    let there = and_parts (is_short_word b) (list_all is_short_word others) q in
    let halves =
    word_same a b (words_end ones r) (words_end others s) here.0 there.0
    (sym (word_front a ones r) ∙ e ∙ word_front b others s) in
    let rest = words_same ones others r s here.1 there.1 halves.1 in
    ((λ i. halves.0 i ∷ rest.0 i), rest.1)
