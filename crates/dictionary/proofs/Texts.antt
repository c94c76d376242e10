-- Texts one after the other. Our own.
use Rattle.std.proofs.Common.{◌≡◌, ◌<◌, ◌≤◌, ◌∙◌, sym, refl, subst, arith, ℕ, false, Option, Some, MatchOption, map}
use Rattle.std.proofs.Common.{List, [], ◌∷◌, ◌++◌, length, All, append_assoc}
use Rattle.std.specs.Str.{bytes_eq}
use Rattle.std.specs.List.{flat_map, list_any}
use Rattle.std.proofs.Math.ListN.{get_or-map}
use Rattle.std.proofs.lemmas.List.{length-map}
use Rattle.std.proofs.lemmas.List.Elements.{All-head, All-tail}
use Rattle.std.proofs.lemmas.List.Folds.{list_any-append}
use Rattle.cube_model.specs.Limits.{longest_text}
use Rattle.wire.specs.Spelling.{spelling}
use Rattle.wire.proofs.CallerLemmas.{spelling-one}
use Rattle.dictionary.specs.Dictionary.{EachOnce, Texts, with_text}
use Rattle.dictionary.specs.Spelling.{AreShort, text_spelling}
use Rattle.dictionary.proofs.CallerLemmas.{bytes_eq-symm, or_first, or_second, or_both}

abbrev pub IsShort : List ℕ → Type 0
IsShort text = length text ≤ longest_text

-- parts one after the other, where two lists begin with one of the same length
same_front : (a b xs ys : List ℕ) → length a ≡ length b → a ++ xs ≡ b ++ ys → (a ≡ b) × (xs ≡ ys)
same_front [] [] xs ys many same = (refl, same)
same_front [] (y ∷ b) xs ys many same = absurd (omega arith)
same_front (x ∷ a) [] xs ys many same = absurd (omega arith)
same_front (x ∷ a) (y ∷ b) xs ys many same =
    let head : x ≡ y = cc in
    let tail : a ++ xs ≡ b ++ ys = cc in
    let rest = same_front a b xs ys (omega arith) tail in
    (rw (head, rest.0) refl, rest.1)

same_cons : (a b : List ℕ) (xs ys : List (List ℕ)) → a ≡ b → xs ≡ ys → a ∷ xs ≡ b ∷ ys
same_cons a b xs ys head tail = rw (head, tail) refl

-- texts that are kept in something
pub shorts_of : {A : Type 0} (f : A → List ℕ) (xs : List A) → AreShort (map f xs)
    → All (λ x. length (f x) ≤ longest_text) xs
shorts_of f xs short = λ i d lt. subst IsShort (get_or-map f xs i d) (short i (f d) (omega (arith, length-map xs f)))

-- bytes begin with one text at most
pub text_spelling-one : (a b xs ys : List ℕ) → length a ≤ longest_text → length b ≤ longest_text
    → text_spelling a ++ xs ≡ text_spelling b ++ ys → (a ≡ b) × (xs ≡ ys)
text_spelling-one a b xs ys a_short b_short same =
    let parts : spelling 1 (length a) ++ (a ++ xs) ≡ spelling 1 (length b) ++ (b ++ ys) =
    sym (append_assoc (spelling 1 (length a)) a xs) ∙ same ∙ append_assoc (spelling 1 (length b)) b ys in
    let counts = spelling-one 1 (length a) (length b) (a ++ xs) (b ++ ys) (omega arith) (omega arith) parts in
    same_front a b xs ys counts.0 counts.1

-- what is after texts that others begin with
pub record After (texts all : List (List ℕ)) (left rest : List ℕ) : Type 0 where
  pub next : List ℕ
  pub others : List (List ℕ)
  pub whole : all ≡ texts ++ next ∷ others
  pub left_is : left ≡ text_spelling next ++ (flat_map text_spelling others ++ rest)

pub rest_after : (texts all : List (List ℕ)) (left rest : List ℕ) → AreShort texts → AreShort all
    → length texts < length all
    → flat_map text_spelling texts ++ left ≡ flat_map text_spelling all ++ rest → After texts all left rest
rest_after [] [] left rest short all_short fewer same = absurd (omega arith)
rest_after [] (next ∷ others) left rest short all_short fewer same =
    record {
      next = next;
      others = others;
      whole = refl;
      left_is = same
          ∙ append_assoc (text_spelling next) (flat_map text_spelling others) rest;
    }
rest_after (text ∷ texts) [] left rest short all_short fewer same = absurd (omega arith)
rest_after (text ∷ texts) (first ∷ all) left rest short all_short fewer same =
    let parts = sym (append_assoc (text_spelling text) (flat_map text_spelling texts) left) ∙ same
    ∙ append_assoc (text_spelling first) (flat_map text_spelling all) rest in
    let one = text_spelling-one text first (flat_map text_spelling texts ++ left) (flat_map text_spelling all ++ rest)
    (All-head IsShort text texts short) (All-head IsShort first all all_short) parts in
    let more = rest_after texts all left rest (All-tail IsShort text texts short) (All-tail IsShort first all all_short)
    (omega arith) one.1 in
    record {
      next = more.next;
      others = more.others;
      whole = same_cons first text all (texts ++ more.next ∷ more.others)
          (sym one.0) more.whole;
      left_is = more.left_is;
    }

-- a text that occurs once is not among those before it
pub new_after : (texts others : List (List ℕ)) (next : List ℕ) → EachOnce (texts ++ next ∷ others)
    → list_any (bytes_eq next) texts ≡ false
new_after [] others next once = refl
new_after (text ∷ texts) others next once =
    let apart = or_second _ _ (sym (list_any-append (bytes_eq text) texts (next ∷ others)) ∙ once.0) in
    or_both _ _ (bytes_eq-symm next text ∙ or_first _ _ apart) (new_after texts others next once.1)

-- as many texts as bytes begin with are one list at most
pub texts-one : (texts all : List (List ℕ)) (left rest : List ℕ) → AreShort texts → AreShort all
    → length texts ≡ length all
    → flat_map text_spelling texts ++ left ≡ flat_map text_spelling all ++ rest → (texts ≡ all) × (left ≡ rest)
texts-one [] [] left rest short all_short many same = (refl, same)
texts-one [] (first ∷ all) left rest short all_short many same = absurd (omega arith)
texts-one (text ∷ texts) [] left rest short all_short many same = absurd (omega arith)
texts-one (text ∷ texts) (first ∷ all) left rest short all_short many same =
    let parts = sym (append_assoc (text_spelling text) (flat_map text_spelling texts) left) ∙ same
    ∙ append_assoc (text_spelling first) (flat_map text_spelling all) rest in
    let one = text_spelling-one text first (flat_map text_spelling texts ++ left) (flat_map text_spelling all ++ rest)
    (All-head IsShort text texts short) (All-head IsShort first all all_short) parts in
    let more = texts-one texts all left rest (All-tail IsShort text texts short) (All-tail IsShort first all all_short)
    (omega arith) one.1 in
    (same_cons text first texts all one.0 more.0, more.1)

-- what an addition did, by the code that the text had before
abbrev pub AddsAt : Texts → List ℕ → Option ℕ → Option ℕ → Texts → Type 0
AddsAt old text before code new = MatchOption before
    (MatchOption code ((old.limit ≤ length old.texts) × (new ≡ old))
    (λ c. (c ≡ length old.texts) × (length old.texts < old.limit) × (new ≡ with_text old text)))
    (λ c. (code ≡ Some c) × (new ≡ old))
