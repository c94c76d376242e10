-- The lines of words.
use Rattle.std.proofs.Common.{◌≡◌, ◌∙◌, sym, ap, refl, subst, ℕ, ◌+◌, ◌≤◌, ◌<◌, Bool, true, false, List, [], ◌∷◌, ◌++◌}
use Rattle.std.proofs.Common.{length, append_assoc, append-nil, length-append, Some, None, ◌⊎◌, inl, inr, arith}
use Rattle.std.specs.Prelude.{◌==◌, slice_get, cond}
use Rattle.std.specs.List.{flat_map, list_all}
use Rattle.std.proofs.lemmas.Bool.{and_parts, both_ways, eqb-true}
use Rattle.std.proofs.lemmas.Option.{none-some, same_Some}
use Rattle.partial_reports.specs.declared.words.Word.{Word}
use Rattle.partial_reports.specs.declared.words.WordKind.{WordKind}
use Rattle.partial_reports.specs.declared.words.WordKind.TheVariants.{Q, Set, By, Agg, If}
use Rattle.partial_reports.specs.Head.{is_short_word, kind_by, kind_text, word_text}
use Rattle.partial_reports.specs.Readable.{HasNoByte}
use Rattle.partial_reports.proofs.NumbersLeft.{lack_both}
use Rattle.partial_reports.proofs.WordTexts.{inner, is_inner, word_front}

-- the first byte of a word's line tells its kind
pub first_read : (kind : WordKind) (text : List ℕ) (letter : ℕ) → Some letter ≡ slice_get (kind_text kind ++ text) 0
    → kind_by letter ≡ kind
first_read Q text letter e = ap kind_by (same_Some letter 113 e)
first_read Set text letter e = ap kind_by (same_Some letter 115 e)
first_read By text letter e = ap kind_by (same_Some letter 98 e)
first_read Agg text letter e = ap kind_by (same_Some letter 97 e)
first_read If text letter e = ap kind_by (same_Some letter 105 e)

pub first_some : (kind : WordKind) (text : List ℕ) → None ≡ slice_get (kind_text kind ++ text) 0 → ⊥
first_some Q text e = none-some 113 e
first_some Set text e = none-some 115 e
first_some By text e = none-some 98 e
first_some Agg text e = none-some 97 e
first_some If text e = none-some 105 e

kind_lacks : (kind : WordKind) → HasNoByte 10 (kind_text kind)
kind_lacks Q = (refl, (refl, tt))
kind_lacks Set = (refl, (refl, (refl, (refl, tt))))
kind_lacks By = (refl, (refl, (refl, tt)))
kind_lacks Agg = (refl, (refl, (refl, (refl, tt))))
kind_lacks If = (refl, (refl, (refl, tt)))

kind_long : (kind : WordKind) → 0 < length (kind_text kind)
kind_long Q = omega arith
kind_long Set = omega arith
kind_long By = omega arith
kind_long Agg = omega arith
kind_long If = omega arith

turned : (b : Bool) → (cond b false true) ≡ true → b ≡ false
turned true e = cc
turned false e = refl

inner_lacks : (text : List ℕ) → list_all is_inner text ≡ true → HasNoByte 10 text
inner_lacks [] e = tt
inner_lacks (byte ∷ text) e =
    let parts = and_parts (is_inner byte) (list_all is_inner text) e in
    (turned (byte == 10) parts.0, inner_lacks text parts.1)

-- a word on a line
abbrev pub word_line : Word → List ℕ
word_line word = kind_text word.kind ++ word.text

-- what is left of words, after some of them were read from some bytes
pub record WordsLeft (words read : List Word) (text left : List ℕ) (taken all : ℕ) : Type 0 where
  pub rest : List Word
  pub short : list_all is_short_word rest ≡ true
  pub is : words ≡ read ++ rest
  pub spelled : text ≡ flat_map word_text rest ++ 10 ∷ left
  pub room : taken + length text ≤ all

-- no word
pub record IsEnd (words read : List Word) (text left : List ℕ) : Type 0 where
  pub is : read ≡ words
  pub spelled : text ≡ [] ++ 10 ∷ left

-- another word
pub record IsNextWord (words read : List Word) (text left : List ℕ) (taken all : ℕ) : Type 0 where
  pub word : Word
  pub others : List ℕ
  pub lacks : HasNoByte 10 (word_line word)
  pub long : 0 < length (word_line word)
  pub spelled : text ≡ word_line word ++ 10 ∷ others
  pub more : WordsLeft words (read ++ word ∷ []) others left (taken + 1) all

pub end_or_word : (words read : List Word) (text left : List ℕ) (taken all : ℕ)
    → WordsLeft words read text left taken all
    → IsEnd words read text left ⊎ IsNextWord words read text left taken all
end_or_word words read text left taken all w = by w.rest w.short w.is w.spelled w.room
  where
    by : (rest : List Word) → list_all is_short_word rest ≡ true → words ≡ read ++ rest
        → text ≡ flat_map word_text rest ++ 10 ∷ left → taken + length text ≤ all
        → IsEnd words read text left ⊎ IsNextWord words read text left taken all
    by [] short is spelled room = inl (record { is = sym (is ∙ append-nil read); spelled = spelled })
    by (word ∷ rest) short is spelled room =
        let parts = and_parts (is_short_word word) (list_all is_short_word rest) short in
        let others : List ℕ = flat_map word_text rest ++ 10 ∷ left in
        let front : text ≡ word_line word ++ 10 ∷ others = spelled ∙ word_front word rest left
        ∙ sym (append_assoc (kind_text word.kind) word.text (10 ∷ others)) in
        let long : 0 < length (word_line word) =
        omega (arith, length-append (kind_text word.kind) word.text, kind_long word.kind) in
        inr (record {
          word = word;
          others = others;
          lacks = lack_both 10 (kind_text word.kind) word.text (kind_lacks word.kind)
              (inner_lacks word.text (inner word parts.0));
          long = long;
          spelled = front;
          more = record {
            rest = rest;
            short = parts.1;
            is = is ∙ sym (append_assoc read (word ∷ []) rest);
            spelled = refl;
            room = omega (arith, ap length front, length-append (word_line word) (10 ∷ others), long, room);
          };
        })

-- the next word was read
pub word_read : (words read new : List Word) (text left after : List ℕ) (taken all : ℕ) (word : Word)
    (next : IsNextWord words read text left taken all)
    → word ≡ next.word → new ≡ read ++ word ∷ [] → after ≡ next.others → WordsLeft words new after left (taken + 1) all
word_read words read new text left after taken all word next same added moved =
    let more = next.more in
    record {
      rest = more.rest;
      short = more.short;
      is = more.is ∙ ap (λ w. (read ++ w ∷ []) ++ more.rest) (sym same) ∙ ap (λ r. r ++ more.rest) (sym added);
      spelled = moved ∙ more.spelled;
      room = subst (λ t. taken + 1 + length t ≤ all) (sym moved) more.room;
    }

-- a line that was found empty, and one that was not
pub not_empty : (line word : List ℕ) (r : Bool) → line ≡ word → 0 < length word → r ≡ (length line == 0) → r ≡ true → ⊥
not_empty line word r is long test e = omega (arith, eqb-true (length line) 0 (sym test ∙ e), ap length is, long)

pub not_full : (line : List ℕ) (r : Bool) → line ≡ [] → r ≡ (length line == 0) → r ≡ false → ⊥
not_full line r is test e = both_ways r e (test ∙ ap (λ (l : List ℕ). length l == 0) is)
