-- Lemmas of `laws`, by subject.
use Rattle.std.proofs.Common.{◌≡◌, ◌∙◌, sym, ap, subst, refl, ℕ, ◌<◌, true, false, cond, List, [], ◌∷◌, ◌++◌, length}
use Rattle.std.proofs.Common.{arith, inl, inr, append_assoc, append-nil, Bool, Some, None, length-append}
use Rattle.std.specs.Prelude.{◌==◌, ◌⊎◌, suc, zero, Option}
use Rattle.std.specs.List.{AllByRecursion, All, join_with_byte, onto_first}
use Rattle.std.proofs.lemmas.Bool.Decides.{nat_tests}
use Rattle.batch_loader.specs.Lines.{lines_of, onto_first_line}
use Rattle.batch_loader.specs.Grammar.{HasNoLf, ended, EndsWithoutLf, SpellsLines, HasNoBar, SpellsFields}
use Rattle.batch_loader.specs.Grammar.{FieldsAreSpelled, LinesAreSpelled}
use Rattle.std.specs.Option.{option_map}
use Rattle.std.proofs.lemmas.List.Splits.{slice_split_at, slice_split_none, join_with_byte-slice_split}
use Rattle.batch_loader.specs.Fields.{between_bars, first_parts, without_cr, fields_of}

-- ==== What the lines of a text spell.

no_lf-onto : (byte : ℕ) (lines : List (List ℕ)) → (byte == 10) ≡ false → AllByRecursion HasNoLf lines
    → AllByRecursion HasNoLf (onto_first_line byte lines)
no_lf-onto byte [] other none = ((other, tt), tt)
no_lf-onto byte (line ∷ lines) other none = ((other, none.0), none.1)

lines-no_lf : (text : List ℕ) → AllByRecursion HasNoLf (lines_of text)
lines-no_lf [] = tt
lines-no_lf (byte ∷ text) =
    (elim (byte == 10) as
    (λ b. (byte == 10) ≡ b
    → AllByRecursion HasNoLf (cond b ([] ∷ lines_of text) (onto_first_line byte (lines_of text)))) [
      | true ↦ λ is. (tt, lines-no_lf text)
      | false ↦ λ is. no_lf-onto byte (lines_of text) is (lines-no_lf text)
    ]) refl

is_lf : (byte : ℕ) → (byte == 10) ≡ true → byte ≡ 10
is_lf byte is = grind (arith, nat_tests)

-- an LF in front is an empty line
after-lf : (byte : ℕ) (text : List ℕ) (lines : List (List ℕ)) → byte ≡ 10 → (text ≡ ended lines)
    ⊎ EndsWithoutLf text lines
    → (byte ∷ text ≡ ended ([] ∷ lines)) ⊎ EndsWithoutLf (byte ∷ text) ([] ∷ lines)
after-lf byte text lines lf (inl is) = inl (ap (λ first. first ∷ text) lf ∙ ap (λ rest. 10 ∷ rest) is)
after-lf byte text lines lf (inr cut) = inr record {
  front = [] ∷ cut.front;
  last = cut.last;
  lines_are = ap (λ rest. [] ∷ rest) cut.lines_are;
  text_is = ap (λ first. first ∷ text) lf ∙ ap (λ rest. 10 ∷ rest) cut.text_is;
  some = cut.some;
}

not_none : (front : List (List ℕ)) (last : List ℕ) → [] ≡ front ++ last ∷ [] → ⊥
not_none [] last is = cc
not_none (line ∷ front) last is = cc

onto-cut : (byte : ℕ) (text : List ℕ) (lines front : List (List ℕ)) (last : List ℕ) → lines ≡ front ++ last ∷ []
    → text ≡ ended front ++ last → 0 < length last
    → EndsWithoutLf (byte ∷ text) (onto_first_line byte lines)
onto-cut byte text lines [] last are is some = record {
  front = [];
  last = byte ∷ last;
  lines_are = ap (onto_first_line byte) are;
  text_is = ap (λ rest. byte ∷ rest) is;
  some = omega arith;
}
onto-cut byte text lines (first ∷ front) last are is some = record {
  front = (byte ∷ first) ∷ front;
  last = last;
  lines_are = ap (onto_first_line byte) are;
  text_is = ap (λ rest. byte ∷ rest) is;
  some = some;
}

-- another byte in front is the first line's
after-byte : (byte : ℕ) (text : List ℕ) (lines : List (List ℕ)) → (text ≡ ended lines) ⊎ EndsWithoutLf text lines
    → (byte ∷ text ≡ ended (onto_first_line byte lines)) ⊎ EndsWithoutLf (byte ∷ text) (onto_first_line byte lines)
after-byte byte text [] (inl is) = inr record {
  front = [];
  last = byte ∷ [];
  lines_are = refl;
  text_is = ap (λ rest. byte ∷ rest) is;
  some = omega arith;
}
after-byte byte text [] (inr cut) = absurd (not_none cut.front cut.last cut.lines_are)
after-byte byte text (line ∷ lines) (inl is) = inl (ap (λ rest. byte ∷ rest) is)
after-byte byte text (line ∷ lines) (inr cut) =
    inr (onto-cut byte text (line ∷ lines) cut.front cut.last cut.lines_are cut.text_is cut.some)

lines-spelled : (text : List ℕ) → (text ≡ ended (lines_of text)) ⊎ EndsWithoutLf text (lines_of text)
lines-spelled [] = inl refl
lines-spelled (byte ∷ text) =
    (elim (byte == 10) as
    (λ b. (byte == 10) ≡ b
    → (byte ∷ text ≡ ended (cond b ([] ∷ lines_of text) (onto_first_line byte (lines_of text))))
    ⊎ EndsWithoutLf (byte ∷ text) (cond b ([] ∷ lines_of text) (onto_first_line byte (lines_of text)))) [
      | true ↦ λ is. after-lf byte text (lines_of text) (is_lf byte is) (lines-spelled text)
      | false ↦ λ is. after-byte byte text (lines_of text) (lines-spelled text)
    ]) refl

pub text-spells : (text : List ℕ) (lines : List (List ℕ)) → lines_of text ≡ lines → SpellsLines text lines
text-spells text lines is =
    subst (SpellsLines text) is (record { no_lf = lines-no_lf text; spelled = lines-spelled text })

line-end : (line rest : List ℕ) → HasNoLf line → lines_of (line ++ 10 ∷ rest) ≡ line ∷ lines_of rest
line-end [] rest none = refl
line-end (byte ∷ line) rest none =
    ap (λ b. cond b ([] ∷ lines_of (line ++ 10 ∷ rest)) (onto_first_line byte (lines_of (line ++ 10 ∷ rest)))) none.0
    ∙ ap (onto_first_line byte) (line-end line rest none.1)

last-line : (last : List ℕ) → HasNoLf last → 0 < length last → lines_of last ≡ last ∷ []
last-line [] none some = absurd (omega arith)
last-line (byte ∷ []) none some = ap (λ b. cond b ([] ∷ []) ((byte ∷ []) ∷ [])) none.0
last-line (byte ∷ next ∷ last) none some =
    ap (λ b. cond b ([] ∷ lines_of (next ∷ last)) (onto_first_line byte (lines_of (next ∷ last)))) none.0
    ∙ ap (onto_first_line byte) (last-line (next ∷ last) none.1 (omega arith))

lines-ended : (lines : List (List ℕ)) (rest : List ℕ) → AllByRecursion HasNoLf lines
    → lines_of (ended lines ++ rest) ≡ lines ++ lines_of rest
lines-ended [] rest none = refl
lines-ended (line ∷ lines) rest none =
    ap lines_of (append_assoc line (10 ∷ ended lines) rest) ∙ line-end line (ended lines ++ rest) none.0
    ∙ ap (λ others. line ∷ others) (lines-ended lines rest none.1)

lines-front : (front : List (List ℕ)) (last : List ℕ) → AllByRecursion HasNoLf (front ++ last ∷ [])
    → AllByRecursion HasNoLf front
lines-front [] last none = tt
lines-front (line ∷ front) last none = (none.0, lines-front front last none.1)

all-last : (front : List (List ℕ)) (last : List ℕ) → AllByRecursion HasNoLf (front ++ last ∷ []) → HasNoLf last
all-last [] last none = none.0
all-last (line ∷ front) last none = all-last front last none.1

lines-spelled_by : (text : List ℕ) (lines : List (List ℕ)) → AllByRecursion HasNoLf lines → (text ≡ ended lines)
    ⊎ EndsWithoutLf text lines → lines_of text ≡ lines
lines-spelled_by text lines none (inl is) = ap lines_of (is ∙ sym (append-nil (ended lines)))
    ∙ lines-ended lines [] none
    ∙ append-nil lines
lines-spelled_by text lines none (inr cut) =
    let without : AllByRecursion HasNoLf (cut.front ++ cut.last ∷ []) =
    subst (AllByRecursion HasNoLf) cut.lines_are none in
    ap lines_of cut.text_is ∙ lines-ended cut.front cut.last (lines-front cut.front cut.last without)
    ∙ ap (λ others. cut.front ++ others) (last-line cut.last (all-last cut.front cut.last without) cut.some)
    ∙ sym cut.lines_are

pub spelled-lines : (text : List ℕ) (lines : List (List ℕ)) → SpellsLines text lines → lines_of text ≡ lines
spelled-lines text lines spells = lines-spelled_by text lines spells.no_lf spells.spelled

-- ==== What the parts of a line spell.

abbrev is_bar : ℕ → Bool
is_bar byte = byte == 124

no_bar-onto : (byte : ℕ) (parts : List (List ℕ)) → is_bar byte ≡ false → AllByRecursion HasNoBar parts
    → AllByRecursion HasNoBar (onto_first byte parts)
no_bar-onto byte [] other none = ((other, tt), tt)
no_bar-onto byte (part ∷ parts) other none = ((other, none.0), none.1)

-- no part has a bar
parts-no_bar : (text : List ℕ) → AllByRecursion HasNoBar (between_bars text)
parts-no_bar [] = (tt, tt)
parts-no_bar (byte ∷ text) =
    (elim (is_bar byte) as
    (λ b. is_bar byte ≡ b
    → AllByRecursion HasNoBar (cond b ([] ∷ between_bars text) (onto_first byte (between_bars text)))) [
      | true ↦ λ is. (tt, parts-no_bar text)
      | false ↦ λ is. no_bar-onto byte (between_bars text) is (parts-no_bar text)
    ]) refl

-- n parts, or n and an empty one
IsFirst : ℕ → List (List ℕ) → List (List ℕ) → Type 0
IsFirst n parts fields = (length fields ≡ n) × ((parts ≡ fields) ⊎ (parts ≡ fields ++ [] ∷ []))

first-more : (n : ℕ) (part : List ℕ) (parts others : List (List ℕ)) → IsFirst n parts others
    → IsFirst (suc n) (part ∷ parts) (part ∷ others)
unfolding IsFirst
first-more n part parts others (count, inl is) = (ap suc count, inl (ap (λ rest. part ∷ rest) is))
first-more n part parts others (count, inr is) = (ap suc count, inr (ap (λ rest. part ∷ rest) is))

first_parts-is : (n : ℕ) (parts fields : List (List ℕ)) → first_parts n parts ≡ Some fields → IsFirst n parts fields
unfolding IsFirst
first_parts-is zero [] [] is = (refl, inl refl)
first_parts-is zero [] (field ∷ fields) is = absurd (cc)
first_parts-is zero ([] ∷ []) [] is = (refl, inr refl)
first_parts-is zero ([] ∷ []) (field ∷ fields) is = absurd (cc)
first_parts-is zero ([] ∷ part ∷ parts) fields is = absurd (cc)
first_parts-is zero ((byte ∷ part) ∷ parts) fields is = absurd (cc)
first_parts-is (suc n) [] fields is = absurd (cc)
first_parts-is (suc n) (part ∷ parts) [] is =
    absurd ((elim (first_parts n parts) as (λ found. option_map (λ others. part ∷ others) found ≡ Some [] → ⊥) [
      | None ↦ λ e. cc
      | Some others ↦ λ e. cc
    ]) is)
first_parts-is (suc n) (part ∷ parts) (field ∷ fields) is =
    subst (λ first. IsFirst (suc n) (part ∷ parts) (first ∷ fields)) (head (first_parts n parts) is)
    (first-more n part parts fields (first_parts-is n parts fields (rest (first_parts n parts) is)))
  where
    head : (found : Option (List (List ℕ))) → option_map (λ others. part ∷ others) found ≡ Some (field ∷ fields)
        → part ≡ field
    head None e = absurd (cc)
    head (Some others) e = cc

    rest : (found : Option (List (List ℕ))) → option_map (λ others. part ∷ others) found ≡ Some (field ∷ fields)
        → found ≡ Some fields
    rest None e = absurd (cc)
    rest (Some others) e = cc

-- one empty field more is one bar more
join-empty : (fields : List (List ℕ)) → 0 < length fields
    → join_with_byte 124 (fields ++ [] ∷ []) ≡ join_with_byte 124 fields ++ 124 ∷ []
join-empty [] some = absurd (omega arith)
join-empty (field ∷ []) some = refl
join-empty (field ∷ next ∷ fields) some =
    ap (λ rest. field ++ 124 ∷ rest) (join-empty (next ∷ fields) (omega arith))
    ∙ sym (append_assoc field (124 ∷ join_with_byte 124 (next ∷ fields)) (124 ∷ []))

all-front : (fields others : List (List ℕ)) → AllByRecursion HasNoBar (fields ++ others)
    → AllByRecursion HasNoBar fields
all-front [] others none = tt
all-front (field ∷ fields) others none = (none.0, all-front fields others none.1)

all-empty : (fields : List (List ℕ)) → AllByRecursion HasNoBar fields → AllByRecursion HasNoBar (fields ++ [] ∷ [])
all-empty [] none = (tt, tt)
all-empty (field ∷ fields) none = (none.0, all-empty fields none.1)

spelled-by : (n : ℕ) (line : List ℕ) (fields : List (List ℕ)) → 0 < n
    → IsFirst n (between_bars (without_cr line)) fields → SpellsFields n line fields
unfolding IsFirst
spelled-by n line fields some (count, inl is) = record {
  count = count;
  no_bar = subst (AllByRecursion HasNoBar) is (parts-no_bar (without_cr line));
  joined = inl (sym (join_with_byte-slice_split 124 (without_cr line)) ∙ ap (join_with_byte 124) is);
}
spelled-by n line fields some (count, inr is) = record {
  count = count;
  no_bar = all-front fields ([] ∷ []) (subst (AllByRecursion HasNoBar) is (parts-no_bar (without_cr line)));
  joined = inr (sym (join_with_byte-slice_split 124 (without_cr line)) ∙ ap (join_with_byte 124) is
      ∙ join-empty fields (omega (arith, count, some)));
}

pub fields-spelled : (n : ℕ) (line : List ℕ) (fields : List (List ℕ)) → 0 < n → fields_of n line ≡ Some fields
    → SpellsFields n line fields
fields-spelled n line fields some is =
    spelled-by n line fields some (first_parts-is n (between_bars (without_cr line)) fields is)

-- the same, said of each place
all : (field : List ℕ) → HasNoBar field → All (λ byte. is_bar byte ≡ false) field
all [] none k default below = absurd (omega arith)
all (byte ∷ field) none zero default below = none.0
all (byte ∷ field) none (suc k) default below = all field none.1 k default (omega arith)

-- fields that have no bar are the parts of the fields joined by bars
parts-join : (fields : List (List ℕ)) → 0 < length fields → AllByRecursion HasNoBar fields
    → between_bars (join_with_byte 124 fields) ≡ fields
parts-join [] some none = absurd (omega arith)
parts-join (field ∷ []) some none = slice_split_none is_bar field (all field none.0)
parts-join (field ∷ next ∷ fields) some none =
    slice_split_at is_bar field 124 (join_with_byte 124 (next ∷ fields)) (all field none.0) refl
    ∙ ap (λ rest. field ∷ rest) (parts-join (next ∷ fields) (omega arith) none.1)

first_parts-exact : (n : ℕ) (fields : List (List ℕ)) → length fields ≡ n → first_parts n fields ≡ Some fields
first_parts-exact zero [] count = refl
first_parts-exact zero (field ∷ fields) count = absurd (omega (arith, count))
first_parts-exact (suc n) [] count = absurd (omega (arith, count))
first_parts-exact (suc n) (field ∷ fields) count =
    ap (option_map (λ others. field ∷ others)) (first_parts-exact n fields (omega (arith, count)))

first_parts-empty : (n : ℕ) (fields : List (List ℕ)) → length fields ≡ n
    → first_parts n (fields ++ [] ∷ []) ≡ Some fields
first_parts-empty zero [] count = refl
first_parts-empty zero (field ∷ fields) count = absurd (omega (arith, count))
first_parts-empty (suc n) [] count = absurd (omega (arith, count))
first_parts-empty (suc n) (field ∷ fields) count =
    ap (option_map (λ others. field ∷ others)) (first_parts-empty n fields (omega (arith, count)))

fields-by : (n : ℕ) (line : List ℕ) (fields : List (List ℕ)) → 0 < n → length fields ≡ n
    → AllByRecursion HasNoBar fields
    → (without_cr line ≡ join_with_byte 124 fields) ⊎ (without_cr line ≡ join_with_byte 124 fields ++ 124 ∷ [])
    → fields_of n line ≡ Some fields
fields-by n line fields some count none (inl is) =
    ap (λ text. first_parts n (between_bars text)) is
    ∙ ap (first_parts n) (parts-join fields (omega (arith, count, some)) none) ∙ first_parts-exact n fields count
fields-by n line fields some count none (inr is) =
    ap (λ text. first_parts n (between_bars text)) (is ∙ sym (join-empty fields (omega (arith, count, some))))
    ∙ ap (first_parts n)
    (parts-join (fields ++ [] ∷ []) (omega (arith, count, some, length-append fields ([] ∷ [])))
    (all-empty fields none))
    ∙ first_parts-empty n fields count

pub spelled-fields : (n : ℕ) (line : List ℕ) (fields : List (List ℕ)) → 0 < n → SpellsFields n line fields
    → fields_of n line ≡ Some fields
spelled-fields n line fields some spells = fields-by n line fields some spells.count spells.no_bar spells.joined

-- ==== The laws, as callers cite them.

pub lines_are_spelled : LinesAreSpelled
lines_are_spelled text lines = (text-spells text lines, spelled-lines text lines)

pub fields_are_spelled : FieldsAreSpelled
fields_are_spelled n line fields some = (fields-spelled n line fields some, spelled-fields n line fields some)
