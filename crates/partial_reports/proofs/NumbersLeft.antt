-- Numbers that are read one after the other.
use Rattle.std.proofs.Common.{◌≡◌, ◌∙◌, sym, ap, refl, ℕ, ◌<◌, ◌^◌, true, false, List, [], ◌∷◌, ◌++◌, length}
use Rattle.std.proofs.Common.{append_assoc, append-nil, subst, ◌⊎◌, inl, inr, arith}
use Rattle.std.specs.Prelude.{◌==◌}
use Rattle.std.specs.Char.{is_ascii_digit}
use Rattle.std.specs.Fmt.{decimal}
use Rattle.std.specs.List.{AllByRecursion, flat_map, list_all}
use Rattle.std.proofs.lemmas.Bool.{and_parts}
use Rattle.std.proofs.lemmas.Bool.Decides.{nat_tests}
use Rattle.partial_reports.specs.Head.{numbers_text, after_comma}
use Rattle.partial_reports.specs.Readable.{HasNoByte}
use Rattle.partial_reports.proofs.NumberTexts.{digits}

-- each number of a list has 32 bits
abbrev pub AreShort : List ℕ → Type 0
AreShort numbers = AllByRecursion (λ number. number < 2 ^ 32) numbers

digit_is_not : (sign byte : ℕ) → (sign < 48) ⊎ (57 < sign) → is_ascii_digit byte ≡ true → (byte == sign) ≡ false
digit_is_not sign byte (inl low) e = grind (arith, nat_tests)
digit_is_not sign byte (inr high) e = grind (arith, nat_tests)

pub digits_lack : (sign : ℕ) (text : List ℕ) → (sign < 48) ⊎ (57 < sign) → list_all is_ascii_digit text ≡ true
    → HasNoByte sign text
digits_lack sign [] out all = tt
digits_lack sign (byte ∷ text) out all =
    let parts = and_parts (is_ascii_digit byte) (list_all is_ascii_digit text) all in
    (digit_is_not sign byte out parts.0, digits_lack sign text out parts.1)

-- a number has no other sign
pub number_lacks : (sign n : ℕ) → (sign < 48) ⊎ (57 < sign) → n < 2 ^ 32 → HasNoByte sign (decimal n)
number_lacks sign n out small = digits_lack sign (decimal n) out (digits n (omega arith))

-- what is left of numbers, after some of them were read
pub record NumbersLeft (numbers read : List ℕ) (text : List ℕ) : Type 0 where
  pub rest : List ℕ
  pub some : 0 < length rest
  pub short : AreShort rest
  pub is : numbers ≡ read ++ rest
  pub spelled : text ≡ numbers_text rest

-- the last number
pub record IsLast (numbers read : List ℕ) (text : List ℕ) : Type 0 where
  pub number : ℕ
  pub short : number < 2 ^ 32
  pub is : numbers ≡ read ++ number ∷ []
  pub spelled : text ≡ decimal number
  pub lacks : HasNoByte 44 text

-- a number, a comma and more numbers
pub record IsNext (numbers read : List ℕ) (text : List ℕ) : Type 0 where
  pub number : ℕ
  pub others : List ℕ
  pub short : number < 2 ^ 32
  pub spelled : text ≡ decimal number ++ 44 ∷ others
  pub lacks : HasNoByte 44 (decimal number)
  pub left : NumbersLeft numbers (read ++ number ∷ []) others

pub last_or_next : (numbers read text : List ℕ) → NumbersLeft numbers read text → IsLast numbers read text
    ⊎ IsNext numbers read text
last_or_next numbers read text left = by left.rest left.some left.short left.is left.spelled
  where
    comma : (44 < 48) ⊎ (57 < 44)
    comma = inl (omega arith)

    by : (rest : List ℕ) → 0 < length rest → AreShort rest → numbers ≡ read ++ rest → text ≡ numbers_text rest
        → IsLast numbers read text ⊎ IsNext numbers read text
    by [] some short is spelled = absurd (omega (arith, some))
    by (n ∷ []) some short is spelled =
        let alone : text ≡ decimal n = spelled ∙ append-nil (decimal n) in
        inl (record {
          number = n;
          short = short.0;
          is = is;
          spelled = alone;
          lacks = subst (HasNoByte 44) (sym alone) (number_lacks 44 n comma short.0);
        })
    by (n ∷ m ∷ rest) some short is spelled = inr (record {
      number = n;
      others = numbers_text (m ∷ rest);
      short = short.0;
      spelled = spelled;
      lacks = number_lacks 44 n comma short.0;
      left = record {
        rest = m ∷ rest;
        some = omega arith;
        short = short.1;
        is = is ∙ sym (append_assoc read (n ∷ []) (m ∷ rest));
        spelled = refl;
      };
    })

pub all_left : (numbers text : List ℕ) → 0 < length numbers → AreShort numbers → text ≡ numbers_text numbers
    → NumbersLeft numbers [] text
all_left numbers text some short spelled =
    record { rest = numbers; some = some; short = short; is = refl; spelled = spelled }

-- the next number was read
pub next_left : (numbers read text new others : List ℕ) (number : ℕ) (next : IsNext numbers read text)
    → number ≡ next.number → new ≡ read ++ number ∷ [] → others ≡ next.others
    → NumbersLeft numbers new others
next_left numbers read text new others number next same added rest =
    let left = next.left in
    record {
      rest = left.rest;
      some = left.some;
      short = left.short;
      is = left.is ∙ ap (λ n. (read ++ n ∷ []) ++ left.rest) (sym same) ∙ ap (λ r. r ++ left.rest) (sym added);
      spelled = rest ∙ left.spelled;
    }

pub last_read : (numbers read text new : List ℕ) (number : ℕ) (last : IsLast numbers read text) → number ≡ last.number
    → new ≡ read ++ number ∷ [] → new ≡ numbers
last_read numbers read text new number last same added = added ∙ ap (λ n. read ++ n ∷ []) same ∙ sym last.is

pub lack_both : (sign : ℕ) (xs ys : List ℕ) → HasNoByte sign xs → HasNoByte sign ys → HasNoByte sign (xs ++ ys)
lack_both sign [] ys first second = second
lack_both sign (x ∷ xs) ys first second = (first.0, lack_both sign xs ys first.1 second)

commas_lack : (sign : ℕ) (numbers : List ℕ) → (sign < 48) ⊎ (57 < sign) → (44 == sign) ≡ false → AreShort numbers
    → HasNoByte sign (flat_map after_comma numbers)
commas_lack sign [] out apart short = tt
commas_lack sign (n ∷ ns) out apart short = (
  apart,
  lack_both sign (decimal n) (flat_map after_comma ns) (number_lacks sign n out short.0)
      (commas_lack sign ns out apart short.1),
)

-- numbers with commas between have no other sign
pub numbers_lack : (sign : ℕ) (numbers : List ℕ) → (sign < 48) ⊎ (57 < sign) → (44 == sign) ≡ false → AreShort numbers
    → HasNoByte sign (numbers_text numbers)
numbers_lack sign [] out apart short = tt
numbers_lack sign (n ∷ ns) out apart short =
    lack_both sign (decimal n) (flat_map after_comma ns) (number_lacks sign n out short.0)
    (commas_lack sign ns out apart short.1)
