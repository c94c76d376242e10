-- Lemmas of `head_reading`, by subject.
use Rattle.std.proofs.Common.{◌≡◌, ◌∙◌, sym, ap, refl, subst, ℕ, suc, ◌/◌, ◌%◌, ◌<◌, ◌^◌, true, false, ◌&&◌, List}
use Rattle.std.proofs.Common.{[], ◌∷◌, ◌++◌, length, append_assoc, slice_index, Some, ◌⊎◌, inl, arith, Bool, not}
use Rattle.std.specs.Prelude.{◌==◌, nat_le, nat_lt, codes}
use Rattle.std.specs.Fmt.{decimal}
use Rattle.std.specs.List.{list_all}
use Rattle.std.proofs.lemmas.Bool.{and_parts, eqb-true, false_from_ne_true, leb-true, both_ways, not-true}
use Rattle.std.proofs.lemmas.Option.{none-some}
use Rattle.hex.specs.Hex.{IsBytes, encode_lower, encode_with, hex_digit_value, lower_digits}
use Rattle.hex.proofs.HexLemmas.{IsDigits-lower_digits}
use Rattle.partial_reports.specs.declared.head.Head.{Head}
use Rattle.partial_reports.specs.Head.{are_parts, ascend_between, is_proper, is_short_word, most_parts, numbers_text}
use Rattle.partial_reports.specs.Head.{part_text}
use Rattle.partial_reports.specs.Readable.{HasNoByte}
use Rattle.partial_reports.specs.HeadReading.{IsDigest, part_line}
use Rattle.partial_reports.proofs.HeadTexts.{part_front, proper_head}
use Rattle.partial_reports.proofs.NumbersLeft.{AreShort, lack_both, number_lacks, numbers_lack}
use Rattle.std.specs.Str.{bytes_eq}
use Rattle.std.proofs.lemmas.Slice.Eq.{bytes_eq-Decides}

-- ==== The lines of the parts and of the dimensions.

below : (n high : ℕ) → nat_le n high ≡ true → high < 2 ^ 32 → n < 2 ^ 32
below n high e h = omega (arith, leb-true n high e)

ascending_short : (low high : ℕ) (numbers : List ℕ) → high < 2 ^ 32 → ascend_between low high numbers ≡ true
    → AreShort numbers
ascending_short low high [] h e = tt
ascending_short low high (n ∷ ns) h e =
    let parts = and_parts (nat_lt low n) (nat_le n high && ascend_between n high ns) e in
    let more = and_parts (nat_le n high) (ascend_between n high ns) parts.1 in
    (below n high more.0 h, ascending_short n high ns h more.1)

-- the numbers of a proper head have 32 bits
pub record IsShortHead (head : Head) : Type 0 where
  pub some : 0 < length head.numbers
  pub numbers : AreShort head.numbers
  pub parts : head.parts < 2 ^ 32

few_short : (parts : ℕ) → nat_le parts most_parts ≡ true → parts < 2 ^ 32
few_short parts e = omega (arith, leb-true parts most_parts e)

pub short_head : (head : Head) → is_proper head ≡ true → IsShortHead head
short_head head e =
    let halves = and_parts (are_parts head.parts head.numbers) (list_all is_short_word head.words) e in
    let few = and_parts (nat_le head.parts most_parts)
    (nat_lt 0 (length head.numbers) && ascend_between 0 head.parts head.numbers) halves.0 in
    let some = and_parts (nat_lt 0 (length head.numbers)) (ascend_between 0 head.parts head.numbers) few.1 in
    let short = few_short head.parts few.0 in
    record {
      some = (proper_head head e).some;
      numbers = ascending_short 0 head.parts head.numbers short some.1;
      parts = short;
    }

slash : (47 < 48) ⊎ (57 < 47)
slash = inl (omega arith)

feed : (10 < 48) ⊎ (57 < 10)
feed = inl (omega arith)

pub no_slash : (head : Head) → IsShortHead head → HasNoByte 47 (numbers_text head.numbers)
no_slash head is = numbers_lack 47 head.numbers slash refl is.numbers

pub part_lacks : (head : Head) → IsShortHead head → HasNoByte 10 (part_line head)
part_lacks head is =
    lack_both 10 (codes "part ") (numbers_text head.numbers ++ 47 ∷ decimal head.parts)
    (refl, (refl, (refl, (refl, (refl, tt)))))
    (lack_both 10 (numbers_text head.numbers) (47 ∷ decimal head.parts)
    (numbers_lack 10 head.numbers feed refl is.numbers) (refl, number_lacks 10 head.parts feed is.parts))

pub part_line_front : (head : Head) (left : List ℕ) → part_text head ++ left ≡ part_line head ++ 10 ∷ left
part_line_front head left =
    part_front head left
    ∙ ap (λ l. codes "part " ++ l)
    (sym (append_assoc (numbers_text head.numbers) (47 ∷ decimal head.parts) (10 ∷ left)))

-- ---- the line of the dimensions
no_feed : (c d : ℕ) → hex_digit_value c ≡ Some d → (c == 10) ≡ false
no_feed c d e =
    false_from_ne_true (c == 10) (λ same. none-some d (subst (λ k. hex_digit_value k ≡ Some d) (eqb-true c 10 same) e))

byte_digits : (b : ℕ) → b < 256 → (b / 16 < 16) × (b % 16 < 16)
byte_digits b h = (omega arith, omega arith)

hex_lacks : (bytes : List ℕ) → IsBytes bytes → HasNoByte 10 (encode_with lower_digits bytes)
unfolding encode_with
hex_lacks [] is = tt
hex_lacks (b ∷ bytes) is =
    let parts = byte_digits b (is 0) in (
      no_feed (slice_index lower_digits (b / 16)) (b / 16) (IsDigits-lower_digits (b / 16) parts.0),
      (
        no_feed (slice_index lower_digits (b % 16)) (b % 16) (IsDigits-lower_digits (b % 16) parts.1),
        hex_lacks bytes (λ k. is (suc k)),
      ),
    )

pub digest_lacks : (digest : List ℕ) → IsDigest digest → HasNoByte 10 (codes "dimensions " ++ encode_lower digest)
digest_lacks digest is = lack_both 10 (codes "dimensions ") (encode_lower digest)
    (refl, (refl, (refl, (refl, (refl, (refl, (refl, (refl, (refl, (refl, (refl, tt)))))))))))
    (hex_lacks digest is.bytes)

-- ==== The first line of a head.

lacks : (sign : ℕ) (text : List ℕ) → list_all (λ byte. not (byte == sign)) text ≡ true → HasNoByte sign text
lacks sign [] e = tt
lacks sign (byte ∷ text) e =
    let parts = and_parts (not (byte == sign)) (list_all (λ b. not (b == sign)) text) e in
    (not-true (byte == sign) parts.0, lacks sign text parts.1)

abbrev pub version_line : List ℕ
version_line = codes "ssbcube partial report 1"

pub version_lacks : HasNoByte 10 version_line
version_lacks = lacks 10 version_line refl

pub same_version : (line other : List ℕ) (r : Bool) → line ≡ version_line → other ≡ version_line
    → r ≡ not (bytes_eq line other) → r ≡ true → ⊥
same_version line other r is spelled test e =
    both_ways (bytes_eq line other) (not-true (bytes_eq line other) (sym test ∙ e))
    ((bytes_eq-Decides line other).1 (is ∙ sym spelled))
