-- A text tells the head that it begins with.
use Rattle.std.proofs.Common.{◌≡◌, ◌∙◌, sym, ap, refl, ℕ, ◌<◌, ◌^◌, true, ◌&&◌, List, [], ◌∷◌, ◌++◌, length}
use Rattle.std.proofs.Common.{append_assoc, arith}
use Rattle.std.specs.Prelude.{nat_le, nat_lt, codes}
use Rattle.std.specs.Fmt.{decimal}
use Rattle.std.specs.List.{flat_map, list_all}
use Rattle.std.proofs.lemmas.Bool.{and_parts, leb-true, ltb-true}
use Rattle.std.proofs.lemmas.List.{append_cancel_left}
use Rattle.hex.specs.Hex.{encode_lower, lower_digits}
use Rattle.hex.proofs.HexLemmas.{decode_of-encode_lower, decode_of-same, length-encode_with}
use Rattle.partial_reports.specs.declared.head.Head.{Head}
use Rattle.partial_reports.specs.Head.{are_parts, ascend_between, dimensions_text, head_text, is_proper, is_short_word}
use Rattle.partial_reports.specs.Head.{most_parts, numbers_text, part_text, word_text}
use Rattle.partial_reports.specs.MergeLawful.{ReportsReadBack}
use Rattle.partial_reports.specs.Parts.{partial_query}
use Rattle.ssb_reports.specs.Report.{report_of}
use Rattle.partial_reports.specs.HeadLaws.{HeadsReadBack, PartialReportsReadBack}
use Rattle.partial_reports.specs.HeadReading.{IsDigest}
use Rattle.partial_reports.proofs.Cuts.{cut_at}
use Rattle.partial_reports.proofs.NumberTexts.{AreSmall, ascending_small, number_same, numbers_same}
use Rattle.partial_reports.proofs.WordTexts.{words_same}

-- what a proper head is
pub record IsProperHead (head : Head) : Type 0 where
  pub some : 0 < length head.numbers
  pub numbers : AreSmall head.numbers
  pub parts : head.parts < 2 ^ 64
  pub words : list_all is_short_word head.words ≡ true

few_small : (parts : ℕ) → nat_le parts most_parts ≡ true → parts < 2 ^ 64
few_small parts e = omega (arith, leb-true parts most_parts e)

pub proper_head : (head : Head) → is_proper head ≡ true → IsProperHead head
proper_head head e =
    let halves = and_parts (are_parts head.parts head.numbers) (list_all is_short_word head.words) e in
    let few = and_parts (nat_le head.parts most_parts)
    (nat_lt 0 (length head.numbers) && ascend_between 0 head.parts head.numbers) halves.0 in
    let some = and_parts (nat_lt 0 (length head.numbers)) (ascend_between 0 head.parts head.numbers) few.1 in
    let small = few_small head.parts few.0 in
    record {
      some = ltb-true 0 (length head.numbers) some.0;
      numbers = ascending_small 0 head.parts head.numbers small some.1;
      parts = small;
      words = halves.1;
    }

-- ---- the line of the parts
pub part_front : (head : Head) (r : List ℕ)
    → part_text head ++ r ≡ codes "part " ++ (numbers_text head.numbers ++ 47 ∷ (decimal head.parts ++ 10 ∷ r))
part_front head r =
    ap (λ l. codes "part " ++ l) (append_assoc (numbers_text head.numbers) (47 ∷ (decimal head.parts ++ 10 ∷ [])) r
    ∙ ap (λ l. numbers_text head.numbers ++ 47 ∷ l) (append_assoc (decimal head.parts) (10 ∷ []) r))

record IsPart (one other : Head) (r s : List ℕ) : Type 0 where
  numbers : one.numbers ≡ other.numbers
  parts : one.parts ≡ other.parts
  left : r ≡ s

part_same : (one other : Head) (r s : List ℕ) → IsProperHead one → IsProperHead other
    → part_text one ++ r ≡ part_text other ++ s → IsPart one other r s
part_same one other r s p q e =
    let inner = append_cancel_left (codes "part ") (numbers_text one.numbers ++ 47 ∷ (decimal one.parts ++ 10 ∷ r))
    (numbers_text other.numbers ++ 47 ∷ (decimal other.parts ++ 10 ∷ s))
    (sym (part_front one r) ∙ e ∙ part_front other s) in
    let halves = numbers_same one.numbers other.numbers (decimal one.parts ++ 10 ∷ r) (decimal other.parts ++ 10 ∷ s)
    p.some q.some p.numbers q.numbers inner in
    let ends = number_same one.parts other.parts (10 ∷ r) (10 ∷ s) p.parts q.parts refl refl halves.1 in
    let rest : r ≡ s = append_cancel_left (10 ∷ []) r s ends.1 in
    record { numbers = halves.0; parts = ends.0; left = rest }

-- ---- the line of the dimensions
pub dimensions_front : (digest r : List ℕ) → dimensions_text digest ++ r ≡ codes "dimensions "
    ++ (encode_lower digest ++ 10 ∷ r)
dimensions_front digest r = ap (λ l. codes "dimensions " ++ l) (append_assoc (encode_lower digest) (10 ∷ []) r)

same_length : (one other : List ℕ) → IsDigest one → IsDigest other
    → length (encode_lower one) ≡ length (encode_lower other)
same_length one other p q =
    omega (arith, length-encode_with lower_digits one, length-encode_with lower_digits other, p.size, q.size)

digest_same : (one other : List ℕ) → IsDigest one → IsDigest other → encode_lower one ≡ encode_lower other → one ≡ other
digest_same one other p q e =
    decode_of-same (encode_lower one) one other (decode_of-encode_lower one p.bytes)
    (rw e (decode_of-encode_lower other q.bytes))

dimensions_same : (one other r s : List ℕ) → IsDigest one → IsDigest other
    → dimensions_text one ++ r ≡ dimensions_text other ++ s → (one ≡ other) × (r ≡ s)
dimensions_same one other r s p q e =
    let inner = append_cancel_left (codes "dimensions ") (encode_lower one ++ 10 ∷ r) (encode_lower other ++ 10 ∷ s)
    (sym (dimensions_front one r) ∙ e ∙ dimensions_front other s) in
    let halves = cut_at (encode_lower one) (encode_lower other) (10 ∷ r) (10 ∷ s) (same_length one other p q) inner in
    (digest_same one other p q halves.0, append_cancel_left (10 ∷ []) r s halves.1)

-- ---- the head
abbrev pub version : List ℕ
version = codes "ssbcube partial report 1\n"

-- what is after each line of a head
abbrev pub after_dimensions : Head → List ℕ → List ℕ
after_dimensions head left = flat_map word_text head.words ++ 10 ∷ left

abbrev pub after_part : Head → List ℕ → List ℕ → List ℕ
after_part head digest left = dimensions_text digest ++ after_dimensions head left

abbrev pub after_version : Head → List ℕ → List ℕ → List ℕ
after_version head digest left = part_text head ++ after_part head digest left

pub head_front : (head : Head) (digest left : List ℕ)
    → head_text head digest ++ left ≡ version ++ after_version head digest left
head_front head digest left =
    ap (λ l. version ++ l)
    (append_assoc (part_text head) (dimensions_text digest ++ (flat_map word_text head.words ++ 10 ∷ [])) left
    ∙ ap (λ l. part_text head ++ l)
    (append_assoc (dimensions_text digest) (flat_map word_text head.words ++ 10 ∷ []) left
    ∙ ap (λ l. dimensions_text digest ++ l) (append_assoc (flat_map word_text head.words) (10 ∷ []) left)))

pub heads_read_back : HeadsReadBack
heads_read_back one other digest another left right p q u v e =
    let first = proper_head one p in
    let second = proper_head other q in
    let words : Head → List ℕ → List ℕ = λ head left. flat_map word_text head.words ++ 10 ∷ left in
    let lines = append_cancel_left version
    (part_text one ++ (dimensions_text digest ++ words one left))
    (part_text other ++ (dimensions_text another ++ words other right))
    (sym (head_front one digest left) ∙ e ∙ head_front other another right) in
    let parts =
    part_same one other (dimensions_text digest ++ words one left) (dimensions_text another ++ words other right)
    first second lines in
    let dimensions = dimensions_same digest another (words one left) (words other right) u v parts.left in
    let ends = words_same one.words other.words left right first.words second.words dimensions.1 in
    ((λ i. record { numbers = parts.numbers i; parts = parts.parts i; words = ends.0 i }), dimensions.0, ends.1)

-- and the answer, since a report tells which answer it is of
pub partial_reports_read_back : ReportsReadBack → PartialReportsReadBack
partial_reports_read_back reports query one other digest another first second p q u v a b e =
    let read = heads_read_back one other digest another (report_of (partial_query query) first)
    (report_of (partial_query query) second) p q u v e in
    (read.0, read.1, reports (partial_query query) first second a b read.2)
