-- A report tells which answer it is of.
use Rattle.std.proofs.Common.{◌≡◌, ◌∙◌, sym, ap, refl, subst, ℕ, zero, suc, ◌+◌, ◌<◌, ◌^◌, pos, negsuc, true, false}
use Rattle.std.proofs.Common.{cond, List, [], ◌∷◌, ◌++◌, map, length, append_assoc, ◌⊎◌, inl, inr, arith}
use Rattle.std.specs.Prelude.{◌==◌, codes}
use Rattle.std.specs.Fmt.{decimal}
use Rattle.std.specs.List.{AllByRecursion, flat_map, join_with_byte}
use Rattle.std.specs.Int.Digits.{digits_of, AllBelowBase}
use Rattle.std.proofs.lemmas.Bool.Decides.{nat_tests}
use Rattle.std.proofs.lemmas.Fmt.{signed_decimal_injective, decimal-digits_of, decimal_digit}
use Rattle.std.proofs.lemmas.Int.Digits.{all_below_base_digits_of}
use Rattle.std.proofs.lemmas.List.{append_cancel_left}
use Rattle.cube_model.specs.declared.answer.Line.{Line}
use Rattle.cube_model.specs.declared.answer.Member.{Member}
use Rattle.cube_model.specs.declared.answer.Member.TheVariants.{All, Text}
use Rattle.cube_model.specs.declared.answer.Value.{Value}
use Rattle.cube_model.specs.declared.answer.Value.TheVariants.{Whole, Ratio}
use Rattle.cube_model.specs.declared.query.Query.{Query}
use Rattle.ssb_reports.specs.Report.{count_text, header_text, line_text, member_text, value_text}
use Rattle.partial_reports.specs.MergeLawful.{ReportsReadBack}
use Rattle.partial_reports.specs.Readable.{HasNoByte, IsPlainMember, IsReadableLine, IsWholeNumber}

-- ---- texts without a byte
none-append : (c : ℕ) (xs ys : List ℕ) → HasNoByte c xs → HasNoByte c ys → HasNoByte c (xs ++ ys)
none-append c [] ys first second = second
none-append c (x ∷ xs) ys first second = (first.0, none-append c xs ys first.1 second)

equal_self : (c : ℕ) → (c == c) ≡ true
equal_self c = grind (arith, nat_tests)

-- the front up to the first byte of a number, and what comes after it
cut : (c : ℕ) (x y r s : List ℕ) → HasNoByte c x → HasNoByte c y → x ++ (c ∷ r) ≡ y ++ (c ∷ s) → (x ≡ y) × (r ≡ s)
cut c [] [] r s p q e = let rest : r ≡ s = cc in (refl, rest)
cut c [] (b ∷ y) r s p q e = let same : c ≡ b = cc in absurd (differ c b same q.0)
  where
    differ : (c b : ℕ) → c ≡ b → (b == c) ≡ false → ⊥
    differ c b same is = let yes : (b == c) ≡ true = subst (λ k. (k == c) ≡ true) same (equal_self c) in cc
cut c (a ∷ x) [] r s p q e = let same : a ≡ c = cc in absurd (differ c a same p.0)
  where
    differ : (c b : ℕ) → b ≡ c → (b == c) ≡ false → ⊥
    differ c b same is = let yes : (b == c) ≡ true = subst (λ k. (k == c) ≡ true) (sym same) (equal_self c) in cc
cut c (a ∷ x) (b ∷ y) r s p q e =
    let first : a ≡ b = cc in
    let after : x ++ (c ∷ r) ≡ y ++ (c ∷ s) = cc in
    let rest = cut c x y r s p.1 q.1 after in
    ((λ i. first i ∷ rest.0 i), rest.1)

one_less : (n m : ℕ) → suc n ≡ suc m → n ≡ m
one_less n m e = omega arith

-- fields that are joined
joined : (c : ℕ) (xs ys : List (List ℕ)) → AllByRecursion (HasNoByte c) xs → AllByRecursion (HasNoByte c) ys
    → length xs ≡ length ys
    → join_with_byte c xs ≡ join_with_byte c ys → xs ≡ ys
joined c [] [] p q n e = refl
joined c [] (y ∷ ys) p q n e = absurd (omega (arith, n))
joined c (x ∷ xs) [] p q n e = absurd (omega (arith, n))
joined c (x ∷ []) (y ∷ []) p q n e = ap (λ field. field ∷ []) e
joined c (x ∷ []) (y ∷ y2 ∷ ys) p q n e = absurd (omega (arith, n))
joined c (x ∷ x2 ∷ xs) (y ∷ []) p q n e = absurd (omega (arith, n))
joined c (x ∷ x2 ∷ xs) (y ∷ y2 ∷ ys) p q n e =
    let halves = cut c x y (join_with_byte c (x2 ∷ xs)) (join_with_byte c (y2 ∷ ys)) p.0 q.0 e in
    let rest = joined c (x2 ∷ xs) (y2 ∷ ys) p.1 q.1 (one_less _ _ n) halves.1 in
    λ i. halves.0 i ∷ rest i

-- ---- numbers
digit_not : (c d : ℕ) → (c < 48) ⊎ (57 < c) → d < 10 → ((48 + d) == c) ≡ false
digit_not c d (inl low) h = grind (arith, nat_tests)
digit_not c d (inr high) h = grind (arith, nat_tests)

digits_none : (c : ℕ) → (c < 48) ⊎ (57 < c) → (ds : List ℕ) → AllBelowBase 10 ds → HasNoByte c (map (λ d. 48 + d) ds)
digits_none c out [] all = tt
digits_none c out (d ∷ ds) all = (digit_not c d out all.0, digits_none c out ds all.1)

pub decimal_none : (c : ℕ) → (c < 48) ⊎ (57 < c) → (n : ℕ) → n < 2 ^ 64 → HasNoByte c (decimal n)
decimal_none c out zero h =
    subst (HasNoByte c) (sym (decimal_digit 0 (omega arith))) (digit_not c 0 out (omega arith), tt)
decimal_none c out (suc n) h =
    subst (HasNoByte c) (sym (decimal-digits_of (suc n) (omega arith) h))
    (digits_none c out (digits_of 10 (suc n)) (all_below_base_digits_of 10 (suc n) (omega arith)))

value_none : (c : ℕ) → (c < 45) ⊎ (57 < c) → (value : Value) → IsWholeNumber value → HasNoByte c (value_text value)
value_none c out (Whole (pos n)) h = decimal_none c (wider c out) n (omega (arith, h))
  where
    wider : (c : ℕ) → (c < 45) ⊎ (57 < c) → (c < 48) ⊎ (57 < c)
    wider c (inl low) = inl (omega (arith, low))
    wider c (inr high) = inr high
value_none c out (Whole (negsuc n)) h = (sign c out, decimal_none c (wider c out) (suc n) (omega (arith, h)))
  where
    wider : (c : ℕ) → (c < 45) ⊎ (57 < c) → (c < 48) ⊎ (57 < c)
    wider c (inl low) = inl (omega (arith, low))
    wider c (inr high) = inr high

    sign : (c : ℕ) → (c < 45) ⊎ (57 < c) → (45 == c) ≡ false
    sign c (inl low) = grind (arith, nat_tests)
    sign c (inr high) = grind (arith, nat_tests)
value_none c out (Ratio fraction) h = absurd h

value_same : (one other : Value) → IsWholeNumber one → IsWholeNumber other → value_text one ≡ value_text other
    → one ≡ other
value_same (Whole a) (Whole b) p q e = ap Whole (signed_decimal_injective a b p q e)
value_same (Whole a) (Ratio b) p q e = absurd q
value_same (Ratio a) other p q e = absurd p

-- ---- members
member_bar : (member : Member) → IsPlainMember member → HasNoByte 124 (member_text member)
member_bar (Text text) plain = plain.no_bar
member_bar All plain = (refl, (refl, (refl, tt)))

member_lf : (member : Member) → IsPlainMember member → HasNoByte 10 (member_text member)
member_lf (Text text) plain = plain.no_lf
member_lf All plain = (refl, (refl, (refl, tt)))

member_same : (one other : Member) → IsPlainMember one → IsPlainMember other → member_text one ≡ member_text other
    → one ≡ other
member_same (Text a) (Text b) p q e = ap Text e
member_same (Text a) All p q e = absurd (p.not_all e)
member_same All (Text b) p q e = absurd (q.not_all (sym e))
member_same All All p q e = refl

-- ---- the fields of a line
abbrev fields_of : Line → List (List ℕ)
fields_of line = map member_text line.key ++ map value_text line.values

values_none : (c : ℕ) → (c < 45) ⊎ (57 < c) → (values : List Value) → AllByRecursion IsWholeNumber values
    → AllByRecursion (HasNoByte c) (map value_text values)
values_none c out [] all = tt
values_none c out (value ∷ values) all = (value_none c out value all.0, values_none c out values all.1)

fields_none : (c : ℕ) → (c < 45) ⊎ (57 < c)
    → ((member : Member) → IsPlainMember member → HasNoByte c (member_text member))
    → (key : List Member) (values : List Value)
    → AllByRecursion IsPlainMember key → AllByRecursion IsWholeNumber values
    → AllByRecursion (HasNoByte c) (map member_text key ++ map value_text values)
fields_none c out members [] values plain whole = values_none c out values whole
fields_none c out members (member ∷ key) values plain whole =
    (members member plain.0, fields_none c out members key values plain.1 whole)

length_fields : (key : List Member) (values : List Value) → length (map member_text key ++ map value_text values)
    ≡ length key + length values
length_fields [] [] = refl
length_fields [] (value ∷ values) = omega (arith, length_fields [] values)
length_fields (member ∷ key) values = omega (arith, length_fields key values)

values_same : (ones others : List Value) → AllByRecursion IsWholeNumber ones → AllByRecursion IsWholeNumber others
    → map value_text ones ≡ map value_text others → ones ≡ others
values_same [] [] p q e = refl
values_same [] (b ∷ others) p q e = cc
values_same (a ∷ ones) [] p q e = cc
values_same (a ∷ ones) (b ∷ others) p q e =
    let here : value_text a ≡ value_text b = cc in
    let after : map value_text ones ≡ map value_text others = cc in
    λ i. value_same a b p.0 q.0 here i ∷ values_same ones others p.1 q.1 after i

fields_same : (one other : List Member) (ones others : List Value) → length one ≡ length other
    → AllByRecursion IsPlainMember one → AllByRecursion IsPlainMember other → AllByRecursion IsWholeNumber ones
    → AllByRecursion IsWholeNumber others
    → map member_text one ++ map value_text ones ≡ map member_text other ++ map value_text others
    → (one ≡ other) × (ones ≡ others)
fields_same [] [] ones others n p q u v e = (refl, values_same ones others u v e)
fields_same [] (b ∷ other) ones others n p q u v e = absurd (omega (arith, n))
fields_same (a ∷ one) [] ones others n p q u v e = absurd (omega (arith, n))
fields_same (a ∷ one) (b ∷ other) ones others n p q u v e =
    let here : member_text a ≡ member_text b = cc in
    let after : map member_text one ++ map value_text ones ≡ map member_text other ++ map value_text others = cc in
    let rest = fields_same one other ones others (one_less _ _ n) p.1 q.1 u v after in
    ((λ i. member_same a b p.0 q.0 here i ∷ rest.0 i), rest.1)

join_none : (c sign : ℕ) → (sign == c) ≡ false → (fields : List (List ℕ)) → AllByRecursion (HasNoByte c) fields
    → HasNoByte c (join_with_byte sign fields)
join_none c sign apart [] all = tt
join_none c sign apart (field ∷ []) all = all.0
join_none c sign apart (field ∷ next ∷ fields) all =
    none-append c field (sign ∷ join_with_byte sign (next ∷ fields)) all.0
    (apart, join_none c sign apart (next ∷ fields) all.1)

below_45 : (10 < 45) ⊎ (57 < 10)
below_45 = inl (omega arith)

above_57 : (124 < 45) ⊎ (57 < 124)
above_57 = inr (omega arith)

module _ (query : Query) where
  pub line_lf : (line : Line) → IsReadableLine query line → HasNoByte 10 (join_with_byte 124 (fields_of line))
  line_lf line is =
      join_none 10 124 refl (fields_of line) (fields_none 10 below_45 member_lf line.key line.values is.plain is.whole)

  pub line_bar : (line : Line) → IsReadableLine query line → AllByRecursion (HasNoByte 124) (fields_of line)
  line_bar line is = fields_none 124 above_57 member_bar line.key line.values is.plain is.whole

  line_same : (one other : Line) → IsReadableLine query one → IsReadableLine query other
      → join_with_byte 124 (fields_of one) ≡ join_with_byte 124 (fields_of other) → one ≡ other
  line_same one other p q e =
      let keys : length one.key ≡ length other.key = p.members ∙ sym q.members in
      let many : length (fields_of one) ≡ length (fields_of other) =
      omega (
        arith,
        length_fields one.key one.values,
        length_fields other.key other.values,
        keys,
        p.values,
        q.values,
      ) in
      let parts = fields_same one.key other.key one.values other.values keys p.plain q.plain p.whole q.whole
      (joined 124 (fields_of one) (fields_of other) (line_bar one p) (line_bar other q) many e) in
      λ i. record { key = parts.0 i; values = parts.1 i }

  -- how many line feeds a text has
  abbrev feeds : List ℕ → ℕ
  feeds [] = 0
  feeds (b ∷ bs) = cond (b == 10) (suc (feeds bs)) (feeds bs)

  feeds_after : (front back : List ℕ) → HasNoByte 10 front → feeds (front ++ back) ≡ feeds back
  feeds_after [] back none = refl
  feeds_after (b ∷ front) back none = ap (λ t. cond t (suc (feeds (front ++ back))) (feeds (front ++ back))) none.0
      ∙ feeds_after front back none.1

  -- a line in front of a text
  line_front : (line : Line) (rest : List ℕ) → line_text line ++ rest ≡ join_with_byte 124 (fields_of line)
      ++ (10 ∷ rest)
  line_front line rest = append_assoc (join_with_byte 124 (fields_of line)) (10 ∷ []) rest

  feeds_lines : (lines : List Line) (rest : List ℕ) → AllByRecursion (IsReadableLine query) lines
      → feeds (flat_map line_text lines ++ rest) ≡ length lines + feeds rest
  feeds_lines [] rest all = omega arith
  feeds_lines (line ∷ lines) rest all =
      ap feeds (append_assoc (line_text line) (flat_map line_text lines) rest
      ∙ line_front line (flat_map line_text lines ++ rest))
      ∙ feeds_after (join_with_byte 124 (fields_of line)) (10 ∷ (flat_map line_text lines ++ rest))
      (line_lf line all.0)
      ∙ omega (arith, feeds_lines lines rest all.1)

  feeds_count : (n : ℕ) → n < 2 ^ 63 → feeds (count_text n) ≡ 1
  feeds_count n h = feeds_after (codes "rows ") (decimal n ++ 10 ∷ []) (refl, (refl, (refl, (refl, (refl, tt)))))
      ∙ feeds_after (decimal n) (10 ∷ []) (decimal_none 10 (inl (omega arith)) n (omega (arith, h)))

  lines_same : (ones others : List Line) (rest : List ℕ) → length ones ≡ length others
      → AllByRecursion (IsReadableLine query) ones → AllByRecursion (IsReadableLine query) others
      → flat_map line_text ones ++ rest ≡ flat_map line_text others ++ rest → ones ≡ others
  lines_same [] [] rest n p q e = refl
  lines_same [] (b ∷ others) rest n p q e = absurd (omega (arith, n))
  lines_same (a ∷ ones) [] rest n p q e = absurd (omega (arith, n))
  lines_same (a ∷ ones) (b ∷ others) rest n p q e =
      let front : (line : Line) (lines : List Line)
      → flat_map line_text (line ∷ lines) ++ rest ≡ join_with_byte 124 (fields_of line)
      ++ (10 ∷ (flat_map line_text lines ++ rest))
      = λ line lines. append_assoc (line_text line) (flat_map line_text lines) rest
      ∙ line_front line (flat_map line_text lines ++ rest) in
      let halves =
      cut 10 (join_with_byte 124 (fields_of a)) (join_with_byte 124 (fields_of b)) (flat_map line_text ones ++ rest)
      (flat_map line_text others ++ rest)
      (line_lf a p.0) (line_lf b q.0) (sym (front a ones) ∙ e ∙ front b others) in
      let here = line_same a b p.0 q.0 halves.0 in
      let after = lines_same ones others rest (one_less _ _ n) p.1 q.1 halves.1 in
      λ i. here i ∷ after i

pub reports_read_back : ReportsReadBack
reports_read_back query one other p q e =
    let n = length one.lines in
    let m = length other.lines in
    let bodies : flat_map line_text one.lines ++ count_text n ≡ flat_map line_text other.lines ++ count_text m =
    append_cancel_left (header_text query) _ _ e in
    let feed = ap (feeds query) bodies in
    let many : n ≡ m =
    omega (
      arith,
      feed,
      feeds_lines query one.lines (count_text n) p.each,
      feeds_lines query other.lines (count_text m) q.each,
      feeds_count query n p.few,
      feeds_count query m q.few,
    ) in
    let lines =
    lines_same query one.lines other.lines (count_text n) many p.each q.each
    (bodies ∙ ap (λ k. flat_map line_text other.lines ++ count_text k) (sym many)) in
    λ i. record { lines = lines i }
