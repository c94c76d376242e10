-- Lemmas of `reading`, by subject.
use Rattle.std.proofs.Common.{◌≡◌, ◌∙◌, sym, ap, refl, subst, ℕ, ◌+◌, ◌<◌, ◌≤◌, ◌^◌, List, [], ◌∷◌, ◌++◌, length}
use Rattle.std.proofs.Common.{append_assoc, append-nil, length-append, None, ◌⊎◌, inl, inr, arith}
use Rattle.std.specs.Prelude.{codes}
use Rattle.std.specs.Fmt.{decimal}
use Rattle.std.specs.List.{AllByRecursion, flat_map, join_with_byte}
use Rattle.std.specs.declared.cmp.Ordering.TheVariants.{Less}
use Rattle.cube_model.specs.declared.answer.Line.{Line}
use Rattle.cube_model.specs.declared.query.Query.{Query}
use Rattle.cube_model.specs.Ascending.{IsAscending}
use Rattle.cube_model.specs.Keys.{key_cmp}
use Rattle.cube_model.specs.Orders.{answer_cmp}
use Rattle.partial_reports.specs.Readable.{HasNoByte, IsReadableLine}
use Rattle.partial_reports.proofs.CallerLemmas.{line_lf}
use Rattle.ssb_reports.specs.Report.{count_text, line_text}
use Rattle.partial_reports.specs.Reading.{IsNextLine, SpellsPartLines, line_fields, AreLinesOf, ReadsCount, ReadsLine}
use Rattle.partial_reports.proofs.NumbersLeft.{digits_lack, lack_both}
use Rattle.partial_reports.proofs.NumberTexts.{digits}
use Rattle.std.proofs.lemmas.Grind.{flat_map-append}

-- ==== Lines that are read one after the other.

all_front : (P : Line → Type 0) (front rest : List Line) → AllByRecursion P (front ++ rest) → AllByRecursion P front
all_front P [] rest all = tt
all_front P (line ∷ front) rest all = (all.0, all_front P front rest all.1)

-- a beginning of lines in order is in order
pub front_rising : (front rest : List Line) → IsAscending (answer_cmp None) (front ++ rest)
    → IsAscending (answer_cmp None) front
front_rising [] rest rise = tt
front_rising (line ∷ front) rest rise =
    (all_front (λ other. key_cmp line.key other.key ≡ Less) front rest rise.0, front_rising front rest rise.1)

-- what is left of lines, after some of them were read from some bytes
pub record LinesLeft (query : Query) (all read : List Line) (text : List ℕ) (taken size : ℕ) : Type 0 where
  pub rest : List Line
  pub is : all ≡ read ++ rest
  pub readable : AllByRecursion (IsReadableLine query) rest
  pub rising : IsAscending (answer_cmp None) all
  pub few : length all < 2 ^ 63
  pub spelled : text ≡ flat_map line_text rest ++ count_text (length all)
  pub room : taken + length text ≤ size

-- no line
pub record IsEndOfLines (all read : List Line) (text : List ℕ) : Type 0 where
  pub is : read ≡ all
  pub few : length read < 2 ^ 63
  pub spelled : text ≡ count_text (length read)

-- another line
pub record IsOneMoreLine (query : Query) (all read : List Line) (text : List ℕ) (taken size : ℕ) : Type 0 where
  pub line : Line
  pub left : List ℕ
  pub next : IsNextLine query read line text left
  pub after : (new : List Line) (moved : List ℕ) → new ≡ read ++ line ∷ [] → moved ≡ left
      → LinesLeft query all new moved (taken + 1) size

long_count : (n : ℕ) → 0 < length (count_text n)
long_count n = omega (arith, length-append (codes "rows ") (decimal n ++ 10 ∷ []))

pub end_or_line : (query : Query) (all read : List Line) (text : List ℕ) (taken size : ℕ)
    → LinesLeft query all read text taken size
    → IsEndOfLines all read text ⊎ IsOneMoreLine query all read text taken size
end_or_line query all read text taken size w = by w.rest w.is w.readable w.spelled
  where
    by : (rest : List Line) → all ≡ read ++ rest → AllByRecursion (IsReadableLine query) rest
        → text ≡ flat_map line_text rest ++ count_text (length all)
        → IsEndOfLines all read text ⊎ IsOneMoreLine query all read text taken size
    by [] is readable spelled =
        let same : read ≡ all = sym (is ∙ append-nil read) in
        inl (record {
          is = same;
          few = subst (λ l. length l < 2 ^ 63) (sym same) w.few;
          spelled = spelled ∙ ap (λ l. count_text (length l)) (sym same);
        })
    by (line ∷ rest) is readable spelled =
        let left : List ℕ = flat_map line_text rest ++ count_text (length all) in
        let front : text ≡ line_text line ++ left = spelled
        ∙ append_assoc (line_text line) (flat_map line_text rest) (count_text (length all)) in
        let together : all ≡ (read ++ line ∷ []) ++ rest = is ∙ sym (append_assoc read (line ∷ []) rest) in
        let sizes : length text ≡ length (line_text line) + length left = ap length front
        ∙ length-append (line_text line) left in
        inr (record {
          line = line;
          left = left;
          next = record {
            readable = readable.0;
            rising = front_rising (read ++ line ∷ []) rest (subst (IsAscending (answer_cmp None)) together w.rising);
            spelled = front;
            more = omega
                (arith, length-append (flat_map line_text rest) (count_text (length all)), long_count (length all));
          };
          after = λ new moved added is_left. record {
            rest = rest;
            is = together ∙ ap (λ l. l ++ rest) (sym added);
            readable = readable.1;
            rising = w.rising;
            few = w.few;
            spelled = is_left;
            room = omega (
              arith,
              ap length is_left,
              sizes,
              length-append (join_with_byte 124 (line_fields line)) (10 ∷ []),
              w.room,
            );
          };
        })

-- no line was read
pub all_lines : (query : Query) (all read : List Line) (text : List ℕ) (taken : ℕ) → length read ≡ 0 → taken ≡ 0
    → SpellsPartLines query text all → LinesLeft query all read text taken (length text)
all_lines query all [] text taken none start is =
    record {
      rest = all;
      is = refl;
      readable = is.are.each;
      rising = is.are.rising;
      few = is.few;
      spelled = is.spelled;
      room = omega (arith, start);
    }
all_lines query all (line ∷ read) text taken none start is = absurd (omega (arith, none))

-- the text does not end before the number of lines
pub text_left : (query : Query) (all read : List Line) (text : List ℕ) (size : ℕ)
    → LinesLeft query all read text size size → ⊥
text_left query all read text size w =
    omega (
      arith,
      w.room,
      ap length w.spelled,
      length-append (flat_map line_text w.rest) (count_text (length all)),
      long_count (length all),
    )

-- where a line and the number of lines end
pub count_lacks : (n : ℕ) → n < 2 ^ 63 → HasNoByte 10 (codes "rows " ++ decimal n)
count_lacks n few = lack_both 10 (codes "rows ") (decimal n) (refl, (refl, (refl, (refl, (refl, tt)))))
    (digits_lack 10 (decimal n) (inl (omega arith)) (digits n (omega (arith, few))))

pub count_front : (n : ℕ) → count_text n ≡ (codes "rows " ++ decimal n) ++ 10 ∷ []
count_front n = sym (append_assoc (codes "rows ") (decimal n) (10 ∷ []))

pub line_front : (line : Line) (left : List ℕ) → line_text line ++ left ≡ join_with_byte 124 (line_fields line) ++ 10
    ∷ left
line_front line left = append_assoc (join_with_byte 124 (line_fields line)) (10 ∷ []) left

pub line_lacks : (query : Query) (line : Line) → IsReadableLine query line
    → HasNoByte 10 (join_with_byte 124 (line_fields line))
line_lacks query line is = line_lf query line is

-- ==== Lines that were read, and what is left of the text.

-- no line was read
pub no_lines : (query : Query) (lines : List Line) → length lines ≡ 0 → AreLinesOf query lines
no_lines query [] none = record { each = tt; rising = tt }
no_lines query (line ∷ lines) none = absurd (omega (arith, none))

pub no_text : (lines : List Line) (text : List ℕ) → length lines ≡ 0 → text ≡ flat_map line_text lines ++ text
no_text [] text none = refl
no_text (line ∷ lines) text none = absurd (omega (arith, none))

-- one more line was read
pub one_more : (query : Query) (old new : List Line) (text left rest : List ℕ) → text ≡ flat_map line_text old ++ left
    → ReadsLine query old new left rest
    → text ≡ flat_map line_text new ++ rest
one_more query old new text left rest is reads =
    is ∙ ap (λ l. flat_map line_text old ++ l) reads.spelled
    ∙ sym (append_assoc (flat_map line_text old) (line_text reads.line) rest)
    ∙ ap (λ l. (flat_map line_text old ++ l) ++ rest) (sym (append-nil (line_text reads.line)))
    ∙ ap (λ l. l ++ rest) (sym (flat_map-append line_text old (reads.line ∷ [])))
    ∙ ap (λ lines. flat_map line_text lines ++ rest) (sym reads.added)

-- the number of lines was read, and with it all
pub all_read : (query : Query) (old new : List Line) (text left : List ℕ) → AreLinesOf query old
    → text ≡ flat_map line_text old ++ left → ReadsCount query old new left
    → SpellsPartLines query text new
all_read query old new text left are is reads = rw reads.same (record {
  are = are;
  few = reads.few;
  spelled = is ∙ ap (λ l. flat_map line_text old ++ l) reads.spelled;
})

-- what the loop over the lines needs
pub ruleset lines_taken = (no_lines, no_text, one_more, all_read)
