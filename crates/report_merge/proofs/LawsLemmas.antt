-- Lemmas of `laws`, by subject.
use Rattle.std.proofs.Common.{◌≡◌, ◌∙◌, sym, ap, subst, ℕ, List, [], ◌∷◌, ◌++◌, append-nil, append_assoc, ◌⊎◌, refl}
use Rattle.std.proofs.Common.{None, inl, inr}
use Rattle.cube_model.specs.declared.query.Query.{Query}
use Rattle.cube_model.specs.declared.rows.DimRows.{DimRows}
use Rattle.cube_model.specs.declared.rows.LineOrder.{LineOrder}
use Rattle.cube_model.specs.Admission.{all_rows}
use Rattle.cube_model.specs.Answers.{answer}
use Rattle.partial_reports.specs.Finishing.{CanBeFinished}
use Rattle.partial_reports.specs.MergeLawful.{AnswersMerge, PartialAnswersCanBeFinished, PartialAnswersSuffice}
use Rattle.partial_reports.specs.MergeLawful.{ReportsReadBack}
use Rattle.partial_reports.specs.Merges.{merged_answer}
use Rattle.partial_reports.specs.Parts.{partial_query}
use Rattle.partial_reports.specs.Readable.{IsReadableAnswer}
use Rattle.query_words.specs.Laws.{SpellOneQuery}
use Rattle.ssb_reports.specs.Report.{report_of}
use Rattle.report_merge.specs.Finishing.{finished_for}
use Rattle.partial_reports.specs.HeadLaws.{HeadsReadBack}
use Rattle.partial_reports.specs.HeadReading.{IsDigest}
use Rattle.report_merge.specs.Lawful.{AreWritten, CountsAreAppended, IsWritten, MergedTextsAreTheAnswer}
use Rattle.report_merge.specs.Lawful.{MergedTextsCanBeFinished, AreOfWhole, WrittenTextsCanBeMerged, heads_in}
use Rattle.report_merge.specs.Merging.{AddsPart, IsMerged, IsPartialReport, MergesTexts, Part, SpellsWords}
use Rattle.report_merge.specs.Merging.{IsMergedPart}
use Rattle.report_merge.proofs.Given.{one_query}
use Rattle.std.specs.List.{Contains}
use Rattle.std.proofs.lemmas.List.Elements.{Contains-append_cases, Contains-append_left, Contains-append_right}
use Rattle.std.proofs.lemmas.List.Sorted.{Contains-permutation, IsPermutation-sym}
use Rattle.cube_model.specs.declared.answer.Answer.{Answer}
use Rattle.cube_model.specs.Ascending.{IsAscending}
use Rattle.cube_model.specs.Orders.{answer_cmp}
use Rattle.partial_reports.proofs.CallerLemmas.{merged_lines-rise}
use Rattle.partial_reports.specs.declared.words.Word.{Word}
use Rattle.report_merge.specs.Mergeable.{CanAdd}

-- ==== Texts that are written of parts of the rows, merged, make the answer over all rows.

-- a part has the partial answer to a query over some rows
record IsOver (query : Query) (dimensions : DimRows) (rows : List LineOrder) (part : Part) : Type 0 where
  query_is : part.query ≡ query
  answer_is : part.answer ≡ answer (partial_query query) dimensions rows

module _ (heads : HeadsReadBack) (words : SpellOneQuery) (reports : ReportsReadBack) (merge : AnswersMerge)
    (suffice : PartialAnswersSuffice) (query : Query) (dimensions : DimRows) (digest : List ℕ)
    (is_digest : IsDigest digest) where
  -- what is read of a text that is written is what was written
  read_back : (rows : List LineOrder) (text : List ℕ) (part : Part) → IsWritten query dimensions digest rows text
      → IsPartialReport text part
      → IsOver query dimensions rows part
  read_back rows text part written is =
      let heads_are = heads part.head written.head part.digest digest (report_of (partial_query part.query) part.answer)
      (report_of (partial_query query) (answer (partial_query query) dimensions rows))
      is.proper written.proper is.digest is_digest (sym is.spelled ∙ written.spelled) in
      let same : part.query ≡ query =
      one_query words part.head.words part.query query is.words
      (subst (λ head. SpellsWords head.words query) (sym heads_are.0) written.words) in
      let readable : IsReadableAnswer (partial_query query) part.answer =
      subst (λ q. IsReadableAnswer (partial_query q) part.answer) same is.readable in
      record {
        query_is = same;
        answer_is = reports (partial_query query) part.answer (answer (partial_query query) dimensions rows) readable
            written.readable
            (sym (ap (λ q. report_of (partial_query q) part.answer) same) ∙ heads_are.2);
      }

  add_over : (before rows : List LineOrder) (text : List ℕ) (start next : Part) → IsOver query dimensions before start
      → IsWritten query dimensions digest rows text
      → AddsPart start text next → IsOver query dimensions (before ++ rows) next
  add_over before rows text start next so_far written adds =
      let other = read_back rows text adds.other written adds.report in record {
        query_is = adds.merged.same.query ∙ so_far.query_is;
        answer_is = adds.merged.answer
            ∙ (λ i. merged_answer (partial_query (so_far.query_is i)) (so_far.answer_is i) (other.answer_is i))
            ∙ sym (merge (partial_query query) dimensions before rows (suffice query dimensions before).0);
      }

  all_over : (before : List LineOrder) (parts : List (List LineOrder)) (texts : List (List ℕ)) (start whole : Part)
      → IsOver query dimensions before start
      → AreWritten query dimensions digest parts texts → MergesTexts start texts whole
      → IsOver query dimensions (before ++ all_rows parts) whole
  all_over before [] [] start whole so_far written merges =
      subst (IsOver query dimensions (before ++ [])) merges
      (subst (λ rows. IsOver query dimensions rows start) (sym (append-nil before)) so_far)
  all_over before [] (text ∷ texts) start whole so_far written merges = absurd written
  all_over before (rows ∷ parts) [] start whole so_far written merges = absurd written
  all_over before (rows ∷ parts) (text ∷ texts) start whole so_far written merges =
      subst (λ all. IsOver query dimensions all whole) (append_assoc before rows (all_rows parts))
      (all_over (before ++ rows) parts texts merges.0 whole
      (add_over before rows text start merges.0 so_far written.0 merges.1) written.1 merges.2)

  whole_over : (parts : List (List LineOrder)) (texts : List (List ℕ)) (whole : Part)
      → AreWritten query dimensions digest parts texts → IsMerged texts whole
      → IsOver query dimensions (all_rows parts) whole
  whole_over [] [] whole written merged = absurd merged
  whole_over [] (text ∷ texts) whole written merged = absurd written
  whole_over (rows ∷ parts) [] whole written merged = absurd merged
  whole_over (rows ∷ parts) (text ∷ texts) whole written merged =
      all_over rows parts texts merged.0 whole (read_back rows text merged.0 written.0 merged.1) written.1 merged.2

pub merged_texts_are_the_answer : HeadsReadBack → SpellOneQuery → ReportsReadBack → AnswersMerge → PartialAnswersSuffice
    → CountsAreAppended → MergedTextsAreTheAnswer
merged_texts_are_the_answer heads words reports merge suffice counts query dimensions digest parts texts whole is_digest
    written merged =
    let is = whole_over heads words reports merge suffice query dimensions digest is_digest parts texts whole written
    merged in (
      is.query_is,
      λ layout. (λ i. finished_for layout (is.query_is i) (is.answer_is i))
          ∙ counts layout query dimensions (all_rows parts),
    )

pub merged_texts_can_be_finished : HeadsReadBack → SpellOneQuery → ReportsReadBack → AnswersMerge
    → PartialAnswersSuffice → PartialAnswersCanBeFinished
    → MergedTextsCanBeFinished
merged_texts_can_be_finished heads words reports merge suffice finish query dimensions digest parts texts whole
    is_digest written merged range few =
    let is = whole_over heads words reports merge suffice query dimensions digest is_digest parts texts whole written
    merged in
    subst CanBeFinished (sym is.answer_is) (finish query dimensions (all_rows parts) range few)

-- ==== Texts that are written of parts of one whole can be merged.

module _ (merge : AnswersMerge) (suffice : PartialAnswersSuffice) (query : Query) (dimensions : DimRows)
    (digest : List ℕ) (is_digest : IsDigest digest) where
  -- the lines of a partial answer are in the order of their keys: they are those of its merge with the answer over no
  -- row
  rising : (rows : List LineOrder) → IsAscending (answer_cmp None) (answer (partial_query query) dimensions rows).lines
  rising rows =
      let over : List LineOrder → Answer = answer (partial_query query) dimensions in
      let whole : over rows ≡ merged_answer (partial_query query) (over rows) (over []) =
      ap over (sym (append-nil rows))
      ∙ merge (partial_query query) dimensions rows [] (suffice query dimensions rows).0 in
      subst (λ (found : Answer). IsAscending (answer_cmp None) found.lines) (sym whole)
      (merged_lines-rise (partial_query query).aggregates (over rows).lines (over []).lines)

  -- the part of a text that is written
  abbrev part_of : (rows : List LineOrder) (text : List ℕ) → IsWritten query dimensions digest rows text → Part
  part_of rows text written =
      record {
        head = written.head;
        digest = digest;
        query = query;
        answer = answer (partial_query query) dimensions
            rows;
      }

  is_report : (rows : List LineOrder) (text : List ℕ) (written : IsWritten query dimensions digest rows text)
      → IsPartialReport text (part_of rows text written)
  is_report rows text written = record {
    proper = written.proper;
    digest = is_digest;
    words = written.words;
    readable = written.readable;
    rising = rising rows;
    spelled = written.spelled;
  }

  -- a part of the whole whose numbers are among some
  record IsOfWhole (words : List Word) (count : ℕ) (taken : List ℕ) (part : Part) : Type 0 where
    words_are : part.head.words ≡ words
    parts_are : part.head.parts ≡ count
    digest_is : part.digest ≡ digest
    query_is : part.query ≡ query
    numbers : (n : ℕ) → Contains part.head.numbers n → Contains taken n

  -- with one part more
  both_of : (words : List Word) (count : ℕ) (taken : List ℕ) (start other both : Part)
      → IsOfWhole words count taken start → IsMergedPart start other both
      → IsOfWhole words count (taken ++ other.head.numbers) both
  both_of words count taken start other both is merged = record {
    words_are = merged.same.words ∙ is.words_are;
    parts_are = merged.same.parts ∙ is.parts_are;
    digest_is = merged.same.dimensions ∙ is.digest_is;
    query_is = merged.same.query ∙ is.query_is;
    numbers = λ n c. by n (Contains-append_cases start.head.numbers other.head.numbers n
        (Contains-permutation both.head.numbers (start.head.numbers ++ other.head.numbers) n
        (IsPermutation-sym (start.head.numbers ++ other.head.numbers) both.head.numbers merged.numbers) c));
  }
    where
      by : (n : ℕ) → Contains start.head.numbers n ⊎ Contains other.head.numbers n
          → Contains (taken ++ other.head.numbers) n
      by n (inl c) = Contains-append_left taken other.head.numbers n (is.numbers n c)
      by n (inr c) = Contains-append_right taken other.head.numbers n c

  can_add : (words : List Word) (count : ℕ) (taken : List ℕ) (start : Part) → IsOfWhole words count taken start
      → (parts : List (List LineOrder)) (texts : List (List ℕ))
      (written : AreWritten query dimensions digest parts texts)
      → AreOfWhole words count taken (heads_in query dimensions digest parts texts written) → CanAdd start texts
  can_add words count taken start is [] [] written whole = tt
  can_add words count taken start is [] (text ∷ texts) written whole = absurd written
  can_add words count taken start is (rows ∷ parts) [] written whole = absurd written
  can_add words count taken start is (rows ∷ parts) (text ∷ texts) written whole = (
    part_of rows text written.0,
    is_report rows text written.0,
    record {
      words = whole.0 ∙ sym is.words_are;
      parts = whole.1 ∙ sym is.parts_are;
      dimensions = sym is.digest_is;
      query = sym is.query_is;
    },
    (λ n one other. whole.2 n (is.numbers n one) other),
    λ both merged. can_add words count (taken ++ written.0.head.numbers) both
        (both_of words count taken start (part_of rows text written.0) both is merged) parts texts written.1 whole.3,
  )

pub written_texts_can_be_merged : AnswersMerge → PartialAnswersSuffice → WrittenTextsCanBeMerged
written_texts_can_be_merged merge suffice query dimensions digest words count rows parts text texts is_digest written
    whole =
    let first = part_of merge suffice query dimensions digest is_digest rows text written.0 in (
      first,
      is_report merge suffice query dimensions digest is_digest rows text written.0,
      can_add merge suffice query dimensions digest is_digest words count written.0.head.numbers first
          (record { words_are = whole.0; parts_are = whole.1; digest_is = refl; query_is = refl; numbers = λ n c. c })
          parts texts written.1 whole.3,
    )
