use Rattle.std.proofs.Common.{◌≡◌, ◌∙◌, ap, subst, sym, List}
use Rattle.std.proofs.lemmas.Result.{err_from_is_err_and}
use Rattle.partial_reports.specs.Parts.{partial_query}
use Rattle.partial_reports.specs.Wide.{narrow_lines}
use Rattle.partial_reports.specs.declared.head.Head.{Head}
use Rattle.partial_reports.specs.declared.words.Word.{Word}
use Rattle.partial_reports.specs.HeadReading.{IsDigest}
use Rattle.ssb_reports.specs.Report.{report_of}
use Rattle.report_merge.specs.Kept.{IsMore}
use Rattle.report_merge.specs.Merging.{Part, SpellsWords}
use Rattle.report_merge.specs.Refusals.{RefusesAdding, BeginsWith, IsUnlike, NumbersRefuse}
use Rattle.report_merge.proofs.Given.{one_query}
use Rattle.report_merge.proofs.Grown.{one_more}
use Rattle.report_merge.proofs.Refusing.{add_numbers, add_unlike, add_unread, answer_read}
use Rattle.query_words.proofs.Once.{spell_one_query}
use Rattle.report_merge.proofs.merge.Merge.more.Goals as goal

pub returns-in_err-read-clause-refused : goal.returns-in_err-read-clause-refused
returns-in_err-read-clause-refused c =
    let p = err_from_is_err_and c.from_residual.result c.from_residual.ensures.1 in
    rw p.1 (add_unread c.args.self.now c.args.text.now p.0 _
    (λ other is. c.in_err-read.ensures.complete other.head other.digest
    (report_of (partial_query other.query) other.answer) is.proper is.digest is.spelled) p.2)

pub returns-in_err-check_alike-clause-refused : goal.returns-in_err-check_alike-clause-refused
returns-in_err-check_alike-clause-refused c =
    let inside = c.self.inside in
    let read = c.in_ok-read.read in
    let part : Part =
    record {
      head = inside.head;
      digest = inside.digest;
      query = inside.query;
      answer = record {
        lines = narrow_lines inside.lines.items;
      };
    } in
    let digest : IsDigest read.digest =
    c.in_ok-read.ensures.digest in
    let begins : BeginsWith c.args.text.now read.head read.digest =
    record {
      proper = c.in_ok-read.ensures.proper;
      digest_is = digest;
      left = read.report.now;
      spelled = c.in_ok-read.ensures.text;
    } in
    let p = err_from_is_err_and c.from_residual-in_err-check_alike.result
    c.from_residual-in_err-check_alike.ensures.1 in
    rw p.1 (subst (λ (one : Part). RefusesAdding one c.args.text.now p.0) c.self.view_is
    (add_unlike part c.args.text.now read.head read.digest p.0 begins
    (subst (IsUnlike inside.head inside.digest read.head read.digest) (sym p.2) c.in_err-check_alike.ensures.refused)))

pub returns-in_err-numbers-clause-refused : goal.returns-in_err-numbers-clause-refused
returns-in_err-numbers-clause-refused c =
    let inside = c.self.inside in
    let read = c.in_ok-read.read in
    let part : Part =
    record {
      head = inside.head;
      digest = inside.digest;
      query = inside.query;
      answer = record {
        lines = narrow_lines inside.lines.items;
      };
    } in
    let digest : IsDigest read.digest =
    c.in_ok-read.ensures.digest in
    let begins : BeginsWith c.args.text.now read.head read.digest =
    record {
      proper = c.in_ok-read.ensures.proper;
      digest_is = digest;
      left = read.report.now;
      spelled = c.in_ok-read.ensures.text;
    } in
    let p = err_from_is_err_and c.from_residual-in_err-numbers.result c.from_residual-in_err-numbers.ensures.1 in
    rw p.1 (subst (λ (one : Part). RefusesAdding one c.args.text.now p.0) c.self.view_is
    (add_numbers part c.args.text.now read.head read.digest c.as_slice.result.now c.as_slice-2.result.now p.0 begins
    (record {
      words = c.in_ok-check_alike.ensures.words;
      parts = c.in_ok-check_alike.ensures.parts;
      dimensions =
          c.in_ok-check_alike.ensures.dimensions;
    })
    c.as_slice.ensures c.as_slice-2.ensures
    (subst (NumbersRefuse c.as_slice.result.now c.as_slice-2.result.now) (sym p.2)
    c.in_err-numbers.ensures.refused)))

pub returns-in_err-answer-clause-refused : goal.returns-in_err-answer-clause-refused
returns-in_err-answer-clause-refused c =
    let inside = c.self.inside in
    let read = c.in_ok-read.read in
    let part : Part =
    record {
      head = inside.head;
      digest = inside.digest;
      query = inside.query;
      answer = record {
        lines = narrow_lines inside.lines.items;
      };
    } in
    let p = err_from_is_err_and c.from_residual-in_err-answer.result c.from_residual-in_err-answer.ensures.1 in
    rw p.1 (subst (λ (one : Part). RefusesAdding one c.args.text.now p.0) c.self.view_is
    (add_unread part c.args.text.now p.0 _ (λ other is.
    let heads =
    c.in_ok-read.ensures.complete other.head other.digest (report_of (partial_query other.query) other.answer)
    is.proper is.digest is.spelled in
    let words : other.head.words ≡ inside.head.words = sym (ap (λ (head : Head). head.words) heads.0)
    ∙ c.in_ok-check_alike.ensures.words in
    let query : other.query ≡ inside.query =
    one_query spell_one_query inside.head.words other.query inside.query
    (subst (λ (list : List Word). SpellsWords list other.query) words is.words) c.self.invariant.words in
    let whole = answer_read c.args.text.now other inside.query inside.partial read.report.now is query
    c.self.invariant.partial_is heads.2 in
    c.in_err-answer.ensures.complete other.answer whole.readable whole.rising whole.text) p.2))

pub returns-clause-ok : goal.returns-clause-ok
returns-clause-ok c =
    let inside = c.self.inside in
    let read = c.in_ok-read.read in
    let part : Part =
    record {
      head = inside.head;
      digest = inside.digest;
      query = inside.query;
      answer = record {
        lines = narrow_lines inside.lines.items;
      };
    } in
    subst (λ (one : Part). IsMore one c.args.text.now c.in_ok-numbers.numbers c.in_ok-answer.answer) c.self.view_is
    (one_more part c.args.text.now read.head read.digest inside.partial read.report.now c.in_ok-numbers.numbers
    c.in_ok-answer.answer inside.lines.items
    c.self.invariant c.in_ok-read.ensures.text c.in_ok-read.ensures.proper
    (record {
      words = c.in_ok-check_alike.ensures.words;
      parts = c.in_ok-check_alike.ensures.parts;
      dimensions =
          c.in_ok-check_alike.ensures.dimensions;
    })
    (rw (c.as_slice.ensures, c.as_slice-2.ensures) at c.in_ok-numbers.ensures.all) c.in_ok-numbers.ensures.ascend
    (record {
      text = c.in_ok-answer.ensures.text;
      readable = c.in_ok-answer.ensures.readable;
      rising = c.in_ok-answer.ensures.rising;
    }))
