use Rattle.std.proofs.Common.{◌∙◌, ap, subst, sym, List}
use Rattle.std.proofs.lemmas.Result.{err_from_is_err_and}
use Rattle.partial_reports.specs.Parts.{partial_query}
use Rattle.partial_reports.specs.declared.head.Head.{Head}
use Rattle.partial_reports.specs.declared.words.Word.{Word}
use Rattle.partial_reports.specs.HeadReading.{IsDigest}
use Rattle.ssb_reports.specs.Report.{report_of}
use Rattle.report_merge.specs.Merging.{SpellsWords}
use Rattle.report_merge.specs.Refusals.{WordsRefuse, refused_of}
use Rattle.report_merge.proofs.Grown.{first_kept, first_report}
use Rattle.report_merge.proofs.Refusing.{answer_read, new_unread, new_words, words_memory}
use Rattle.report_merge.proofs.Refusing.{partial_reports_are_of_one_part}
use Rattle.report_merge.proofs.merge.Merge.new.Goals as goal

pub returns-in_err-head-clause-complete : goal.returns-in_err-head-clause-complete
returns-in_err-head-clause-complete c = λ part is.
    let p = err_from_is_err_and c.from_residual.result c.from_residual.ensures.1 in
    rw p.1 (p.2
    ∙ ap refused_of
    (c.in_err-head.ensures.complete part.head part.digest (report_of (partial_query part.query) part.answer)
    is.proper is.digest is.spelled))

pub returns-in_err-head-clause-refused : goal.returns-in_err-head-clause-refused
returns-in_err-head-clause-refused c =
    let p = err_from_is_err_and c.from_residual.result c.from_residual.ensures.1 in
    rw p.1 (new_unread c.args.text.now p.0 _
    (λ part is. c.in_err-head.ensures.complete part.head part.digest (report_of (partial_query part.query) part.answer)
    is.proper is.digest is.spelled) p.2)

pub returns-in_err-query-clause-complete : goal.returns-in_err-query-clause-complete
returns-in_err-query-clause-complete c = λ part is.
    let read = c.in_ok-head.ensures.complete part.head part.digest (report_of (partial_query part.query) part.answer)
    is.proper is.digest is.spelled in
    let spells : SpellsWords c.as_slice.result.now part.query =
    subst (λ (words : List Word). SpellsWords words part.query)
    (sym (c.as_slice.ensures ∙ ap (λ (head : Head). head.words) read.0)) is.words in
    let p = err_from_is_err_and c.from_residual-in_err-query.result c.from_residual-in_err-query.ensures.1 in
    rw p.1 (words_memory c.as_slice.result.now p.0 part.query
    (subst (WordsRefuse c.as_slice.result.now) (sym p.2) c.in_err-query.ensures.refused) spells)

pub returns-in_err-query-clause-refused : goal.returns-in_err-query-clause-refused
returns-in_err-query-clause-refused c =
    let p = err_from_is_err_and c.from_residual-in_err-query.result c.from_residual-in_err-query.ensures.1 in
    rw p.1 (new_words c.args.text.now c.as_slice.result.now p.0
    (subst (WordsRefuse c.as_slice.result.now) (sym p.2) c.in_err-query.ensures.refused) (λ part is.
    let read = c.in_ok-head.ensures.complete part.head part.digest (report_of (partial_query part.query) part.answer)
    is.proper is.digest is.spelled in
    subst (λ (words : List Word). SpellsWords words part.query)
    (sym (c.as_slice.ensures ∙ ap (λ (head : Head). head.words) read.0)) is.words))

pub returns-in_err-answer-clause-complete : goal.returns-in_err-answer-clause-complete
returns-in_err-answer-clause-complete c = λ part is.
    let read = c.in_ok-head.ensures.complete part.head part.digest (report_of (partial_query part.query) part.answer)
    is.proper is.digest is.spelled in
    let spells : SpellsWords c.as_slice.result.now part.query =
    subst (λ (words : List Word). SpellsWords words part.query)
    (sym (c.as_slice.ensures ∙ ap (λ (head : Head). head.words) read.0)) is.words in
    let whole =
    answer_read c.args.text.now part c.in_ok-query.query c.in_ok-query.partial c.in_ok-head.field-0.report.now is
    (c.in_ok-query.ensures.one part.query spells)
    c.in_ok-query.ensures.partial read.2 in
    let p = err_from_is_err_and c.from_residual-in_err-answer.result c.from_residual-in_err-answer.ensures.1 in
    rw p.1 (p.2 ∙ ap refused_of (c.in_err-answer.ensures.complete part.answer whole.readable whole.rising whole.text))

pub returns-in_err-answer-clause-refused : goal.returns-in_err-answer-clause-refused
returns-in_err-answer-clause-refused c =
    let p = err_from_is_err_and c.from_residual-in_err-answer.result c.from_residual-in_err-answer.ensures.1 in
    rw p.1 (new_unread c.args.text.now p.0 _ (λ part is.
    let read = c.in_ok-head.ensures.complete part.head part.digest (report_of (partial_query part.query) part.answer)
    is.proper is.digest is.spelled in
    let spells : SpellsWords c.as_slice.result.now part.query =
    subst (λ (words : List Word). SpellsWords words part.query)
    (sym (c.as_slice.ensures ∙ ap (λ (head : Head). head.words) read.0)) is.words in
    let whole =
    answer_read c.args.text.now part c.in_ok-query.query c.in_ok-query.partial c.in_ok-head.field-0.report.now is
    (c.in_ok-query.ensures.one part.query spells)
    c.in_ok-query.ensures.partial read.2 in
    c.in_err-answer.ensures.complete part.answer whole.readable whole.rising whole.text) p.2)

pub invariant_of-result : goal.invariant_of-result
invariant_of-result c =
    let read = c.in_ok-head.field-0 in
    let digest : IsDigest read.digest =
    c.in_ok-head.ensures.digest in
    first_kept read.head read.digest c.in_ok-query.query c.in_ok-query.partial read.report.now c.in_ok-answer.answer
    c.in_ok-lines.lines.items
    c.in_ok-head.ensures.proper digest
    (subst (λ (words : List Word). SpellsWords words c.in_ok-query.query) c.as_slice.ensures
    c.in_ok-query.ensures.query) c.in_ok-query.ensures.partial
    (record {
      text = c.in_ok-answer.ensures.text;
      readable = c.in_ok-answer.ensures.readable;
      rising = c.in_ok-answer.ensures.rising;
    }) c.in_ok-lines.ensures

pub returns-clause-ok : goal.returns-clause-ok
returns-clause-ok c =
    let read = c.in_ok-head.field-0 in
    let digest : IsDigest read.digest =
    c.in_ok-head.ensures.digest in
    first_report c.args.text.now read.head read.digest c.in_ok-query.query c.in_ok-query.partial read.report.now
    c.in_ok-answer.answer c.in_ok-lines.lines.items
    c.in_ok-head.ensures.text c.in_ok-head.ensures.proper digest
    (subst (λ (words : List Word). SpellsWords words c.in_ok-query.query) c.as_slice.ensures
    c.in_ok-query.ensures.query) c.in_ok-query.ensures.partial
    (record {
      text = c.in_ok-answer.ensures.text;
      readable = c.in_ok-answer.ensures.readable;
      rising = c.in_ok-answer.ensures.rising;
    }) c.in_ok-lines.ensures

pub returns-clause-complete : goal.returns-clause-complete
returns-clause-complete c = λ part is.
    let read = c.in_ok-head.field-0 in
    let digest : IsDigest read.digest =
    c.in_ok-head.ensures.digest in
    partial_reports_are_of_one_part c.args.text.now _ part
    (first_report c.args.text.now read.head read.digest c.in_ok-query.query c.in_ok-query.partial read.report.now
    c.in_ok-answer.answer c.in_ok-lines.lines.items
    c.in_ok-head.ensures.text c.in_ok-head.ensures.proper digest
    (subst (λ (words : List Word). SpellsWords words c.in_ok-query.query) c.as_slice.ensures
    c.in_ok-query.ensures.query) c.in_ok-query.ensures.partial
    (record {
      text = c.in_ok-answer.ensures.text;
      readable = c.in_ok-answer.ensures.readable;
      rising = c.in_ok-answer.ensures.rising;
    }) c.in_ok-lines.ensures)
    is
