use Rattle.std.proofs.Common.{rules, subst, sym}
use Rattle.std.proofs.lemmas.Result.{err_from_is_err_and}
use Rattle.report_merge.specs.contracts.merge.Merge.{the_view}
use Rattle.report_merge.specs.Merging.{AddsPart, Part}
use Rattle.report_merge.specs.Refusals.{RefusesAdding}
use Rattle.report_merge.proofs.Grown.{added}
use Rattle.report_merge.proofs.Refusing.{add_memory, add_whole, partial_reports_are_of_one_part}
use Rattle.partial_reports.proofs.HeadTexts.{heads_read_back}
use Rattle.report_merge.proofs.merge.Merge.add.Goals as goal

pub returns-in_err-numbers-clause-complete : goal.returns-in_err-numbers-clause-complete
returns-in_err-numbers-clause-complete c = λ other is alike apart.
    let p = err_from_is_err_and c.from_residual.result c.from_residual.ensures.1 in
    rw p.1 (add_memory heads_read_back c.args.self other c.args.text.now p.0
    (subst (RefusesAdding c.args.self c.args.text.now) (sym p.2) c.in_err-numbers.ensures.refused) is alike apart)

pub returns-clause-complete : goal.returns-clause-complete
returns-clause-complete c = λ other is alike apart.
    let inside = c.self.inside in
    let next : Part =
    the_view (record {
      head = c.with_numbers.result;
      digest = inside.digest;
      query = inside.query;
      partial = inside.partial;
      lines = c.in_ok-lines.lines;
    }) in
    let adds : AddsPart c.args.self c.args.text.now next = search (rules, added) in
    add_whole partial_reports_are_of_one_part c.args.self other next c.args.text.now adds is
