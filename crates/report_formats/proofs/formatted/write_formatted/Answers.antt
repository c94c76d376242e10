use Rattle.std.proofs.Common.{List, subst}
use Rattle.std.proofs.lemmas.Bool.{false≢true}
use Rattle.std.proofs.lemmas.Result.{err_from_is_err_and}
use Rattle.cube_model.specs.declared.answer.Line.{Line}
use Rattle.ssb_reports.specs.Writing.{Writes}
use Rattle.report_formats.specs.Fields.{unarranged}
use Rattle.report_formats.proofs.FormattedLemmas.{lacks, written}
use Rattle.report_formats.proofs.formatted.write_formatted.Goals as goal

pub returns-in_err-arranged-clause-writes : goal.returns-in_err-arranged-clause-writes
returns-in_err-arranged-clause-writes g c =
    lacks _ _ _ _ (err_from_is_err_and _ c.from_residual.ensures.1) c.in_err-arranged.ensures.only

pub returns-in_err-arranged-clause-free : goal.returns-in_err-arranged-clause-free
returns-in_err-arranged-clause-free g c = λ unsorted. absurd (false≢true (c.in_err-arranged.ensures.free unsorted))

pub returns-clause-writes : goal.returns-clause-writes
returns-clause-writes g c =
    let old = g.W.Write.contents c.args.out.now in
    let new = g.W.Write.contents c.write_unarranged.new.out in
    written old new c.write_unarranged.result _
    (subst (λ (lines : List Line). Writes old new c.write_unarranged.result
    (unarranged c.args.asked.now (record { lines = lines }))) c.in_ok-arranged.ensures.ok
    c.write_unarranged.ensures)

pub returns-clause-free : goal.returns-clause-free
returns-clause-free g c = λ unsorted.
    let old = g.W.Write.contents c.args.out.now in
    let new = g.W.Write.contents c.write_unarranged.new.out in
    subst (λ (lines : List Line). Writes old new c.write_unarranged.result
    (unarranged c.args.asked.now (record { lines = lines }))) c.in_ok-arranged.ensures.ok c.write_unarranged.ensures
