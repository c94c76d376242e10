use Rattle.std.proofs.Common.{◌++◌, length}
use Rattle.std.specs.List.{flat_map}
use Rattle.std.proofs.lemmas.Result.{err_from_is_err_and}
use Rattle.ssb_reports.specs.Report.{count_text, line_text}
use Rattle.partial_reports.specs.Reading.{SpellsPartLines}
use Rattle.partial_reports.proofs.reading.read_answer.Goals as goal

pub returns-in_err-left-clause-complete : goal.returns-in_err-left-clause-complete
returns-in_err-left-clause-complete c = λ answer is rise e.
    let p = err_from_is_err_and c.from_residual.result c.from_residual.ensures.1 in
    rw (p.1, p.2)
    (c.in_err-left.ensures.complete (flat_map line_text answer.lines ++ count_text (length answer.lines)) e)

pub returns-in_err-lines-clause-complete : goal.returns-in_err-lines-clause-complete
returns-in_err-lines-clause-complete c = λ answer is rise e.
    let left = c.in_ok-left.ensures.complete (flat_map line_text answer.lines ++ count_text (length answer.lines)) e in
    let spells : SpellsPartLines c.args.query.now c.in_ok-left.left.now answer.lines =
    record { are = record { each = is.each; rising = rise }; few = is.few; spelled = left } in
    let p = err_from_is_err_and c.from_residual-in_err-lines.result c.from_residual-in_err-lines.ensures.1 in
    rw (p.1, p.2) (c.in_err-lines.ensures.complete answer.lines spells)

pub returns-clause-complete : goal.returns-clause-complete
returns-clause-complete c = λ answer is rise e.
    let left = c.in_ok-left.ensures.complete (flat_map line_text answer.lines ++ count_text (length answer.lines)) e in
    let spells : SpellsPartLines c.args.query.now c.in_ok-left.left.now answer.lines =
    record { are = record { each = is.each; rising = rise }; few = is.few; spelled = left } in
    let same = c.in_ok-lines.ensures.complete answer.lines spells in
    λ i. record { lines = same i }
