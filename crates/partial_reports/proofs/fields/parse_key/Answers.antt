use Rattle.std.proofs.Common.{◌∙◌, ap, ◌++◌, ◌∷◌, []}
use Rattle.std.proofs.lemmas.Result.{err_from_is_err_and}
use Rattle.partial_reports.proofs.FieldsLemmas.{next_member}
use Rattle.ssb_reports.specs.Report.{member_text}
use Rattle.partial_reports.proofs.fields.parse_key.Goals as goal

pub returns-in_err-member_of-in-Some : goal.returns-in_err-member_of-in-Some
returns-in_err-member_of-in-Some c = λ key others size plain left.
    let next = next_member key c.loop-column.key c.args.columns c.loop-column._column _ others c.loop-column-test.true
    (c.loop-column.invariant key others size plain left) in
    let read = c.in-Some.ensures (member_text next.member) next.more next.fields in
    let p = err_from_is_err_and c.from_residual.result c.from_residual.ensures.1 in
    rw (p.1, p.2) (c.in_err-member_of-in-Some.ensures next.member next.plain read.0)

pub returns-in-None : goal.returns-in-None
returns-in-None c = λ key others size plain left.
    let next = next_member key c.loop-column.key c.args.columns c.loop-column._column _ others c.loop-column-test.true
    (c.loop-column.invariant key others size plain left) in
    absurd (c.in-None.ensures (member_text next.member) next.more next.fields).0

pub loop-column-preserved : goal.loop-column-preserved
loop-column-preserved c = λ key others size plain left.
    let next = next_member key c.loop-column.key c.args.columns c.loop-column._column _ others c.loop-column-test.true
    (c.loop-column.invariant key others size plain left) in
    let read = c.in-Some.ensures (member_text next.member) next.more next.fields in
    let same = c.in_ok-member_of-in-Some.ensures next.member next.plain read.0 in
    next.after c.push.new.self _ (c.in_ok-push-in-Some.ensures.ok ∙ ap (λ m. c.loop-column.key ++ m ∷ []) same) read.1
