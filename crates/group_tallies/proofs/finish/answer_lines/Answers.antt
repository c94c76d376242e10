use Rattle.std.proofs.Common.{◌∙◌, sym, ap}
use Rattle.std.proofs.lemmas.Result.{IfOk-weaker}
use Rattle.group_tallies.specs.Groups.{finest}
use Rattle.group_tallies.specs.Slots.{entries_of}
use Rattle.group_tallies.proofs.FinishLemmas.{plain_groups}
use Rattle.group_tallies.proofs.Seen.{seen_are}
use Rattle.group_tallies.proofs.finish.answer_lines.Goals as goal

pub returns-in-Plain-clause-lines : goal.returns-in-Plain-clause-lines
returns-in-Plain-clause-lines c =
    let d = c.args.grouping.now.dimensions in
    let q = c.args.grouping.now.query in
    let fold = c.requires.fold in
    let plain = ap (λ query. query.kind) (sym c.requires.query) ∙ c.in-Plain.is in
    IfOk-weaker c.finest_lines.result _ _
    (λ lines is rows tallied. is rows (
    seen_are d (finest q) (entries_of c.args.slots.now) c.args.columns.now rows fold.proper.some_aggregate fold.rising
    fold.numbers tallied
    ∙ plain_groups d q plain rows))
    c.finest_lines.ensures.lines
