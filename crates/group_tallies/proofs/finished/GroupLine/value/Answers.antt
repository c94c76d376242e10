use Rattle.std.proofs.Common.{◌≡◌, ◌∙◌, ◌<◌, sym, ap, subst, length}
use Rattle.group_tallies.specs.Columns.{tallies_at}
use Rattle.group_tallies.specs.Tallies.{values_of}
use Rattle.group_numbers.specs.GroupNumbers.{query_of}
use Rattle.group_tallies.proofs.LineLaws.{length-values_of}
use Rattle.group_tallies.proofs.finished.GroupLine.value.Goals as goal

pub value_at-requires-clause-place : goal.value_at-requires-clause-place
value_at-requires-clause-place c =
    let aggs = (query_of c.self.inside.grouping.now).aggregates in
    let columns = c.self.inside.columns.now in
    let slot = c.self.inside.slot in
    let asked : c.as_slice-aggregates.result.now ≡ aggs = c.as_slice-aggregates.ensures
    ∙ ap (λ q. q.aggregates) c.query.ensures in
    let within : c.args.aggregate < length (values_of aggs (tallies_at columns slot)) =
    rw (← c.self.view_is) at c.requires in
    let below : c.args.aggregate < length aggs =
    subst (λ n. c.args.aggregate < n) (length-values_of slot aggs columns c.self.invariant.1) within in
    subst (λ all. c.args.aggregate < length all) (sym asked) below
