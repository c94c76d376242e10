use Rattle.std.proofs.Common.{◌≡◌, ◌∙◌, pos, rules}
use Rattle.column_kernels.specs.Masks.{selected_by}
use Rattle.column_kernels.proofs.CallerLemmas.{count_selected}
use Rattle.group_tallies.specs.declared.tally.Tally.{Tally}
use Rattle.cube_query.proofs.WholeBatchLemmas.{tally_noughts}
use Rattle.cube_query.proofs.whole_batch.count_tally.Goals as goal

pub returns : goal.returns
returns c =
    let mask = c.args.mask.now in
    let rows = c.args.batch.now in
    let all : Tally = record { count = c.count_of.result; sum = pos 0; least = pos 0; greatest = pos 0 } in
    let same : _ ≡ all = search rules in
    same ∙ tally_noughts (selected_by mask rows) c.count_of.result
    (c.count_of.ensures ∙ count_selected mask rows c.requires)
