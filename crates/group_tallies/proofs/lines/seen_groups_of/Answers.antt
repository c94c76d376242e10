use Rattle.std.proofs.Common.{◌∙◌, ap, rules}
use Rattle.std.proofs.lemmas.Fn.{filter_same}
use Rattle.group_tallies.specs.Columns.{seen_entries, tallies_at}
use Rattle.group_tallies.proofs.lines.seen_groups_of.Goals as goal

pub returns : goal.returns
returns c =
    filter_same _ _ _ (λ x b f' k. search rules) _ _ c.retain.ensures.filtered
    ∙ ap (seen_entries (tallies_at c.args.columns.now)) c.in_ok-entries.ensures
