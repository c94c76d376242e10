use Rattle.std.proofs.Common.{◌∙◌, arith}
use Rattle.std.proofs.lemmas.Bool.Decides.{nat_tests}
use Rattle.group_tallies.proofs.LineLaws.{is_seen-all}
use Rattle.group_tallies.proofs.columns.is_seen.Goals as goal

pub returns-then-not-is_empty : goal.returns-then-not-is_empty
returns-then-not-is_empty c = c.all_count.ensures
    ∙ is_seen-all c.args.slot c.args.columns.now (grind (arith, nat_tests, c.if-not-is_empty.ensures))
