use Rattle.std.proofs.Common.{[], arith, rules}
use Rattle.query_words.proofs.NamedViews.{five_decide}
use Rattle.query_words.proofs.view_words.are_names.Goals as goal

pub returns-then-eq : goal.returns-then-eq
returns-then-eq c =
    five_decide c.args.parts.now c.args.view c.are_levels-then-eq.result (record { ref_ptr = (0, 0); now = [] })
    (omega (arith, c.in-len5.len_at_least, c.in-len5.len_below)) (search rules) (search rules)
