use Rattle.std.proofs.Common.{◌∙◌, sym, ap, length}
use Rattle.std.proofs.lemmas.List.{length-map}
use Rattle.cube_query.proofs.Choosing.{all_below, chosen_keep}
use Rattle.cube_query.proofs.chosen_rows.ChosenRows.within.Goals as goal

pub invariant_of-result : goal.invariant_of-result
invariant_of-result c =
    all_below _ _ _ c.in_ok-places.ensures (ap length c.in_ok-mask.ensures.ok ∙ length-map c.args.batch _
    ∙ ap length (sym c.of.ensures))

pub returns-clause-ok : goal.returns-clause-ok
returns-clause-ok c =
    chosen_keep c.args.bounds c.args.batch _ _ _ c.mask.ensures.figures c.of.ensures c.in_ok-mask.ensures.ok
    c.in_ok-places.ensures
