use Rattle.std.proofs.Common.{rules, sym, tests}
use Rattle.std.proofs.lemmas.Iterator.Consumers.{nth_from_yields_List}
use Rattle.std.proofs.lemmas.Iterator.Splits.{YieldsList-from_slice_split}
use Rattle.table_hints.proofs.lines.field.Goals as goal

pub returns : goal.returns
returns c =
    rw (sym c.without_cr.ensures)
    (nth_from_yields_List _ _ c.args.place c.nth.ensures.ran
    (YieldsList-from_slice_split _ _ c.without_cr.result.now c.split.ensures.rest c.split.ensures.done
    c.split.ensures.closure (λ x r q k. search (rules, tests))))
