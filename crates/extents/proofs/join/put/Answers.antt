use Rattle.std.proofs.Common.{◌≡◌, ◌<◌, ◌++◌, ◌∷◌, suc, length, take, drop, ap, ◌∙◌, arith}
use Rattle.std.proofs.lemmas.List.{set_split}
use Rattle.extents.proofs.join.put.Goals as goal

-- one run gives way to the joined one
pub returns-else-join-2-clause-ok : goal.returns-else-join-2-clause-ok
returns-else-join-2-clause-ok c =
    let runs = c.args.runs.now.items in
    let join = c.args.join in
    let lt : join.place < length runs =
    omega (arith, c.args.runs.now.ok.0, c.requires.order, c.requires.within, c.if-join.false) in
    let next : suc join.place ≡ join.after = omega (arith, c.requires.order, c.if-join.false, c.if-join-2.false) in
    set_split runs join.place join.joined lt ∙ ap (λ n. take join.place runs ++ join.joined ∷ drop n runs) next
