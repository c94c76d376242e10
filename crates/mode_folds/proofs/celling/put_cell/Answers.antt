use Rattle.std.proofs.Common.{◌∙◌, ◌<◌, ◌++◌, ◌∷◌, [], ap, arith, length}
use Rattle.mode_folds.proofs.OneCellMore.{left_out, put}
use Rattle.mode_folds.proofs.celling.put_cell.Goals as goal

pub returns-in_ok-push : goal.returns-in_ok-push
returns-in_ok-push c = λ cells count so_far.
    let parts = c.args.parts.now in
    let within : c.args.cell.key.ship_mode < length parts.items = omega (arith, c.if-code-len.true, c.len.ensures) in
    put count cells c.args.cell parts.items so_far c.index_mut.result.now c.push.new.self within
    (c.in_ok-push.ensures.items ∙ ap (λ part. part.items ++ c.args.cell ∷ []) c.index_mut.ensures.value)

pub returns-else-code-len : goal.returns-else-code-len
returns-else-code-len c = λ cells count so_far.
    let parts = c.args.parts.now in
    left_out count cells c.args.cell parts.items so_far
    (omega (arith, so_far.counted, c.if-code-len.false, c.len.ensures))
