use Rattle.mode_folds.proofs.Adding.{divided_none}
use Rattle.mode_folds.proofs.dividing.divided.Goals as goal

pub loop-row-init : goal.loop-row-init
loop-row-init c =
    let both = divided_none c.args.modes.now.texts c.in_ok-parts.parts.items c.len.result c.in_ok-parts.ensures
    c.len.ensures.count in record {
      counted = both.0;
      divided = both.1;
    }
