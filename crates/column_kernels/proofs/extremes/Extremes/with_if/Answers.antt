use Rattle.std.proofs.Common.{◌≡◌, ◌∙◌, cond, rules}
use Rattle.std.specs.Int.{int_min, int_max}
use Rattle.column_kernels.specs.declared.extremes.Extremes.{Extremes}
use Rattle.column_kernels.proofs.ExtremesLemmas.{with_if_is}
use Rattle.column_kernels.proofs.extremes.Extremes.with_if.Goals as goal

pub returns : goal.returns
returns c =
    let kept : Extremes = c.args.self in
    let is_selected = c.args.is_selected in
    let number = c.args.number in
    let all : Extremes =
    record {
      least = int_min kept.least (cond is_selected number kept.least);
      greatest =
          int_max kept.greatest (cond is_selected number kept.greatest);
    } in
    let same : _ ≡ all = search rules in
    same ∙ with_if_is kept is_selected number
