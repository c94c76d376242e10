use Rattle.std.proofs.Common.{◌++◌, List}
use Rattle.std.specs.Option.{option_map}
use Rattle.cube_model.specs.declared.answer.Member.{Member}
use Rattle.cube_model.specs.declared.answer.Value.{Value}
use Rattle.mode_folds.specs.Joining.{HasValues}
use Rattle.mode_queries.specs.Joining.{HaveValues, joined_keys, joined_lines}
use Rattle.mode_folds.proofs.joining.join.Given as goal

abbrev pub invariant-loop-line : goal.invariant-loop-line
invariant-loop-line l = (value : List Member → List Value) (keys : List (List Member))
    → HaveValues value (joined_lines l.kind l.place (option_map (λ mode. mode.now) l.mode) l.yielded)
    → HasValues value keys l.initial.lines
    → HasValues value (keys ++ joined_keys l.kind l.place (option_map (λ mode. mode.now) l.mode) l.yielded) l.lines
