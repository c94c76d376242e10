use Rattle.std.proofs.Common.{◌≡◌, ◌++◌, List, take}
use Rattle.std.specs.List.{AllByRecursion}
use Rattle.cube_model.specs.declared.answer.Member.{Member}
use Rattle.cube_model.specs.declared.answer.Value.{Value}
use Rattle.cube_model.specs.declared.query.Query.{Query}
use Rattle.cube_model.specs.declared.rows.LineOrder.{LineOrder}
use Rattle.mode_folds.specs.Joining.{FoldParts, HasValues}
use Rattle.mode_queries.specs.Joining.{HaveValues, keys_by_mode, lines_of_mode}
use Rattle.mode_folds.proofs.joining.join_modes.Given as goal

abbrev pub invariant-loop-code : goal.invariant-loop-code
invariant-loop-code l = (query : Query) (rows : List LineOrder) (value : List Member → List Value)
    (keys : List (List Member)) → l.kind ≡ query.kind → FoldParts l.dims query rows l.modes.texts l.folds
    → AllByRecursion (λ mode. HaveValues value (lines_of_mode l.dims query l.place rows mode)) l.modes.texts
    → HasValues value keys l.initial.lines
    → HasValues value (keys ++ keys_by_mode l.dims query l.place rows (take l.code l.modes.texts)) l.lines
