use Rattle.std.proofs.Common.{◌≡◌, ◌++◌, List, length}
use Rattle.std.specs.List.{AllByRecursion}
use Rattle.cube_query.specs.Groups.{Begins, FoldState, IsOver}
use Rattle.mode_folds.specs.Parts.{HaveQuery}
use Rattle.mode_folds.proofs.parts.grow.Given as goal

abbrev pub invariant-loop : goal.invariant-loop
invariant-loop l = record {
  grown : (more : List FoldState) × (l.folds.items ≡ l.initial.folds.items ++ more)
      × AllByRecursion (Begins l.dims l.query) more;
  over : AllByRecursion (IsOver l.dims) l.folds.items;
  queries : HaveQuery l.query l.folds.items;
  counted : length l.folds.items ≡ l.counter;
}
