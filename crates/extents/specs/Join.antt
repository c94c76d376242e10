-- An extent that is joined with the runs that touch it. Our own.
use Rattle.std.specs.Prelude.{ℕ, ◌+◌, ◌≤◌, List, ◌∷◌, ◌++◌, length, take, drop}
use Rattle.extents.specs.declared.extent.Extent.{Extent}
use Rattle.extents.specs.declared.join.Join.{Join}
use Rattle.extents.specs.Extents.{IsInRange}
use Rattle.extents.specs.Runs.{FreeSectors, AreRuns}

-- the runs, with the joined one in place of those that it was joined with
abbrev pub joined_runs : List Extent → Join → List Extent
joined_runs runs join = take join.place runs ++ join.joined ∷ drop join.after runs

-- a join that is a run after those before its place, with at least so many sectors between it and those after it
pub record IsJoin (margin : ℕ) (free : FreeSectors) (join : Join) : Type 0 where
  pub in_range : IsInRange free.count join.joined
  pub order : join.place ≤ join.after
  pub few : join.after ≤ join.place + 1 + margin
  pub within : join.after ≤ length free.runs
  pub front : AreRuns 2 join.joined.first (take join.place free.runs)
  pub back : AreRuns (join.joined.first + join.joined.len + margin) (free.count + 1) (drop join.after free.runs)
