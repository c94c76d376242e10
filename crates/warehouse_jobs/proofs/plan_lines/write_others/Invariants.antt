use Rattle.std.proofs.Common.{take}
use Rattle.std.specs.Io.KnownBytes.{Appends}
use Rattle.std.specs.List.{flat_map}
use Rattle.warehouse_jobs.specs.PlanLines.{other_line}
use Rattle.warehouse_jobs.proofs.plan_lines.write_others.Given as goal

abbrev pub invariant-loop-one : goal.invariant-loop-one
invariant-loop-one g l =
    Appends (g.W.Write.contents l.initial.out) (g.W.Write.contents l.out)
    (flat_map (other_line l.ship_modes l.as_of) (take l.one-index l.others))
