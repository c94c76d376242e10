use Rattle.std.proofs.Common.{take}
use Rattle.std.specs.Io.KnownBytes.{Appends}
use Rattle.std.specs.List.{flat_map}
use Rattle.warehouse_jobs.specs.Printed.{chosen_line}
use Rattle.warehouse_jobs.proofs.printing.write_chosen_lines.Given as goal

abbrev pub invariant-loop-one : goal.invariant-loop-one
invariant-loop-one g l =
    Appends (g.W.Write.contents l.initial.out) (g.W.Write.contents l.out)
    (flat_map (chosen_line l.ship_modes) (take l.one-index l.chosen))
