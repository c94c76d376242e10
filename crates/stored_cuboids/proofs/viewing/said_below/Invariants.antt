use Rattle.std.proofs.Common.{◌≡◌}
use Rattle.warehouse_objects.specs.Represents.{said_below}
use Rattle.stored_cuboids.proofs.viewing.said_below.Given as goal

abbrev pub invariant-loop-number : goal.invariant-loop-number
invariant-loop-number l = l.said.items ≡ said_below l.number l.views l.cuboids
