use Rattle.std.proofs.Common.{◌≡◌, take}
use Rattle.object_store.specs.Commit as commits
use Rattle.warehouse.specs.Widening.{shown_puts}
use Rattle.warehouse.proofs.widening.puts_of.Given as goal

abbrev pub invariant-loop-object : goal.invariant-loop-object
invariant-loop-object l = commits.puts_of l.puts.items ≡ take l.object-index (shown_puts l.objects)
