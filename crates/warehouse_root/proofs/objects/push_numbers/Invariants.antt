use Rattle.std.proofs.Common.{◌≡◌, ◌≤◌, ◌++◌, ◌-◌}
use Rattle.std.specs.List.{range_with_len}
use Rattle.warehouse_root.proofs.objects.push_numbers.Given as goal

abbrev pub invariant-loop-id : goal.invariant-loop-id
invariant-loop-id l = (l.first ≤ l.id) × (l.out.items ≡ l.initial.out.items ++ range_with_len l.first (l.id - l.first))
