use Rattle.std.proofs.Common.{◌≡◌, ◌≤◌, true, length, take, vec_len, vec_capacity}
use Rattle.warehouse_objects.specs.Warehouse.{Warehouse}
use Rattle.warehouse.specs.Session.{device_of, has_failed, IsAt}
use Rattle.warehouse.specs.Running.{Phase, at, broken, RanAll}
use Rattle.warehouse.specs.Slots.{HoldsWith}
use Rattle.warehouse.proofs.running.run.Given as goal

abbrev pub invariant-loop-command : goal.invariant-loop-command
invariant-loop-command g l = record {
  count : vec_len l.replies ≡ l.command-index;
  room : length l.commands ≤ vec_capacity l.replies;
  ran : (w : Warehouse) → IsAt g.D.Sectors l.initial.session w → g.D.Sectors.keeps_word (device_of l.session)
      → (after : Phase) × RanAll g.D.Sectors l.initial.session (at w) (take l.command-index l.commands) l.replies.items
      l.session after × HoldsWith g.D.Sectors l.session l.slots.queries.items after;
  stuck : has_failed l.initial.session ≡ true
      → RanAll g.D.Sectors l.initial.session broken (take l.command-index l.commands) l.replies.items l.session broken
      × (has_failed l.session ≡ true);
}
