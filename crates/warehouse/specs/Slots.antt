-- The running queries of a run, slot by slot. Our own.
use Rattle.std.specs.Prelude.{◌≡◌, ℕ, true, Option, Some, None, List, [], ◌∷◌, slice_get}
use Rattle.sector_device.specs.declared.device.Sectors.{Ghosts}
use Rattle.planned_queries.specs.Stepping.{Extends, IsRunning, RunningState, Started}
use Rattle.warehouse_objects.specs.Warehouse.{Warehouse}
use Rattle.warehouse.specs.declared.command.Command.{Command}
use Rattle.warehouse.specs.declared.command.Reply.{Reply}
use Rattle.warehouse.specs.declared.session.Session.{Session}
use Rattle.warehouse.specs.Running.{Phase, amid, broken, Ran, Slots}
use Rattle.warehouse.specs.Session.{IsAt, has_failed}

-- what is in a slot is the query that was started there
abbrev pub IsRunningAt : Option RunningState → Option Started → Type 0
IsRunningAt None None = Unit {0}
IsRunningAt None (Some s) = ⊥
IsRunningAt (Some running) None = ⊥
IsRunningAt (Some running) (Some s) = IsRunning running s

abbrev pub AreRunning : List (Option RunningState) → Slots → Type 0
AreRunning [] [] = Unit {0}
AreRunning [] (s ∷ slots) = ⊥
AreRunning (running ∷ others) [] = ⊥
AreRunning (running ∷ others) (s ∷ slots) = IsRunningAt running s × AreRunning others slots

-- each was started over batches that are still the first of a warehouse
abbrev pub AreOf : Warehouse → Slots → Type 0
AreOf w slots = (slot : ℕ) (s : Started) → slice_get slots slot ≡ Some (Some s) → Extends s w

-- what a session and its running queries are in a phase
abbrev pub HoldsWith : {D : Type 0} (g : Ghosts D) → Session D g → List (Option RunningState) → Phase → Type 0
HoldsWith g session running (amid w slots) = IsAt g session w × AreRunning running slots × AreOf w slots
HoldsWith g session running broken = has_failed session ≡ true

-- a command was done, and what the session and the running queries are then
abbrev pub DoesWith : {D : Type 0} (g : Ghosts D) → Session D g → Warehouse → Slots → Command → Reply → Session D g
    → List (Option RunningState) → Type 0
DoesWith g old w slots command reply new running = (after : Phase) × Ran g old (amid w slots) command reply new after
    × HoldsWith g new running after
