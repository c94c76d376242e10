-- Runs of commands: replies of the plain model, and what a crash leaves at each moment.
use Rattle.std.specs.Prelude.{◌≡◌, ◌⊎◌, ℕ, ◌+◌, ◌<◌, ◌≤◌, true, Option, Some, None, List, [], ◌∷◌, replicate, slice_set}
use Rattle.std.specs.Prelude.{slice_index_or}
use Rattle.sector_device.specs.declared.device.Sectors.{Ghosts}
use Rattle.cube_model.specs.declared.fault.Fault.{Fault}
use Rattle.cube_model.specs.declared.fault.Fault.TheVariants.{Device, Failed, Memory, NotRunning}
use Rattle.cube_model.specs.declared.query.Query.{Query}
use Rattle.cube_model.specs.declared.rows.DimRows.{DimRows}
use Rattle.cube_model.specs.declared.rows.LineOrder.{LineOrder}
use Rattle.cube_model.specs.Answers.{answer_as_of}
use Rattle.object_store.specs.Content.{Content}
use Rattle.object_store.specs.Disk.{Leaves}
use Rattle.stored_rows.specs.Added.{widened}
use Rattle.warehouse_objects.specs.Facts.{AdmitsBatch, AdmitsRows, CanMigrate, Facts, in_second, with_next, with_rows}
use Rattle.warehouse_objects.specs.Warehouse.{Warehouse, loaded, migrated, with_views}
use Rattle.warehouse_objects.specs.Represents.{Represents}
use Rattle.stored_cuboids.specs.Keeping.{IsKeptUp}
use Rattle.stored_cuboids.specs.Upkeep.{CuboidsAreCurrent}
use Rattle.planned_queries.specs.Stepping.{Started, Starts, started_answer, stepped}
use Rattle.warehouse.specs.declared.chosen.Chosen.{Chosen}
use Rattle.warehouse.specs.declared.command.Command.{Command}
use Rattle.warehouse.specs.declared.command.Command.TheVariants as asks
use Rattle.warehouse.specs.declared.command.Reply.{Reply}
use Rattle.warehouse.specs.declared.command.Reply.TheVariants as says
use Rattle.warehouse.specs.declared.session.Session.{Session}
use Rattle.warehouse.specs.declared.status.Status.{Status}
use Rattle.warehouse.specs.Choosing.{ChooseRefuses, IsChoice, views_of}
use Rattle.warehouse.specs.Migrating.{MigrateRefuses, MigratedOrNot, MovesOnce}
use Rattle.warehouse.specs.Session.{IsAt, content_of, disk_of, has_failed, CommitsOnce, KeepsContent, AddRefuses}
use Rattle.warehouse.specs.Session.{SubmitRefuses, IsAsked, QueryRefuses}
use Rattle.warehouse.specs.Status.{IsStatus}
use Rattle.warehouse.specs.Upkeep.{UpkeepRefuses}

-- the slots of a run, each with the query that runs in it, if there is one
abbrev pub Slots : Type 0
Slots = List (Option Started)

-- how many slots a run has
abbrev pub most_running : ℕ
most_running = 16

-- no query runs
abbrev pub none_running : Slots
none_running = replicate most_running None

-- a run is amid a warehouse and the queries in its slots, or the device has failed
pub data Phase : Type 0 where
  amid : Warehouse → Slots → Phase
  broken : Phase

-- at a warehouse, where no query runs
abbrev pub at : Warehouse → Phase
at w = amid w none_running

-- what a session is at in a phase
abbrev pub IsInPhase : {D : Type 0} (g : Ghosts D) → Session D g → Phase → Type 0
IsInPhase g session (amid w slots) = IsAt g session w
IsInPhase g session broken = has_failed session ≡ true

-- a reply, what holds where it is given, and the phase then
abbrev pub Says : Reply → Type 0 → Phase → Reply → Phase → Type 0
Says one holds next reply after = (reply ≡ one) × holds × (after ≡ next)

-- a refusal: the device failed, or there is a cause, and the phase is this one
abbrev pub RefusesInPhase : (Fault → Type 0) → Phase → Reply → Phase → Type 0
RefusesInPhase cause next reply after =
    (fault : Fault) × (reply ≡ says.Refused fault)
    × (((fault ≡ Device) × (after ≡ broken)) ⊎ (cause fault × (after ≡ next)))

-- the reply to a start in a slot: the query of then is in the slot, and a refusal leaves the slot
abbrev pub StartReplies : {D : Type 0} (g : Ghosts D) → Session D g → Warehouse → Slots → ℕ → ℕ → Query → Reply
    → Session D g → Phase → Type 0
StartReplies g old w slots slot as_of query reply new after =
    Says (says.Refused NotRunning) ((most_running ≤ slot) × KeepsContent g old new) (amid w slots) reply after
    ⊎ ((slot < most_running)
    × (((s : Started) × Says says.Done (IsAsked w as_of query × Starts w as_of query s × KeepsContent g old new)
    (amid w (slice_set slots slot (Some s))) reply after)
    ⊎ RefusesInPhase (λ fault. QueryRefuses w as_of query fault × KeepsContent g old new) (amid w slots) reply after))

-- the reply to a step of the query in a slot, if there is one: after as many steps as there were to come its answer,
-- which empties the slot
abbrev pub StepReplies : {D : Type 0} (g : Ghosts D) → Session D g → Warehouse → Slots → ℕ → Option Started → Reply
    → Session D g → Phase → Type 0
StepReplies g old w slots slot None reply new after =
    Says (says.Refused NotRunning) (KeepsContent g old new) (amid w slots) reply after
StepReplies g old w slots slot (Some s) reply new after =
    ((left : ℕ)
    × Says says.More ((s.left ≡ left + 1) × KeepsContent g old new)
    (amid w (slice_set slots slot (Some (stepped s left)))) reply after)
    ⊎ (Says (says.Answer (started_answer s)) ((s.left ≡ 0) × KeepsContent g old new)
    (amid w (slice_set slots slot None))
    reply after
    ⊎ RefusesInPhase (λ fault. (fault ≡ Memory) × KeepsContent g old new) (amid w slots) reply after)

-- The reply to a command, with the session then, and the phase after it. A batch is one commit, an addition of
-- dimension rows one, a choice of cuboids one, and the move from the first layout one; nothing else but upkeep commits.
abbrev pub Replies : {D : Type 0} (g : Ghosts D) → Session D g → Warehouse → Slots → Command → Reply → Session D g
    → Phase → Type 0
Replies g old w slots (asks.Submit number batch) reply new after =
    Says says.Done (AdmitsBatch w number batch × CommitsOnce g old new) (amid (loaded w batch) slots) reply after
    ⊎ RefusesInPhase (λ fault. SubmitRefuses g old w number batch fault × KeepsContent g old new) (amid w slots) reply
    after
Replies g old w slots (asks.Query as_of query) reply new after =
    Says (says.Answer (answer_as_of query as_of w.rows w.batches)) (IsAsked w as_of query × KeepsContent g old new)
    (amid w slots) reply after
    ⊎ RefusesInPhase (λ fault. QueryRefuses w as_of query fault × KeepsContent g old new) (amid w slots) reply after
Replies g old w slots asks.Status reply new after =
    (status : Status)
    × Says (says.Numbers status) (IsStatus w (content_of g old).generation status × KeepsContent g old new)
    (amid w slots) reply after
Replies g old w slots (asks.Choose k) reply new after =
    ((chosen : List Chosen) × Says (says.Chosen chosen) (IsChoice w k chosen × CommitsOnce g old new)
    (amid (with_views w (views_of chosen)) slots) reply after)
    ⊎ RefusesInPhase (λ fault. ChooseRefuses g old w k fault × KeepsContent g old new) (amid w slots) reply after
Replies g old w slots asks.Upkeep reply new after =
    (v : Warehouse) × IsKeptUp w v
    × (Says says.Done (CuboidsAreCurrent v) (amid v slots) reply after
    ⊎ RefusesInPhase (UpkeepRefuses g new v) (amid v slots) reply after)
Replies g old w slots asks.Audit reply new after =
    Says (says.Audited true) (KeepsContent g old new) (amid w slots) reply after
    ⊎ RefusesInPhase (λ fault. (fault ≡ Memory) × KeepsContent g old new) (amid w slots) reply after
Replies g old w slots (asks.Add number more) reply new after =
    Says says.Done (AdmitsRows w number more × CommitsOnce g old new) (amid (widened w more) slots) reply after
    ⊎ RefusesInPhase (λ fault. AddRefuses g old w number more fault × KeepsContent g old new) (amid w slots) reply after
Replies g old w slots asks.Migrate reply new after =
    Says says.Done (CanMigrate w × MovesOnce g w old new) (amid (migrated w) slots) reply after
    ⊎ RefusesInPhase (λ fault. MigrateRefuses g old w fault × KeepsContent g old new) (amid w slots) reply after
Replies g old w slots (asks.Start slot as_of query) reply new after =
    StartReplies g old w slots slot as_of query reply new after
Replies g old w slots (asks.Step slot) reply new after =
    StepReplies g old w slots slot (slice_index_or slots slot None) reply new after

-- what an image may be of while a command runs
abbrev pub During : Warehouse → Command → Content → Type 0
During w (asks.Submit number batch) c = Represents c w ⊎ (AdmitsBatch w number batch × Represents c (loaded w batch))
During w (asks.Query as_of query) c = Represents c w
During w asks.Status c = Represents c w
During w (asks.Choose k) c = Represents c w
    ⊎ ((chosen : List Chosen) × IsChoice w k chosen × Represents c (with_views w (views_of chosen)))
During w asks.Upkeep c = (v : Warehouse) × IsKeptUp w v × Represents c v
During w asks.Audit c = Represents c w
During w (asks.Add number more) c = Represents c w ⊎ (AdmitsRows w number more × Represents c (widened w more))
During w asks.Migrate c = MigratedOrNot w c
During w (asks.Start slot as_of query) c = Represents c w
During w (asks.Step slot) c = Represents c w

-- One command: its reply, what a crash leaves at each moment of it, and what the session is at then. After a failure
-- there is no device call.
abbrev pub Ran : {D : Type 0} (g : Ghosts D) → Session D g → Phase → Command → Reply → Session D g → Phase → Type 0
Ran g old (amid w slots) command reply new after =
    Replies g old w slots command reply new after × Leaves (disk_of g old) (disk_of g new) (During w command)
    × IsInPhase g new after
Ran g old broken command reply new after = (reply ≡ says.Refused Failed) × (new ≡ old) × (after ≡ broken)

-- a command was done, and what the session is at then
abbrev pub Does : {D : Type 0} (g : Ghosts D) → Session D g → Warehouse → Slots → Command → Reply → Session D g → Type 0
Does g old w slots command reply new = (after : Phase) × Ran g old (amid w slots) command reply new after
    × IsInPhase g new after

-- A run of commands, with the session as each of them ended.
abbrev pub RanAll : {D : Type 0} (g : Ghosts D) → Session D g → Phase → List Command → List Reply → Session D g → Phase
    → Type 0
RanAll g old before [] [] new after = (new ≡ old) × (after ≡ before)
RanAll g old before [] (reply ∷ replies) new after = ⊥
RanAll g old before (command ∷ commands) [] new after = ⊥
RanAll {D} g old before (command ∷ commands) (reply ∷ replies) new after =
    (session : Session D g) × (phase : Phase) × Ran g old before command reply session phase
    × RanAll g session phase commands replies new after

-- the facts that are acknowledged after a submit with this reply: its batch is one of them where it was done
abbrev pub acknowledged_by : Facts → List LineOrder → Reply → Facts
acknowledged_by facts batch says.Done = with_next facts batch
acknowledged_by facts batch _ = facts

-- the same after an addition: its rows are there where it was done
abbrev pub acknowledged_rows : Facts → DimRows → Reply → Facts
acknowledged_rows facts more says.Done = with_rows facts more
acknowledged_rows facts more _ = facts

-- the same after a move to the second layout
abbrev pub acknowledged_layout : Facts → Reply → Facts
acknowledged_layout facts says.Done = in_second facts
acknowledged_layout facts _ = facts

-- and after any command
abbrev pub acknowledged : Facts → Command → Reply → Facts
acknowledged facts (asks.Submit number batch) reply = acknowledged_by facts batch reply
acknowledged facts (asks.Add number more) reply = acknowledged_rows facts more reply
acknowledged facts asks.Migrate reply = acknowledged_layout facts reply
acknowledged facts _ reply = facts

-- what a submit makes of the warehouse
abbrev pub BecomesLoaded : Warehouse → List LineOrder → Reply → Warehouse → Type 0
BecomesLoaded w batch says.Done v = v ≡ loaded w batch
BecomesLoaded w batch _ v = v ≡ w

-- what an addition makes of it
abbrev pub BecomesWidened : Warehouse → DimRows → Reply → Warehouse → Type 0
BecomesWidened w more says.Done v = v ≡ widened w more
BecomesWidened w more _ v = v ≡ w

-- what a move to the second layout makes of it
abbrev pub BecomesMigrated : Warehouse → Reply → Warehouse → Type 0
BecomesMigrated w says.Done v = v ≡ migrated w
BecomesMigrated w _ v = v ≡ w

-- what a choice makes of it
abbrev pub BecomesChosen : Warehouse → Reply → Warehouse → Type 0
BecomesChosen w (says.Chosen chosen) v = v ≡ with_views w (views_of chosen)
BecomesChosen w _ v = v ≡ w

-- what a command with this reply makes of the warehouse
abbrev pub Becomes : Warehouse → Command → Reply → Warehouse → Type 0
Becomes w (asks.Submit number batch) reply v = BecomesLoaded w batch reply v
Becomes w (asks.Add number more) reply v = BecomesWidened w more reply v
Becomes w asks.Migrate reply v = BecomesMigrated w reply v
Becomes w (asks.Choose k) reply v = BecomesChosen w reply v
Becomes w asks.Upkeep reply v = IsKeptUp w v
Becomes w _ reply v = v ≡ w

-- What a crash within a run may leave: what the commands before had made, or what one more may have made.
abbrev pub FoundIn : Warehouse → List Command → List Reply → Content → Type 0
FoundIn w [] replies c = Represents c w
FoundIn w (command ∷ commands) [] c = ⊥
FoundIn w (command ∷ commands) (reply ∷ replies) c =
    During w command c ⊎ ((v : Warehouse) × Becomes w command reply v × FoundIn v commands replies c)
