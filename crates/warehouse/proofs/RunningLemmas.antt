-- Lemmas of `running`, by subject.
use Rattle.std.proofs.Common.{◌≡◌, ◌⊎◌, ⊎_elim, inl, inr, ℕ, Bool, true, Option, List, [], ◌∷◌, ◌++◌, refl, sym, ap}
use Rattle.std.proofs.Common.{subst, zero, suc, ◌<◌, ◌≤◌, Some, None, replicate, slice_get, slice_set, slice_index_or}
use Rattle.std.proofs.Common.{◌∙◌, append_assoc, append-nil}
use Rattle.sector_device.specs.declared.device.Sectors.{Ghosts}
use Rattle.cube_model.specs.declared.fault.Fault.{Fault}
use Rattle.cube_model.specs.declared.fault.Fault.TheVariants.{Device, Memory, NotRunning}
use Rattle.cube_model.specs.declared.rows.DimRows.{DimRows}
use Rattle.cube_model.specs.declared.rows.LineOrder.{LineOrder}
use Rattle.cube_model.specs.Answers.{answer_as_of}
use Rattle.object_store.specs.Disk.{Leaves}
use Rattle.stored_rows.specs.Added.{widened}
use Rattle.warehouse_objects.specs.Facts.{AdmitsBatch, AdmitsRows, CanMigrate, Facts, facts_in}
use Rattle.warehouse_objects.specs.Warehouse.{Warehouse, loaded, migrated, with_views}
use Rattle.warehouse_objects.specs.Represents.{Represents}
use Rattle.stored_cuboids.specs.Keeping.{IsKeptUp}
use Rattle.stored_cuboids.specs.Upkeep.{CuboidsAreCurrent}
use Rattle.warehouse.specs.declared.chosen.Chosen.{Chosen}
use Rattle.warehouse.specs.declared.command.Command.{Command}
use Rattle.warehouse.specs.declared.command.Command.TheVariants.{Submit, Query, Status, Choose, Upkeep, Audit, Add}
use Rattle.warehouse.specs.declared.command.Command.TheVariants.{Migrate, Start, Step}
use Rattle.warehouse.specs.declared.command.Reply.{Reply}
use Rattle.warehouse.specs.declared.command.Reply.TheVariants.{Done, Answer, Numbers, Audited, Refused, More}
use Rattle.warehouse.specs.declared.session.Session.{Session}
use Rattle.warehouse.specs.Choosing.{ChooseRefuses, IsChoice, views_of}
use Rattle.warehouse.specs.Migrating.{MigrateRefuses, MigratedOrNot, MovesOnce}
use Rattle.warehouse.specs.Session.{IsAt, content_of, disk_of, has_failed, AddRefuses, CommitsOnce, KeepsContent}
use Rattle.warehouse.specs.Session.{SubmitRefuses, IsAsked, QueryRefuses}
use Rattle.warehouse.specs.Status.{IsStatus}
use Rattle.warehouse.specs.Running.{Phase, Slots, amid, broken, Does, During, Ran, RanAll, RefusesInPhase, Replies}
use Rattle.warehouse.specs.Running.{none_running, Becomes, IsInPhase, StepReplies, acknowledged}
use Rattle.warehouse.specs.Slots.{AreOf, AreRunning, DoesWith, HoldsWith, IsRunningAt}
use Rattle.warehouse.specs.Upkeep.{UpkeepRefuses}
use Rattle.planned_queries.specs.Stepping.{RunningState, Extends, IsRunning, Started, Starts, stepped}
use Rattle.warehouse.proofs.Refusing.{device_or}
use Rattle.warehouse.specs.Stepping.{StepsTo}
use Rattle.warehouse.proofs.Whole.{Leave, phase_is, same_facts}
use Rattle.cube_model.specs.declared.answer.Answer as answers
use Rattle.cube_model.specs.declared.query.Query as queries
use Rattle.warehouse.specs.declared.command.Reply.TheVariants as replies
use Rattle.warehouse.specs.declared.status.Status as statuses
use Rattle.warehouse.specs.declared.stepping.Stepped.TheVariants as steps

-- ==== One command of a run, and one more.

module _ {D : Type 0} (g : Ghosts D) (w : Warehouse) (slots : Slots) (old new : Session D g) where
  -- a refusal of a command that leaves the warehouse as it is
  refused_at : (command : Command) (cause : Fault → Type 0) (fault : Fault)
      → ((reply : Reply) (after : Phase) → RefusesInPhase cause (amid w slots) reply after
      → Replies g old w slots command reply new after)
      → (fault ≡ Device → has_failed new ≡ true) → ((fault ≡ Device → ⊥) → cause fault × IsAt g new w)
      → Leaves (disk_of g old) (disk_of g new) (During w command) → Does g old w slots command (Refused fault) new
  refused_at command cause fault so failed causes leaves =
      ⊎_elim {C = Does g old w slots command (Refused fault) new}
      (λ e. (broken, (so (Refused fault) broken (fault, refl, inl (e, refl)), leaves, failed e), failed e))
      (λ no. (
        amid w slots,
        (so (Refused fault) (amid w slots) (fault, refl, inr ((causes no).0, refl)), leaves, (causes no).1),
        (causes no).1,
      ))
      (device_or fault)

  abbrev SubmitLeaves : ℕ → List LineOrder → Type 0
  SubmitLeaves number batch =
      Leaves (disk_of g old) (disk_of g new)
      (λ c. Represents c w ⊎ (AdmitsBatch w number batch × Represents c (loaded w batch)))

  pub submit_done : (number : ℕ) (batch rows : List LineOrder) → rows ≡ batch
      → AdmitsBatch w number rows → CommitsOnce g old new → IsAt g new (loaded w rows)
      → SubmitLeaves number rows → Does g old w slots (Submit number batch) Done new
  submit_done number batch rows same admissible once now leaves = (
    amid (loaded w batch) slots,
    (
      inl (refl, (subst (λ (b : List LineOrder). AdmitsBatch w number b) same admissible, once), refl),
      subst (SubmitLeaves number) same leaves,
      subst (λ (b : List LineOrder). IsAt g new (loaded w b)) same now,
    ),
    subst (λ (b : List LineOrder). IsAt g new (loaded w b)) same now,
  )

  pub submit_refused : (number : ℕ) (batch rows : List LineOrder) (fault : Fault) → rows ≡ batch
      → (fault ≡ Device → has_failed new ≡ true)
      → ((fault ≡ Device → ⊥) → (SubmitRefuses g old w number rows fault × KeepsContent g old new) × IsAt g new w)
      → SubmitLeaves number rows → Does g old w slots (Submit number batch) (Refused fault) new
  submit_refused number batch rows fault same failed causes leaves =
      subst (λ (b : List LineOrder). Does g old w slots (Submit number b) (Refused fault) new) same
      (refused_at (Submit number rows) (λ f. SubmitRefuses g old w number rows f × KeepsContent g old new) fault
      (λ reply after r. inr r) failed causes leaves)

  abbrev AddLeaves : ℕ → DimRows → Type 0
  AddLeaves number more =
      Leaves (disk_of g old) (disk_of g new)
      (λ c. Represents c w ⊎ (AdmitsRows w number more × Represents c (widened w more)))

  pub add_done : (number : ℕ) (more rows : DimRows) → rows ≡ more
      → AdmitsRows w number rows → CommitsOnce g old new → IsAt g new (widened w rows) → AddLeaves number rows
      → Does g old w slots (Add number more) Done new
  add_done number more rows same admitted once now leaves =
      subst (λ (r : DimRows). Does g old w slots (Add number r) Done new) same
      (amid (widened w rows) slots, (inl (refl, (admitted, once), refl), leaves, now), now)

  pub add_refused : (number : ℕ) (more rows : DimRows) (fault : Fault) → rows ≡ more
      → (fault ≡ Device → has_failed new ≡ true)
      → ((fault ≡ Device → ⊥) → (AddRefuses g old w number rows fault × KeepsContent g old new) × IsAt g new w)
      → AddLeaves number rows → Does g old w slots (Add number more) (Refused fault) new
  add_refused number more rows fault same failed causes leaves =
      subst (λ (r : DimRows). Does g old w slots (Add number r) (Refused fault) new) same
      (refused_at (Add number rows) (λ f. AddRefuses g old w number rows f × KeepsContent g old new) fault
      (λ reply after r. inr r) failed causes leaves)

  abbrev MigrateLeaves : Type 0
  MigrateLeaves = Leaves (disk_of g old) (disk_of g new) (MigratedOrNot w)

  pub migrate_done : CanMigrate w → MovesOnce g w old new → IsAt g new (migrated w) → MigrateLeaves
      → Does g old w slots Migrate Done new
  migrate_done can once now leaves = (amid (migrated w) slots, (inl (refl, (can, once), refl), leaves, now), now)

  pub migrate_refused : (fault : Fault) → (fault ≡ Device → has_failed new ≡ true)
      → ((fault ≡ Device → ⊥) → (MigrateRefuses g old w fault × KeepsContent g old new) × IsAt g new w)
      → MigrateLeaves → Does g old w slots Migrate (Refused fault) new
  migrate_refused fault failed causes leaves =
      refused_at Migrate (λ f. MigrateRefuses g old w f × KeepsContent g old new) fault (λ reply after r. inr r) failed
      causes leaves

  pub query_done : (as_of : ℕ) (query : queries.Query) (found : answers.Answer)
      → IsAsked w as_of query × (found ≡ answer_as_of query as_of w.rows w.batches) → KeepsContent g old new
      → IsAt g new w
      → Leaves (disk_of g old) (disk_of g new) (λ c. Represents c w)
      → Does g old w slots (Query as_of query) (Answer found) new
  query_done as_of query found right keeps now leaves =
      (amid w slots, (inl (ap (λ (a : answers.Answer). Answer a) right.1, (right.0, keeps), refl), leaves, now), now)

  pub query_refused : (as_of : ℕ) (query : queries.Query) (fault : Fault)
      → (fault ≡ Device → has_failed new ≡ true)
      → ((fault ≡ Device → ⊥) → (QueryRefuses w as_of query fault × KeepsContent g old new) × IsAt g new w)
      → Leaves (disk_of g old) (disk_of g new) (λ c. Represents c w)
      → Does g old w slots (Query as_of query) (Refused fault) new
  query_refused as_of query fault failed causes leaves =
      refused_at (Query as_of query) (λ f. QueryRefuses w as_of query f × KeepsContent g old new) fault
      (λ reply after r. inr r) failed causes leaves

  pub status_done : (numbers : statuses.Status) → IsStatus w (content_of g old).generation numbers
      → KeepsContent g old new → IsAt g new w
      → Leaves (disk_of g old) (disk_of g new) (λ c. Represents c w) → Does g old w slots Status (Numbers numbers) new
  status_done numbers right keeps now leaves =
      (amid w slots, ((numbers, (refl, (right, keeps), refl)), leaves, now), now)

  abbrev ChooseLeaves : ℕ → Type 0
  ChooseLeaves k =
      Leaves (disk_of g old) (disk_of g new)
      (λ c. Represents c w
      ⊎ ((chosen : List Chosen) × IsChoice w k chosen × Represents c (with_views w (views_of chosen))))

  pub choose_done : (k : ℕ) (chosen : List Chosen) → IsChoice w k chosen → CommitsOnce g old new
      → IsAt g new (with_views w (views_of chosen)) → ChooseLeaves k
      → Does g old w slots (Choose k) (replies.Chosen chosen) new
  choose_done k chosen right once now leaves =
      (amid (with_views w (views_of chosen)) slots, (inl (chosen, (refl, (right, once), refl)), leaves, now), now)

  pub choose_refused : (k : ℕ) (fault : Fault)
      → (fault ≡ Device → has_failed new ≡ true)
      → ((fault ≡ Device → ⊥) → (ChooseRefuses g old w k fault × KeepsContent g old new) × IsAt g new w)
      → ChooseLeaves k → Does g old w slots (Choose k) (Refused fault) new
  choose_refused k fault failed causes leaves =
      refused_at (Choose k) (λ f. ChooseRefuses g old w k f × KeepsContent g old new) fault (λ reply after r. inr r)
      failed causes leaves

  abbrev UpkeepLeaves : Type 0
  UpkeepLeaves = Leaves (disk_of g old) (disk_of g new) (λ c. (v : Warehouse) × IsKeptUp w v × Represents c v)

  pub upkeep_done : (v : Warehouse) → IsKeptUp w v → CuboidsAreCurrent v → IsAt g new v → UpkeepLeaves
      → Does g old w slots Upkeep Done new
  upkeep_done v kept whole now leaves = (amid v slots, ((v, kept, inl (refl, whole, refl)), leaves, now), now)

  pub upkeep_refused : (fault : Fault) → (fault ≡ Device → has_failed new ≡ true)
      → ((fault ≡ Device → ⊥) → (v : Warehouse) × IsKeptUp w v × IsAt g new v × UpkeepRefuses g new v fault)
      → IsKeptUp w w
      → UpkeepLeaves → Does g old w slots Upkeep (Refused fault) new
  upkeep_refused fault failed causes same leaves =
      ⊎_elim {C = Does g old w slots Upkeep (Refused fault) new}
      (λ e. (broken, ((w, same, inr (fault, refl, inl (e, refl))), leaves, failed e), failed e))
      (λ no. let then_is = causes no in (
        amid then_is.0 slots,
        ((then_is.0, then_is.1, inr (fault, refl, inr (then_is.3, refl))), leaves, then_is.2),
        then_is.2,
      ))
      (device_or fault)

  pub audit_done : (said : Bool) → said ≡ true → KeepsContent g old new → IsAt g new w
      → Leaves (disk_of g old) (disk_of g new) (λ c. Represents c w) → Does g old w slots Audit (Audited said) new
  audit_done said is keeps now leaves =
      (amid w slots, (inl (ap (λ (b : Bool). Audited b) is, keeps, refl), leaves, now), now)

  pub audit_refused : (fault : Fault)
      → (fault ≡ Device → has_failed new ≡ true)
      → ((fault ≡ Device → ⊥) → ((fault ≡ Memory) × KeepsContent g old new) × IsAt g new w)
      → Leaves (disk_of g old) (disk_of g new) (λ c. Represents c w) → Does g old w slots Audit (Refused fault) new
  audit_refused fault failed causes leaves =
      refused_at Audit (λ f. (f ≡ Memory) × KeepsContent g old new) fault (λ reply after r. inr r) failed causes leaves

-- one command after others
pub ran_more : {D : Type 0} (g : Ghosts D) (old mid new : Session D g) (before between after : Phase)
    (command : Command) (reply : Reply) (commands : List Command) (replies : List Reply)
    → RanAll g old before commands replies mid between → Ran g mid between command reply new after
    → RanAll g old before (commands ++ command ∷ []) (replies ++ reply ∷ []) new after
ran_more g old mid new before between after command reply [] [] all one = (
  new,
  after,
  subst (λ (s : Session _ g). Ran g s before command reply new after) all.0
      (subst (λ (p : Phase). Ran g mid p command reply new after) all.1 one),
  (refl, refl),
)
ran_more g old mid new before between after command reply [] (r ∷ replies) all one = absurd all
ran_more g old mid new before between after command reply (c ∷ commands) [] all one = absurd all
ran_more g old mid new before between after command reply (c ∷ commands) (r ∷ replies) all one =
    (all.0, all.1, all.2, ran_more g all.0 mid new all.1 between after command reply commands replies all.3 one)

pub runs_on : {D : Type 0} (g : Ghosts D) (old mid new : Session D g) (before between : Phase) (command : Command)
    (reply : Reply) (commands : List Command) (replies : List Reply)
    → (earlier later : List (Option RunningState)) → HoldsWith g mid earlier between
    → ((w : Warehouse) (slots : Slots) → IsAt g mid w → AreRunning earlier slots → AreOf w slots
    → DoesWith g mid w slots command reply new later)
    → (has_failed mid ≡ true → Ran g mid broken command reply new broken)
    → RanAll g old before commands replies mid between
    → (after : Phase) × RanAll g old before (commands ++ command ∷ []) (replies ++ reply ∷ []) new after
    × HoldsWith g new later after
runs_on g old mid new before (amid w slots) command reply commands replies earlier later holds does stuck all =
    let one = does w slots holds.0 holds.1 holds.2 in
    (one.0, ran_more g old mid new before (amid w slots) one.0 command reply commands replies all one.1, one.2)
runs_on g old mid new before broken command reply commands replies earlier later holds does stuck all =
    let one = stuck holds in (
      broken,
      ran_more g old mid new before broken broken command reply commands replies all one,
      subst (λ (s : Session _ g). has_failed s ≡ true) (sym one.1) holds,
    )

-- ==== Running queries, slot by slot.

-- ---- slots

pub running_at : (running : List (Option RunningState)) (slots : Slots) (slot : ℕ) → AreRunning running slots
    → IsRunningAt (slice_index_or running slot None) (slice_index_or slots slot None)
running_at [] [] slot are = tt
running_at [] (s ∷ slots) slot are = absurd are
running_at (r ∷ running) [] slot are = absurd are
running_at (r ∷ running) (s ∷ slots) zero are = are.0
running_at (r ∷ running) (s ∷ slots) (suc slot) are = running_at running slots slot are.1

running_set : (running : List (Option RunningState)) (slots : Slots) (slot : ℕ) (r : Option RunningState)
    (s : Option Started) → AreRunning running slots → IsRunningAt r s
    → AreRunning (slice_set running slot r) (slice_set slots slot s)
running_set [] [] slot r s are is = tt
running_set [] (x ∷ slots) slot r s are is = absurd are
running_set (x ∷ running) [] slot r s are is = absurd are
running_set (x ∷ running) (y ∷ slots) zero r s are is = (is, are.1)
running_set (x ∷ running) (y ∷ slots) (suc slot) r s are is = (are.0, running_set running slots slot r s are.1 is)

set_same : {A : Type 0} (xs : List A) (slot : ℕ) (d : A) → slice_set xs slot (slice_index_or xs slot d) ≡ xs
set_same [] slot d = refl
set_same (x ∷ xs) zero d = refl
set_same {A} (x ∷ xs) (suc slot) d = ap (λ (l : List A). x ∷ l) (set_same xs slot d)

set_set : {A : Type 0} (xs : List A) (slot : ℕ) (a b : A) → slice_set (slice_set xs slot a) slot b ≡ slice_set xs slot b
set_set [] slot a b = refl
set_set (x ∷ xs) zero a b = refl
set_set {A} (x ∷ xs) (suc slot) a b = ap (λ (l : List A). x ∷ l) (set_set xs slot a b)

get_set : {A : Type 0} (xs : List A) (i j : ℕ) (a b : A) → slice_get (slice_set xs i a) j ≡ Some b
    → (a ≡ b) ⊎ (slice_get xs j ≡ Some b)
get_set [] i j a b is = inr is
get_set (x ∷ xs) zero zero a b is = inl cc
get_set (x ∷ xs) zero (suc j) a b is = inr is
get_set (x ∷ xs) (suc i) zero a b is = inr is
get_set (x ∷ xs) (suc i) (suc j) a b is = get_set xs i j a b is

of_set : (w : Warehouse) (slots : Slots) (slot : ℕ) (s : Option Started) → AreOf w slots
    → ((t : Started) → s ≡ Some t → Extends t w) → AreOf w (slice_set slots slot s)
of_set w slots slot s of new other t is =
    ⊎_elim (λ e. new t e) (λ e. of other t e) (get_set slots slot other s (Some t) is)

of_at : (w : Warehouse) (slots : Slots) (slot : ℕ) (t : Started) → AreOf w slots
    → slice_index_or slots slot None ≡ Some t → Extends t w
of_at w slots slot t of is = of slot t (get_at slots slot t is)
  where
    get_at : (slots : Slots) (slot : ℕ) (t : Started) → slice_index_or slots slot None ≡ Some t
        → slice_get slots slot ≡ Some (Some t)
    get_at [] slot t is = absurd cc
    get_at (x ∷ xs) zero t is = ap (λ (o : Option Started). Some o) is
    get_at (x ∷ xs) (suc slot) t is = get_at xs slot t is

-- ---- where a run begins

no_queries : (n : ℕ) → AreRunning (replicate n None) (replicate n None)
no_queries zero = tt
no_queries (suc n) = (tt, no_queries n)

none_of : (n : ℕ) (w : Warehouse) → AreOf w (replicate n None)
none_of zero w slot s is = absurd cc
none_of (suc n) w zero s is = absurd cc
none_of (suc n) w (suc slot) s is = none_of n w slot s is

pub begins_with : {D : Type 0} (g : Ghosts D) (session : Session D g) (w : Warehouse)
    (running : List (Option RunningState)) → running ≡ replicate 16 None → IsAt g session w
    → HoldsWith g session running (amid w none_running)
begins_with {D} g session w running empty at =
    subst (λ (l : List (Option RunningState)). HoldsWith g session l (amid w none_running)) (sym empty)
    (at, no_queries 16, none_of 16 w)

pub session_holds : {D : Type 0} (g : Ghosts D) (session : Session D g) (running : List (Option RunningState))
    (phase : Phase) → HoldsWith g session running phase → IsInPhase g session phase
session_holds g session running (amid w slots) holds = holds.0
session_holds g session running broken failed = failed

-- ---- commands that leave the slots

-- batches only come after those of before
only_more : (facts : Facts) (command : Command) (reply : Reply)
    → (more : List (List LineOrder)) × ((acknowledged facts command reply).batches ≡ facts.batches ++ more)
only_more facts (Submit number batch) Done = (batch ∷ [], refl)
only_more facts (Submit number batch) More = ([], sym (append-nil facts.batches))
only_more facts (Submit number batch) (Answer found) = ([], sym (append-nil facts.batches))
only_more facts (Submit number batch) (Numbers numbers) = ([], sym (append-nil facts.batches))
only_more facts (Submit number batch) (replies.Chosen chosen) = ([], sym (append-nil facts.batches))
only_more facts (Submit number batch) (Audited said) = ([], sym (append-nil facts.batches))
only_more facts (Submit number batch) (Refused fault) = ([], sym (append-nil facts.batches))
only_more facts (Add number more) Done = ([], sym (append-nil facts.batches))
only_more facts (Add number more) More = ([], sym (append-nil facts.batches))
only_more facts (Add number more) (Answer found) = ([], sym (append-nil facts.batches))
only_more facts (Add number more) (Numbers numbers) = ([], sym (append-nil facts.batches))
only_more facts (Add number more) (replies.Chosen chosen) = ([], sym (append-nil facts.batches))
only_more facts (Add number more) (Audited said) = ([], sym (append-nil facts.batches))
only_more facts (Add number more) (Refused fault) = ([], sym (append-nil facts.batches))
only_more facts Migrate Done = ([], sym (append-nil facts.batches))
only_more facts Migrate More = ([], sym (append-nil facts.batches))
only_more facts Migrate (Answer found) = ([], sym (append-nil facts.batches))
only_more facts Migrate (Numbers numbers) = ([], sym (append-nil facts.batches))
only_more facts Migrate (replies.Chosen chosen) = ([], sym (append-nil facts.batches))
only_more facts Migrate (Audited said) = ([], sym (append-nil facts.batches))
only_more facts Migrate (Refused fault) = ([], sym (append-nil facts.batches))
only_more facts (Query as_of query) reply = ([], sym (append-nil facts.batches))
only_more facts Status reply = ([], sym (append-nil facts.batches))
only_more facts (Choose k) reply = ([], sym (append-nil facts.batches))
only_more facts Upkeep reply = ([], sym (append-nil facts.batches))
only_more facts Audit reply = ([], sym (append-nil facts.batches))
only_more facts (Start slot as_of query) reply = ([], sym (append-nil facts.batches))
only_more facts (Step slot) reply = ([], sym (append-nil facts.batches))

-- what was started stays at the front
still_extends : (s : Started) (w v : Warehouse) (command : Command) (reply : Reply) → Extends s w
    → Becomes w command reply v → Extends s v
still_extends s w v command reply extends becomes =
    let same = same_facts w command reply v becomes in
    let more = only_more (facts_in w) command reply in record {
      more = extends.more ++ more.0;
      batches = ap (λ (facts : Facts). facts.batches) same ∙ more.1
          ∙ ap (λ (l : List (List LineOrder)). l ++ more.0) extends.batches
          ∙ append_assoc s.batches extends.more more.0;
    }

pub with_slots : {D : Type 0} (g : Ghosts D) (old new : Session D g) (w : Warehouse) (slots : Slots) (command : Command)
    (reply : Reply) (running : List (Option RunningState))
    → ((next : Slots) → Leave command slots next → next ≡ slots) → AreRunning running slots → AreOf w slots
    → Does g old w slots command reply new → DoesWith g old w slots command reply new running
with_slots {D} g old new w slots command reply running stay are of does =
    let after = does.0 in (
      after,
      does.1,
      ⊎_elim {C = HoldsWith g new running after}
          (λ there.
          let v : Warehouse = there.0 in
          let same : after ≡ amid v slots = there.2 ∙ ap (λ (next : Slots). amid v next) (stay there.1 there.4) in
          subst (λ (p : Phase). HoldsWith g new running p) (sym same) (
            subst (λ (p : Phase). IsInPhase g new p) same does.2,
            are,
            λ slot s is. still_extends s w v command reply
                (of slot s is) there.3,
          ))
          (λ failed. subst (λ (p : Phase). HoldsWith g new running p) (sym failed)
          (subst (λ (p : Phase). IsInPhase g new p) failed does.2))
          (phase_is g old new w slots command reply after does.1.0),
    )

-- ---- starts and steps

module _ {D : Type 0} (g : Ghosts D) (old new : Session D g) (w : Warehouse) (slots : Slots)
    (running : List (Option RunningState)) (slot : ℕ)
    (are : AreRunning running slots) (of : AreOf w slots) where
  abbrev StaysOne : Type 0
  StaysOne = Leaves (disk_of g old) (disk_of g new) (λ c. Represents c w)

  -- all is as it was
  same_slots : IsAt g new w → HoldsWith g new running (amid w slots)
  same_slots at = (at, are, of)

  module _ (as_of : ℕ) (query : queries.Query) (leaves : StaysOne) where
    pub start_beyond : 16 ≤ slot → KeepsContent g old new → IsAt g new w
        → DoesWith g old w slots (Start slot as_of query) (Refused NotRunning) new running
    start_beyond beyond keeps at = (amid w slots, (inl (refl, (beyond, keeps), refl), leaves, at), same_slots at)

    pub start_done : slot < 16 → (next : RunningState) → IsAsked w as_of query
        × ((s : Started) × Starts w as_of query s × IsRunning next s) → KeepsContent g old new → IsAt g new w
        → DoesWith g old w slots (Start slot as_of query) Done new (slice_set running slot (Some next))
    start_done within next started keeps at =
        let s : Started = started.1.0 in
        let entry : Option Started = Some s in (
          amid w (slice_set slots slot entry),
          (inr (within, inl (s, (refl, (started.0, started.1.1, keeps), refl))), leaves, at),
          (
            at,
            running_set running slots slot (Some next) entry are started.1.2,
            of_set w slots slot entry of (λ t is.
                let same : s ≡ t = cc in
                subst (λ (x : Started). Extends x w) same
                (record {
                  more = [];
                  batches = sym (ap (λ (x : Started). x.batches) started.1.1.2)
                      ∙ sym (append-nil s.batches);
                })),
          ),
        )

    pub start_refused : slot < 16 → (fault : Fault) → (fault ≡ Device → has_failed new ≡ true)
        → ((fault ≡ Device → ⊥) → (QueryRefuses w as_of query fault × KeepsContent g old new) × IsAt g new w)
        → DoesWith g old w slots (Start slot as_of query) (Refused fault) new running
    start_refused within fault failed causes =
        ⊎_elim {C = DoesWith g old w slots (Start slot as_of query) (Refused fault) new running}
        (λ e. (broken, (inr (within, inr (fault, refl, inl (e, refl))), leaves, failed e), failed e))
        (λ no. (
          amid w slots,
          (inr (within, inr (fault, refl, inr ((causes no).0, refl))), leaves, (causes no).1),
          same_slots (causes no).1,
        ))
        (device_or fault)

  module _ (leaves : StaysOne) where
    -- the query that runs in the slot
    own : (r : Option RunningState) (o : Option Started) → IsRunningAt r o → (one : RunningState) → r ≡ Some one
        → (s : Started) × (o ≡ Some s) × IsRunning one s
    own None o is one there = absurd cc
    own (Some r) None is one there = absurd is
    own (Some r) (Some s) is one there = let same : r ≡ one = cc in
        (s, refl, subst (λ (x : RunningState). IsRunning x s) same is)

    none_in : (r : Option RunningState) (o : Option Started) → IsRunningAt r o → r ≡ None → o ≡ None
    none_in None None is none = refl
    none_in None (Some s) is none = absurd is
    none_in (Some r) o is none = absurd cc

    pub step_none : slice_index_or running slot None ≡ None → KeepsContent g old new → IsAt g new w
        → DoesWith g old w slots (Step slot) (Refused NotRunning) new (slice_set running slot None)
    step_none none keeps at =
        let empty =
        none_in (slice_index_or running slot None) (slice_index_or slots slot None)
        (running_at running slots slot are) none in
        let unchanged : running ≡ slice_set running slot None = sym (set_same running slot None)
        ∙ ap (λ (r : Option RunningState). slice_set running slot r) none in (
          amid w slots,
          (
            subst (λ (o : Option Started). StepReplies g old w slots slot o (Refused NotRunning) new (amid w slots))
                (sym empty) (refl, keeps, refl),
            leaves,
            at,
          ),
          subst (λ (l : List (Option RunningState)). HoldsWith g new l (amid w slots)) unchanged (same_slots at),
        )

    module _ (one : RunningState) (there : slice_index_or running slot None ≡ Some one) where
      mine : (s : Started) × (slice_index_or slots slot None ≡ Some s) × IsRunning one s
      mine = own (slice_index_or running slot None) (slice_index_or slots slot None) (running_at running slots slot are)
          one there

      -- put back where it was taken
      put_back : (r s : Option RunningState) → slice_set (slice_set running slot r) slot s ≡ slice_set running slot s
      put_back r s = set_set running slot r s

      pub step_more : (next : RunningState)
          → ((s : Started) → Extends s w → IsRunning one s → StepsTo s (steps.More next)) → KeepsContent g old new
          → IsAt g new w
          → DoesWith g old w slots (Step slot) More new (slice_set (slice_set running slot None) slot (Some next))
      step_more next goes keeps at =
          let s : Started = mine.0 in
          let extends = of_at w slots slot s of mine.1 in
          let gone = goes s extends mine.2 in
          let entry : Option Started = Some (stepped s gone.0) in (
            amid w (slice_set slots slot entry),
            (
              subst (λ (o : Option Started). StepReplies g old w slots slot o More new
                  (amid w (slice_set slots slot entry))) (sym mine.1) (inl (gone.0, (refl, (gone.1, keeps), refl))),
              leaves,
              at,
            ),
            (
              at,
              subst (λ (l : List (Option RunningState)). AreRunning l (slice_set slots slot entry))
                  (sym (put_back None (Some next))) (running_set running slots slot (Some next) entry are gone.2),
              of_set w slots slot entry of (λ t is.
                  let same : stepped s gone.0 ≡ t = cc in
                  subst (λ (x : Started). Extends x w) same
                  (record { more = extends.more; batches = extends.batches })),
            ),
          )

      pub step_done : (found : answers.Answer)
          → ((s : Started) → Extends s w → IsRunning one s → StepsTo s (steps.Done found)) → KeepsContent g old new
          → IsAt g new w
          → DoesWith g old w slots (Step slot) (Answer found) new (slice_set running slot None)
      step_done found goes keeps at =
          let s : Started = mine.0 in
          let gone = goes s (of_at w slots slot s of mine.1) mine.2 in (
            amid w (slice_set slots slot None),
            (
              subst (λ (o : Option Started). StepReplies g old w slots slot o (Answer found) new
                  (amid w (slice_set slots slot None))) (sym mine.1)
                  (inr (inl (ap (λ (a : answers.Answer). Answer a) gone.1, (gone.0, keeps), refl))),
              leaves,
              at,
            ),
            (at, running_set running slots slot None None are tt, of_set w slots slot None of (λ t is. absurd cc)),
          )

      pub step_refused : (back : RunningState) (fault : Fault) → back ≡ one → (fault ≡ Device → has_failed new ≡ true)
          → ((fault ≡ Device → ⊥) → (s : Started) → Extends s w → IsRunning one s
          → StepsTo s (steps.Refused back fault)) → ((fault ≡ Device → ⊥) → KeepsContent g old new × IsAt g new w)
          → DoesWith g old w slots (Step slot) (Refused fault) new
          (slice_set (slice_set running slot None) slot (Some back))
      step_refused back fault same failed goes stays =
          let s : Started = mine.0 in
          let unchanged : slice_set (slice_set running slot None) slot (Some back) ≡ running =
          put_back None (Some back)
          ∙ ap (λ (r : Option RunningState). slice_set running slot r)
          (ap (λ (r : RunningState). Some r) same ∙ sym there) ∙ set_same running slot None in
          ⊎_elim {C = DoesWith g old w slots (Step slot) (Refused fault) new
          (slice_set (slice_set running slot None) slot (Some back))}
          (λ e. (
            broken,
            (
              subst (λ (o : Option Started). StepReplies g old w slots slot o (Refused fault) new broken) (sym mine.1)
                  (inr (inr (fault, refl, inl (e, refl)))),
              leaves,
              failed e,
            ),
            failed e,
          ))
          (λ no.
          let gone = goes no s (of_at w slots slot s of mine.1) mine.2 in
          let memory : fault ≡ Memory = ⊎_elim (λ m. m) (λ d. absurd (no d)) gone.1 in (
            amid w slots,
            (
              subst (λ (o : Option Started). StepReplies g old w slots slot o (Refused fault) new (amid w slots))
                  (sym mine.1) (inr (inr (fault, refl, inr ((memory, (stays no).0), refl)))),
              leaves,
              (stays no).1,
            ),
            subst (λ (l : List (Option RunningState)). HoldsWith g new l (amid w slots)) (sym unchanged)
                (same_slots (stays no).1),
          ))
          (device_or fault)
