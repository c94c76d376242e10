-- A whole run, as what a crash at any point of it may leave.
use Rattle.std.proofs.Common.{◌≡◌, ◌⊎◌, ⊎_elim, inl, inr, ℕ, zero, suc, Option, None, Some, slice_set, slice_index_or}
use Rattle.std.proofs.Common.{List, [], ◌∷◌, ◌++◌, take, slice_get, refl, sym, ◌∙◌, ap, subst}
use Rattle.sector_device.specs.declared.device.Sectors.{Ghosts}
use Rattle.object_store.specs.Disk.{Leaves}
use Rattle.object_store.proofs.Moments.{leaves_then, leaves_weaker}
use Rattle.cube_model.specs.declared.fault.Fault.{Fault}
use Rattle.cube_model.specs.declared.fault.Fault.TheVariants.{Memory}
use Rattle.planned_queries.specs.Stepping.{Started, stepped}
use Rattle.stored_rows.specs.Added.{widened}
use Rattle.warehouse_objects.specs.Facts.{facts_in}
use Rattle.warehouse_objects.specs.Warehouse.{Warehouse, loaded, migrated, with_views}
use Rattle.warehouse_objects.specs.Represents.{Represents}
use Rattle.warehouse.specs.declared.command.Command.{Command}
use Rattle.warehouse.specs.declared.command.Command.TheVariants.{Submit, Query, Status, Choose, Upkeep, Audit, Add}
use Rattle.warehouse.specs.declared.command.Command.TheVariants.{Migrate, Start, Step}
use Rattle.warehouse.specs.declared.command.Reply.{Reply}
use Rattle.warehouse.specs.declared.command.Reply.TheVariants.{Done, More, Answer, Numbers, Chosen, Audited, Refused}
use Rattle.warehouse.specs.declared.session.Session.{Session}
use Rattle.warehouse.specs.Choosing.{ChooseRefuses, views_of}
use Rattle.warehouse.specs.Migrating.{MigrateRefuses}
use Rattle.warehouse.specs.Session.{disk_of, AddRefuses, KeepsContent, SubmitRefuses, QueryRefuses}
use Rattle.warehouse.specs.Running.{Phase, Slots, amid, broken, Becomes, RanAll, RefusesInPhase, Replies, StepReplies}
use Rattle.warehouse.specs.Running.{During}
use Rattle.warehouse.specs.Running.{acknowledged, FoundIn}

-- only a start and a step change slots
abbrev pub Leave : Command → Slots → Slots → Type 0
Leave (Start slot as_of query) slots next = Unit {0}
Leave (Step slot) slots next = Unit {0}
Leave _ slots next = next ≡ slots

-- the warehouse and the slots of the phase after a command, if it has some
abbrev pub Ends : Warehouse → Slots → Command → Reply → Phase → Type 0
Ends w slots command reply after =
    ((v : Warehouse) × (next : Slots) × (after ≡ amid v next) × Becomes w command reply v × Leave command slots next)
    ⊎ (after ≡ broken)

-- a refusal leaves the warehouse
refused_is : (w : Warehouse) (slots : Slots) (cause : Fault → Type 0) (command : Command) (reply : Reply)
    (after : Phase)
    → ((fault : Fault) → Becomes w command (Refused fault) w) → Leave command slots slots
    → RefusesInPhase cause (amid w slots) reply after → Ends w slots command reply after
refused_is w slots cause command reply after so leave refused =
    ⊎_elim {C = Ends w slots command reply after}
    (λ failed. inr failed.1)
    (λ there. inl (
      w,
      slots,
      there.1,
      subst (λ (r : Reply). Becomes w command r w) (sym refused.1) (so refused.0),
      leave,
    ))
    refused.2

-- after a step
stepped_is : {D : Type 0} (g : Ghosts D) (old new : Session D g) (w : Warehouse) (slots : Slots) (slot : ℕ)
    (found : Option Started) (reply : Reply) (after : Phase)
    → StepReplies g old w slots slot found reply new after → Ends w slots (Step slot) reply after
stepped_is g old new w slots slot None reply after is = inl (w, slots, is.2, refl, tt)
stepped_is g old new w slots slot (Some s) reply after is =
    ⊎_elim {C = Ends w slots (Step slot) reply after}
    (λ more. inl (w, slice_set slots slot (Some (stepped s more.0)), more.1.2, refl, tt))
    (⊎_elim {C = Ends w slots (Step slot) reply after}
    (λ last. inl (w, slice_set slots slot None, last.2, refl, tt))
    (refused_is w slots (λ fault. (fault ≡ Memory) × KeepsContent g old new) (Step slot) reply after (λ fault. refl)
    tt)) is

pub phase_is : {D : Type 0} (g : Ghosts D) (old new : Session D g) (w : Warehouse) (slots : Slots) (command : Command)
    (reply : Reply) (after : Phase) → Replies g old w slots command reply new after
    → Ends w slots command reply after
phase_is g old new w slots (Submit number batch) reply after is =
    ⊎_elim {C = Ends w slots (Submit number batch) reply after}
    (λ done. inl (
      loaded w batch,
      slots,
      done.2,
      subst (λ (r : Reply). Becomes w (Submit number batch) r (loaded w batch))
          (sym done.0) refl,
      refl,
    ))
    (refused_is w slots (λ fault. SubmitRefuses g old w number batch fault × KeepsContent g old new)
    (Submit number batch) reply after (λ fault. refl) refl) is
phase_is g old new w slots (Query as_of query) reply after is =
    ⊎_elim {C = Ends w slots (Query as_of query) reply after}
    (λ done. inl (w, slots, done.2, refl, refl))
    (refused_is w slots (λ fault. QueryRefuses w as_of query fault × KeepsContent g old new) (Query as_of query) reply
    after (λ fault. refl) refl) is
phase_is g old new w slots Status reply after is = inl (w, slots, is.1.2, refl, refl)
phase_is g old new w slots (Choose k) reply after is =
    ⊎_elim {C = Ends w slots (Choose k) reply after}
    (λ done. inl (
      with_views w (views_of done.0),
      slots,
      done.1.2,
      subst (λ (r : Reply). Becomes w (Choose k) r (with_views w (views_of done.0))) (sym done.1.0) refl,
      refl,
    ))
    (refused_is w slots (λ fault. ChooseRefuses g old w k fault × KeepsContent g old new) (Choose k) reply after
    (λ fault. refl) refl) is
phase_is g old new w slots Upkeep reply after is =
    ⊎_elim {C = Ends w slots Upkeep reply after}
    (λ done. inl (is.0, slots, done.2, is.1, refl))
    (λ refused. ⊎_elim {C = Ends w slots Upkeep reply after} (λ failed. inr failed.1)
    (λ there. inl (is.0, slots, there.1, is.1, refl)) refused.2) is.2
phase_is g old new w slots Audit reply after is =
    ⊎_elim {C = Ends w slots Audit reply after}
    (λ done. inl (w, slots, done.2, refl, refl))
    (refused_is w slots (λ fault. (fault ≡ Memory) × KeepsContent g old new) Audit reply after (λ fault. refl) refl) is
phase_is g old new w slots (Add number more) reply after is =
    ⊎_elim {C = Ends w slots (Add number more) reply after}
    (λ done. inl (
      widened w more,
      slots,
      done.2,
      subst (λ (r : Reply). Becomes w (Add number more) r (widened w more))
          (sym done.0) refl,
      refl,
    ))
    (refused_is w slots (λ fault. AddRefuses g old w number more fault × KeepsContent g old new) (Add number more) reply
    after (λ fault. refl) refl) is
phase_is g old new w slots Migrate reply after is =
    ⊎_elim {C = Ends w slots Migrate reply after}
    (λ done. inl (
      migrated w,
      slots,
      done.2,
      subst (λ (r : Reply). Becomes w Migrate r (migrated w)) (sym done.0) refl,
      refl,
    ))
    (refused_is w slots (λ fault. MigrateRefuses g old w fault × KeepsContent g old new) Migrate reply after
    (λ fault. refl) refl) is
phase_is g old new w slots (Start slot as_of query) reply after is =
    ⊎_elim {C = Ends w slots (Start slot as_of query) reply after}
    (λ none. inl (w, slots, none.2, refl, tt))
    (λ there.
    ⊎_elim {C = Ends w slots (Start slot as_of query) reply after}
    (λ begun. inl (w, slice_set slots slot (Some begun.0), begun.1.2, refl, tt))
    (refused_is w slots (λ fault. QueryRefuses w as_of query fault × KeepsContent g old new) (Start slot as_of query)
    reply after (λ fault. refl) tt) there.1) is
phase_is g old new w slots (Step slot) reply after is =
    stepped_is g old new w slots slot (slice_index_or slots slot None) reply after is

-- the facts then
pub same_facts : (w : Warehouse) (command : Command) (reply : Reply) (v : Warehouse) → Becomes w command reply v
    → facts_in v ≡ acknowledged (facts_in w) command reply
same_facts w (Submit number batch) Done v is = ap facts_in is
same_facts w (Submit number batch) More v is = ap facts_in is
same_facts w (Submit number batch) (Answer found) v is = ap facts_in is
same_facts w (Submit number batch) (Numbers numbers) v is = ap facts_in is
same_facts w (Submit number batch) (Chosen chosen) v is = ap facts_in is
same_facts w (Submit number batch) (Audited said) v is = ap facts_in is
same_facts w (Submit number batch) (Refused fault) v is = ap facts_in is
same_facts w (Add number more) Done v is = ap facts_in is
same_facts w (Add number more) More v is = ap facts_in is
same_facts w (Add number more) (Answer found) v is = ap facts_in is
same_facts w (Add number more) (Numbers numbers) v is = ap facts_in is
same_facts w (Add number more) (Chosen chosen) v is = ap facts_in is
same_facts w (Add number more) (Audited said) v is = ap facts_in is
same_facts w (Add number more) (Refused fault) v is = ap facts_in is
same_facts w Migrate Done v is = ap facts_in is
same_facts w Migrate More v is = ap facts_in is
same_facts w Migrate (Answer found) v is = ap facts_in is
same_facts w Migrate (Numbers numbers) v is = ap facts_in is
same_facts w Migrate (Chosen chosen) v is = ap facts_in is
same_facts w Migrate (Audited said) v is = ap facts_in is
same_facts w Migrate (Refused fault) v is = ap facts_in is
same_facts w (Query as_of query) reply v is = ap facts_in is
same_facts w Status reply v is = ap facts_in is
same_facts w (Choose k) Done v is = ap facts_in is
same_facts w (Choose k) More v is = ap facts_in is
same_facts w (Choose k) (Answer found) v is = ap facts_in is
same_facts w (Choose k) (Numbers numbers) v is = ap facts_in is
same_facts w (Choose k) (Chosen chosen) v is = ap facts_in is
same_facts w (Choose k) (Audited said) v is = ap facts_in is
same_facts w (Choose k) (Refused fault) v is = ap facts_in is
same_facts w Upkeep reply v is = is.facts
same_facts w Audit reply v is = ap facts_in is
same_facts w (Start slot as_of query) reply v is = ap facts_in is
same_facts w (Step slot) reply v is = ap facts_in is

-- after a failure nothing happens
stays_broken : {D : Type 0} (g : Ghosts D) (old new : Session D g) (after : Phase) (commands : List Command)
    (replies : List Reply) → RanAll g old broken commands replies new after → new ≡ old
stays_broken g old new after [] [] all = all.0
stays_broken g old new after [] (reply ∷ replies) all = absurd all
stays_broken g old new after (command ∷ commands) [] all = absurd all
stays_broken g old new after (command ∷ commands) (reply ∷ replies) all =
    let rest = subst (λ (p : Phase). RanAll g all.0 p commands replies new after) all.2.2 all.3 in
    stays_broken g all.0 new after commands replies rest ∙ all.2.1

pub run_leaves : {D : Type 0} (g : Ghosts D) (old new : Session D g) (w : Warehouse) (slots : Slots) (after : Phase)
    (command : Command) (reply : Reply) (commands : List Command) (replies : List Reply)
    → RanAll g old (amid w slots) (command ∷ commands) (reply ∷ replies) new after
    → Leaves (disk_of g old) (disk_of g new) (FoundIn w (command ∷ commands) (reply ∷ replies))
run_leaves {D} g old new w slots after command reply [] [] all =
    subst (λ (s : Session D g). Leaves (disk_of g old) (disk_of g s) (FoundIn w (command ∷ []) (reply ∷ [])))
    (sym all.3.0)
    (leaves_weaker (During w command) (FoundIn w (command ∷ []) (reply ∷ [])) (disk_of g old) (disk_of g all.0)
    (λ k c here. inl here) all.2.1)
run_leaves g old new w slots after command reply [] (r ∷ replies) all = absurd all.3
run_leaves g old new w slots after command reply (c ∷ commands) [] all = absurd all.3
run_leaves {D} g old new w slots after command reply (c ∷ commands) (r ∷ replies) all =
    let P = FoundIn w (command ∷ c ∷ commands) (reply ∷ r ∷ replies) in
    let first : Leaves (disk_of g old) (disk_of g all.0) P =
    leaves_weaker (During w command) P (disk_of g old) (disk_of g all.0) (λ k x here. inl here) all.2.1 in
    ⊎_elim {C = Leaves (disk_of g old) (disk_of g new) P}
    (λ then_at. leaves_then P (disk_of g old) (disk_of g all.0) (disk_of g new) first
    (leaves_weaker (FoundIn then_at.0 (c ∷ commands) (r ∷ replies)) P (disk_of g all.0) (disk_of g new)
    (λ k x later. inr (then_at.0, then_at.3, later))
    (run_leaves g all.0 new then_at.0 then_at.1 after c r commands replies
    (subst (λ (p : Phase). RanAll g all.0 p (c ∷ commands) (r ∷ replies) new after) then_at.2 all.3))))
    (λ e. subst (λ (s : Session D g). Leaves (disk_of g old) (disk_of g s) P)
    (sym (stays_broken g all.0 new after (c ∷ commands) (r ∷ replies)
    (subst (λ (p : Phase). RanAll g all.0 p (c ∷ commands) (r ∷ replies) new after) e all.3))) first)
    (phase_is g old all.0 w slots command reply all.1 all.2.0)

pub whole : {D : Type 0} (g : Ghosts D) (old new : Session D g) (w : Warehouse) (slots : Slots) (after : Phase)
    (commands : List Command) (replies : List Reply)
    → RanAll g old (amid w slots) commands replies new after
    → Leaves (disk_of g old) (disk_of g old) (λ c. Represents c w)
    → Leaves (disk_of g old) (disk_of g new) (FoundIn w commands replies)
whole {D} g old new w slots after [] [] all now =
    subst (λ (s : Session D g). Leaves (disk_of g old) (disk_of g s) (λ c. Represents c w)) (sym all.0) now
whole g old new w slots after [] (reply ∷ replies) all now = absurd all
whole g old new w slots after (command ∷ commands) [] all now = absurd all
whole g old new w slots after (command ∷ commands) (reply ∷ replies) all now =
    run_leaves g old new w slots after command reply commands replies all

pub take_next : {A : Type 0} (xs : List A) (n : ℕ) (b : A) → slice_get xs n ≡ Some b
    → take (suc n) xs ≡ take n xs ++ b ∷ []
take_next [] n b is = absurd (cc)
take_next {A = A} (x ∷ xs) zero b is = let same : x ≡ b = cc in ap (λ (y : A). y ∷ []) same
take_next {A = A} (x ∷ xs) (suc n) b is = ap (λ (l : List A). x ∷ l) (take_next xs n b is)
