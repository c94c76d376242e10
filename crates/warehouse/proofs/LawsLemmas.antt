-- Lemmas of `laws`, by subject.
use Rattle.std.proofs.Common.{◌≡◌, ⊎_elim, inl, inr, ◌≤◌, ℕ, zero, suc, Some, None, Option, List, [], ◌∷◌, length, take}
use Rattle.std.proofs.Common.{slice_get, refl, sym, subst, arith, ◌∙◌, ap, ◌⊎◌}
use Rattle.sector_device.specs.declared.device.Sectors.{Ghosts}
use Rattle.sector_device.specs.Device.{Image, IsImage}
use Rattle.object_store.specs.Content.{Content}
use Rattle.object_store.specs.Shows.{Shows, HasNone}
use Rattle.object_store.proofs.Frames.{shows_same}
use Rattle.object_store.specs.Disk.{ShowsSome, disk, AllShow, Each, IsBlank}
use Rattle.object_store.proofs.Moments.{begins}
use Rattle.stored_rows.specs.Added.{widened}
use Rattle.warehouse_objects.specs.Facts.{Change, Facts, IsAdmissibleIn, a_batch, addition_refusal, facts_in, some_rows}
use Rattle.warehouse_objects.specs.Facts.{the_layout, AddsChange, in_second, with_next, with_rows}
use Rattle.warehouse_objects.specs.Warehouse.{Warehouse, loaded, migrated, with_views, fresh}
use Rattle.warehouse_objects.specs.Represents.{Represents}
use Rattle.warehouse_objects.proofs.CallerLemmas.{admissible_in, next_number}
use Rattle.warehouse.specs.declared.command.Command.{Command}
use Rattle.warehouse.specs.declared.command.Command.TheVariants.{Submit, Query, Status, Choose, Upkeep, Audit, Add}
use Rattle.warehouse.specs.declared.command.Command.TheVariants.{Migrate, Start, Step}
use Rattle.warehouse.specs.declared.command.Reply.{Reply}
use Rattle.warehouse.specs.declared.session.Session.{Session}
use Rattle.warehouse.specs.Found.{MayBeFound, MayRepresent}
use Rattle.warehouse.specs.Running.{Phase, Slots, amid, none_running, During, FoundIn, RanAll, broken, IsInPhase}
use Rattle.warehouse.specs.Running.{acknowledged}
use Rattle.warehouse.specs.Session.{IsAt, device_of, disk_of}
use Rattle.warehouse.specs.Headline.{acknowledged_all, submitted, IsFoundAfter, IsRestarted, CrashedRunIsFound}
use Rattle.warehouse.specs.Headline.{FewerIsNotFound, RestartedShows, CrashedCreateIsFound, CrashedOpenIsFound}
use Rattle.warehouse.specs.Choosing.{views_of}
use Rattle.warehouse.proofs.Numbering.{addition_number}
use Rattle.warehouse.proofs.Whole.{same_facts, whole, phase_is}
use Rattle.std.proofs.lemmas.List.{length-append}
use Rattle.cube_model.specs.declared.rows.DimRows.{DimRows}
use Rattle.cube_model.specs.declared.rows.LineOrder.{LineOrder}
use Rattle.object_store.proofs.CallerLemmas.{shows_one}
use Rattle.object_store.proofs.Looking.{none_same}
use Rattle.warehouse_objects.specs.Lawful.{ContentIsOneWarehouse}
use Rattle.warehouse.specs.declared.command.Reply.TheVariants.{Done, More, Answer, Numbers, Chosen, Audited, Refused}

-- ==== What is found after a run that was stopped.

as_it_is : (w : Warehouse) (last : Option Change) → MayBeFound (facts_in w) last w
as_it_is w last = inl refl

-- in a command
in_command : (w : Warehouse) (command : Command) (c : Content) → During w command c
    → MayRepresent (facts_in w) (submitted (Some command)) c
in_command w (Submit number batch) c during =
    ⊎_elim {C = MayRepresent (facts_in w) (Some (a_batch batch)) c}
    (λ represents. (w, as_it_is w (Some (a_batch batch)), represents))
    (λ more.
    let admissible =
    subst (λ (n : ℕ). IsAdmissibleIn w.layout w.rows w.batches n batch)
    (next_number w.rows w.batches number batch (admissible_in w.layout w.rows w.batches number batch more.0)) more.0 in
    (loaded w batch, inr (a_batch batch, refl, (admissible, refl)), more.1)) during
in_command w (Query as_of query) c represents = (w, as_it_is w None, represents)
in_command w Status c represents = (w, as_it_is w None, represents)
in_command w (Choose k) c during =
    ⊎_elim {C = MayRepresent (facts_in w) None c}
    (λ represents. (w, as_it_is w None, represents))
    (λ chosen. (with_views w (views_of chosen.0), inl refl, chosen.2)) during
in_command w Upkeep c during = (during.0, inl during.1.facts, during.2)
in_command w Audit c represents = (w, as_it_is w None, represents)
in_command w (Add number more) c during =
    ⊎_elim {C = MayRepresent (facts_in w) (Some (some_rows more)) c}
    (λ represents. (w, as_it_is w (Some (some_rows more)), represents))
    (λ wider.
    let admitted =
    subst (λ (n : ℕ). addition_refusal w.rows w.additions n more ≡ None) (addition_number w number more wider.0)
    wider.0 in
    (widened w more, inr (some_rows more, refl, (admitted, refl)), wider.1)) during
in_command w Migrate c during =
    ⊎_elim {C = MayRepresent (facts_in w) (Some the_layout) c}
    (λ represents. (w, as_it_is w (Some the_layout), represents))
    (λ moved. (migrated w, inr (the_layout, refl, (moved.0, refl)), moved.1)) during
in_command w (Start slot as_of query) c represents = (w, as_it_is w None, represents)
in_command w (Step slot) c represents = (w, as_it_is w None, represents)

-- stopped after some commands, in the next
record IsStopped (w : Warehouse) (commands : List Command) (replies : List Reply) (c : Content) : Type 0 where
  done : ℕ
  within : done ≤ length commands
  found : MayRepresent (acknowledged_all (facts_in w) (take done commands) (take done replies))
      (submitted (slice_get commands done)) c

stopped : (w : Warehouse) (commands : List Command) (replies : List Reply) (c : Content) → FoundIn w commands replies c
    → IsStopped w commands replies c
stopped w [] replies c represents =
    record { done = zero; within = omega arith; found = (w, as_it_is w None, represents) }
stopped w (command ∷ commands) [] c none = absurd none
stopped w (command ∷ commands) (reply ∷ replies) c found =
    ⊎_elim {C = IsStopped w (command ∷ commands) (reply ∷ replies) c}
    (λ here. record { done = zero; within = omega arith; found = in_command w command c here })
    (λ later.
    let rest = stopped later.0 commands replies c later.2 in
    let same = same_facts w command reply later.0 later.1 in
    let last = submitted (slice_get commands rest.done) in record {
      done = suc rest.done;
      within = omega (arith, rest.within);
      found = subst
          (λ (facts : Facts). MayRepresent (acknowledged_all facts (take rest.done commands) (take rest.done replies))
          last c) same rest.found;
    }) found

-- where an image shows a content, the restarted device shows it
pub restarted_shows : {D : Type 0} (g : Ghosts D) (size : ℕ) (image : Image) (device : D) (c : Content)
    → IsRestarted g size image device → Shows size image c
    → (other : Image) → IsImage (g.state device) other → Shows (g.state device).size other c
restarted_shows g size image device c restarted shows other is =
    subst (λ (n : ℕ). Shows n other c) (sym restarted.same_size)
    (shows.0, shows.1, shows_same size image other c shows.0 shows.1 shows.2 (λ i _. sym (restarted.one other is i)))

-- whatever runs in the slots
pub stopped_amid : {D : Type 0} (g : Ghosts D)
    → ((d : D) (image : Image) → g.keeps_word d → (g.state d).left_since (g.state d).moment image
    → IsImage (g.state d) image)
    → (old new : Session D g) (w : Warehouse) (slots : Slots) (commands : List Command) (replies : List Reply)
    (after : Phase)
    → IsAt g old w → RanAll g old (amid w slots) commands replies new after → (disk_of g new).keeps_word
    → (image : Image) → (g.state (device_of new)).left_since (g.state (device_of old)).moment image
    → (device : D) → IsRestarted g (g.state (device_of old)).size image device
    → IsFoundAfter g w commands replies device
stopped_amid g only old new w slots commands replies after is ran word image left device restarted =
    let leaves = whole g old new w slots after commands replies ran
    (begins (ShowsSome (λ (c : Content). Represents c w)) (disk_of g old) (λ k i. only (device_of old) i k) is.all) in
    let shown = (leaves.moments word).each image left in
    let stop = stopped w commands replies shown.0 shown.2 in record {
      done = stop.done;
      within = stop.within;
      found = stop.found.0;
      may = stop.found.1;
      represents = λ k other is_image. (
        shown.0,
        restarted_shows g (g.state (device_of old)).size image device shown.0 restarted shown.1 other is_image,
        (stop.found.0, as_it_is stop.found.0 None, stop.found.2),
      );
    }

pub stopped_run : {D : Type 0} (g : Ghosts D)
    → ((d : D) (image : Image) → g.keeps_word d → (g.state d).left_since (g.state d).moment image
    → IsImage (g.state d) image) → CrashedRunIsFound g
stopped_run g only old new w commands replies after = stopped_amid g only old new w none_running commands replies after

-- ==== A stop after some of the commands of a run.

-- the warehouse of a phase, if it has one
abbrev warehouse_in : Warehouse → Phase → Warehouse
warehouse_in other (amid w slots) = w
warehouse_in other broken = other

abbrev IsBroken : Phase → Type 0
IsBroken (amid w slots) = ⊥
IsBroken broken = Unit {0}

ends_broken : {D : Type 0} (g : Ghosts D) (old new : Session D g) (after : Phase) (commands : List Command)
    (replies : List Reply) → RanAll g old broken commands replies new after → IsBroken after
ends_broken g old new after [] [] all = subst IsBroken (sym all.1) tt
ends_broken g old new after [] (reply ∷ replies) all = absurd all
ends_broken g old new after (command ∷ commands) [] all = absurd all
ends_broken g old new after (command ∷ commands) (reply ∷ replies) all =
    ends_broken g all.0 new after commands replies
    (subst (λ (p : Phase). RanAll g all.0 p commands replies new after) all.2.2 all.3)

pub ends_at : {D : Type 0} (g : Ghosts D) (old mid : Session D g) (w v : Warehouse) (slots left : Slots)
    (commands : List Command) (replies : List Reply) → IsAt g old w
    → RanAll g old (amid w slots) commands replies mid (amid v left)
    → (facts_in v ≡ acknowledged_all (facts_in w) commands replies) × IsAt g mid v
ends_at {D} g old mid w v slots left [] [] is all =
    let same : v ≡ w = ap (warehouse_in w) all.1 in (
      ap facts_in same,
      subst (λ (x : Warehouse). IsAt g mid x) (sym same) (subst (λ (s : Session D g). IsAt g s w) (sym all.0) is),
    )
ends_at g old mid w v slots left [] (reply ∷ replies) is all = absurd all
ends_at g old mid w v slots left (command ∷ commands) [] is all = absurd all
ends_at {D} g old mid w v slots left (command ∷ commands) (reply ∷ replies) is all =
    ⊎_elim {C = (facts_in v ≡ acknowledged_all (acknowledged (facts_in w) command reply) commands replies)
    × IsAt g mid v}
    (λ then_at.
    let rest = ends_at g all.0 mid then_at.0 v then_at.1 left commands replies
    (subst (IsInPhase g all.0) then_at.2 all.2.2)
    (subst (λ (p : Phase). RanAll g all.0 p commands replies mid (amid v left)) then_at.2 all.3) in
    let same = same_facts w command reply then_at.0 then_at.3 in
    (rest.0 ∙ ap (λ (facts : Facts). acknowledged_all facts commands replies) same, rest.1))
    (λ e. absurd
    (ends_broken g all.0 mid (amid v left) commands replies
    (subst (λ (p : Phase). RanAll g all.0 p commands replies mid (amid v left)) e all.3)))
    (phase_is g old all.0 w slots command reply all.1 all.2.0)

-- ==== What a restarted device shows.

pub shows_it : {D : Type 0} (g : Ghosts D) → RestartedShows g
shows_it g size image device c restarted shows k other is =
    (c, restarted_shows g size image device c restarted shows other is, refl)

pub open_again : {D : Type 0} (g : Ghosts D) → CrashedOpenIsFound g
open_again g start end facts leaves word image left device restarted k other is =
    let shown = (leaves.moments word).each image left in (
      shown.0,
      restarted_shows g (g.state start).size image device shown.0 restarted shown.1 other is,
      (shown.2.0, shown.2.1, shown.2.3),
    )

none_again : {D : Type 0} (g : Ghosts D) (size : ℕ) (image : Image) (device : D) → IsRestarted g size image device
    → HasNone image → Each (disk g device) IsBlank
none_again g size image device restarted none k other is =
    none_same image other (λ slot less. sym (restarted.one other is slot)) none

pub create_again : {D : Type 0} (g : Ghosts D) → CrashedCreateIsFound g
create_again g start end rows leaves word image left device restarted =
    ⊎_elim {C = Each (disk g device) IsBlank ⊎ AllShow (disk g device) (λ c. Represents c (fresh rows))}
    (λ none. inl (none_again g (g.state start).size image device restarted none))
    (λ shown. inr
    (λ k other is. (
      shown.0,
      restarted_shows g (g.state start).size image device shown.0 restarted shown.1 other is,
      shown.2,
    )))
    ((leaves.moments word).each image left)

-- some facts have no fewer batches and no fewer additions than others
record HaveNoFewer (less more : Facts) : Type 0 where
  batches : length less.batches ≤ length more.batches
  additions : less.additions ≤ more.additions

just_as_many : (facts : Facts) → HaveNoFewer facts facts
just_as_many facts = record { batches = omega arith; additions = omega arith }

no_fewer_then : (one two three : Facts) → HaveNoFewer one two → HaveNoFewer two three → HaveNoFewer one three
no_fewer_then one two three first second =
    record {
      batches = omega (arith, first.batches, second.batches);
      additions =
          omega (arith, first.additions, second.additions);
    }

with_batch : (facts : Facts) (batch : List LineOrder) → HaveNoFewer facts (with_next facts batch)
with_batch facts batch =
    record { batches = omega (arith, length-append facts.batches (batch ∷ [])); additions = omega arith }

with_more : (facts : Facts) (more : DimRows) → HaveNoFewer facts (with_rows facts more)
with_more facts more = record { batches = omega arith; additions = omega arith }

in_another_layout : (facts : Facts) → HaveNoFewer facts (in_second facts)
in_another_layout facts = record { batches = omega arith; additions = omega arith }

-- there are no fewer that are acknowledged than before
no_fewer : (facts : Facts) (command : Command) (reply : Reply) → HaveNoFewer facts (acknowledged facts command reply)
no_fewer facts (Submit number batch) Done = with_batch facts batch
no_fewer facts (Submit number batch) More = just_as_many facts
no_fewer facts (Submit number batch) (Answer found) = just_as_many facts
no_fewer facts (Submit number batch) (Numbers numbers) = just_as_many facts
no_fewer facts (Submit number batch) (Chosen chosen) = just_as_many facts
no_fewer facts (Submit number batch) (Audited said) = just_as_many facts
no_fewer facts (Submit number batch) (Refused fault) = just_as_many facts
no_fewer facts (Add number more) Done = with_more facts more
no_fewer facts (Add number more) More = just_as_many facts
no_fewer facts (Add number more) (Answer found) = just_as_many facts
no_fewer facts (Add number more) (Numbers numbers) = just_as_many facts
no_fewer facts (Add number more) (Chosen chosen) = just_as_many facts
no_fewer facts (Add number more) (Audited said) = just_as_many facts
no_fewer facts (Add number more) (Refused fault) = just_as_many facts
no_fewer facts Migrate Done = in_another_layout facts
no_fewer facts Migrate More = just_as_many facts
no_fewer facts Migrate (Answer found) = just_as_many facts
no_fewer facts Migrate (Numbers numbers) = just_as_many facts
no_fewer facts Migrate (Chosen chosen) = just_as_many facts
no_fewer facts Migrate (Audited said) = just_as_many facts
no_fewer facts Migrate (Refused fault) = just_as_many facts
no_fewer facts (Query as_of query) reply = just_as_many facts
no_fewer facts Status reply = just_as_many facts
no_fewer facts (Choose k) reply = just_as_many facts
no_fewer facts Upkeep reply = just_as_many facts
no_fewer facts Audit reply = just_as_many facts
no_fewer facts (Start slot as_of query) reply = just_as_many facts
no_fewer facts (Step slot) reply = just_as_many facts

none_fewer : (facts : Facts) (commands : List Command) (replies : List Reply)
    → HaveNoFewer facts (acknowledged_all facts commands replies)
none_fewer facts [] replies = just_as_many facts
none_fewer facts (command ∷ commands) [] = just_as_many facts
none_fewer facts (command ∷ commands) (reply ∷ replies) =
    no_fewer_then facts (acknowledged facts command reply)
    (acknowledged_all (acknowledged facts command reply) commands replies) (no_fewer facts command reply)
    (none_fewer (acknowledged facts command reply) commands replies)

-- facts with a change have no fewer
adds_none_fewer : (facts new : Facts) (change : Change) → AddsChange facts change new → HaveNoFewer facts new
adds_none_fewer facts new (a_batch batch) adds = subst (HaveNoFewer facts) (sym adds.1) (with_batch facts batch)
adds_none_fewer facts new (some_rows more) adds = subst (HaveNoFewer facts) (sym adds.1) (with_more facts more)
adds_none_fewer facts new the_layout adds = subst (HaveNoFewer facts) (sym adds.1) (in_another_layout facts)

-- nor has what may be found
found_more : (facts : Facts) (last : Option Change) (found : Warehouse) → MayBeFound facts last found
    → HaveNoFewer facts (facts_in found)
found_more facts last found =
    ⊎_elim {C = HaveNoFewer facts (facts_in found)}
    (λ same. subst (HaveNoFewer facts) (sym same) (just_as_many facts))
    (λ more. adds_none_fewer facts (facts_in found) more.0 more.2)

pub fewer_not_found : {D : Type 0} (g : Ghosts D) → ContentIsOneWarehouse → FewerIsNotFound g
fewer_not_found g one w fewer commands replies device image k is found shown less =
    let there = found.represents k image is in
    let other = shown k image is in
    let same : other.0 ≡ there.0 = shows_one (g.state device).size image other.0 there.0 other.1 there.1 in
    let v = there.2.0 in
    let same_w : fewer ≡ v = one there.0 fewer v (subst (λ (c : Content). Represents c fewer) same other.2) there.2.2 in
    let batches : length fewer.batches ≡ length v.batches = ap (λ (x : Warehouse). length x.batches) same_w in
    let additions : fewer.additions ≡ v.additions = ap (λ (x : Warehouse). x.additions) same_w in
    let first = none_fewer (facts_in w) (take found.done commands) (take found.done replies) in
    let then = found_more (acknowledged_all (facts_in w) (take found.done commands) (take found.done replies))
    (submitted (slice_get commands found.done)) found.found found.may in
    let last = found_more (facts_in found.found) None v there.2.1 in
    ⊎_elim {C = ⊥}
    (λ few. absurd (omega (arith, few, batches, first.batches, then.batches, last.batches)))
    (λ few. absurd (omega (arith, few, additions, first.additions, then.additions, last.additions))) less
