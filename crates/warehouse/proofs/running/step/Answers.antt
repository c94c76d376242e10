use Rattle.std.proofs.Common.{◌≡◌, Some, None, List, Option, slice_set, refl, sym, ◌∙◌, ap, subst}
use Rattle.cube_model.specs.declared.fault.Fault.{Fault}
use Rattle.cube_model.specs.declared.fault.Fault.TheVariants.{Device, NotRunning}
use Rattle.planned_queries.specs.Stepping.{RunningState}
use Rattle.warehouse.specs.declared.command.Command.TheVariants.{Step}
use Rattle.warehouse.specs.declared.command.Reply.TheVariants.{More, Answer, Refused}
use Rattle.warehouse.specs.declared.stepping.Stepped.{Stepped}
use Rattle.warehouse.specs.Slots.{DoesWith}
use Rattle.warehouse.specs.Stepping.{StepsTo, refused_by}
use Rattle.warehouse.proofs.RunningLemmas.{step_done, step_more, step_none, step_refused}
use Rattle.warehouse.proofs.SessionLemmas.{leaves_at}
use Rattle.warehouse.proofs.running.step.Goals as goal

pub returns-in_default-clause-ran : goal.returns-in_default-clause-ran
returns-in_default-clause-ran g c w started at are of k =
    let s = c.args.session.now in
    subst (λ (l : List (Option RunningState)). DoesWith g.D.Sectors s w started (Step c.args.slot) (Refused NotRunning)
    s l) (sym c.take.ensures.empty)
    (step_none g.D.Sectors s s w started c.args.slots.now.queries.items c.args.slot are of
    (leaves_at g.D.Sectors g.met.D.Sectors.only_now c.args.session.now w at)
    (sym c.take.ensures.taken ∙ c.in_default.is) (λ word. refl) at)

pub returns-in-More-clause-ran : goal.returns-in-More-clause-ran
returns-in-More-clause-ran g c w started at are of k =
    let old = c.args.session.now in
    let new = c.step.new.self in
    let none = λ (is : refused_by c.step.result ≡ Some Device). let e : None ≡ Some Device =
    sym (ap refused_by c.in-More.is) ∙ is in absurd cc in
    subst (λ (l : List (Option RunningState)). DoesWith g.D.Sectors old w started (Step c.args.slot) More new l)
    (sym (c.put.ensures ∙ ap (λ (l : List (Option RunningState)). slice_set l c.args.slot (Some c.in-More.running))
    c.take.ensures.empty))
    (step_more g.D.Sectors old new w started c.args.slots.now.queries.items c.args.slot are of
    (c.step.ensures.reads.leaves w at) c.in-Some.running (sym c.take.ensures.taken ∙ c.in-Some.is) c.in-More.running
    (λ s extends is. subst (λ (x : Stepped). StepsTo s x) c.in-More.is (c.step.ensures.steps w at k s extends is))
    (c.step.ensures.reads.reads none) (c.step.ensures.reads.stays none w at))

pub returns-in-Done-clause-ran : goal.returns-in-Done-clause-ran
returns-in-Done-clause-ran g c w started at are of k =
    let old = c.args.session.now in
    let new = c.step.new.self in
    let none = λ (is : refused_by c.step.result ≡ Some Device). let e : None ≡ Some Device =
    sym (ap refused_by c.in-Done.is) ∙ is in absurd cc in
    subst (λ (l : List (Option RunningState)). DoesWith g.D.Sectors old w started (Step c.args.slot)
    (Answer c.in-Done.found) new l) (sym c.take.ensures.empty)
    (step_done g.D.Sectors old new w started c.args.slots.now.queries.items c.args.slot are of
    (c.step.ensures.reads.leaves w at) c.in-Some.running (sym c.take.ensures.taken ∙ c.in-Some.is) c.in-Done.found
    (λ s extends is. subst (λ (x : Stepped). StepsTo s x) c.in-Done.is (c.step.ensures.steps w at k s extends is))
    (c.step.ensures.reads.reads none) (c.step.ensures.reads.stays none w at))

pub returns-in-Refused-clause-ran : goal.returns-in-Refused-clause-ran
returns-in-Refused-clause-ran g c w started at are of k =
    let old = c.args.session.now in
    let new = c.step.new.self in
    let other = λ (no : c.in-Refused.fault ≡ Device → ⊥) (is : refused_by c.step.result ≡ Some Device). let e : Some
    c.in-Refused.fault ≡ Some Device = sym (ap refused_by c.in-Refused.is) ∙ is in no cc in
    subst (λ (l : List (Option RunningState)). DoesWith g.D.Sectors old w started (Step c.args.slot)
    (Refused c.in-Refused.fault) new l)
    (sym (c.put-in-Refused.ensures
    ∙ ap (λ (l : List (Option RunningState)). slice_set l c.args.slot (Some c.in-Refused.back))
    c.take.ensures.empty))
    (step_refused g.D.Sectors old new w started c.args.slots.now.queries.items c.args.slot are of
    (c.step.ensures.reads.leaves w at) c.in-Some.running (sym c.take.ensures.taken ∙ c.in-Some.is) c.in-Refused.back
    c.in-Refused.fault
    (c.step.ensures.back c.in-Refused.back c.in-Refused.fault c.in-Refused.is)
    (λ e. (c.step.ensures.reads.calls.device (ap refused_by c.in-Refused.is ∙ ap (λ (f : Fault). Some f) e)).failed)
    (λ no s extends is. subst (λ (x : Stepped). StepsTo s x) c.in-Refused.is (c.step.ensures.steps w at k s extends is))
    (λ no. (c.step.ensures.reads.reads (other no), c.step.ensures.reads.stays (other no) w at)))
