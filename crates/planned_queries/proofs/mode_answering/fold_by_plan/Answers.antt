use Rattle.std.proofs.Common.{Err, ◌∙◌, ℕ, take, sym, ap, subst, rules}
use Rattle.std.proofs.lemmas.Result.{err_from_is_err_and, on_ok_weaker}
use Rattle.cube_model.specs.Admission.{all_rows}
use Rattle.cube_model.specs.declared.fault.Fault.{Fault}
use Rattle.cube_model.specs.declared.fault.Fault.TheVariants.{BadLayout}
use Rattle.mode_folds.specs.States.{RepresentsModeRows}
use Rattle.mode_queries.specs.declared.query.ModeQuery.{ModeQuery}
use Rattle.object_store.specs.Content.{Content}
use Rattle.object_store.specs.Store.{IsStill, content_of}
use Rattle.warehouse_objects.specs.Represents.{Represents}
use Rattle.warehouse_objects.proofs.Folded.{err_fault}
use Rattle.warehouse_objects.proofs.OneMoreRead.{then_reads, reads_nothing}
use Rattle.planned_queries.specs.ModesPlanned.{ServesByModes}
use Rattle.planned_queries.proofs.ModesPlanned.{of_cuboid}
use Rattle.planned_queries.proofs.mode_answering.fold_by_plan.Goals as goal

pub begin_by_plan-requires-clause-serves : goal.begin_by_plan-requires-clause-serves
begin_by_plan-requires-clause-serves g c =
    subst (λ (asked : ModeQuery). ServesByModes asked c.in_ok-plan.plan) (sym c.requires.begins.query_is)
    c.in_ok-plan.ensures.serves

pub add_batches-requires-clause-query : goal.add_batches-requires-clause-query
add_batches-requires-clause-query g c =
    ap (λ (asked : ModeQuery). asked.query) (sym (c.in_ok-from.ensures.query ∙ c.requires.begins.query_is))

pub returns-in_err-from-clause-refused : goal.returns-in_err-from-clause-refused
returns-in_err-from-clause-refused g c =
    let p = err_from_is_err_and c.from_residual-in_err-from.result c.from_residual-in_err-from.ensures.1 in
    rw (p.1, p.2) (λ is k w represents rooted same.
    c.in_err-from.ensures.refused (ap (λ (f : Fault). Err f) (err_fault c.in_err-from.field-0.0 BadLayout is)) k w
    represents rooted same
    (of_cuboid (content_of g.D.Sectors c.args.store.now) w c.args.as_of c.args.asked.now c.in_ok-plan.plan represents
    (c.in_ok-plan.ensures.plan w rooted)))

pub returns-clause-ok : goal.returns-clause-ok
returns-clause-ok g c =
    on_ok_weaker c.add_batches.result (λ counts k w represents rooted same.
    let still : IsStill g.D.Sectors c.args.store.now c.begin_by_plan.new.store =
    c.in_ok-from.ensures.reads.stays (λ is. cc) in
    let word = c.add_batches.ensures.reads.leaves.word k in
    let own = of_cuboid (content_of g.D.Sectors c.args.store.now) w c.args.as_of c.args.asked.now c.in_ok-plan.plan
    represents (c.in_ok-plan.ensures.plan w rooted) in
    counts k w (subst (λ (x : Content). Represents x w) (sym (still.content word)) represents)
    (subst (λ (n : ℕ). RepresentsModeRows c.args.dims.now c.begin_by_plan.new.fold (all_rows (take n w.batches)))
    (sym c.in_ok-from.ensures.from) (c.in_ok-from.ensures.ok word w represents rooted same own)))
    c.add_batches.ensures.ok

pub returns-clause-query : goal.returns-clause-query
returns-clause-query g c =
    on_ok_weaker c.add_batches.result (λ same. same ∙ c.in_ok-from.ensures.query ∙ c.requires.begins.query_is)
    c.add_batches.ensures.query

pub returns-clause-refused : goal.returns-clause-refused
returns-clause-refused g c = λ is k w represents rooted same.
    let still : IsStill g.D.Sectors c.args.store.now c.begin_by_plan.new.store =
    c.in_ok-from.ensures.reads.stays (λ is. cc) in
    let word = c.add_batches.ensures.reads.leaves.word k in
    let own = of_cuboid (content_of g.D.Sectors c.args.store.now) w c.args.as_of c.args.asked.now c.in_ok-plan.plan
    represents (c.in_ok-plan.ensures.plan w rooted) in
    c.add_batches.ensures.refused is k w
    (subst (λ (x : Content). Represents x w) (sym (still.content word)) represents) rooted same.rows
    (subst (λ (n : ℕ). RepresentsModeRows c.args.dims.now c.begin_by_plan.new.fold (all_rows (take n w.batches)))
    (sym c.in_ok-from.ensures.from) (c.in_ok-from.ensures.ok word w represents rooted same own))

pub returns-clause-reads : goal.returns-clause-reads
returns-clause-reads g c =
    then_reads g.D.Sectors c.args.store.now c.begin_by_plan.new.store c.add_batches.new.store
    (c.in_ok-from.ensures.reads.stays (λ is. cc)) _ c.requires.fine c.in_ok-from.ensures.reads.leaves
    c.add_batches.ensures.reads

pub returns-in_err-plan-clause-reads : goal.returns-in_err-plan-clause-reads
returns-in_err-plan-clause-reads g c =
    reads_nothing g.D.Sectors g.met.D.Sectors.only_now c.args.store.now c.requires.fine _ (λ is. search rules)
