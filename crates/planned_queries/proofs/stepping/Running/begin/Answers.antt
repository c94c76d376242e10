use Rattle.std.proofs.Common.{◌≡◌, ◌∙◌, ◌≤◌, ℕ, length, take, refl, sym, ap, subst, arith, rules}
use Rattle.std.proofs.lemmas.List.{length-map}
use Rattle.cube_model.specs.Admission.{all_rows}
use Rattle.cube_model.specs.declared.query.Query.{Query}
use Rattle.cube_model.specs.declared.rows.DimRows.{DimRows}
use Rattle.cube_query.specs.Groups.{Begins, RepresentsRows}
use Rattle.planned_queries.specs.Planned.{IsPlanOf}
use Rattle.planned_queries.proofs.Cuboids.{members_in}
use Rattle.planned_queries.proofs.SteppingLemmas.{begun}
use Rattle.warehouse_objects.proofs.OneMoreRead.{reads_nothing}
use Rattle.planned_queries.proofs.stepping.Running.begin.Goals as goal

pub begin_fold-requires-clause-begins : goal.begin_fold-requires-clause-begins
begin_fold-requires-clause-begins g c =
    subst (λ (q : Query). Begins c.deref-rows.result.now q c.in_ok-fold.fold) (sym c.get-query.ensures.query)
    c.in_ok-fold.ensures

pub returns-clause-begun : goal.returns-clause-begun
returns-clause-begun g c k w represents rooted same =
    let done : ℕ = c.in_ok-done.done in
    let fold = c.begin_fold.new.fold in
    let here = c.deref-rows.ensures ∙ same.rows in
    let cells = c.in_ok-done.ensures.begun k w represents rooted
    (members_in w _ _ c.args.modes.now c.deref-rows.ensures same) in
    let shared : c.in_ok-dims.dims.value ≡ c.args.dims.now.value = c.in_ok-dims.ensures.cases in
    let there : c.args.as_of ≤ length w.batches =
    omega (arith, c.requires.few, ap (λ r. length r.batches) rooted, length-map w.batches length) in
    begun w c.args.as_of c.args.query.now
    (record { rows = c.in_ok-dims.dims.value; fold = fold; done = done; as_of = c.args.as_of }) (
      cells.0,
      subst (λ (q : Query). IsPlanOf w c.args.as_of q cells.0) c.get-query.ensures.query cells.1,
      cells.2,
      subst (λ (d : DimRows). RepresentsRows d fold (all_rows (take done w.batches))) here
          cells.3,
    )
    (shared ∙ same.rows) (c.in_ok-done.ensures.query ∙ c.get-query.ensures.query) refl c.in_ok-done.ensures.in_time
    there represents.batches

pub returns-in_err-fold-clause-reads : goal.returns-in_err-fold-clause-reads
returns-in_err-fold-clause-reads g c =
    reads_nothing g.D.Sectors g.met.D.Sectors.only_now c.args.store.now c.requires.fine _ (λ is. search rules)
