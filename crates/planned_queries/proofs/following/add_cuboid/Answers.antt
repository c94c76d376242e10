use Rattle.std.proofs.Common.{◌≡◌, ◌∙◌, ℕ, sym, ap, subst, take, rules}
use Rattle.cube_model.specs.Admission.{all_rows}
use Rattle.cube_query.specs.Groups.{RepresentsRows}
use Rattle.lattice.specs.Views.{index_of}
use Rattle.warehouse_root.specs.declared.cuboid.StoredCuboid.{StoredCuboid}
use Rattle.warehouse_objects.specs.Warehouse.{cuboid_at}
use Rattle.warehouse_objects.proofs.CallerLemmas.{found_said}
use Rattle.warehouse_objects.proofs.Folded.{ok_so}
use Rattle.planned_queries.proofs.Cuboids.{said_found, said_is}
use Rattle.warehouse_objects.proofs.OneMoreRead.{reads_nothing}
use Rattle.planned_queries.proofs.following.add_cuboid.Goals as goal

pub returns-in_default-clause-refused : goal.returns-in_default-clause-refused
returns-in_default-clause-refused g c = λ is k w represents rooted same has.
    c.in_default.not-Some _
    (said_found w c.args.view c.cuboids.result.now c.index.result c.cuboid_of.result has.0
    (c.cuboids.ensures.value ∙ ap (λ r. r.cuboids) rooted) c.index.ensures c.cuboid_of.ensures has.1)

pub fold_runs-requires-clause-view : goal.fold_runs-requires-clause-view
fold_runs-requires-clause-view g c =
    sym (found_said c.cuboids.result.now c.index.result c.in-Some.cuboid (sym (sym c.in-Some.is ∙ c.cuboid_of.ensures))
    ∙ c.index.ensures)

pub returns-clause-ok : goal.returns-clause-ok
returns-clause-ok g c =
    ok_so _ _ c.fold_runs.result (λ represent k w represents rooted same has.
    let found = sym c.in-Some.is ∙ c.cuboid_of.ensures in
    let said = said_is w c.args.view c.cuboids.result.now c.index.result c.in-Some.cuboid has.0
    (c.cuboids.ensures.value ∙ ap (λ r. r.cuboids) rooted) c.index.ensures found has.1 in
    let number : c.in-Some.cuboid.view ≡ index_of c.args.view =
    found_said c.cuboids.result.now c.index.result c.in-Some.cuboid (sym found) ∙ c.index.ensures in
    let mark : c.in-Some.cuboid.mark ≡ c.args.mark = sym (ap (λ (s : StoredCuboid). s.mark) said) ∙ has.2 in
    subst (λ (n : ℕ). RepresentsRows c.args.dims.now c.fold_runs.new.fold (all_rows (take n w.batches))) mark
    (represent k w has.0 represents same (ap (λ (n : ℕ). cuboid_at n w.cuboids) number ∙ has.1) said))
    c.fold_runs.ensures.ok

pub returns-clause-refused : goal.returns-clause-refused
returns-clause-refused g c = λ is k w represents rooted same has.
    let found = sym c.in-Some.is ∙ c.cuboid_of.ensures in
    let said = said_is w c.args.view c.cuboids.result.now c.index.result c.in-Some.cuboid has.0
    (c.cuboids.ensures.value ∙ ap (λ r. r.cuboids) rooted) c.index.ensures found has.1 in
    let number : c.in-Some.cuboid.view ≡ index_of c.args.view =
    found_said c.cuboids.result.now c.index.result c.in-Some.cuboid (sym found) ∙ c.index.ensures in
    c.fold_runs.ensures.refused is k w has.0 represents same (ap (λ (n : ℕ). cuboid_at n w.cuboids) number ∙ has.1) said

pub returns-in_default-clause-reads : goal.returns-in_default-clause-reads
returns-in_default-clause-reads g c =
    reads_nothing g.D.Sectors g.met.D.Sectors.only_now c.args.store.now c.requires.fine _ (λ is. search rules)
