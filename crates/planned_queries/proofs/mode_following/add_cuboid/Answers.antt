use Rattle.std.proofs.Common.{Err, ◌≡◌, ◌∙◌, ◌≤◌, ℕ, [], length, sym, ap, subst, take, arith, refl, rules}
use Rattle.std.proofs.lemmas.List.{length-map}
use Rattle.std.proofs.lemmas.Result.{IfErr-weaker, err_from_is_err_and, on_ok_weaker}
use Rattle.cube_model.specs.Admission.{all_rows}
use Rattle.cube_model.specs.declared.fault.Fault.{Fault}
use Rattle.cube_model.specs.declared.fault.Fault.TheVariants.{BadLayout, Device}
use Rattle.lattice.specs.declared.view.View.{View}
use Rattle.lattice.specs.Determined.{Serves}
use Rattle.lattice.specs.Views.{index_of}
use Rattle.lattice.proofs.Places.{one_view}
use Rattle.mode_folds.specs.States.{RepresentsModeRows}
use Rattle.object_store.specs.Store.{content_of}
use Rattle.warehouse_root.specs.declared.cuboid.StoredCuboid.{StoredCuboid}
use Rattle.warehouse_objects.specs.Warehouse.{cuboid_at}
use Rattle.warehouse_objects.proofs.CallerLemmas.{found_said}
use Rattle.warehouse_objects.proofs.Folded.{err_fault, of_counts, of_fault}
use Rattle.warehouse_objects.proofs.OneMoreRead.{has_read, reads_nothing}
use Rattle.planned_queries.proofs.Cuboids.{said_found, said_is}
use Rattle.planned_queries.proofs.Faults.{no_device}
use Rattle.planned_queries.proofs.Folding.{foldable_first}
use Rattle.planned_queries.proofs.Members.{by_members}
use Rattle.planned_queries.proofs.mode_following.add_cuboid.Goals as goal

pub returns-in_default-clause-refused : goal.returns-in_default-clause-refused
returns-in_default-clause-refused g c = λ is k w represents rooted same has.
    c.in_default.not-Some _
    (said_found w c.args.view c.cuboids.result.now c.index.result c.cuboid_of.result has.0
    (c.cuboids.ensures.value ∙ ap (λ r. r.cuboids) rooted) c.index.ensures c.cuboid_of.ensures has.1)

pub add_cells-requires-clause-serves : goal.add_cells-requires-clause-serves
add_cells-requires-clause-serves g c =
    let number : c.in-Some.cuboid.view ≡ index_of c.args.view =
    found_said c.cuboids.result.now c.index.result c.in-Some.cuboid (sym (sym c.in-Some.is ∙ c.cuboid_of.ensures))
    ∙ c.index.ensures in
    subst (λ (view : View). Serves view c.args.fold.now.asked.query)
    (sym (one_view c.in_ok-cells.cells.view c.args.view (c.in_ok-cells.ensures.view ∙ number)))
    c.requires.serves.serves

pub add_cells-requires-clause-grouped : goal.add_cells-requires-clause-grouped
add_cells-requires-clause-grouped g c =
    let number : c.in-Some.cuboid.view ≡ index_of c.args.view =
    found_said c.cuboids.result.now c.index.result c.in-Some.cuboid (sym (sym c.in-Some.is ∙ c.cuboid_of.ensures))
    ∙ c.index.ensures in
    ap (λ (view : View). view.ship_mode)
    (one_view c.in_ok-cells.cells.view c.args.view (c.in_ok-cells.ensures.view ∙ number))
    ∙ c.requires.serves.grouped

pub returns-in_err-cells-clause-refused : goal.returns-in_err-cells-clause-refused
returns-in_err-cells-clause-refused g c =
    let p = err_from_is_err_and c.from_residual.result c.from_residual.ensures.1 in
    rw (p.1, p.2) (λ is k w represents rooted same has.
    let found = sym c.in-Some.is ∙ c.cuboid_of.ensures in
    let said = said_is w c.args.view c.cuboids.result.now c.index.result c.in-Some.cuboid has.0
    (c.cuboids.ensures.value ∙ ap (λ r. r.cuboids) rooted) c.index.ensures found has.1 in
    let number : c.in-Some.cuboid.view ≡ index_of c.args.view =
    found_said c.cuboids.result.now c.index.result c.in-Some.cuboid (sym found) ∙ c.index.ensures in
    c.in_err-cells.ensures.refused (ap (λ (f : Fault). Err f) (err_fault c.in_err-cells.field-0.0 BadLayout is)) k w
    has.0 represents (ap (λ (n : ℕ). cuboid_at n w.cuboids) number ∙ has.1) said)

pub returns-clause-ok : goal.returns-clause-ok
returns-clause-ok g c =
    on_ok_weaker c.add_cells.result (λ takes k w represents rooted same has.
    let found = sym c.in-Some.is ∙ c.cuboid_of.ensures in
    let said = said_is w c.args.view c.cuboids.result.now c.index.result c.in-Some.cuboid has.0
    (c.cuboids.ensures.value ∙ ap (λ r. r.cuboids) rooted) c.index.ensures found has.1 in
    let number : c.in-Some.cuboid.view ≡ index_of c.args.view =
    found_said c.cuboids.result.now c.index.result c.in-Some.cuboid (sym found) ∙ c.index.ensures in
    let mark : c.in-Some.cuboid.mark ≡ c.args.mark = sym (ap (λ (s : StoredCuboid). s.mark) said) ∙ has.2 in
    let rows = all_rows (take c.in-Some.cuboid.mark w.batches) in
    let cells = by_members w c.args.dims.now c.args.modes.now c.dictionary.result.now.texts rows
    c.in_ok-cells.cells same c.dictionary.ensures.texts
    (c.in_ok-cells.ensures.grouping k w has.0 represents (ap (λ (n : ℕ). cuboid_at n w.cuboids) number ∙ has.1) said) in
    subst (λ (n : ℕ). RepresentsModeRows c.args.dims.now c.add_cells.new.self (all_rows (take n w.batches))) mark
    ((takes rows cells).represents [] c.requires.begun)) c.add_cells.ensures.ok

pub returns-clause-refused : goal.returns-clause-refused
returns-clause-refused g c = λ is k w represents rooted same has.
    let found = sym c.in-Some.is ∙ c.cuboid_of.ensures in
    let said = said_is w c.args.view c.cuboids.result.now c.index.result c.in-Some.cuboid has.0
    (c.cuboids.ensures.value ∙ ap (λ r. r.cuboids) rooted) c.index.ensures found has.1 in
    let number : c.in-Some.cuboid.view ≡ index_of c.args.view =
    found_said c.cuboids.result.now c.index.result c.in-Some.cuboid (sym found) ∙ c.index.ensures in
    let mark : c.in-Some.cuboid.mark ≡ c.args.mark = sym (ap (λ (s : StoredCuboid). s.mark) said) ∙ has.2 in
    let rows = all_rows (take c.in-Some.cuboid.mark w.batches) in
    let cells = by_members w c.args.dims.now c.args.modes.now c.dictionary.result.now.texts rows
    c.in_ok-cells.cells same c.dictionary.ensures.texts
    (c.in_ok-cells.ensures.grouping k w has.0 represents (ap (λ (n : ℕ). cuboid_at n w.cuboids) number ∙ has.1) said) in
    let within : c.in-Some.cuboid.mark ≤ length w.batches =
    omega (arith, mark, c.requires.few, ap (λ r. length r.batches) rooted, length-map w.batches length) in
    c.add_cells.ensures.refused is rows cells (
      [],
      (
        c.requires.begun,
        foldable_first (content_of g.D.Sectors c.args.store.now) w represents c.args.dims.now
            c.in-Some.cuboid.mark same.rows within,
      ),
    )

pub returns-clause-reads : goal.returns-clause-reads
returns-clause-reads g c =
    has_read g.D.Sectors c.args.store.now c.merged_runs.new.store c.add_cells.result
    (λ is. no_device Device (of_fault _ c.add_cells.result Device c.add_cells.ensures.only is) refl)
    (c.in_ok-cells.ensures.reads.stays (λ is. cc)) c.in_ok-cells.ensures.reads.leaves

pub returns-clause-causes : goal.returns-clause-causes
returns-clause-causes g c = IfErr-weaker c.add_cells.result _ _ of_counts c.add_cells.ensures.only

pub returns-in_default-clause-reads : goal.returns-in_default-clause-reads
returns-in_default-clause-reads g c =
    reads_nothing g.D.Sectors g.met.D.Sectors.only_now c.args.store.now c.requires.fine _ (λ is. search rules)
