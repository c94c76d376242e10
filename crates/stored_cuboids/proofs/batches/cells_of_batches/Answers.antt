use Rattle.std.proofs.Common.{rules, ◌≡◌, ◌⊎◌, inl, ◌<◌, ◌≤◌, ◌+◌, ℕ, List, [], ◌++◌, length, get_or, sym, ◌∙◌, ap}
use Rattle.std.proofs.Common.{subst, add-one, arith}
use Rattle.std.proofs.lemmas.List.{length-map}
use Rattle.std.proofs.lemmas.Result.{IfErr-weaker, IfOk-weaker, err_from_is_err_and}
use Rattle.cube_model.specs.Admission.{all_rows}
use Rattle.cube_model.specs.declared.fault.Fault.{Fault}
use Rattle.cube_model.specs.declared.fault.Fault.TheVariants.{BadLayout, Device, Memory, TooManyCells}
use Rattle.cube_model.specs.declared.rows.DimRows.{DimRows}
use Rattle.cube_model.specs.declared.rows.LineOrder.{LineOrder}
use Rattle.object_store.specs.Content.{Content}
use Rattle.object_store.specs.Store.{IsStill}
use Rattle.lattice.specs.declared.view.View.{View}
use Rattle.lattice.specs.Views.{index_of}
use Rattle.cuboid_cells.specs.Cells.{PlainCells}
use Rattle.cuboid_upkeep.specs.Grouping.{RepresentRows}
use Rattle.cuboid_upkeep.specs.Steps.{AreUnfit, HaveTooMany, IsAddFault}
use Rattle.warehouse_objects.specs.Represents.{IsLaidOut}
use Rattle.warehouse_objects.specs.Warehouse.{ship_modes_of}
use Rattle.warehouse_objects.proofs.Batches.{get_within}
use Rattle.warehouse_objects.proofs.Folded.{err_fault, of_fault}
use Rattle.object_store.proofs.SourceLemmas.{still_then}
use Rattle.warehouse_objects.proofs.OneMoreRead.{has_read, reads_more, same_error, then_reads}
use Rattle.cuboid_upkeep.specs.Growing.{grown}
use Rattle.stored_cuboids.proofs.BatchesLemmas.{too_many_of, unfit, its_members, many_then, never_bad, none_represent}
use Rattle.stored_cuboids.proofs.BatchesLemmas.{own_modes, count_here, between, none_between, one_more}
use Rattle.cuboid_upkeep.proofs.LawsLemmas.{more_rows_have_no_fewer_cells, rows_have_cells, rows_in_range_fit}
use Rattle.object_store.proofs.CallerLemmas.{leaves_now}
use Rattle.stored_cuboids.proofs.batches.cells_of_batches.Goals as goal

pub loop-before-init : goal.loop-before-init
loop-before-init g c =
    let represent : RepresentRows c.args.dims.now c.args.modes.now [] (grown c.in_ok-cells.cells) =
    none_represent c.args.dims.now c.args.modes.now c.args.view (grown c.in_ok-cells.cells)
    c.in_ok-cells.ensures.none in record {
      fine = c.requires.fine;
      still = search rules;
      leaves = leaves_now g.D.Sectors g.met.D.Sectors.only_now c.args.store.now c.requires.fine;
      view = ap (λ (cells : PlainCells). cells.view) c.in_ok-cells.ensures.none;
      some = ([], represent);
      own = λ k w laid. subst
          (λ (batches : List (List LineOrder)). RepresentRows c.args.dims.now c.args.modes.now (all_rows batches)
          (grown c.in_ok-cells.cells)) (sym (none_between c.args.span.from w.batches)) represent;
      over = c.in_ok-cells.ensures.over;
    }

pub add_batch-requires-clause-some : goal.add_batch-requires-clause-some
add_batch-requires-clause-some g c = c.loop-before.invariant.some

pub add_batch-requires-clause-over : goal.add_batch-requires-clause-over
add_batch-requires-clause-over g c = c.loop-before.invariant.over

pub finish-requires : goal.finish-requires
finish-requires g c = (c.args.dims.now, c.loop-before.invariant.over)

pub loop-before-preserved : goal.loop-before-preserved
loop-before-preserved g c =
    let first = c.args.store.now in
    let was = c.loop-before.store in
    let now = c.add_batch.new.store in
    let so_far = c.loop-before.invariant in
    let still : IsStill g.D.Sectors c.loop-before.store c.add_batch.new.store =
    c.in_ok-add_batch.ensures.reads.stays (λ is. cc) in
    let next = c.in_ok-add_batch.ensures.ok in
    let from : ℕ = c.args.span.from in
    let before : ℕ = c.loop-before.before in record {
      fine = still.failed ∙ so_far.fine;
      still = still_then g.D.Sectors first was now so_far.still still;
      leaves = reads_more g.D.Sectors first was now so_far.still so_far.leaves c.in_ok-add_batch.ensures.reads.leaves;
      view = c.in_ok-add_batch.ensures.view ∙ so_far.view;
      some = (so_far.some.0 ++ next.some.0, next.some.1.represent so_far.some.0 so_far.some.1);
      own = λ k w laid.
          let here = next.own k w
          (subst (λ (x : Content). IsLaidOut x w) (sym (so_far.still.content (still.word k))) laid) in
          let low : from ≤ before = omega arith in
          let more : between w.batches from (before + 1) ≡ between w.batches from before ++ here.0 =
          ap (λ (n : ℕ). between w.batches from n) (add-one before)
          ∙ one_more w.batches from before here.0 low here.1 in
          subst (λ (rows : List LineOrder). RepresentRows c.args.dims.now c.args.modes.now rows
          (grown c.add_batch.new.cells)) (sym more)
          (here.2.represent (between w.batches from before) (so_far.own (still.word k) w laid));
      over = c.in_ok-add_batch.ensures.over;
    }

pub returns-in_err-add_batch-clause-large : goal.returns-in_err-add_batch-clause-large
returns-in_err-add_batch-clause-large g c =
    let p = err_from_is_err_and c.from_residual-in_err-add_batch.result c.from_residual-in_err-add_batch.ensures.1 in
    rw (p.1, p.2) (λ is k w laid rooted same below.
    let so_far = c.loop-before.invariant in
    let before : ℕ = c.loop-before.before in
    let from : ℕ = c.args.span.from in
    let to : ℕ = c.args.span.to in
    let view : View = c.args.view in
    let fault : Fault = c.in_err-add_batch.field-0.0 in
    let large : fault ≡ TooManyCells (index_of view) =
    err_fault c.in_err-add_batch.field-0.0 (TooManyCells (index_of view)) is in
    let word = c.in_err-add_batch.ensures.reads.leaves.word k in
    let there = subst (λ (x : Content). IsLaidOut x w) (sym (so_far.still.content word)) laid in
    let lengths : length c.args.root.now.batches ≡ length w.batches = ap (λ r. length r.batches) rooted
    ∙ length-map w.batches length in
    let within : to ≤ length w.batches = omega (arith, c.requires.few, lengths) in
    let high : before < to = omega (arith, c.loop-before-test.true) in
    let low : from ≤ before = omega arith in
    let got = get_within w.batches before (omega (arith, high, within)) in
    let many = ap (λ (l : List ℕ). get_or l before 0) (c.batches-batches.ensures.value ∙ ap (λ r. r.batches) rooted)
    ∙ count_here w.batches before got.0 got.1 in
    let why = c.in_err-add_batch.ensures.refused
    (λ device. let no_fault : Device ≡ TooManyCells (index_of view) = sym device ∙ large in cc) k w there got.0
    got.1 many (between w.batches from before) (so_far.own word w laid) in
    let why_here : IsAddFault c.args.dims.now c.args.modes.now view (between w.batches from before ++ got.0) fault =
    subst (λ (v : View). IsAddFault c.args.dims.now c.args.modes.now v (between w.batches from before ++ got.0) fault)
    so_far.view why in
    many_then w.rows (ship_modes_of w) w.batches laid.batches view
    (own_modes w.layout (all_rows w.batches) view laid.modes below) from to within rows_have_cells
    more_rows_have_no_fewer_cells before got.0 high low got.1
    (its_members w c.args.dims.now c.args.modes.now same (λ (rows : DimRows) (modes : List (List ℕ)).
    HaveTooMany rows modes view (between w.batches from before ++ got.0))
    (too_many_of c.args.dims.now c.args.modes.now view (between w.batches from before ++ got.0) fault why_here large)))

pub returns-in_err-add_batch-clause-refused : goal.returns-in_err-add_batch-clause-refused
returns-in_err-add_batch-clause-refused g c =
    let p = err_from_is_err_and c.from_residual-in_err-add_batch.result c.from_residual-in_err-add_batch.ensures.1 in
    rw (p.1, p.2) (λ is k w laid rooted same below.
    let so_far = c.loop-before.invariant in
    let before : ℕ = c.loop-before.before in
    let from : ℕ = c.args.span.from in
    let view : View = c.args.view in
    let fault : Fault = c.in_err-add_batch.field-0.0 in
    let bad : fault ≡ BadLayout = err_fault c.in_err-add_batch.field-0.0 BadLayout is in
    let word = c.in_err-add_batch.ensures.reads.leaves.word k in
    let there = subst (λ (x : Content). IsLaidOut x w) (sym (so_far.still.content word)) laid in
    let lengths : length c.args.root.now.batches ≡ length w.batches = ap (λ r. length r.batches) rooted
    ∙ length-map w.batches length in
    let lt : before < length w.batches = omega (arith, c.loop-before-test.true, c.requires.few, lengths) in
    let low : from ≤ before = omega arith in
    let got = get_within w.batches before lt in
    let many = ap (λ (l : List ℕ). get_or l before 0) (c.batches-batches.ensures.value ∙ ap (λ r. r.batches) rooted)
    ∙ count_here w.batches before got.0 got.1 in
    let why = c.in_err-add_batch.ensures.refused (λ device. let no_fault : Device ≡ BadLayout = sym device ∙ bad in cc)
    k w there got.0 got.1 many (between w.batches from before) (so_far.own word w laid) in
    let none : AreUnfit c.args.dims.now c.args.modes.now view (between w.batches from before ++ got.0) =
    subst (λ (v : View). AreUnfit c.args.dims.now c.args.modes.now v (between w.batches from before ++ got.0))
    so_far.view
    (unfit c.args.dims.now c.args.modes.now (grown c.loop-before.cells).view (between w.batches from before ++ got.0)
    fault why bad) in
    never_bad w.rows (ship_modes_of w) w.batches laid.batches view
    (own_modes w.layout (all_rows w.batches) view laid.modes below) from (before + 1) (omega (arith, lt))
    rows_in_range_fit before got.0 (sym (add-one before)) low got.1
    (its_members w c.args.dims.now c.args.modes.now same (λ (rows : DimRows) (modes : List (List ℕ)).
    AreUnfit rows modes view (between w.batches from before ++ got.0)) none))

pub returns-in_err-add_batch-clause-reads : goal.returns-in_err-add_batch-clause-reads
returns-in_err-add_batch-clause-reads g c =
    let p = err_from_is_err_and c.from_residual-in_err-add_batch.result c.from_residual-in_err-add_batch.ensures.1 in
    rw (p.1, p.2) (same_error g.D.Sectors c.args.store.now c.add_batch.new.store _
    (then_reads g.D.Sectors c.args.store.now c.loop-before.store c.add_batch.new.store c.loop-before.invariant.still _
    c.requires.fine c.loop-before.invariant.leaves c.in_err-add_batch.ensures.reads))

pub returns-in_err-add_batch-clause-causes : goal.returns-in_err-add_batch-clause-causes
returns-in_err-add_batch-clause-causes g c =
    let p = err_from_is_err_and c.from_residual-in_err-add_batch.result c.from_residual-in_err-add_batch.ensures.1 in
    rw (p.1, p.2)
    (subst (λ (v : View). (c.in_err-add_batch.field-0.0 ≡ Memory)
    ⊎ ((c.in_err-add_batch.field-0.0 ≡ Device)
    ⊎ ((c.in_err-add_batch.field-0.0 ≡ BadLayout) ⊎ (c.in_err-add_batch.field-0.0 ≡ TooManyCells (index_of v)))))
    c.loop-before.invariant.view c.in_err-add_batch.ensures.causes)

pub returns-in_err-cells-clause-large : goal.returns-in_err-cells-clause-large
returns-in_err-cells-clause-large g c =
    let p = err_from_is_err_and c.from_residual.result c.from_residual.ensures.1 in
    rw (p.1, p.2) (λ is k w laid rooted same below.
    let none : Memory ≡ TooManyCells (index_of c.args.view) = sym c.in_err-cells.ensures.memory
    ∙ err_fault c.in_err-cells.field-0.0 (TooManyCells (index_of c.args.view)) is in absurd cc)

pub returns-in_err-cells-clause-refused : goal.returns-in_err-cells-clause-refused
returns-in_err-cells-clause-refused g c =
    let p = err_from_is_err_and c.from_residual.result c.from_residual.ensures.1 in
    rw (p.1, p.2) (λ is k w laid rooted same below.
    let none : Memory ≡ BadLayout = sym c.in_err-cells.ensures.memory
    ∙ err_fault c.in_err-cells.field-0.0 BadLayout is in absurd cc)

pub returns-in_err-cells-clause-reads : goal.returns-in_err-cells-clause-reads
returns-in_err-cells-clause-reads g c = record {
  leaves = leaves_now g.D.Sectors g.met.D.Sectors.only_now c.args.store.now c.requires.fine;
  stays = search rules;
  device = let p = err_from_is_err_and c.from_residual.result c.from_residual.ensures.1 in
      rw (p.1, p.2) (λ is. let none : Memory ≡ Device = sym c.in_err-cells.ensures.memory
      ∙ err_fault c.in_err-cells.field-0.0 Device is in absurd cc);
}

pub returns-in_err-cells-clause-causes : goal.returns-in_err-cells-clause-causes
returns-in_err-cells-clause-causes g c =
    let p = err_from_is_err_and c.from_residual.result c.from_residual.ensures.1 in
    rw (p.1, p.2) (inl c.in_err-cells.ensures.memory)

pub returns-clause-large : goal.returns-clause-large
returns-clause-large g c is =
    let none : TooManyCells (index_of c.args.view) ≡ Memory =
    of_fault _ c.finish.result (TooManyCells (index_of c.args.view)) c.finish.ensures.memory is in absurd cc

pub returns-clause-refused : goal.returns-clause-refused
returns-clause-refused g c is =
    let none : BadLayout ≡ Memory = of_fault _ c.finish.result BadLayout c.finish.ensures.memory is in absurd cc

pub returns-clause-reads : goal.returns-clause-reads
returns-clause-reads g c =
    has_read g.D.Sectors c.args.store.now c.loop-before.store c.finish.result
    (λ is. let none : Device ≡ Memory = of_fault _ c.finish.result Device c.finish.ensures.memory is in absurd cc)
    c.loop-before.invariant.still c.loop-before.invariant.leaves

pub returns-clause-causes : goal.returns-clause-causes
returns-clause-causes g c = IfErr-weaker c.finish.result _ _ (λ fault memory. inl memory) c.finish.ensures.memory

pub returns-clause-ok : goal.returns-clause-ok
returns-clause-ok g c =
    let ends : c.loop-before.before ≡ c.args.span.to =
    omega (arith, c.loop-before-test.false, c.loop-before.auto.before-end, c.requires.order) in
    IfOk-weaker c.finish.result _ _ (λ cells is k w laid same.
    subst (λ (plain : PlainCells). RepresentRows w.rows (ship_modes_of w)
    (between w.batches c.args.span.from c.args.span.to) plain) (sym is)
    (its_members w c.args.dims.now c.args.modes.now same (λ (rows : DimRows) (modes : List (List ℕ)).
    RepresentRows rows modes (between w.batches c.args.span.from c.args.span.to) (grown c.loop-before.cells))
    (subst (λ (n : ℕ). RepresentRows c.args.dims.now c.args.modes.now (between w.batches c.args.span.from n)
    (grown c.loop-before.cells)) ends (c.loop-before.invariant.own k w laid))))
    c.finish.ensures.ok

pub returns-clause-view : goal.returns-clause-view
returns-clause-view g c =
    IfOk-weaker c.finish.result _ _ (λ cells is. ap (λ (plain : PlainCells). plain.view) is
    ∙ c.loop-before.invariant.view) c.finish.ensures.ok
