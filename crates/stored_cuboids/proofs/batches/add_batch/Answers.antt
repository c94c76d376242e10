use Rattle.std.proofs.Common.{List, Err, sym, ◌∙◌, ap, subst, arith}
use Rattle.std.proofs.lemmas.Result.{IfErr-weaker, err_from_is_err_and}
use Rattle.cube_model.specs.declared.fault.Fault.{Fault}
use Rattle.cube_model.specs.declared.fault.Fault.TheVariants.{Device}
use Rattle.cube_model.specs.declared.rows.LineOrder.{LineOrder}
use Rattle.object_store.specs.Store.{content_of}
use Rattle.warehouse_objects.proofs.Folded.{of_fault, ok_so}
use Rattle.cuboid_upkeep.specs.Growing.{grown}
use Rattle.stored_cuboids.specs.Grouped.{IsAddFaultOf}
use Rattle.stored_cuboids.proofs.BatchesLemmas.{add_causes, decode_refused, never_device_here, read_refused, batch_here}
use Rattle.stored_cuboids.proofs.BatchesLemmas.{is_here, same_rows, segment_here}
use Rattle.warehouse_objects.proofs.OneMoreRead.{has_read}
use Rattle.stored_cuboids.proofs.batches.add_batch.Goals as goal

pub returns-in_err-bytes-clause-refused : goal.returns-in_err-bytes-clause-refused
returns-in_err-bytes-clause-refused g c =
    let p = err_from_is_err_and c.from_residual.result c.from_residual.ensures.1 in
    rw (p.1, p.2) (λ other k w laid batch here many.
    read_refused c.args.dims.now c.args.modes.now (grown c.args.cells.now) batch c.in_err-bytes.field-0.0
    c.in_err-bytes.ensures.causes other (λ is.
    is_here (content_of g.D.Sectors c.args.store.now) w laid c.args.before c.segment_id.result c.segment_id.ensures
    (omega (arith, c.requires.few)) batch here
    (c.read_object.ensures.missing (c.in_err-bytes.was ∙ ap (λ (f : Fault). Err f) is) k)))

pub returns-in_err-segment-clause-refused : goal.returns-in_err-segment-clause-refused
returns-in_err-segment-clause-refused g c =
    let p = err_from_is_err_and c.from_residual-in_err-segment.result c.from_residual-in_err-segment.ensures.1 in
    rw (p.1, p.2) (λ other k w laid batch here many.
    decode_refused c.args.dims.now c.args.modes.now (grown c.args.cells.now) batch c.in_err-segment.field-0.0
    c.in_err-segment.ensures.refused (λ none. none batch (sym many)
    (segment_here (content_of g.D.Sectors c.args.store.now) w laid c.args.before c.segment_id.result
    c.segment_id.ensures (omega (arith, c.requires.few)) batch here c.in_ok-bytes.bytes.items
    (c.in_ok-bytes.ensures.found k))))

pub returns-clause-ok : goal.returns-clause-ok
returns-clause-ok g c =
    let rows : List LineOrder = c.in_ok-segment.segment.rows in
    ok_so _ _ c.group_in.result (λ more. record {
      some = (rows, more);
      own = λ k w laid. (
        rows,
        batch_here (content_of g.D.Sectors c.args.store.now) w laid c.args.before c.segment_id.result
            c.segment_id.ensures (omega (arith, c.requires.few)) c.in_ok-bytes.bytes.items rows
            (c.in_ok-bytes.ensures.found k) c.in_ok-segment.ensures.ok,
        more,
      );
    }) c.group_in.ensures.ok

pub returns-clause-refused : goal.returns-clause-refused
returns-clause-refused g c =
    let rows : List LineOrder = c.in_ok-segment.segment.rows in
    IfErr-weaker c.group_in.result _ _
    (λ fault why other k w laid batch here many.
    subst (λ (l : List LineOrder). IsAddFaultOf c.args.dims.now c.args.modes.now (grown c.args.cells.now) l fault)
    (same_rows (content_of g.D.Sectors c.args.store.now) w laid c.args.before c.segment_id.result c.segment_id.ensures
    (omega (arith, c.requires.few)) batch here c.in_ok-bytes.bytes.items rows (c.in_ok-bytes.ensures.found k)
    c.in_ok-segment.ensures.ok)
    why)
    c.group_in.ensures.refused

pub returns-clause-reads : goal.returns-clause-reads
returns-clause-reads g c =
    has_read g.D.Sectors c.args.store.now c.read_object.new.store c.group_in.result
    (λ is. absurd
    (never_device_here c.args.dims.now c.args.modes.now (grown c.args.cells.now) c.in_ok-segment.segment.rows
    c.requires.some (of_fault _ c.group_in.result Device c.group_in.ensures.refused is)))
    (c.in_ok-bytes.ensures.reads.stays (λ is. cc)) c.in_ok-bytes.ensures.reads.leaves

pub returns-clause-causes : goal.returns-clause-causes
returns-clause-causes g c =
    IfErr-weaker c.group_in.result _ _
    (λ fault why. add_causes c.args.dims.now c.args.modes.now (grown c.args.cells.now) c.in_ok-segment.segment.rows
    fault c.requires.some why) c.group_in.ensures.refused
