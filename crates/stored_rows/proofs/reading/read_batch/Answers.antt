use Rattle.std.proofs.Common.{◌≡◌, List, inl, sym, subst}
use Rattle.std.proofs.lemmas.Result.{IfErr-weaker, IfOk-weaker}
use Rattle.cube_model.specs.declared.fault.Fault.TheVariants.{BadLayout, Device, Memory}
use Rattle.cube_model.specs.declared.rows.LineOrder.{LineOrder}
use Rattle.object_store.specs.Store.{content_of}
use Rattle.warehouse_root.specs.Objects.{segment_id}
use Rattle.warehouse_objects.proofs.Folded.{of_fault}
use Rattle.warehouse_objects.proofs.OneMoreRead.{has_read}
use Rattle.stored_rows.specs.Stored.{HoldsBatch}
use Rattle.stored_rows.proofs.reading.read_batch.Goals as goal

pub returns-clause-rows : goal.returns-clause-rows
returns-clause-rows g c =
    IfOk-weaker c.rows_in.result _ _ (λ rows is k.
    subst (λ (l : List LineOrder). HoldsBatch (content_of g.D.Sectors c.args.store.now) (segment_id c.args.number)
    c.args.number l) (sym is) (c.in_ok-segment.ensures.rows k)) c.rows_in.ensures.rows

pub returns-clause-refused : goal.returns-clause-refused
returns-clause-refused g c is =
    let none : BadLayout ≡ Memory = of_fault _ c.rows_in.result BadLayout c.rows_in.ensures.memory is in absurd cc

pub returns-clause-reads : goal.returns-clause-reads
returns-clause-reads g c =
    has_read g.D.Sectors c.args.store.now c.read_segment.new.store c.rows_in.result
    (λ is. let none : Device ≡ Memory = of_fault _ c.rows_in.result Device c.rows_in.ensures.memory is in absurd cc)
    (c.in_ok-segment.ensures.reads.stays (λ is. cc)) c.in_ok-segment.ensures.reads.leaves

pub returns-clause-causes : goal.returns-clause-causes
returns-clause-causes g c = IfErr-weaker c.rows_in.result _ _ (λ fault memory. inl memory) c.rows_in.ensures.memory
