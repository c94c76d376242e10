use Rattle.std.proofs.Common.{◌≡◌, ⊎_elim, inl, inr, sym, ◌∙◌, ap, Err, refl}
use Rattle.std.proofs.lemmas.Result.{IfErr-weaker, IfOk-weaker, err_from_is_err_and}
use Rattle.cube_model.specs.declared.fault.Fault.{Fault}
use Rattle.cube_model.specs.declared.fault.Fault.TheVariants.{BadLayout, Device, Memory}
use Rattle.object_store.specs.Content.{bytes_of}
use Rattle.object_store.specs.Store.{content_of}
use Rattle.warehouse_objects.proofs.Folded.{err_fault, of_fault}
use Rattle.warehouse_objects.proofs.OneMoreRead.{has_read}
use Rattle.stored_rows.proofs.Rows.{missing, refused}
use Rattle.stored_rows.proofs.reading.read_segment.Goals as goal

pub returns-in_err-bytes-clause-refused : goal.returns-in_err-bytes-clause-refused
returns-in_err-bytes-clause-refused g c =
    let p = err_from_is_err_and c.from_residual.result c.from_residual.ensures.1 in
    rw (p.1, p.2) (λ is k.
    missing _ c.args.number c.args.count
    (ap (bytes_of (content_of g.D.Sectors c.args.store.now)) (sym c.segment_id.ensures)
    ∙ c.in_err-bytes.ensures.missing (ap (λ (f : Fault). Err f) (err_fault c.in_err-bytes.field-0.0 BadLayout is))
    k))

pub returns-clause-rows : goal.returns-clause-rows
returns-clause-rows g c =
    IfOk-weaker c.decoded_batch.result _ _ (λ segment is k. record {
      bytes = c.in_ok-bytes.bytes.items;
      there = ap (bytes_of (content_of g.D.Sectors c.args.store.now)) (sym c.segment_id.ensures)
          ∙ c.in_ok-bytes.ensures.found k;
      segment = is;
    }) c.decoded_batch.ensures.ok

pub returns-clause-refused : goal.returns-clause-refused
returns-clause-refused g c is k =
    refused _ c.in_ok-bytes.bytes.items c.args.number c.args.count BadLayout
    (ap (bytes_of (content_of g.D.Sectors c.args.store.now)) (sym c.segment_id.ensures) ∙ c.in_ok-bytes.ensures.found k)
    refl (of_fault _ c.decoded_batch.result BadLayout c.decoded_batch.ensures.refused is)

pub returns-clause-reads : goal.returns-clause-reads
returns-clause-reads g c =
    has_read g.D.Sectors c.args.store.now c.read_object.new.store c.decoded_batch.result
    (λ is. ⊎_elim {C = ⊥} (λ (none : Device ≡ Memory). absurd cc) (λ bad. let none : Device ≡ BadLayout = bad.0 in cc)
    (of_fault _ c.decoded_batch.result Device c.decoded_batch.ensures.refused is))
    (c.in_ok-bytes.ensures.reads.stays (λ is. cc)) c.in_ok-bytes.ensures.reads.leaves

pub returns-clause-causes : goal.returns-clause-causes
returns-clause-causes g c =
    IfErr-weaker c.decoded_batch.result _ _ (λ fault why. ⊎_elim (λ memory. inl memory) (λ bad. inr (inr bad.0)) why)
    c.decoded_batch.ensures.refused
