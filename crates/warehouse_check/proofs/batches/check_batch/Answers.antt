use Rattle.std.proofs.Common.{◌≡◌, ◌∙◌, ◌+◌, ◌<◌, ℕ, List, length, take, refl, sym, ap, subst, arith}
use Rattle.std.proofs.lemmas.List.{length-take-le}
use Rattle.std.proofs.lemmas.Option.{slice_get_within}
use Rattle.std.proofs.lemmas.Result.{IfOk-weaker}
use Rattle.cube_model.specs.declared.rows.DimRows.{DimRows}
use Rattle.cube_model.specs.declared.rows.LineOrder.{LineOrder}
use Rattle.object_store.specs.Store.{content_of}
use Rattle.warehouse_root.specs.Objects.{segment_id}
use Rattle.warehouse_objects.specs.Warehouse.{IsNext}
use Rattle.warehouse_objects.proofs.Folded.{some_of}
use Rattle.warehouse_check.specs.Checked.{IsSegmentAt}
use Rattle.warehouse_check.proofs.Segments.{laid_segment, own_next, own_rows}
use Rattle.warehouse_check.proofs.batches.check_batch.Goals as goal

pub returns-in-Some-clause-sound : goal.returns-in-Some-clause-sound
returns-in-Some-clause-sound g c =
    let content = content_of g.D.Sectors c.args.store.now in
    let rows : List LineOrder = c.in-Some.segment.rows in
    IfOk-weaker c.take_in.result _ _ (λ found sound none batches represent.
    let taken = sound none batches represent in
    let next : c.next_number-batch.result ≡ length batches + 1 = c.next_number-batch.ensures.next
    ∙ ap (λ (n : ℕ). n + 1) represent.count in
    let id : c.segment_id.result ≡ segment_id (length batches + 1) = c.segment_id.ensures
    ∙ ap (λ (n : ℕ). segment_id n) next in record {
      rows = rows;
      taken = record { numbered = refl; count = taken.count; next = taken.next; represents = taken.represents };
      there = λ k.
          subst (λ (n : ℕ). IsSegmentAt content (segment_id (length batches + 1)) n rows) taken.numbered
          (subst (λ (n : ℕ). IsSegmentAt content n c.in-Some.segment.number rows) id
          (some_of _ _ c.in-Some.segment c.in-Some.is c.in_ok-segment.ensures.some k));
    }) c.take_in.ensures.sound

pub returns-in-Some-clause-found : goal.returns-in-Some-clause-found
returns-in-Some-clause-found g c =
    let content = content_of g.D.Sectors c.args.store.now in
    let number : ℕ = c.in-Some.segment.number in
    let rows : List LineOrder = c.in-Some.segment.rows in
    IfOk-weaker c.take_in.result _ _ (λ found refused is k w before batch laid same here many represent.
    let within : before < length w.batches = slice_get_within w.batches before batch here in
    let length_is : length (take before w.batches) ≡ before = length-take-le before w.batches (omega (arith, within)) in
    let next : c.next_number-batch.result ≡ before + 1 = c.next_number-batch.ensures.next
    ∙ ap (λ (n : ℕ). n + 1) (represent.count ∙ length_is) in
    let id : c.segment_id.result ≡ segment_id (before + 1) = c.segment_id.ensures ∙ ap (λ (n : ℕ). segment_id n) next in
    let there : IsSegmentAt content (segment_id (before + 1)) number rows =
    subst (λ (n : ℕ). IsSegmentAt content n number rows) id
    (some_of _ _ c.in-Some.segment c.in-Some.is c.in_ok-segment.ensures.some k) in
    let own = own_rows content w laid before batch here number rows there in
    refused is (take before w.batches) represent (own.0 ∙ ap (λ (n : ℕ). n + 1) (sym length_is))
    (ap (λ (l : List LineOrder). length l) own.1 ∙ sym many)
    (subst (λ (d : DimRows). IsNext d (take before w.batches) rows) (sym same)
    (own_next content w laid before batch here rows own.1)))
    c.take_in.ensures.found

pub returns-in-None-clause-found : goal.returns-in-None-clause-found
returns-in-None-clause-found g c = λ is k w before batch laid same here many represent.
    let content = content_of g.D.Sectors c.args.store.now in
    let within : before < length w.batches = slice_get_within w.batches before batch here in
    let length_is : length (take before w.batches) ≡ before = length-take-le before w.batches (omega (arith, within)) in
    let next : c.next_number-batch.result ≡ before + 1 = c.next_number-batch.ensures.next
    ∙ ap (λ (n : ℕ). n + 1) (represent.count ∙ length_is) in
    let id : c.segment_id.result ≡ segment_id (before + 1) = c.segment_id.ensures ∙ ap (λ (n : ℕ). segment_id n) next in
    c.in_ok-segment.ensures.none c.in-None.is k (before + 1) batch
    (subst (λ (n : ℕ). IsSegmentAt content n (before + 1) batch) (sym id)
    (laid_segment content w laid before batch here))
