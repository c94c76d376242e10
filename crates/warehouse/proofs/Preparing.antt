-- A further batch, made ready.
use Rattle.std.proofs.Common.{◌≡◌, ℕ, ◌+◌, List, map, length, sym, ap, ◌∙◌, arith}
use Rattle.std.proofs.lemmas.List.Concat.{length-flat_map}
use Rattle.std.proofs.lemmas.List.Sums.{sum-map}
use Rattle.std.specs.List.{sum_by}
use Rattle.cube_model.specs.declared.rows.DimRows.{DimRows}
use Rattle.cube_model.specs.declared.rows.LineOrder.{LineOrder}
use Rattle.cube_model.specs.Admission.{all_rows, IsAdmissible}
use Rattle.batch_admission.proofs.CallerLemmas.{passes}
use Rattle.batch_admission.specs.Accepted.{CanFollow}
use Rattle.warehouse.specs.Prepared.{MayFollow}
use Rattle.warehouse_objects.specs.Facts.{AdmitsBatch}
use Rattle.warehouse_objects.specs.Warehouse.{Warehouse}
use Rattle.warehouse_objects.proofs.CallerLemmas.{admissible_in, batch_of, is_batch, next_number}

-- an admissible batch may be put
pub follows : (rows : DimRows) (batches : List (List LineOrder)) (number : ℕ) (batch : List LineOrder)
    → IsAdmissible rows batches number batch → MayFollow (length batches) number batch
follows rows batches number batch admissible =
    let next : number ≡ length batches + 1 = next_number rows batches number batch admissible in record {
      next = next;
      few = omega (arith, next, (passes rows batches number batch admissible).batches_left);
      batch = is_batch rows batches number batch admissible;
    }

-- a batch that a warehouse admits may be put there
pub follows_admitted : (w : Warehouse) (number : ℕ) (batch : List LineOrder) → AdmitsBatch w number batch
    → MayFollow (length w.batches) number batch
follows_admitted w number batch admits =
    follows w.rows w.batches number batch (admissible_in w.layout w.rows w.batches number batch admits)

-- a batch that was accepted after so many may be put there
pub can_follow : (count batches number : ℕ) (batch : List LineOrder) → CanFollow count number batch → count ≡ batches
    → MayFollow batches number batch
can_follow count batches number batch can is = record {
  next = can.next ∙ ap (λ n. n + 1) is;
  few = can.last;
  batch = batch_of batch can.few can.texts;
}

-- the rows of batches together
pub rows_together : (batches : List (List LineOrder))
    → sum_by (λ rows. rows) (map (λ (batch : List LineOrder). length batch) batches) ≡ length (all_rows batches)
rows_together batches = sum-map (λ (batch : List LineOrder). length batch) batches
    ∙ sym (length-flat_map (λ (batch : List LineOrder). batch) batches)
