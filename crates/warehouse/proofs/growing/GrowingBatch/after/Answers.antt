use Rattle.std.proofs.Common.{[], ap, ◌∙◌}
use Rattle.batch_admission.specs.Found.{found_in}
use Rattle.warehouse.proofs.growing.GrowingBatch.after.Goals as goal

pub returns-clause-ok : goal.returns-clause-ok
returns-clause-ok c = λ dimensions. record {
  found = c.findings-found.ensures.found dimensions
      ∙ ap (λ totals. found_in dimensions totals []) c.admission_of.ensures.totals;
  columns = λ clean. c.in_ok-columns.ensures.ok;
}
