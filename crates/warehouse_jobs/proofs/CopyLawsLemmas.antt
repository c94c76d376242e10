-- What a copy answers.
use Rattle.std.proofs.Common.{◌≡◌, ◌∙◌, ℕ, ◌≤◌, List, length, length-take, take, take-take, sym, ap, subst, arith}
use Rattle.cube_model.specs.declared.query.Query.{Query}
use Rattle.cube_model.specs.declared.rows.DimRows.{DimRows}
use Rattle.cube_model.specs.declared.rows.LineOrder.{LineOrder}
use Rattle.cube_model.specs.Admission.{all_rows}
use Rattle.cube_model.specs.Answers.{answer, answer_as_of}
use Rattle.warehouse_objects.specs.Warehouse.{Warehouse}
use Rattle.warehouse.specs.Session.{IsAsked}
use Rattle.warehouse_jobs.specs.Alike.{CopiesAnswerAlike, PartsAnswerAlike}
use Rattle.warehouse_jobs.specs.Copied.{IsCopy, IsPart}

pub copies_alike : CopiesAnswerAlike
copies_alike w copy as_of query is = (
  (
    λ asked. record {
      proper = asked.proper;
      there = subst (λ (batches : List (List LineOrder)). as_of ≤ length batches) is.batches asked.there;
    },
    λ asked. record {
      proper = asked.proper;
      there = subst (λ (batches : List (List LineOrder)). as_of ≤ length batches) (sym is.batches) asked.there;
    },
  ),
  ap (λ (rows : DimRows). answer_as_of query as_of rows copy.batches) is.rows
      ∙ ap (answer_as_of query as_of w.rows) is.batches,
)

pub parts_alike : PartsAnswerAlike
parts_alike w part as_of query is there =
    let within : as_of ≤ is.count = omega (arith, there, ap length is.batches, length-take is.count w.batches) in
    let first : take as_of part.batches ≡ take as_of w.batches = ap (take as_of) is.batches
    ∙ take-take as_of is.count w.batches within in
    ap (λ (rows : DimRows). answer_as_of query as_of rows part.batches) is.rows
    ∙ ap (λ (batches : List (List LineOrder)). answer query w.rows (all_rows batches)) first
