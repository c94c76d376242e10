-- What the texts of the five tables and a partial report that is asked for come to. Our own.
use Rattle.std.specs.Prelude.{ℕ, List, Result, Ok}
use Rattle.batch_loader.specs.Outcomes.{and_then, unless}
use Rattle.cube_model.specs.declared.fault.Fault.{Fault}
use Rattle.dimension_tables.specs.Texts.{TableTexts, dimensions_of}
use Rattle.partial_reports.specs.declared.asked.PartAsked.{PartAsked}
use Rattle.partial_reports.specs.Members.{member_cause}
use Rattle.partial_reports.specs.Partial.{partial_text}
use Rattle.ssb_eval.specs.Evaluation.{answer_of}

-- the bytes of the partial report, or the first refusal: that a member cannot be read back comes last
abbrev pub partial_of : PartAsked → TableTexts → Result (List ℕ) Fault
partial_of asked texts =
    and_then (dimensions_of texts) (λ dimensions.
    and_then (answer_of asked.query dimensions texts.lineorder) (λ found.
    unless (member_cause found) (Ok (partial_text asked dimensions found))))
