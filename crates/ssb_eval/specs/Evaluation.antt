-- What the texts of the five tables and a query come to: the bytes of a report, or the first refusal. Our own.
use Rattle.std.specs.Prelude.{◌≡◌, ℕ, ◌+◌, ◌⊎◌, List, [], ◌∷◌, ◌++◌, length, Option, Some, Result, Ok, Err}
use Rattle.std.specs.Io.KnownBytes.{Appends, Keeps}
use Rattle.batch_loader.specs.Lines.{lines_of}
use Rattle.batch_loader.specs.Outcomes.{and_then, unless}
use Rattle.batch_loader.specs.Parts.{parts_of}
use Rattle.batch_loader.specs.Rows.{rows_of, number_after}
use Rattle.batch_loader.specs.Tables.{lineorder_row}
use Rattle.cube_model.specs.declared.answer.Answer.{Answer}
use Rattle.cube_model.specs.declared.fault.Fault.{Fault}
use Rattle.cube_model.specs.declared.fault.Fault.TheVariants.{Memory, Input, Output}
use Rattle.cube_model.specs.declared.query.Query.{Query}
use Rattle.cube_model.specs.declared.rows.DimRows.{DimRows}
use Rattle.cube_model.specs.declared.rows.LineOrder.{LineOrder}
use Rattle.cube_model.specs.Admission.{all_rows, moded_refusal}
use Rattle.cube_model.specs.Limits.{most_batch_rows}
use Rattle.cube_model.specs.Answers.{answer}
use Rattle.dimension_tables.specs.Texts.{GivesUnlessFailed, TableTexts, dimensions_of, table_rows}
use Rattle.mode_folds.specs.Answered.{answered_over}
use Rattle.mode_folds.specs.declared.answered.Answered.{Answered}
use Rattle.mode_queries.specs.Answers.{moded_answer}
use Rattle.mode_queries.specs.declared.query.ModeQuery.{ModeQuery}
use Rattle.report_formats.specs.declared.asked.Asked.{Asked}
use Rattle.report_formats.specs.Fields.{formatted}
use Rattle.ssb_eval.specs.declared.star.Evaluated.{Evaluated}
use Rattle.ssb_reports.specs.Report.{report_of}
use Rattle.ssb_reports.specs.Writing.{AppendsBeginning}

-- the fact rows of the lines of batches, after batches that were accepted: the lines of a batch are read, and then it
-- is admitted, ship modes being the members of an axis. The number is that of the next line
abbrev pub facts_after : DimRows → List (List LineOrder) → ℕ → List (List (List ℕ)) → Result (List LineOrder) Fault
facts_after dimensions batches number [] = Ok (all_rows batches)
facts_after dimensions batches number (lines ∷ others) =
    and_then (rows_of lineorder_row number lines) (λ rows.
    unless (moded_refusal dimensions batches (length batches + 1) rows)
    (facts_after dimensions (batches ++ rows ∷ []) (number_after (length rows) number) others))

-- the fact rows of a text, in batches of 65,536 lines
abbrev pub facts_of : DimRows → List ℕ → Result (List LineOrder) Fault
facts_of dimensions text = facts_after dimensions [] 1 (parts_of most_batch_rows (lines_of text))

-- where no batch of a text is refused, their rows put end to end are the rows of all its lines
abbrev pub FactsAreRows : Type 0
FactsAreRows = (dimensions : DimRows) (text : List ℕ) (rows : List LineOrder) → facts_of dimensions text ≡ Ok rows
    → table_rows lineorder_row text ≡ Ok rows

-- the answer over them
abbrev pub answer_of : Query → DimRows → List ℕ → Result Answer Fault
answer_of query dimensions text = and_then (facts_of dimensions text) (λ rows. Ok (answer query dimensions rows))

-- and that to a query that may look at ship modes
abbrev pub moded_answer_of : ModeQuery → DimRows → List ℕ → Result Answer Fault
moded_answer_of asked dimensions text =
    and_then (facts_of dimensions text) (λ rows. Ok (moded_answer asked dimensions rows))

-- an answer that was found
abbrev pub answer_in : DimRows → Result Answered Fault → Result Answer Fault
answer_in dimensions (Ok found) = Ok (answered_over dimensions found)
answer_in dimensions (Err fault) = Err fault

-- the bytes that a text of an answer has, which the dimensions and the text of the fact table give
abbrev pub eval_as : (Answer → List ℕ) → (DimRows → List ℕ → Result Answer Fault) → TableTexts → Result (List ℕ) Fault
eval_as text answered texts =
    and_then (dimensions_of texts) (λ dimensions.
    and_then (answered dimensions texts.lineorder) (λ found.
    Ok (text found)))

-- the bytes of the report
abbrev pub eval_of : Query → TableTexts → Result (List ℕ) Fault
eval_of query texts = eval_as (report_of query) (answer_of query) texts

-- the bytes of a report in a layout
abbrev pub formatted_of : Asked → TableTexts → Result (List ℕ) Fault
formatted_of asked texts = eval_as (formatted asked) (moded_answer_of asked.query) texts

-- the dimensions and an answer, which are those of texts, or the first refusal; or memory was refused, or a reader
-- failed
abbrev pub Evaluates : (DimRows → List ℕ → Result Answer Fault) → TableTexts → Result Evaluated Fault → Type 0
Evaluates answered texts (Ok found) = (dimensions_of texts ≡ Ok found.dims)
    × (answered found.dims texts.lineorder ≡ Ok (answered_over found.dims found.answered))
Evaluates answered texts (Err fault) =
    GivesUnlessFailed (dimensions_of texts) (Err fault)
    ⊎ ((dimensions : DimRows) × (dimensions_of texts ≡ Ok dimensions)
    × GivesUnlessFailed (answered dimensions texts.lineorder) (Err fault))

-- readers have the bytes of texts left
pub record ReadersHave (customer supplier part date lineorder : Option (List ℕ)) (texts : TableTexts) : Type 0 where
  pub customer_left : customer ≡ Some texts.customer
  pub supplier_left : supplier ≡ Some texts.supplier
  pub part_left : part ≡ Some texts.part
  pub date_left : date ≡ Some texts.date
  pub lineorder_left : lineorder ≡ Some texts.lineorder

-- The end of an evaluation: the report was written. Or the writer failed, after a beginning of the report. Or nothing
-- was written: when out of memory, since a reader failed, or since that is the first refusal
abbrev pub EndsEvaluation : {A : Type 0} → Option (List ℕ) → Option (List ℕ) → Result (List ℕ) Fault → Result A Fault
    → Type 0
EndsEvaluation old new outcome (Ok done) = (bytes : List ℕ) × (outcome ≡ Ok bytes) × Appends old new bytes
EndsEvaluation old new outcome (Err fault) =
    ((fault ≡ Output) × ((bytes : List ℕ) × (outcome ≡ Ok bytes) × AppendsBeginning old new bytes))
    ⊎ (Keeps old new × ((fault ≡ Memory) ⊎ ((fault ≡ Input) ⊎ (outcome ≡ Err fault))))
