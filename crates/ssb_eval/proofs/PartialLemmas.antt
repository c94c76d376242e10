-- How the evaluation of a partial report ends.
use Rattle.std.proofs.Common.{◌≡◌, ◌⊎◌, inl, inr, ℕ, List, Some, None, Result, Ok, Err, refl, ap}
use Rattle.batch_loader.specs.Outcomes.{and_then, unless}
use Rattle.cube_model.specs.declared.answer.Answer.{Answer}
use Rattle.cube_model.specs.declared.fault.Fault.{Fault}
use Rattle.cube_model.specs.declared.fault.Fault.TheVariants.{Memory}
use Rattle.cube_model.specs.declared.rows.DimRows.{DimRows}
use Rattle.dimension_tables.specs.Texts.{GivesUnlessFailed, TableTexts, dimensions_of}
use Rattle.dimension_tables.proofs.CallerLemmas.{gives-on, gives-stop}
use Rattle.partial_reports.specs.declared.asked.PartAsked.{PartAsked}
use Rattle.partial_reports.specs.Members.{member_cause}
use Rattle.partial_reports.specs.Partial.{partial_text}
use Rattle.ssb_eval.specs.Evaluation.{Evaluates, answer_of}
use Rattle.ssb_eval.specs.Partial.{partial_of}

abbrev text_if_plain : PartAsked → DimRows → Answer → Result (List ℕ) Fault
text_if_plain asked dimensions found = unless (member_cause found) (Ok (partial_text asked dimensions found))

abbrev text_over : PartAsked → TableTexts → DimRows → Result (List ℕ) Fault
text_over asked texts dimensions =
    and_then (answer_of asked.query dimensions texts.lineorder) (text_if_plain asked dimensions)

-- the dimensions were refused
partial-no_dims : (asked : PartAsked) (texts : TableTexts) (fault : Fault)
    → GivesUnlessFailed (dimensions_of texts) (Err fault) → GivesUnlessFailed (partial_of asked texts) (Err fault)
partial-no_dims asked texts fault gives =
    gives-stop (dimensions_of texts) (text_over asked texts) fault (Err fault) (fault, refl, refl) gives

-- the facts were refused
partial-no_answer : (asked : PartAsked) (texts : TableTexts) (dimensions : DimRows) (fault : Fault)
    → dimensions_of texts ≡ Ok dimensions
    → GivesUnlessFailed (answer_of asked.query dimensions texts.lineorder) (Err fault)
    → GivesUnlessFailed (partial_of asked texts) (Err fault)
partial-no_answer asked texts dimensions fault is gives =
    gives-on (dimensions_of texts) (text_over asked texts) dimensions (Err fault) is
    (gives-stop (answer_of asked.query dimensions texts.lineorder) (text_if_plain asked dimensions) fault (Err fault)
    (fault, refl, refl) gives)

not_plain : (asked : PartAsked) (dimensions : DimRows) (found : Answer) (fault : Fault)
    → (fault ≡ Memory) ⊎ (member_cause found ≡ Some fault)
    → GivesUnlessFailed (text_if_plain asked dimensions found) (Err fault)
not_plain asked dimensions found fault (inl memory) = inl memory
not_plain asked dimensions found fault (inr cause) =
    inr (inr (ap (λ one. unless one (Ok (partial_text asked dimensions found))) cause))

-- the dimensions or the facts were refused
pub partial-refused : (asked : PartAsked) (texts : TableTexts) (fault : Fault)
    → Evaluates (answer_of asked.query) texts (Err fault) → GivesUnlessFailed (partial_of asked texts) (Err fault)
partial-refused asked texts fault (inl dims) = partial-no_dims asked texts fault dims
partial-refused asked texts fault (inr (dimensions, is, facts)) =
    partial-no_answer asked texts dimensions fault is facts

-- a member cannot be read back
pub partial-not_plain : (asked : PartAsked) (texts : TableTexts) (dimensions : DimRows) (found : Answer) (fault : Fault)
    → dimensions_of texts ≡ Ok dimensions → answer_of asked.query dimensions texts.lineorder ≡ Ok found
    → (fault ≡ Memory) ⊎ (member_cause found ≡ Some fault) → GivesUnlessFailed (partial_of asked texts) (Err fault)
partial-not_plain asked texts dimensions found fault is answered why =
    gives-on (dimensions_of texts) (text_over asked texts) dimensions (Err fault) is
    (gives-on (answer_of asked.query dimensions texts.lineorder) (text_if_plain asked dimensions) found (Err fault)
    answered
    (not_plain asked dimensions found fault why))

-- the text is that of the answer
pub partial-is : (asked : PartAsked) (texts : TableTexts) (dimensions : DimRows) (found : Answer) (bytes : List ℕ)
    → dimensions_of texts ≡ Ok dimensions → answer_of asked.query dimensions texts.lineorder ≡ Ok found
    → member_cause found ≡ None → bytes ≡ partial_text asked dimensions found → partial_of asked texts ≡ Ok bytes
partial-is asked texts dimensions found bytes is answered plain spelled =
    gives-on (dimensions_of texts) (text_over asked texts) dimensions (Ok bytes) is
    (gives-on (answer_of asked.query dimensions texts.lineorder) (text_if_plain asked dimensions) found (Ok bytes)
    answered
    (rw (plain, spelled) refl))
