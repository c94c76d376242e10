-- How an evaluation ends.
use Rattle.std.proofs.Common.{◌≡◌, ⊎_elim, ℕ, inl, inr, List, Option, Some, None, Result, Ok, Err, refl}
use Rattle.std.proofs.Common.{sym, ap, subst, ◌∙◌}
use Rattle.std.specs.Io.KnownBytes.{Keeps}
use Rattle.batch_loader.specs.Outcomes.{and_then}
use Rattle.cube_model.specs.declared.fault.Fault.{Fault}
use Rattle.cube_model.specs.declared.fault.Fault.TheVariants.{Memory}
use Rattle.cube_model.specs.declared.query.Query.{Query}
use Rattle.cube_model.specs.declared.answer.Answer.{Answer}
use Rattle.cube_model.specs.declared.rows.DimRows.{DimRows}
use Rattle.cube_model.specs.declared.rows.LineOrder.{LineOrder}
use Rattle.cube_model.specs.Answers.{answer}
use Rattle.dimension_tables.specs.Texts.{GivesUnlessFailed, TableTexts, dimensions_of}
use Rattle.dimension_tables.proofs.CallerLemmas.{gives-on, gives-stop}
use Rattle.report_formats.specs.Arranged.{WritesOrLacksMemory}
use Rattle.mode_queries.specs.Answers.{moded_answer}
use Rattle.mode_queries.specs.Lawful.{without_modes}
use Rattle.mode_queries.specs.declared.query.ModeQuery.{ModeQuery}
use Rattle.mode_queries.proofs.CallerLemmas.{answers_without_ship_modes}
use Rattle.ssb_eval.specs.declared.star.Evaluated.{Evaluated}
use Rattle.ssb_eval.specs.Evaluation.{Evaluates, EndsEvaluation, answer_of, eval_as, facts_of, moded_answer_of}
use Rattle.ssb_reports.specs.Writing.{Writes}

-- the text over dimensions
abbrev text_over : (Answer → List ℕ) → (DimRows → List ℕ → Result Answer Fault) → TableTexts → DimRows
    → Result (List ℕ) Fault
text_over text answered texts dimensions = and_then (answered dimensions texts.lineorder) (λ found. Ok (text found))

keeps_same : (known : Option (List ℕ)) → Keeps known known
keeps_same None = tt
keeps_same (Some bytes) = refl

-- it was refused before anything was written
pub reports-stop : {A : Type 0} (known : Option (List ℕ)) (outcome : Result (List ℕ) Fault) (fault : Fault)
    (result : Result A Fault) → (y : Fault) × (result ≡ Err y) × (y ≡ fault) → GivesUnlessFailed outcome (Err fault)
    → EndsEvaluation known known outcome result
reports-stop known outcome fault result stop why = rw (stop.1, stop.2) (inr (keeps_same known, why))

-- the bytes of the report were found, and the writer failed
pub reports-unwritten : {A : Type 0} (old new : Option (List ℕ)) (outcome : Result (List ℕ) Fault) (bytes : List ℕ)
    (fault : Fault) (result : Result A Fault) → (y : Fault) × (result ≡ Err y) × (y ≡ fault) → outcome ≡ Ok bytes
    → Writes old new (Err fault) bytes → EndsEvaluation old new outcome result
reports-unwritten old new outcome bytes fault result stop is writes =
    rw (stop.1, stop.2) (inl (writes.0, (bytes, is, writes.1)))

-- the bytes of the report were found, and the writer failed, or memory lacked before anything was written
pub reports-unfinished : {A : Type 0} (old new : Option (List ℕ)) (outcome : Result (List ℕ) Fault) (bytes : List ℕ)
    (fault : Fault) (result : Result A Fault) → (y : Fault) × (result ≡ Err y) × (y ≡ fault) → outcome ≡ Ok bytes
    → WritesOrLacksMemory old new (Err fault) bytes → EndsEvaluation old new outcome result
reports-unfinished old new outcome bytes fault result stop is writes =
    rw (stop.1, stop.2)
    (⊎_elim (λ unwritten. inl (unwritten.0, (bytes, is, unwritten.1))) (λ lacks. inr (lacks.1, inl lacks.0)) writes)

-- the bytes of the report were found, and the writer took them, or failed
pub reports-written : (old new : Option (List ℕ)) (outcome : Result (List ℕ) Fault) (bytes : List ℕ)
    (result : Result Unit Fault) → outcome ≡ Ok bytes → Writes old new result bytes
    → EndsEvaluation old new outcome result
reports-written old new outcome bytes (Ok done) is writes = (bytes, is, writes)
reports-written old new outcome bytes (Err fault) is writes = inl (writes.0, (bytes, is, writes.1))

-- there was no memory before anything was written
pub reports-memory : {A : Type 0} (known : Option (List ℕ)) (outcome : Result (List ℕ) Fault) (fault : Fault)
    (result : Result A Fault) → (y : Fault) × (result ≡ Err y) × (y ≡ fault) → fault ≡ Memory
    → EndsEvaluation known known outcome result
reports-memory known outcome fault result stop memory = rw (stop.1, stop.2) (inr (keeps_same known, inl memory))

-- the dimensions were refused
eval-no_dims : (text : Answer → List ℕ) (answered : DimRows → List ℕ → Result Answer Fault) (texts : TableTexts)
    (fault : Fault) → GivesUnlessFailed (dimensions_of texts) (Err fault)
    → GivesUnlessFailed (eval_as text answered texts) (Err fault)
eval-no_dims text answered texts fault gives =
    gives-stop (dimensions_of texts) (text_over text answered texts) fault (Err fault) (fault, refl, refl) gives

-- the facts were refused
eval-no_answer : (text : Answer → List ℕ) (answered : DimRows → List ℕ → Result Answer Fault) (texts : TableTexts)
    (dimensions : DimRows) (fault : Fault) → dimensions_of texts ≡ Ok dimensions
    → GivesUnlessFailed (answered dimensions texts.lineorder) (Err fault)
    → GivesUnlessFailed (eval_as text answered texts) (Err fault)
eval-no_answer text answered texts dimensions fault is gives =
    gives-on (dimensions_of texts) (text_over text answered texts) dimensions (Err fault) is
    (gives-stop (answered dimensions texts.lineorder) (λ found. Ok (text found)) fault (Err fault)
    (fault, refl, refl) gives)

-- the text is that of the answer
pub eval-is : (text : Answer → List ℕ) (answered : DimRows → List ℕ → Result Answer Fault) (texts : TableTexts)
    (dimensions : DimRows) (found : Answer)
    → dimensions_of texts ≡ Ok dimensions → answered dimensions texts.lineorder ≡ Ok found
    → eval_as text answered texts ≡ Ok (text found)
eval-is text answered texts dimensions found is gives =
    gives-on (dimensions_of texts) (text_over text answered texts) dimensions (Ok (text found)) is
    (ap (λ one. and_then one (λ found. Ok (text found))) gives)

-- the dimensions or the facts were refused
pub eval-refused : (text : Answer → List ℕ) (answered : DimRows → List ℕ → Result Answer Fault) (texts : TableTexts)
    (fault : Fault) → Evaluates answered texts (Err fault) → GivesUnlessFailed (eval_as text answered texts) (Err fault)
eval-refused text answered texts fault (inl dims) = eval-no_dims text answered texts fault dims
eval-refused text answered texts fault (inr (dimensions, is, facts)) =
    eval-no_answer text answered texts dimensions fault is facts

-- ---- a query that does not look at ship modes

-- the answer is that to it as a query of the dimensions alone
answer-is : (query : Query) (dimensions : DimRows) (text : List ℕ)
    → moded_answer_of (without_modes query) dimensions text ≡ answer_of query dimensions text
answer-is query dimensions text =
    by (facts_of dimensions text)
  where
    by : (facts : Result (List LineOrder) Fault)
        → and_then facts (λ rows. Ok (moded_answer (without_modes query) dimensions rows))
        ≡ and_then facts (λ rows. Ok (answer query dimensions rows))
    by (Ok rows) = ap (λ a. Ok a) (answers_without_ship_modes query dimensions rows)
    by (Err fault) = refl

pub evaluates-same : {asked other : ModeQuery} (texts : TableTexts) (result : Result Evaluated Fault) → asked ≡ other
    → Evaluates (moded_answer_of asked) texts result → Evaluates (moded_answer_of other) texts result
evaluates-same texts result same = subst (λ q. Evaluates (moded_answer_of q) texts result) same

pub evaluates-plain : (query : Query) (texts : TableTexts) (result : Result Evaluated Fault)
    → Evaluates (moded_answer_of (without_modes query)) texts result → Evaluates (answer_of query) texts result
evaluates-plain query texts (Ok found) (dims, is) = (dims, sym (answer-is query found.dims texts.lineorder) ∙ is)
evaluates-plain query texts (Err fault) (inl dims) = inl dims
evaluates-plain query texts (Err fault) (inr (dimensions, is, facts)) =
    inr (
      dimensions,
      is,
      subst (λ a. GivesUnlessFailed a (Err fault)) (answer-is query dimensions texts.lineorder)
          facts,
    )
