-- The batches of a text, one after the other.
use Rattle.std.proofs.Common.{◌≡◌, ℕ, zero, suc, ◌+◌, ◌-◌, ◌≤◌, List, [], ◌∷◌, ◌++◌, length, take, drop, Option, Some}
use Rattle.std.proofs.Common.{None, Result, Ok, Err, refl, sym, ap, ◌∙◌, arith, ◌⊎◌, inl, inr, IfOk, IfErr}
use Rattle.std.proofs.lemmas.List.{length-drop, length-append, length_push}
use Rattle.batch_loader.specs.Lines.{lines_of}
use Rattle.batch_loader.specs.Outcomes.{and_then, unless}
use Rattle.batch_loader.specs.Parts.{parts_in, parts_of}
use Rattle.batch_loader.specs.Rows.{rows_of, row_before, next_number, number_after}
use Rattle.batch_loader.specs.Tables.{lineorder_row}
use Rattle.batch_loader.specs.Reading.{TakesRows, IsFirstFault}
use Rattle.cube_model.specs.declared.answer.Answer.{Answer}
use Rattle.cube_model.specs.declared.fault.Fault.{Fault}
use Rattle.cube_model.specs.declared.fault.Fault.TheVariants.{Memory, Input}
use Rattle.cube_model.specs.declared.rows.DimRows.{DimRows}
use Rattle.cube_model.specs.declared.rows.LineOrder.{LineOrder}
use Rattle.cube_model.specs.Admission.{all_rows, moded_refusal}
use Rattle.cube_model.specs.Limits.{most_batch_rows}
use Rattle.batch_admission.specs.Accepted.{Accepted, HasAccepted}
use Rattle.batch_admission.specs.Found.{Found, cause_of}
use Rattle.dimension_tables.specs.Texts.{GivesUnlessFailed}
use Rattle.mode_folds.specs.Answered.{answered_over}
use Rattle.mode_folds.specs.declared.answered.Answered.{Answered}
use Rattle.mode_folds.specs.States.{ModeFoldState, RepresentsModeRows}
use Rattle.mode_queries.specs.Answers.{moded_answer}
use Rattle.mode_queries.specs.declared.query.ModeQuery.{ModeQuery}
use Rattle.ssb_eval.specs.Evaluation.{facts_after, facts_of, answer_in, moded_answer_of}
use Rattle.ssb_eval.specs.BatchLoop.{AreTaken, FoldsFacts, IsBegun, LeavesFacts}
use Rattle.batch_admission.proofs.CallerLemmas.{all_rows-last, in_range, known_both, passes, passes-found}
use Rattle.ssb_eval.proofs.Admitting.{plain}

-- parts of a list

enough : {A : Type 0} (steps more size : ℕ) (items : List A) → 1 ≤ size → length items ≤ steps → length items ≤ more
    → parts_in steps size items ≡ parts_in more size items
enough steps more size [] some one two = refl
enough zero more size (item ∷ items) some one two = absurd (omega arith)
enough (suc steps) zero size (item ∷ items) some one two = absurd (omega arith)
enough (suc steps) (suc more) size (item ∷ items) some one two =
    let shorter : length (drop size (item ∷ items)) ≡ suc (length items) - size = length-drop size (item ∷ items) in
    ap (λ parts. take size (item ∷ items) ∷ parts)
    (enough steps more size (drop size (item ∷ items)) some (omega arith) (omega arith))

-- the first part, and those of what is left
pub parts_of-first : {A : Type 0} (size : ℕ) (item : A) (items : List A) → 1 ≤ size
    → parts_of size (item ∷ items) ≡ take size (item ∷ items) ∷ parts_of size (drop size (item ∷ items))
parts_of-first size item items some =
    let shorter : length (drop size (item ∷ items)) ≡ suc (length items) - size = length-drop size (item ∷ items) in
    ap (λ parts. take size (item ∷ items) ∷ parts)
    (enough (length items) (length (drop size (item ∷ items))) size (drop size (item ∷ items)) some (omega arith)
    (omega arith))

-- numbers of lines

pub next_number-after : (count number : ℕ)
    → next_number (number_after count number) ≡ number_after count (next_number number)
next_number-after zero number = refl
next_number-after (suc count) number = next_number-after count (next_number number)

-- rows of lines

no_row : {Row : Type 0} (first : Result Row Fault) (others : Result (List Row) Fault) → row_before first others ≡ Ok []
    → ⊥
no_row (Err fault) others e = cc
no_row (Ok row) (Err fault) e = cc
no_row (Ok row) (Ok rows) e = cc

pub no_lines : {Row : Type 0} (row : ℕ → List ℕ → Result Row Fault) (number : ℕ) (lines : List (List ℕ))
    → rows_of row number lines ≡ Ok [] → lines ≡ []
no_lines row number [] e = refl
no_lines row number (line ∷ lines) e = absurd (no_row (row number line) (rows_of row (next_number number) lines) e)

-- The outcome of the next batch: the end where it has no row
pub facts-end : (dimensions : DimRows) (batches : List (List LineOrder)) (number : ℕ) (lines : List (List ℕ))
    → rows_of lineorder_row number (take most_batch_rows lines) ≡ Ok []
    → facts_after dimensions batches number (parts_of most_batch_rows lines) ≡ Ok (all_rows batches)
facts-end dimensions batches number [] e = refl
facts-end dimensions batches number (line ∷ lines) e =
    absurd (no_row (lineorder_row number line) (rows_of lineorder_row (next_number number) (take 65535 lines)) e)

-- the fault of its lines
pub facts-fault : (dimensions : DimRows) (batches : List (List LineOrder)) (number : ℕ) (lines : List (List ℕ))
    (fault : Fault) → rows_of lineorder_row number (take most_batch_rows lines) ≡ Err fault
    → facts_after dimensions batches number (parts_of most_batch_rows lines) ≡ Err fault
facts-fault dimensions batches number [] fault e = cc
facts-fault dimensions batches number (line ∷ lines) fault e =
    ap (facts_after dimensions batches number) (parts_of-first most_batch_rows line lines (omega arith))
    ∙ ap (λ read. and_then read
    (λ rows. unless (moded_refusal dimensions batches (length batches + 1) rows)
    (facts_after dimensions (batches ++ rows ∷ []) (number_after (length rows) number)
    (parts_of most_batch_rows (drop most_batch_rows (line ∷ lines)))))) e

-- and else its check
pub facts-more : (dimensions : DimRows) (batches : List (List LineOrder)) (number : ℕ) (lines : List (List ℕ))
    (rows : List LineOrder) → 1 ≤ length rows → rows_of lineorder_row number (take most_batch_rows lines) ≡ Ok rows
    → facts_after dimensions batches number (parts_of most_batch_rows lines)
    ≡ unless (moded_refusal dimensions batches (length batches + 1) rows)
    (facts_after dimensions (batches ++ rows ∷ []) (number_after (length rows) number)
    (parts_of most_batch_rows (drop most_batch_rows lines)))
facts-more dimensions batches number [] [] some e = absurd (omega arith)
facts-more dimensions batches number [] (row ∷ rows) some e = cc
facts-more dimensions batches number (line ∷ lines) rows some e =
    ap (facts_after dimensions batches number) (parts_of-first most_batch_rows line lines (omega arith))
    ∙ ap (λ read. and_then read
    (λ rows. unless (moded_refusal dimensions batches (length batches + 1) rows)
    (facts_after dimensions (batches ++ rows ∷ []) (number_after (length rows) number)
    (parts_of most_batch_rows (drop most_batch_rows (line ∷ lines)))))) e

-- a batch in which nothing was found is among those that were taken, once it is accepted
pub taken_more : (dimensions : DimRows) (asked : ModeQuery) (accepted next : Accepted) (fold more : ModeFoldState)
    (batches : List (List LineOrder)) (rows : List LineOrder) (found : Found)
    → AreTaken dimensions asked accepted fold batches → moded_refusal dimensions batches (length batches + 1) rows
    ≡ None
    → HasAccepted next (batches ++ rows ∷ [])
    → IsBegun dimensions asked (all_rows batches) rows found more
    → AreTaken dimensions asked next more (batches ++ rows ∷ [])
taken_more dimensions asked accepted next fold more batches rows found taken passed represents begun =
    let not_refused = plain dimensions batches (length batches + 1) rows passed in
    let pass = passes dimensions batches (length batches + 1) rows not_refused in
    let nothing = passes-found dimensions batches (length batches + 1) rows not_refused in
    let joined : all_rows (batches ++ rows ∷ []) ≡ all_rows batches ++ rows = all_rows-last batches rows in
    let longer : length (all_rows batches ++ rows) ≡ length (all_rows batches) + length rows =
    length-append (all_rows batches) rows in
    let one_more : length (batches ++ rows ∷ []) ≡ length batches + 1 = length_push batches rows in
    let clean : cause_of found ≡ None = ap cause_of begun.found_is ∙ nothing in
    record {
      represents = represents;
      query_is = begun.query_is;
      folded = rw joined (begun.folded clean);
      few = rw (joined, longer, one_more) (omega (arith, taken.few, pass.few));
      foldable = rw joined (record {
        few = omega (arith, longer, taken.few, pass.few, pass.batches_left);
        known = known_both dimensions 1 1 1 (all_rows batches) rows taken.foldable.known pass.known;
        in_range = in_range (all_rows batches ++ rows) pass.sums;
      });
    }

-- what is left once a batch was accepted
pub leaves_more : (dimensions : DimRows) (text : List ℕ) (batches : List (List LineOrder)) (number next : ℕ)
    (left rest : List ℕ) (rows : List LineOrder) → 1 ≤ length rows
    → facts_of dimensions text ≡ facts_after dimensions batches (next_number number)
    (parts_of most_batch_rows (lines_of left))
    → (rows_of lineorder_row (next_number number) (take most_batch_rows (lines_of left)) ≡ Ok rows)
    × (lines_of rest ≡ drop most_batch_rows (lines_of left))
    → next ≡ number_after (length rows) number
    → moded_refusal dimensions batches (length batches + 1) rows ≡ None
    → facts_of dimensions text ≡ facts_after dimensions (batches ++ rows ∷ []) (next_number next)
    (parts_of most_batch_rows (lines_of rest))
leaves_more dimensions text batches number next left rest rows some before (read, others) counted accepted =
    before ∙ facts-more dimensions batches (next_number number) (lines_of left) rows some read
    ∙ ap (λ cause. unless cause
    (facts_after dimensions (batches ++ rows ∷ []) (number_after (length rows) (next_number number))
    (parts_of most_batch_rows (drop most_batch_rows (lines_of left))))) accepted
    ∙ ap (λ n. facts_after dimensions (batches ++ rows ∷ []) n
    (parts_of most_batch_rows (drop most_batch_rows (lines_of left)))) (sym (next_number-after (length rows) number)
    ∙ ap next_number (sym counted))
    ∙ ap (λ lines. facts_after dimensions (batches ++ rows ∷ []) (next_number next) (parts_of most_batch_rows lines))
    (sym others)

-- the same, where the bytes may be unknown
pub leaves_on : (dimensions : DimRows) (text : List ℕ) (batches : List (List LineOrder)) (number next : ℕ)
    (left rest : Option (List ℕ)) (rows : List LineOrder) → 1 ≤ length rows
    → LeavesFacts dimensions text batches number left → TakesRows lineorder_row most_batch_rows number left rest rows
    → next ≡ number_after (length rows) number → moded_refusal dimensions batches (length batches + 1) rows ≡ None
    → LeavesFacts dimensions text (batches ++ rows ∷ []) next rest
leaves_on dimensions text batches number next None rest rows some before taken counted accepted = absurd before
leaves_on dimensions text batches number next (Some left) None rows some before taken counted accepted = absurd taken
leaves_on dimensions text batches number next (Some left) (Some rest) rows some before taken counted accepted =
    leaves_more dimensions text batches number next left rest rows some before taken counted accepted

-- The end of a fold over batches: a batch that cannot be read
pub gives-unread : (asked : ModeQuery) (dimensions : DimRows) (text : List ℕ) (batches : List (List LineOrder))
    (number : ℕ) (left : Option (List ℕ)) (fault : Fault) (result : Result Answer Fault)
    → LeavesFacts dimensions text batches number left → (fault ≡ Memory)
    ⊎ ((fault ≡ Input) ⊎ IsFirstFault lineorder_row most_batch_rows number left fault) → (y : Fault) × (result ≡ Err y)
    × (y ≡ fault) → GivesUnlessFailed (moded_answer_of asked dimensions text) result
gives-unread asked dimensions text batches number None fault result before why stop = absurd before
gives-unread asked dimensions text batches number (Some left) fault result before (inl memory) stop =
    rw (stop.1, stop.2) (inl memory)
gives-unread asked dimensions text batches number (Some left) fault result before (inr (inl input)) stop =
    rw (stop.1, stop.2) (inr (inl input))
gives-unread asked dimensions text batches number (Some left) fault result before (inr (inr refused)) stop =
    let found : facts_of dimensions text ≡ Err fault = before
    ∙ facts-fault dimensions batches (next_number number) (lines_of left) fault refused in
    rw (stop.1, stop.2)
    (inr (inr (ap (λ facts. and_then facts (λ rows. Ok (moded_answer asked dimensions rows))) found)))

-- one that is refused
pub gives-refused : (asked : ModeQuery) (dimensions : DimRows) (text : List ℕ) (batches : List (List LineOrder))
    (number place : ℕ) (left rest : Option (List ℕ)) (rows : List LineOrder) (fault : Fault)
    (result : Result Answer Fault) → LeavesFacts dimensions text batches number left
    → TakesRows lineorder_row most_batch_rows number left rest rows → 1 ≤ length rows → place ≡ length batches + 1
    → Some fault ≡ moded_refusal dimensions batches place rows → (y : Fault) × (result ≡ Err y) × (y ≡ fault)
    → GivesUnlessFailed (moded_answer_of asked dimensions text) result
gives-refused asked dimensions text batches number place None rest rows fault result before taken some next refused
    stop = absurd before
gives-refused asked dimensions text batches number place (Some left) None rows fault result before taken some next
    refused stop = absurd taken
gives-refused asked dimensions text batches number place (Some left) (Some rest) rows fault result before (read, others)
    some next refused stop =
    let cause : moded_refusal dimensions batches (length batches + 1) rows ≡ Some fault =
    ap (λ n. moded_refusal dimensions batches n rows) (sym next) ∙ sym refused in
    let found : facts_of dimensions text ≡ Err fault =
    before ∙ facts-more dimensions batches (next_number number) (lines_of left) rows some read
    ∙ ap (λ one. unless one
    (facts_after dimensions (batches ++ rows ∷ []) (number_after (length rows) (next_number number))
    (parts_of most_batch_rows (drop most_batch_rows (lines_of left))))) cause in
    rw (stop.1, stop.2)
    (inr (inr (ap (λ facts. and_then facts (λ rows. Ok (moded_answer asked dimensions rows))) found)))

-- and the end of the text
pub facts-done : (dimensions : DimRows) (text : List ℕ) (batches : List (List LineOrder)) (number : ℕ)
    (left rest : Option (List ℕ)) → LeavesFacts dimensions text batches number left
    → TakesRows lineorder_row most_batch_rows number left rest [] → facts_of dimensions text ≡ Ok (all_rows batches)
facts-done dimensions text batches number None rest before takes = absurd before
facts-done dimensions text batches number (Some left) None before takes = absurd takes
facts-done dimensions text batches number (Some left) (Some rest) before takes = before
    ∙ facts-end dimensions batches (next_number number) (lines_of left) takes.0

pub folds-stopped : (asked : ModeQuery) (dimensions : DimRows) (text : List ℕ) (fold : ModeFoldState) (fault : Fault)
    (result : Result Unit Fault) → (y : Fault) × (result ≡ Err y) × (y ≡ fault)
    → GivesUnlessFailed (moded_answer_of asked dimensions text) (Err fault)
    → FoldsFacts asked dimensions text fold result
folds-stopped asked dimensions text fold fault result stop gives = rw (stop.1, stop.2) gives

-- a fold gives the answer over the facts that it took
pub gives-answered : (asked : ModeQuery) (dimensions : DimRows) (text : List ℕ) (fold : ModeFoldState)
    (result : Result Answered Fault) → fold.asked ≡ asked → FoldsFacts asked dimensions text fold (Ok tt)
    → IfOk result (λ found. (rows : List LineOrder) → RepresentsModeRows dimensions fold rows
    → answered_over dimensions found ≡ moded_answer fold.asked dimensions rows) → IfErr result (λ fault. fault ≡ Memory)
    → GivesUnlessFailed (moded_answer_of asked dimensions text) (answer_in dimensions result)
gives-answered asked dimensions text fold (Err fault) same folded answers only = inl only
gives-answered asked dimensions text fold (Ok answered) same folded answers only =
    let found : answered_over dimensions answered ≡ moded_answer asked dimensions folded.0 =
    answers folded.0 folded.2 ∙ ap (λ q. moded_answer q dimensions folded.0) same in
    ap (λ facts. and_then facts (λ rows. Ok (moded_answer asked dimensions rows))) folded.1 ∙ ap Ok (sym found)

-- nothing was folded, and there is no answer
pub gives-nothing : (asked : ModeQuery) (dimensions : DimRows) (text : List ℕ) (fault : Fault)
    (result : Result Answered Fault) → (y : Fault) × (result ≡ Err y) × (y ≡ fault)
    → GivesUnlessFailed (moded_answer_of asked dimensions text) (Err fault)
    → GivesUnlessFailed (moded_answer_of asked dimensions text) (answer_in dimensions result)
gives-nothing asked dimensions text fault result stop gives = rw (stop.1, stop.2) gives
