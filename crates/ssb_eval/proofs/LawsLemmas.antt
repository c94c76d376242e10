-- The rows of batches put end to end.
use Rattle.std.proofs.Common.{◌≡◌, ℕ, zero, suc, ◌+◌, ◌≤◌, List, [], ◌∷◌, ◌++◌, length, take, drop, Option, Some, None}
use Rattle.std.proofs.Common.{Result, Ok, Err, refl, sym, ap, ◌∙◌, arith, append-nil, append_assoc}
use Rattle.std.proofs.lemmas.List.{length-drop, take-append-drop}
use Rattle.batch_loader.specs.Lines.{lines_of}
use Rattle.batch_loader.specs.Outcomes.{and_then, unless}
use Rattle.batch_loader.specs.Parts.{parts_in}
use Rattle.batch_loader.specs.Rows.{rows_of, row_before, next_number, number_after}
use Rattle.batch_loader.specs.Tables.{lineorder_row}
use Rattle.cube_model.specs.declared.fault.Fault.{Fault}
use Rattle.cube_model.specs.declared.rows.DimRows.{DimRows}
use Rattle.cube_model.specs.declared.rows.LineOrder.{LineOrder}
use Rattle.cube_model.specs.Admission.{all_rows, moded_refusal}
use Rattle.cube_model.specs.Limits.{most_batch_rows}
use Rattle.dimension_tables.specs.Texts.{table_rows}
use Rattle.ssb_eval.specs.Evaluation.{facts_after, facts_of}
use Rattle.batch_admission.proofs.CallerLemmas.{all_rows-last}

-- a row is in front of others
record IsBefore {Row : Type 0} (first : Result Row Fault) (others : Result (List Row) Fault) (rows : List Row) : Type 0
  where
    row : Row
    rest : List Row
    first_is : first ≡ Ok row
    others_are : others ≡ Ok rest
    rows_are : rows ≡ row ∷ rest

is_before : {Row : Type 0} (first : Result Row Fault) (others : Result (List Row) Fault) (rows : List Row)
    → row_before first others ≡ Ok rows → IsBefore first others rows
is_before (Err fault) others rows e = absurd (cc)
is_before (Ok row) (Err fault) rows e = absurd (cc)
is_before (Ok row) (Ok rest) rows e =
    record { row = row; rest = rest; first_is = refl; others_are = refl; rows_are = cc }

same : {A : Type 0} (outcome : Result A Fault) (a b : A) → outcome ≡ Ok a → outcome ≡ Ok b → b ≡ a
same outcome a b one two = cc

-- the rows of some lines, and of others after them
rows-append : {Row : Type 0} (row : ℕ → List ℕ → Result Row Fault) (number : ℕ) (lines others : List (List ℕ))
    (rows more : List Row)
    → rows_of row number lines ≡ Ok rows → rows_of row (number_after (length rows) number) others ≡ Ok more
    → rows_of row number (lines ++ others) ≡ Ok (rows ++ more)
rows-append row number [] others rows more first second =
    let none : rows ≡ [] = same (Ok []) [] rows refl first in
    ap (λ found. rows_of row (number_after (length found) number) others) (sym none) ∙ second
    ∙ ap (λ found. Ok (found ++ more)) (sym none)
rows-append row number (line ∷ lines) others rows more first second =
    let parts = is_before (row number line) (rows_of row (next_number number) lines) rows first in
    let later : rows_of row (number_after (length parts.rest) (next_number number)) others ≡ Ok more =
    ap (λ found. rows_of row (number_after (length found) number) others) (sym parts.rows_are) ∙ second in
    ap (λ found. row_before found (rows_of row (next_number number) (lines ++ others))) parts.first_is
    ∙ ap (row_before (Ok parts.row))
    (rows-append row (next_number number) lines others parts.rest more parts.others_are later)
    ∙ ap (λ found. Ok (found ++ more)) (sym parts.rows_are)

-- the same of the first lines of some, and of the others
rows-parts : {Row : Type 0} (row : ℕ → List ℕ → Result Row Fault) (number size : ℕ) (lines : List (List ℕ))
    (rows more : List Row)
    → rows_of row number (take size lines) ≡ Ok rows → rows_of row (number_after (length rows) number) (drop size lines)
    ≡ Ok more → rows_of row number lines ≡ Ok (rows ++ more)
rows-parts row number size lines rows more first second =
    ap (rows_of row number) (sym (take-append-drop size lines))
    ∙ rows-append row number (take size lines) (drop size lines) rows more first second

-- the first step, where both went well
record GoesOn {A B : Type 0} (first : Result A Fault) (next : A → Result B Fault) (value : B) : Type 0 where
  found : A
  first_is : first ≡ Ok found
  next_is : next found ≡ Ok value

goes_on : {A B : Type 0} (first : Result A Fault) (next : A → Result B Fault) (value : B)
    → and_then first next ≡ Ok value → GoesOn first next value
goes_on (Ok found) next value e = record { found = found; first_is = refl; next_is = e }
goes_on (Err fault) next value e = absurd (cc)

not_refused : {A : Type 0} (cause : Option Fault) (outcome : Result A Fault) (value : A)
    → unless cause outcome ≡ Ok value → outcome ≡ Ok value
not_refused None outcome value e = e
not_refused (Some fault) outcome value e = absurd (cc)

-- the rows of the lines that are left come after those of the batches
record AreAfter (number : ℕ) (lines : List (List ℕ)) (batches : List (List LineOrder)) (rows : List LineOrder) : Type 0
  where
    more : List LineOrder
    more_are : rows_of lineorder_row number lines ≡ Ok more
    rows_are : rows ≡ all_rows batches ++ more

rows_after : (batches : List (List LineOrder)) (found more rows : List LineOrder)
    → rows ≡ all_rows (batches ++ found ∷ []) ++ more → rows ≡ all_rows batches ++ (found ++ more)
rows_after batches found more rows is = is ∙ ap (λ earlier. earlier ++ more) (all_rows-last batches found)
    ∙ append_assoc (all_rows batches) found more

after : (dimensions : DimRows) (batches : List (List LineOrder)) (number steps size : ℕ) (lines : List (List ℕ))
    (rows : List LineOrder) → 1 ≤ size → length lines ≤ steps
    → facts_after dimensions batches number (parts_in steps size lines) ≡ Ok rows → AreAfter number lines batches rows
after dimensions batches number steps size [] rows some enough e = record {
  more = [];
  more_are = refl;
  rows_are = same (Ok (all_rows batches)) (all_rows batches) rows refl e ∙ sym (append-nil (all_rows batches));
}
after dimensions batches number zero size (line ∷ lines) rows some enough e = absurd (omega arith)
after dimensions batches number (suc steps) size (line ∷ lines) rows some enough e =
    let left = drop size (line ∷ lines) in
    let read = goes_on (rows_of lineorder_row number (take size (line ∷ lines)))
    (λ found. unless (moded_refusal dimensions batches (length batches + 1) found)
    (facts_after dimensions (batches ++ found ∷ []) (number_after (length found) number)
    (parts_in steps size left))) rows e in
    let accepted = not_refused (moded_refusal dimensions batches (length batches + 1) read.found)
    (facts_after dimensions (batches ++ read.found ∷ []) (number_after (length read.found) number)
    (parts_in steps size left)) rows read.next_is in
    let later = after dimensions (batches ++ read.found ∷ []) (number_after (length read.found) number) steps size left
    rows some (omega (arith, length-drop size (line ∷ lines))) accepted in
    record {
      more = read.found ++ later.more;
      more_are = rows-parts lineorder_row number size (line ∷ lines) read.found later.more read.first_is later.more_are;
      rows_are = rows_after batches read.found later.more rows later.rows_are;
    }

-- where no batch is refused, their rows are those of the whole text
pub facts-rows : (dimensions : DimRows) (text : List ℕ) (rows : List LineOrder) → facts_of dimensions text ≡ Ok rows
    → table_rows lineorder_row text ≡ Ok rows
facts-rows dimensions text rows e =
    let all = after dimensions [] 1 (length (lines_of text)) most_batch_rows (lines_of text) rows (omega arith)
    (omega arith) e in
    all.more_are ∙ ap Ok (sym all.rows_are)
