-- What callers of the readers need of rows of lines.
use Rattle.std.proofs.Common.{◌≡◌, ◌∙◌, ap, refl, ℕ, ◌+◌, ◌≤◌, List, [], ◌∷◌, ◌++◌, length, arith}
use Rattle.std.specs.Prelude.{suc, zero, min, Result, Ok, Err}
use Rattle.cube_model.specs.declared.fault.Fault.{Fault}
use Rattle.batch_loader.specs.Rows.{next_number, number_after, row_before, rows_of}
use Rattle.batch_loader.proofs.TakingRows.{rows_before}

-- lines are counted one by one, up to the greatest number
pub number_after-is : (count number : ℕ) → number ≤ 18446744073709551615
    → number_after count number ≡ min (number + count) 18446744073709551615
number_after-is zero number within = omega arith
number_after-is (suc count) number within = number_after-is count (next_number number) (omega arith)
    ∙ shifted count number within
  where
    shifted : (count number : ℕ) → number ≤ 18446744073709551615
        → min (min (number + 1) 18446744073709551615 + count) 18446744073709551615
        ≡ min (number + suc count) 18446744073709551615
    shifted count number within = omega arith

in_front : {Row : Type 0} (first : Row) (others : List Row) (back : Result (List Row) Fault)
    → row_before (Ok first) (rows_before others back) ≡ rows_before (first ∷ others) back
in_front first others (Err fault) = refl
in_front first others (Ok more) = refl

all_of : {Row : Type 0} (first : Row) (others rows : List Row) → row_before (Ok first) (Ok others) ≡ Ok rows
    → first ∷ others ≡ rows
all_of first others rows is = cc

nothing_in_front : {Row : Type 0} (back : Result (List Row) Fault) → back ≡ rows_before [] back
nothing_in_front (Err fault) = refl
nothing_in_front (Ok rows) = refl

front-first : {Row : Type 0} (found : Result Row Fault) (front all back : Result (List Row) Fault) (rows : List Row)
    → row_before found front ≡ Ok rows
    → ((others : List Row) → front ≡ Ok others → all ≡ rows_before others back)
    → row_before found all ≡ rows_before rows back
front-first (Err fault) front all back rows is each = absurd (cc)
front-first (Ok first) (Err fault) all back rows is each = absurd (cc)
front-first (Ok first) (Ok others) all back rows is each =
    ap (row_before (Ok first)) (each others refl) ∙ in_front first others back
    ∙ ap (λ taken. rows_before taken back) (all_of first others rows is)

-- the rows of some lines are in front of those of the lines after them
pub rows_of-append : {Row : Type 0} (row : ℕ → List ℕ → Result Row Fault) (number : ℕ) (lines others : List (List ℕ))
    (rows : List Row) → rows_of row number lines ≡ Ok rows
    → rows_of row number (lines ++ others) ≡ rows_before rows (rows_of row (number_after (length lines) number) others)
rows_of-append row number [] others [] is = nothing_in_front (rows_of row number others)
rows_of-append row number [] others (first ∷ rows) is = absurd (cc)
rows_of-append row number (line ∷ lines) others rows is =
    front-first (row number line) (rows_of row (next_number number) lines)
    (rows_of row (next_number number) (lines ++ others))
    (rows_of row (number_after (length lines) (next_number number)) others) rows is
    (λ taken e. rows_of-append row (next_number number) lines others taken e)
