-- Texts of a row that are short, one by one and all. Our own.
use Rattle.std.proofs.Common.{◌≤◌, ◌&&◌, ◌↔◌, sym, refl, true≢false, Bool, true, false, IsTrue, List, length, All}
use Rattle.cube_model.specs.declared.rows.LineOrder.{LineOrder}
use Rattle.cube_model.specs.Limits.{longest_text, most_batch_rows}
use Rattle.column_segment.specs.Columns.{text_of}
use Rattle.column_segment.specs.Segment.{HasShortFactTexts, IsBatch}
use Rattle.column_segment.specs.declared.columns.TextColumn.{TextColumn}
use Rattle.column_segment.specs.declared.columns.TextColumn.TheVariants.{OrderPriority, ShipPriority, CommitDate}
use Rattle.column_segment.specs.declared.columns.TextColumn.TheVariants.{ShipMode}

each_column : (P : TextColumn → Type 0) → P OrderPriority → P ShipPriority → P CommitDate → P ShipMode
    → (column : TextColumn) → P column
each_column P one two three four OrderPriority = one
each_column P one two three four ShipPriority = two
each_column P one two three four CommitDate = three
each_column P one two three four ShipMode = four

-- four tests, one a column
four_tests : (P : TextColumn → Type 0) (a b c d : Bool) → IsTrue a ↔ P OrderPriority → IsTrue b ↔ P ShipPriority
    → IsTrue c ↔ P CommitDate
    → IsTrue d ↔ P ShipMode → IsTrue (((a && b) && c) && d) ↔ ((column : TextColumn) → P column)
four_tests P true true true true one two three four =
    (λ e. each_column P (one.0 refl) (two.0 refl) (three.0 refl) (four.0 refl), λ all. refl)
four_tests P true true true false one two three four = (λ e. absurd (true≢false (sym e)), λ all. four.1 (all ShipMode))
four_tests P true true false d one two three four = (λ e. absurd (true≢false (sym e)), λ all. three.1 (all CommitDate))
four_tests P true false c d one two three four = (λ e. absurd (true≢false (sym e)), λ all. two.1 (all ShipPriority))
four_tests P false b c d one two three four = (λ e. absurd (true≢false (sym e)), λ all. one.1 (all OrderPriority))

pub short_texts : (row : LineOrder) (a b c d : Bool) → IsTrue a ↔ (length (text_of OrderPriority row) ≤ longest_text)
    → IsTrue b ↔ (length (text_of ShipPriority row) ≤ longest_text) → IsTrue c
    ↔ (length (text_of CommitDate row) ≤ longest_text)
    → IsTrue d ↔ (length (text_of ShipMode row) ≤ longest_text) → IsTrue (((a && b) && c) && d) ↔ HasShortFactTexts row
short_texts row a b c d one two three four =
    let tests = four_tests (λ column. length (text_of column row) ≤ longest_text) a b c d one two three four in
    (λ e. record { each = tests.0 e }, λ short. tests.1 short.each)

-- few rows with short texts are a batch
pub batch_of : (rows : List LineOrder) (b : Bool) → length rows ≤ most_batch_rows → IsTrue b
    ↔ All HasShortFactTexts rows
    → IsTrue b ↔ IsBatch rows
batch_of rows b few test = (
  λ e. record { few = few; short = λ column i d lt. (test.0 e i d lt).each column },
  λ batch. test.1 (λ i d lt. record { each = λ column. batch.short column i d lt }),
)
