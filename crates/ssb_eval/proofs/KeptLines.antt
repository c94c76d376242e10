-- Lines that are kept of a refusal, and texts of which no line was taken.
use Rattle.std.proofs.Common.{◌≡◌, ℕ, inr, List, Option, Some, None, Result, Ok, Err, IfErr, subst, sym}
use Rattle.std.specs.Prelude.{IfSome}
use Rattle.batch_loader.specs.Tables.{customer_row, supplier_row, part_row, date_row, lineorder_row}
use Rattle.batch_loader.specs.Unread.{Unread}
use Rattle.cube_model.specs.declared.answer.Answer.{Answer}
use Rattle.cube_model.specs.declared.fault.Fault.{Fault}
use Rattle.cube_model.specs.declared.rows.DimRows.{DimRows}
use Rattle.dimension_tables.specs.Tables.{IsUnread, KeepLines, KeepsLine}
use Rattle.dimension_tables.specs.Texts.{GivesUnlessFailed, TableTexts, dimensions_of}
use Rattle.ssb_eval.specs.declared.star.Evaluated.{Evaluated}
use Rattle.ssb_eval.specs.declared.unknown.UnknownKey.{UnknownKey}
use Rattle.ssb_eval.specs.Evaluation.{Evaluates}
use Rattle.ssb_eval.specs.Tables.{IsFresh, IsInNoRow, KeepsBroken, KeepsCause, StarLines}

-- nothing is kept where nothing was refused
pub keeps-fresh : {Row : Type 0} (row : ℕ → List ℕ → Result Row Fault) (lines : Unread) → lines.fault ≡ None
    → KeepsLine row lines
keeps-fresh row lines fresh = rw fresh tt

keeps-whole : {A : Type 0} (broken : Option DimRows) (result : Result A Fault) → broken ≡ None
    → IfErr result (KeepsBroken broken)
keeps-whole broken (Ok value) none = tt
keeps-whole broken (Err fault) none = rw none tt

-- what is kept where no dimension rows broke a rule
pub keeps-cause : {A : Type 0} (new : StarLines) (result : Result A Fault)
    → KeepLines new.dimensions → KeepsLine lineorder_row new.lineorder → new.broken ≡ None → KeepsCause new result
keeps-cause new result dimensions lineorder none =
    record { dimensions = dimensions; lineorder = lineorder; broken = keeps-whole new.broken result none }

-- what is kept of another outcome
pub keeps-other : {A B : Type 0} (new : StarLines) (done : Result A Fault) (result : Result B Fault)
    → KeepsCause new done → new.broken ≡ None → KeepsCause new result
keeps-other new done result kept none = keeps-cause new result kept.dimensions kept.lineorder none

-- what is kept before anything was read
pub keeps-nothing : {A : Type 0} (new : StarLines) (result : Result A Fault) → IsFresh new → KeepsCause new result
keeps-nothing new result fresh =
    keeps-cause new result
    (record {
      customer = keeps-fresh customer_row new.dimensions.customer fresh.dimensions.customer;
      supplier = keeps-fresh supplier_row new.dimensions.supplier fresh.dimensions.supplier;
      part = keeps-fresh part_row new.dimensions.part fresh.dimensions.part;
      date = keeps-fresh date_row new.dimensions.date fresh.dimensions.date;
    })
    (keeps-fresh lineorder_row new.lineorder fresh.lineorder) fresh.broken

-- the same refusal of another call
pub keeps-refused : {A B : Type 0} (new : StarLines) (fault : Fault) (result : Result B Fault)
    → (other : Fault) × (result ≡ Err other) × (other ≡ fault) → KeepsCause {A = A} new (Err fault)
    → KeepsCause new result
keeps-refused new fault result is kept =
    record { dimensions = kept.dimensions; lineorder = kept.lineorder; broken = rw (is.1, is.2) kept.broken }

-- the facts are refused
pub evaluates-no_answer : (answered : DimRows → List ℕ → Result Answer Fault) (texts : TableTexts)
    (dimensions : DimRows)
    (fault : Fault) (result : Result Evaluated Fault)
    → (other : Fault) × (result ≡ Err other) × (other ≡ fault) → dimensions_of texts ≡ Ok dimensions
    → GivesUnlessFailed (answered dimensions texts.lineorder) (Err fault) → Evaluates answered texts result
evaluates-no_answer answered texts dimensions fault result is dims gives =
    rw (is.1, is.2) (inr (dimensions, dims, gives))

-- an unread text that nothing changed
pub unread-rest : (old new : Unread) (text : List ℕ) → new ≡ old → IsUnread old text → IsUnread new text
unread-rest old new text same unread = subst (λ lines. IsUnread lines text) (sym same) unread

-- no key is kept yet
pub no_key : (dimensions : DimRows) (old : Option UnknownKey) → old ≡ None → IfSome old (IsInNoRow dimensions)
no_key dimensions old none = rw none tt

-- a key that is kept is in no row of the dimensions of the texts
pub keeps-unknown : (texts : TableTexts) (dimensions : DimRows) (unknown : Option UnknownKey)
    → dimensions_of texts ≡ Ok dimensions → IfSome unknown (IsInNoRow dimensions)
    → IfSome unknown (λ one. (x : DimRows) × (dimensions_of texts ≡ Ok x) × IsInNoRow x one)
keeps-unknown texts dimensions None is kept = tt
keeps-unknown texts dimensions (Some one) is kept = (dimensions, is, kept)
