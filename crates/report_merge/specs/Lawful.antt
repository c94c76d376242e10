-- That texts of parts of the fact rows, merged, make the answer over all of them. Each is proved as the contract of a
-- function of its name.
use Rattle.std.specs.Prelude.{◌≡◌, ◌<◌, ◌^◌, ℕ, true, List, [], ◌∷◌, ◌++◌, length}
use Rattle.cube_model.specs.declared.query.Query.{Query}
use Rattle.cube_model.specs.declared.rows.DimRows.{DimRows}
use Rattle.cube_model.specs.declared.rows.LineOrder.{LineOrder}
use Rattle.cube_model.specs.Admission.{AreInRange, all_rows}
use Rattle.cube_model.specs.Answers.{answer}
use Rattle.partial_reports.specs.Finishing.{CanBeFinished}
use Rattle.partial_reports.specs.Parts.{partial_query}
use Rattle.partial_reports.specs.Readable.{IsReadableAnswer}
use Rattle.partial_reports.specs.declared.head.Head.{Head}
use Rattle.partial_reports.specs.declared.words.Word.{Word}
use Rattle.partial_reports.specs.Head.{head_text, is_proper}
use Rattle.partial_reports.specs.HeadReading.{IsDigest}
use Rattle.report_formats.specs.declared.layout.Layout.{Layout}
use Rattle.report_formats.specs.Asked.{query_for}
use Rattle.ssb_reports.specs.Report.{report_of}
use Rattle.report_merge.specs.Finishing.{finished_for}
use Rattle.report_merge.specs.Mergeable.{CanMerge}
use Rattle.report_merge.specs.Merging.{IsMerged, IsPartialReport, Part, SpellsWords}
use Rattle.report_merge.specs.Refusals.{AreDisjoint}

-- a text is the partial report of no two parts
abbrev pub PartialReportsAreOfOnePart : Type 0
PartialReportsAreOfOnePart = (text : List ℕ) (one other : Part) → IsPartialReport text one → IsPartialReport text other
    → one ≡ other

-- what is finished for a layout is the answer to the query that is asked for in it
abbrev pub CountsAreAppended : Type 0
CountsAreAppended = (layout : Layout) (query : Query) (dimensions : DimRows) (rows : List LineOrder)
    → finished_for layout query (answer (partial_query query) dimensions rows)
    ≡ answer (query_for layout query) dimensions rows

-- a text is a partial report of a query over dimension rows with a digest and some fact rows. Its partial answer can be
-- read back
pub record IsWritten (query : Query) (dimensions : DimRows) (digest : List ℕ) (rows : List LineOrder)
    (text : List ℕ) : Type 0 where
  pub head : Head
  pub proper : is_proper head ≡ true
  pub words : SpellsWords head.words query
  pub readable : IsReadableAnswer (partial_query query) (answer (partial_query query) dimensions rows)
  pub spelled : text ≡ head_text head digest
      ++ report_of (partial_query query) (answer (partial_query query) dimensions rows)

-- the texts are of parts, one for each
abbrev pub AreWritten : Query → DimRows → List ℕ → List (List LineOrder) → List (List ℕ) → Type 0
AreWritten query dimensions digest [] [] = Unit {0}
AreWritten query dimensions digest [] (text ∷ texts) = ⊥
AreWritten query dimensions digest (rows ∷ parts) [] = ⊥
AreWritten query dimensions digest (rows ∷ parts) (text ∷ texts) =
    IsWritten query dimensions digest rows text × AreWritten query dimensions digest parts texts

-- heads are of parts of one whole, in the same words; no number is in two of them, nor among those that are in already
abbrev pub AreOfWhole : List Word → ℕ → List ℕ → List Head → Type 0
AreOfWhole words count taken [] = Unit {0}
AreOfWhole words count taken (head ∷ heads) =
    (head.words ≡ words) × (head.parts ≡ count) × AreDisjoint taken head.numbers
    × AreOfWhole words count (taken ++ head.numbers) heads

-- the heads of texts that are written
abbrev pub heads_in : (query : Query) (dimensions : DimRows) (digest : List ℕ) (parts : List (List LineOrder))
    (texts : List (List ℕ))
    → AreWritten query dimensions digest parts texts → List Head
heads_in query dimensions digest [] [] written = []
heads_in query dimensions digest [] (text ∷ texts) written = []
heads_in query dimensions digest (rows ∷ parts) [] written = []
heads_in query dimensions digest (rows ∷ parts) (text ∷ texts) written =
    written.0.head ∷ heads_in query dimensions digest parts texts written.1

-- Texts that are written of parts of one whole, one at least and no number in two of them, can be merged
abbrev pub WrittenTextsCanBeMerged : Type 0
WrittenTextsCanBeMerged = (query : Query) (dimensions : DimRows) (digest : List ℕ) (words : List Word) (count : ℕ)
    (rows : List LineOrder)
    (parts : List (List LineOrder)) (text : List ℕ) (texts : List (List ℕ))
    → IsDigest digest → (written : AreWritten query dimensions digest (rows ∷ parts) (text ∷ texts))
    → AreOfWhole words count [] (heads_in query dimensions digest (rows ∷ parts) (text ∷ texts) written)
    → CanMerge (text ∷ texts)

-- From bytes on: where texts that are written of parts of the rows are merged, what is finished is the answer over all
-- rows, whatever the layout
abbrev pub MergedTextsAreTheAnswer : Type 0
MergedTextsAreTheAnswer = (query : Query) (dimensions : DimRows) (digest : List ℕ) (parts : List (List LineOrder))
    (texts : List (List ℕ)) (whole : Part)
    → IsDigest digest → AreWritten query dimensions digest parts texts → IsMerged texts whole
    → (whole.query ≡ query)
    × ((layout : Layout) → finished_for layout whole.query whole.answer ≡ answer (query_for layout query) dimensions
    (all_rows parts))

-- and it can be finished where the sums of all rows are in range, so that one warehouse takes them
abbrev pub MergedTextsCanBeFinished : Type 0
MergedTextsCanBeFinished = (query : Query) (dimensions : DimRows) (digest : List ℕ) (parts : List (List LineOrder))
    (texts : List (List ℕ)) (whole : Part)
    → IsDigest digest → AreWritten query dimensions digest parts texts → IsMerged texts whole
    → AreInRange (all_rows parts) → length (all_rows parts) < 2 ^ 63 → CanBeFinished whole.answer
