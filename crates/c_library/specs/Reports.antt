-- What the reports of the library are, and why there is none. Our own.
use Rattle.std.specs.Prelude.{◌≡◌, ◌⊎◌, ◌^◌, ◌≤ℤ◌, ℤ, pos, negsuc, ℕ, List, Option, None, Some}
use Rattle.cube_model.specs.declared.fault.Fault.{Fault}
use Rattle.cube_model.specs.declared.fault.Fault.TheVariants.{BadQuery, Memory, NoSuchPrefix}
use Rattle.c_library.specs.Answers.{AnswerRefuses, IsReportOver, IsNoDevice}
use Rattle.c_library.specs.Images.{HoldsWarehouse}
use Rattle.query_words.specs.Words.{Words}
use Rattle.report_formats.specs.Rows.{format_named}
use Rattle.report_formats.specs.declared.asked.Asked.{Asked}
use Rattle.report_formats.specs.declared.layout.Layout.{Layout}
use Rattle.c_library.specs.Words.{IsReportOf}
use Rattle.warehouse_objects.specs.Facts.{Facts}

-- over so many batches, or over all below 0
abbrev pub prefix_of : ℤ → Option ℕ
prefix_of (pos n) = Some n
prefix_of (negsuc n) = None

-- the report that words ask for in a format, with fractions
pub record AsksFor (words : Words) (format : List ℕ) (asked : Asked) : Type 0 where
  pub layout : Layout
  pub named : format_named format ≡ Some layout.format
  pub fractions : layout.decimals ≡ None
  pub spelled : IsReportOf words layout asked

-- a text is the report that words ask for, where the bytes of a file hold a warehouse
pub record IsReportFor (image : List ℕ) (words : Words) (format : List ℕ) (as_of : ℤ) (text : List ℕ) : Type 0 where
  pub asked : Asked
  pub asks : AsksFor words format asked
  pub answers : (facts : Facts) → HoldsWarehouse image facts → IsReportOver facts (prefix_of as_of) asked text

-- the report that words ask for is refused, where the bytes of a file hold a warehouse
pub record ReportIsRefused (image : List ℕ) (words : Words) (format : List ℕ) (as_of : ℤ) (fault : Fault) : Type 0 where
  pub asked : Asked
  pub asks : AsksFor words format asked
  pub refused : (facts : Facts) → HoldsWarehouse image facts → IsNoDevice image fault
      ⊎ AnswerRefuses facts (prefix_of as_of) asked fault

-- There is no memory, or the words ask for no report; no warehouse has so many batches; or the report is refused.
abbrev pub RefusesReport : List ℕ → Words → List ℕ → ℤ → Fault → Type 0
RefusesReport image words format as_of fault =
    ((fault ≡ Memory) ⊎ (fault ≡ BadQuery))
    ⊎ (((fault ≡ NoSuchPrefix) × (pos (2 ^ 32) ≤ℤ as_of)) ⊎ ReportIsRefused image words format as_of fault)
