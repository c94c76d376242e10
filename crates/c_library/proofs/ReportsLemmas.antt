-- What a report over the bytes of a file is, from the parts of what is asked.
use Rattle.std.proofs.Common.{◌≡◌, ◌⊎◌, inr, ℤ, ℕ, List, Option, Some, None, subst}
use Rattle.cube_model.specs.declared.fault.Fault.{Fault}
use Rattle.c_library.specs.Reports.{AsksFor, RefusesReport, IsReportFor, prefix_of}
use Rattle.c_library.specs.Answers.{AnswerRefuses, IsReportOver, IsNoDevice}
use Rattle.c_library.specs.Images.{HoldsWarehouse}
use Rattle.query_words.specs.Words.{Words}
use Rattle.report_formats.specs.Rows.{format_named}
use Rattle.report_formats.specs.declared.asked.Asked.{Asked}
use Rattle.report_formats.specs.declared.layout.Layout.{Layout}
use Rattle.c_library.specs.Words.{IsReportOf}
use Rattle.warehouse_objects.specs.Facts.{Facts}

module _ (image : List ℕ) (words : Words) (format : List ℕ) (as_of : ℤ) (prefix : Option ℕ) (layout : Layout)
    (asked : Asked)
    (over : prefix ≡ prefix_of as_of) (named : (format_named format ≡ Some layout.format) × (layout.decimals ≡ None))
    (spelled : IsReportOf words layout asked) where
  asks : AsksFor words format asked
  asks = record { layout = layout; named = named.0; fractions = named.1; spelled = spelled }

  pub reports : (text : List ℕ) → ((facts : Facts) → HoldsWarehouse image facts → IsReportOver facts prefix asked text)
      → IsReportFor image words format as_of text
  reports text answers =
      record {
        asked = asked;
        asks = asks;
        answers = λ facts holds. subst (λ (p : Option ℕ). IsReportOver facts p asked text)
            over (answers facts holds);
      }

  pub refuses : (fault : Fault)
      → ((facts : Facts) → HoldsWarehouse image facts → IsNoDevice image fault ⊎ AnswerRefuses facts prefix asked fault)
      → RefusesReport image words format as_of fault
  refuses fault why =
      inr (inr (record {
        asked = asked;
        asks = asks;
        refused = λ facts holds. subst (λ (p : Option ℕ). IsNoDevice image fault ⊎ AnswerRefuses facts p asked fault)
            over (why facts holds);
      }))
