use Rattle.std.proofs.Common.{◌≡◌, Result, Ok, Err}
use Rattle.std.specs.Prelude.{IfOk}
use Rattle.cube_model.specs.declared.fault.Fault.{Fault}
use Rattle.mode_queries.specs.declared.query.ModeQuery.{ModeQuery}
use Rattle.query_words.specs.Given.{words_of}
use Rattle.query_words.specs.Words.{SpellsQuery, Words}
use Rattle.report_formats.specs.declared.asked.Asked.{Asked}
use Rattle.report_formats.specs.declared.layout.Layout.{Layout}
use Rattle.report_formats.specs.Asked.{asked_for}
use Rattle.c_library.specs.Words.{IsReportOf}
use Rattle.c_library.proofs.asking.asked_in.Goals as goal

is_report : (words : Words) (layout : Layout) (query : ModeQuery) (result : Result Asked Fault)
    → SpellsQuery words query → IfOk result (λ asked. asked ≡ asked_for layout query)
    → IfOk result (IsReportOf words layout)
is_report words layout query (Ok asked) spelled is = (query, spelled, is)
is_report words layout query (Err fault) spelled is = tt

pub returns-in-Ok-clause-ok : goal.returns-in-Ok-clause-ok
returns-in-Ok-clause-ok c =
    is_report (words_of c.args.words.now) c.args.layout c.in-Ok.query c.new.result c.in-Ok.ensures.0 c.new.ensures.ok
