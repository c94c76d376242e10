use Rattle.std.proofs.Common.{w64, to_z, of_z, to_z-of_z, ◌≡◌, ◌∙◌, ap}
use Rattle.std.proofs.lemmas.Result.{IfErr-weaker, IfOk-weaker}
use Rattle.c_library.specs.Reports.{prefix_of}
use Rattle.c_library.proofs.ReportsLemmas.{refuses, reports}
use Rattle.c_library.specs.Words.{benchmark_words}
use Rattle.c_library.proofs.reports.benchmark_report.Goals as goal

pub returns-clause-ok : goal.returns-clause-ok
returns-clause-ok c =
    let exact : to_z w64 (of_z w64 c.args.as_of) ≡ c.args.as_of = to_z-of_z c.ranges.as_of in
    IfOk-weaker c.answer.result _ _
    (λ text has. reports c.args.image.now (benchmark_words c.args.number.now) c.args.format.now c.args.as_of
    c.in_ok-prefix.prefix c.in_ok-layout.layout c.in_ok-asked.asked (c.in_ok-prefix.ensures.ok ∙ ap prefix_of exact)
    c.in_ok-layout.ensures.ok c.in_ok-asked.ensures.ok text.items has)
    c.answer.ensures.answers

pub returns-clause-refused : goal.returns-clause-refused
returns-clause-refused c =
    let exact : to_z w64 (of_z w64 c.args.as_of) ≡ c.args.as_of = to_z-of_z c.ranges.as_of in
    IfErr-weaker c.answer.result _ _
    (λ fault why. refuses c.args.image.now (benchmark_words c.args.number.now) c.args.format.now c.args.as_of
    c.in_ok-prefix.prefix c.in_ok-layout.layout c.in_ok-asked.asked (c.in_ok-prefix.ensures.ok ∙ ap prefix_of exact)
    c.in_ok-layout.ensures.ok c.in_ok-asked.ensures.ok fault why)
    c.answer.ensures.refused
