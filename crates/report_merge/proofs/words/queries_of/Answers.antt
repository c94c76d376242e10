use Rattle.std.proofs.Common.{◌∙◌, ap}
use Rattle.partial_reports.specs.Parts.{partial_query}
use Rattle.report_merge.proofs.Given.{one_query}
use Rattle.query_words.proofs.Once.{spell_one_query}
use Rattle.report_merge.proofs.words.queries_of.Goals as goal

pub returns-clause-partial : goal.returns-clause-partial
returns-clause-partial c =
    c.in_ok-partial.ensures.ok
    ∙ ap partial_query
    (one_query spell_one_query c.args.words.now c.in_ok-again.again c.in_ok-query.query
    c.in_ok-again.ensures.ok c.in_ok-query.ensures.ok)

pub returns-clause-one : goal.returns-clause-one
returns-clause-one c = λ other spells. one_query spell_one_query c.args.words.now other
    c.in_ok-query.query spells c.in_ok-query.ensures.ok
