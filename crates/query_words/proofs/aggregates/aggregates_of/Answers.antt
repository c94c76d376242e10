use Rattle.std.proofs.Common.{[], arith}
use Rattle.query_words.specs.Mistakes.{IsAggregateMistake}
use Rattle.query_words.specs.Words.{SpellsAggregate}
use Rattle.query_words.proofs.Listed.{zip_more, zip_stops}
use Rattle.query_words.proofs.aggregates.aggregates_of.Goals as goal

pub returns-in_err-agg : goal.returns-in_err-agg
returns-in_err-agg c = zip_stops SpellsAggregate IsAggregateMistake (λ word. word.now) c.args.words.now
    c.loop-word.word-index
    (record { ref_ptr = (0, 0); now = [] }) c.in_err-agg.field-0.0 c.from_residual.result (omega arith)
    c.from_residual.ensures.1
    c.in_err-agg.ensures

pub loop-word-preserved : goal.loop-word-preserved
loop-word-preserved c =
    rw (c.in_ok-push.ensures.ok) (zip_more SpellsAggregate (λ word. word.now) c.args.words.now c.loop-word.word-index
    (record { ref_ptr = (0, 0); now = [] }) c.in_ok-agg.agg c.loop-word.aggregates (omega arith) c.loop-word.invariant
    c.in_ok-agg.ensures)
