use Rattle.std.proofs.Common.{[], arith}
use Rattle.query_words.specs.Mistakes.{IsConditionMistake}
use Rattle.query_words.specs.Spelled.{SpellsFit}
use Rattle.query_words.proofs.Listed.{zip_more, zip_stops}
use Rattle.query_words.proofs.conditions.read_conditions.Goals as goal

pub returns-in_err-condition : goal.returns-in_err-condition
returns-in_err-condition c =
    zip_stops SpellsFit IsConditionMistake (λ word. word.now) c.args.words.now c.loop-word.word-index
    (record { ref_ptr = (0, 0); now = [] }) c.in_err-condition.field-0.0 c.from_residual.result
    (omega arith) c.from_residual.ensures.1 c.in_err-condition.ensures

pub loop-word-preserved : goal.loop-word-preserved
loop-word-preserved c =
    rw (c.in_ok-push.ensures.ok) (zip_more SpellsFit (λ word. word.now) c.args.words.now c.loop-word.word-index
    (record { ref_ptr = (0, 0); now = [] }) c.in_ok-condition.condition c.loop-word.conditions
    (omega arith) c.loop-word.invariant c.in_ok-condition.ensures)
