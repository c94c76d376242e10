use Rattle.dictionary.proofs.Read.{each_more, handed_on, none_more}
use Rattle.dictionary.proofs.reading.read_texts.Goals as goal

pub loop-preserved : goal.loop-preserved
loop-preserved c = each_more _ _ _ _ _ _ _ c.loop.invariant c.in_ok-read_text.ensures.ok

pub returns-in_err-read_text-clause-refused : goal.returns-in_err-read_text-clause-refused
returns-in_err-read_text-clause-refused c =
    handed_on _ _ _ _ c.from_residual.ensures.1 (none_more c.args.count _ _ _ _ _ c.loop.invariant c.loop-test.true)
    c.in_err-read_text.ensures.refused
