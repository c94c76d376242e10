use Rattle.std.proofs.Common.{◌∙◌, ap, inl, inr}
use Rattle.std.proofs.lemmas.Result.{IfErr-weaker, IfOk-weaker}
use Rattle.journal_device.specs.Calls.{journal_of}
use Rattle.c_library.proofs.loading.load.Goals as goal

pub returns-clause-loads : goal.returns-clause-loads
returns-clause-loads c = IfOk-weaker c.journal_of.result _ _
    (λ journal is.
    (c.in_ok-calls.calls.items, is ∙ ap journal_of c.as_slice.ensures.value, c.in_ok-calls.ensures.loads))
    c.journal_of.ensures.ok

pub returns-clause-refused : goal.returns-clause-refused
returns-clause-refused c = IfErr-weaker c.journal_of.result _ _ (λ fault memory facts holds. inr (inl memory))
    c.journal_of.ensures.err
