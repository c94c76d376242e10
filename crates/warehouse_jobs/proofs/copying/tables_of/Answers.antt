use Rattle.std.proofs.Common.{◌∙◌}
use Rattle.std.proofs.lemmas.Result.{IfOk-weaker}
use Rattle.warehouse_jobs.proofs.copying.tables_of.Goals as goal

pub returns-clause-ok : goal.returns-clause-ok
returns-clause-ok g c = IfOk-weaker c.copied.result _ _ (λ dims is w from k. is ∙ c.dims.ensures w from k)
    c.copied.ensures.same
