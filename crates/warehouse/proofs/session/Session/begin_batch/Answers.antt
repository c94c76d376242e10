use Rattle.std.proofs.lemmas.Result.{IfOk-weaker}
use Rattle.warehouse.proofs.session.Session.begin_batch.Goals as goal

pub returns-clause-ok : goal.returns-clause-ok
returns-clause-ok g c = IfOk-weaker c.after.result _ _ (λ batch grown. grown c.args.self.now.dims.value)
    c.after.ensures.ok
