use Rattle.std.proofs.Common.{⊎_elim, inl, inr}
use Rattle.std.proofs.lemmas.Result.{IfErr-weaker, on_ok_weaker}
use Rattle.warehouse.proofs.SessionLemmas.{untouched}
use Rattle.warehouse.proofs.session.Session.submit.Goals as goal

pub returns-in-Err-clause-causes : goal.returns-in-Err-clause-causes
returns-in-Err-clause-causes g c cause w at k =
    ⊎_elim (λ refused. inl refused) (λ memory. inr (inl memory)) (c.in-Err.ensures.refused w at k)

pub returns-clause-ok : goal.returns-clause-ok
returns-clause-ok g c =
    on_ok_weaker c.submit_batch.result (λ then w at. then w c.args.rows.now at c.in-Ok.ensures.grows)
    c.submit_batch.ensures.ok

pub returns-clause-causes : goal.returns-clause-causes
returns-clause-causes g c =
    IfErr-weaker c.submit_batch.result _ _
    (λ fault causes cause w at k. causes cause w c.args.rows.now at c.in-Ok.ensures.grows k)
    c.submit_batch.ensures.causes

pub returns-clause-leaves : goal.returns-clause-leaves
returns-clause-leaves g c = λ w at. c.submit_batch.ensures.leaves w c.args.rows.now at c.in-Ok.ensures.grows

pub returns-in-Err-clause-refused : goal.returns-in-Err-clause-refused
returns-in-Err-clause-refused g c =
    untouched g.D.Sectors c.in-Err.fault c.args.self.now c.in-Err.ensures.leaves c.in-Err.ensures.failed
    c.in-Err.ensures.device
