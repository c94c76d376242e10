use Rattle.std.proofs.Common.{inl, inr, ⊎_elim}
use Rattle.std.proofs.lemmas.Result.{IfErr-weaker, on_ok_weaker}
use Rattle.warehouse.proofs.SessionLemmas.{fine_before, untouched}
use Rattle.warehouse.proofs.session.Session.add.Goals as goal

pub returns-in-Err-clause-causes : goal.returns-in-Err-clause-causes
returns-in-Err-clause-causes g c cause w at k =
    ⊎_elim (λ refused. inl refused) (λ memory. inr (inl memory)) (c.in-Err.ensures.refused w at k)

pub returns-clause-leaves : goal.returns-clause-leaves
returns-clause-leaves g c =
    λ w at. c.put_wider.ensures.leaves w c.args.number c.args.rows.now (c.in-Ok.ensures.ready w at)

pub returns-clause-ok : goal.returns-clause-ok
returns-clause-ok g c =
    on_ok_weaker c.put_wider.result (λ then w at. then w c.args.number c.args.rows.now (c.in-Ok.ensures.ready w at))
    c.put_wider.ensures.ok

pub returns-clause-causes : goal.returns-clause-causes
returns-clause-causes g c =
    IfErr-weaker c.put_wider.result _ _
    (λ fault causes cause w at k. causes cause w c.args.number c.args.rows.now (c.in-Ok.ensures.ready w at) k)
    c.put_wider.ensures.causes

pub returns-in-Err-clause-refused : goal.returns-in-Err-clause-refused
returns-in-Err-clause-refused g c =
    untouched g.D.Sectors c.in-Err.fault c.args.self.now c.in-Err.ensures.leaves c.in-Err.ensures.failed
    c.in-Err.ensures.device

pub returns-clause-refused : goal.returns-clause-refused
returns-clause-refused g c =
    fine_before g.D.Sectors c.put_wider.result c.args.self.now c.put_wider.new.self c.in-Ok.ensures.fine
    (IfErr-weaker c.put_wider.result _ _
    (λ fault as_before cause w at. as_before cause w c.args.number c.args.rows.now (c.in-Ok.ensures.ready w at))
    c.put_wider.ensures.refused)
    c.put_wider.ensures.kept c.put_wider.ensures.failed c.put_wider.ensures.device c.put_wider.ensures.word
