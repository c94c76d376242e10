use Rattle.std.proofs.Common.{◌++◌, sym, subst}
use Rattle.std.proofs.lemmas.Result.{on_ok_weaker}
use Rattle.cube_model.specs.declared.rows.DimRows.{DimRows}
use Rattle.warehouse.specs.Growing.{IsGrown}
use Rattle.warehouse.proofs.session.Session.add_rows.Goals as goal

pub returns-clause-ok : goal.returns-clause-ok
returns-clause-ok g c =
    let root = c.args.self.now.root in
    on_ok_weaker c.push.result (λ grown before was.
    subst (λ (dims : DimRows). IsGrown dims root (before ++ c.args.rows.now) c.push.new.self) c.deref.ensures
    (grown root before
    (subst (λ (dims : DimRows). IsGrown dims root before c.args.batch.now) (sym c.deref.ensures) was)))
    c.push.ensures.ok
