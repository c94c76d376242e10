use Rattle.std.proofs.Common.{sym, subst}
use Rattle.std.proofs.lemmas.Result.{IfOk-weaker}
use Rattle.cube_model.specs.declared.rows.DimRows.{DimRows}
use Rattle.warehouse_root.specs.Root.{PlainRoot}
use Rattle.warehouse_objects.specs.Represents.{HasModes}
use Rattle.warehouse_objects.proofs.CallerLemmas.{modes_one}
use Rattle.warehouse.specs.Growing.{IsGrown}
use Rattle.warehouse.specs.Session.{content_of}
use Rattle.warehouse.proofs.session.Session.prepared_batch.Goals as goal

pub returns-clause-ready : goal.returns-clause-ready
returns-clause-ready g c = IfOk-weaker c.prepared.result _ _ (λ p ready rows. ready c.args.self.now.dims.value rows)
    c.prepared.ensures.ready

pub returns-clause-model : goal.returns-clause-model
returns-clause-model g c = λ w rows at grown k.
    let s = c.args.self.now in
    let content = content_of g.D.Sectors s in
    let agree = c.can_put.ensures.agrees w at k in
    let loaded = s.loaded at.fine k in
    c.prepared.ensures.model w rows agree.root_is
    (modes_one content w s.modes (at.represents k)
    (subst (λ (r : PlainRoot). HasModes content r.layout s.modes) (sym agree.root_is) loaded.has_modes)
    loaded.are_modes)
    (subst (λ (dims : DimRows). IsGrown dims s.root rows c.args.batch.now) (sym agree.rows_are) grown)
