use Rattle.std.proofs.Common.{◌≡◌, List, None, sym, ◌∙◌, ap}
use Rattle.object_store.specs.declared.catalogue.entry.Entry.{Entry}
use Rattle.object_store.specs.Commit.{find_by}
use Rattle.object_store.proofs.Contents.{bytes_none}
use Rattle.object_store.proofs.store.Store.get.Goals as goal

pub returns-in_default-clause-found : goal.returns-in_default-clause-found
returns-in_default-clause-found g c w =
    let store = c.args.self.now in
    let found : find_by (λ (x : Entry). x.id) c.args.id store.entries.items ≡ None =
    ap (λ (l : List Entry). find_by (λ x. x.id) c.args.id l) (sym c.deref.ensures.value) ∙ sym c.find.ensures
    ∙ c.in_default.is in
    sym (bytes_none (g.D.Sectors.state store.device).reads store.entries.items c.args.id found)
