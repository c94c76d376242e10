use Rattle.std.proofs.Common.{List, ◌∙◌, sym, subst}
use Rattle.object_store.specs.declared.catalogue.entry.Entry.{Entry}
use Rattle.object_store.specs.Entries.{IsPlace, IsEntryAt, IsMissing}
use Rattle.object_store.proofs.EntriesLemmas.{drop_one, drop_none, only_there}
use Rattle.object_store.proofs.entries.drop_entry.Goals as goal

pub returns-in-Ok : goal.returns-in-Ok
returns-in-Ok c =
    let items = c.args.entries.now.items in
    let at : IsPlace items c.args.id c.in-Ok.place =
    subst (λ (l : List Entry). IsPlace l c.args.id c.in-Ok.place) c.deref.ensures.value c.in-Ok.ensures.place in
    let there : IsEntryAt items c.args.id c.in-Ok.place =
    subst (λ (l : List Entry). IsEntryAt l c.args.id c.in-Ok.place) c.deref.ensures.value c.in-Ok.ensures.found in
    c.remove.ensures.items
    ∙ sym (drop_one (λ (e : Entry). e.id) c.args.id items c.in-Ok.place there.0 there.1
    (only_there (λ (e : Entry). e.id) c.args.id items c.in-Ok.place c.requires at))

pub returns-in_default : goal.returns-in_default
returns-in_default c =
    sym (drop_none (λ (e : Entry). e.id) c.args.id c.args.entries.now.items
    (subst (λ (l : List Entry). IsMissing l c.args.id) c.deref.ensures.value c.in_default.ensures.missing))
