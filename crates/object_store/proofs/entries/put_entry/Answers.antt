use Rattle.std.proofs.Common.{List, ◌∙◌, sym, subst}
use Rattle.object_store.specs.declared.catalogue.entry.Entry.{Entry}
use Rattle.object_store.specs.Entries.{IsPlace, IsEntryAt, IsMissing}
use Rattle.object_store.proofs.EntriesLemmas.{put_again, put_new}
use Rattle.object_store.proofs.entries.put_entry.Goals as goal

pub returns-in-Ok-clause-ok : goal.returns-in-Ok-clause-ok
returns-in-Ok-clause-ok c =
    let items = c.args.entries.now.items in
    let at : IsPlace items c.args.entry.id c.in-Ok.place =
    subst (λ (l : List Entry). IsPlace l c.args.entry.id c.in-Ok.place) c.deref.ensures.value
    c.in-Ok.ensures.place in
    let there : IsEntryAt items c.args.entry.id c.in-Ok.place =
    subst (λ (l : List Entry). IsEntryAt l c.args.entry.id c.in-Ok.place) c.deref.ensures.value
    c.in-Ok.ensures.found in
    sym (put_again (λ (e : Entry). e.id) c.args.entry items c.in-Ok.place at there.0 there.1)

pub returns-in_ok-insert-in-Err-clause-ok : goal.returns-in_ok-insert-in-Err-clause-ok
returns-in_ok-insert-in-Err-clause-ok c =
    let items = c.args.entries.now.items in
    let at : IsPlace items c.args.entry.id c.in-Err.place =
    subst (λ (l : List Entry). IsPlace l c.args.entry.id c.in-Err.place) c.deref.ensures.value
    c.in-Err.ensures.place in
    let none : IsMissing items c.args.entry.id =
    subst (λ (l : List Entry). IsMissing l c.args.entry.id) c.deref.ensures.value c.in-Err.ensures.missing in
    c.in_ok-insert-in-Err.ensures.items
    ∙ sym (put_new (λ (e : Entry). e.id) c.args.entry items c.in-Err.place at
    (λ d less. none c.in-Err.place d less))
