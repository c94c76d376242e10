use Rattle.std.proofs.Common.{sym}
use Rattle.object_store.specs.declared.catalogue.entry.Entry.{Entry}
use Rattle.object_store.proofs.EntriesLemmas.{find_at, find_none}
use Rattle.object_store.proofs.entries.find.Goals as goal

pub returns-in-Ok : goal.returns-in-Ok
returns-in-Ok c =
    sym (find_at (λ (e : Entry). e.id) c.args.id c.args.entries.now c.in-Ok.place
    (record { id = 0; first = 0; bytes = 0 }) (c.in-Ok.ensures.found).0
    ((c.in-Ok.ensures.found).1 (record { id = 0; first = 0; bytes = 0 })) (c.in-Ok.ensures.place).1)

pub returns-in-Err : goal.returns-in-Err
returns-in-Err c = sym (find_none (λ (e : Entry). e.id) c.args.id c.args.entries.now c.in-Err.ensures.missing)
