use Rattle.std.proofs.Common.{◌∙◌, sym, refl, length, nat_eq}
use Rattle.std.specs.HashMap.{get}
use Rattle.dimensions.proofs.KeyLaws.{entry_pushed, rows_pushed}
use Rattle.dimensions.proofs.key_rows.Lookup.put.Goals as goal

pub returns-then-has_entry-clause-ok : goal.returns-then-has_entry-clause-ok
returns-then-has_entry-clause-ok c =
    entry_pushed c.args.keys.now c.args.key c.in-Direct.first c.in-Direct.entries.items
    (rw c.in-Direct.is at c.requires.finds) c.requires.new
    (rw c.as_slice.ensures.value at (sym c.has_entry.ensures ∙ c.if-has_entry.true))

pub returns-in-Hashed-clause-ok : goal.returns-in-Hashed-clause-ok
returns-in-Hashed-clause-ok c =
    rows_pushed c.args.keys.now c.args.key (length c.args.keys.now) (get nat_eq c.in-Hashed.rows)
    (get nat_eq c.insert.new.self) (rw c.in-Hashed.is at c.requires.finds) c.requires.new refl
    c.in_ok-insert-in-Hashed.ensures.updates.0

pub returns-clause-ok : goal.returns-clause-ok
returns-clause-ok c =
    rows_pushed c.args.keys.now c.args.key (length c.args.keys.now) (get nat_eq c.in_ok-rows.rows)
    (get nat_eq c.insert-2.new.self) c.in_ok-rows.ensures c.requires.new refl c.in_ok-insert.ensures.updates.0
