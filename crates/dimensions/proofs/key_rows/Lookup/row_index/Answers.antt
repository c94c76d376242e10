use Rattle.std.proofs.Common.{nat_eq}
use Rattle.std.specs.HashMap.{get}
use Rattle.dimensions.specs.RowIndexes.{row_entered}
use Rattle.dimensions.proofs.KeyLaws.{row_or_len}
use Rattle.dimensions.proofs.key_rows.Lookup.row_index.Goals as goal

pub returns-in-Direct : goal.returns-in-Direct
returns-in-Direct c =
    let found = row_or_len (row_entered c.in-Direct.first c.in-Direct.entries.items) c.args.keys.now c.args.key
    (rw c.in-Direct.is at c.requires) in
    cc c.as_slice.ensures.value

pub returns-in-Hashed : goal.returns-in-Hashed
returns-in-Hashed c =
    let found = row_or_len (get nat_eq c.in-Hashed.rows) c.args.keys.now c.args.key (rw c.in-Hashed.is at c.requires) in
    cc c.get.ensures.value
