use Rattle.std.proofs.Common.{◌∙◌, w32, []}
use Rattle.std.specs.Int.{from_le_bytes}
use Rattle.group_tallies.proofs.Lists.{number_at_place}
use Rattle.cube_query.proofs.column_rows.number_at.Goals as goal

pub returns-then-place-column : goal.returns-then-place-column
returns-then-place-column c = λ number rows same h.
    c.from_le_bytes.ensures ∙ number_at_place (from_le_bytes w32) c.args.column.now number rows c.args.place [] same h
