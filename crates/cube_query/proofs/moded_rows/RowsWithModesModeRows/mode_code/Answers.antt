use Rattle.std.proofs.Common.{◌≡◌, ◌∙◌, ◌<◌, ap, length, map, subst, w16}
use Rattle.std.specs.Int.{from_le_bytes}
use Rattle.dictionary.specs.Columns.{text_of_code}
use Rattle.group_numbers.specs.Rows.{row_at}
use Rattle.cube_query.specs.ColumnRows.{ModedRows}
use Rattle.group_tallies.proofs.Lists.{text_at_place}
use Rattle.cube_query.proofs.moded_rows.RowsWithModesModeRows.mode_code.Goals as goal

pub returns-clause-text : goal.returns-clause-text
returns-clause-text c =
    let place = c.args.place in
    let own = c.self.inside in
    subst (λ (m : ModedRows). place < length m.rows
    → text_of_code m.modes c.from.result ≡ (row_at m.rows place).shipmode)
    c.self.view_is
    (λ h. ap (text_of_code own.modes.now.texts) (c.from.ensures ∙ c.code_at.ensures)
    ∙ text_at_place (text_of_code own.modes.now.texts) (map (from_le_bytes w16) own.codes.now) own.rows place
    c.self.invariant.texts h)
    c.requires
