use Rattle.std.proofs.Common.{List, ℕ, map, subst, sym}
use Rattle.std.specs.List.{flat_map}
use Rattle.column_segment.specs.Coding.{AreCoded}
use Rattle.column_segment.specs.Columns.{text_of}
use Rattle.column_segment.specs.declared.columns.TextColumn.TheVariants.{ShipMode}
use Rattle.column_segment.proofs.coding.Texts.ship_modes.Goals as goal

pub returns : goal.returns
returns c = λ rows have. c.coded_column.ensures (map (text_of ShipMode) rows)
    (subst (λ (l : List (List ℕ)). AreCoded (map (text_of ShipMode) rows) c.args.self.now.shipmode.texts
    (flat_map (λ code. code) l)) (sym c.deref.ensures.value) have.shipmode)
