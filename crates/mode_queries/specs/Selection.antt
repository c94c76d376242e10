-- The conditions of a query on ship modes, and the fact rows of which all its conditions hold.
use Rattle.std.specs.Prelude.{ℕ, Bool, ◌&&◌, List}
use Rattle.std.specs.List.{filter, list_any, list_all}
use Rattle.std.specs.Str.{bytes_eq}
use Rattle.cube_model.specs.declared.rows.DimRows.{DimRows}
use Rattle.cube_model.specs.declared.rows.LineOrder.{LineOrder}
use Rattle.cube_model.specs.Selection.{is_selected, text_le}
use Rattle.mode_queries.specs.declared.query.ModeCond.{ModeCond}
use Rattle.mode_queries.specs.declared.query.ModeCond.TheVariants.{OneOf, Between}
use Rattle.mode_queries.specs.declared.query.ModeQuery.{ModeQuery}

-- a condition holds of a ship mode
abbrev pub holds_of_mode : List ℕ → ModeCond → Bool
holds_of_mode mode (OneOf texts) = list_any (λ text. bytes_eq text mode) texts
holds_of_mode mode (Between low high) = text_le low mode && text_le mode high

-- all conditions on ship modes hold of one
abbrev pub passes_modes : List ModeCond → List ℕ → Bool
passes_modes conditions mode = list_all (holds_of_mode mode) conditions

-- all conditions of a query hold of a fact row
abbrev pub is_chosen : DimRows → ModeQuery → LineOrder → Bool
is_chosen dimensions asked row =
    is_selected dimensions asked.query.conditions row && passes_modes asked.conditions row.shipmode

-- the fact rows of which they hold
abbrev pub chosen : DimRows → ModeQuery → List LineOrder → List LineOrder
chosen dimensions asked rows = filter (is_chosen dimensions asked) rows
