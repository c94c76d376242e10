-- The query of the parts that words spell: the ship mode is apart from its other columns and conditions.
use Rattle.std.specs.Prelude.{Bool, true, false, List, [], ◌∷◌, None}
use Rattle.std.specs.List.{flat_map, position}
use Rattle.cube_model.specs.declared.attr.Attr.{Attr}
use Rattle.cube_model.specs.declared.query.Cond.{Cond}
use Rattle.mode_queries.specs.declared.query.ModeCond.{ModeCond}
use Rattle.mode_queries.specs.declared.query.ModeQuery.{ModeQuery}
use Rattle.query_words.specs.declared.cube_parts.Condition.{Condition}
use Rattle.query_words.specs.declared.cube_parts.Condition.TheVariants.{Dimension, Modes}
use Rattle.query_words.specs.declared.cube_parts.CubeParts.{CubeParts}
use Rattle.query_words.specs.declared.known.Column.{Column}
use Rattle.query_words.specs.declared.known.Column.TheVariants.{Attribute, ShipMode}

-- a column is the ship mode, or else an attribute
abbrev pub is_ship_mode : Column → Bool
is_ship_mode (Attribute attr) = false
is_ship_mode ShipMode = true

abbrev pub attribute_in : Column → List Attr
attribute_in (Attribute attr) = attr ∷ []
attribute_in ShipMode = []

-- a condition is on the ship mode, or else on something of a query without ship modes
abbrev pub dimensions_in : Condition → List Cond
dimensions_in (Dimension condition) = condition ∷ []
dimensions_in (Modes condition) = []

abbrev pub mode_conditions_in : Condition → List ModeCond
mode_conditions_in (Dimension condition) = []
mode_conditions_in (Modes condition) = condition ∷ []

abbrev pub query_of_parts : CubeParts → ModeQuery
query_of_parts parts = record {
  query = record {
    kind = parts.kind;
    columns = flat_map attribute_in parts.columns;
    conditions = flat_map dimensions_in parts.conditions;
    aggregates = parts.aggregates;
    order = None;
  };
  place = position is_ship_mode parts.columns;
  conditions = flat_map mode_conditions_in parts.conditions;
}
