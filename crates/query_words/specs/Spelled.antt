-- Columns as they are named, and a condition that a query may have, and one after its sign. Our own.
use Rattle.std.specs.Prelude.{◌≡◌, ℕ, List, [], map, Option, None, Some}
use Rattle.cube_model.specs.declared.query.Cond.TheVariants as conds
use Rattle.cube_model.specs.Proper.{IsFitCondition}
use Rattle.mode_queries.specs.declared.query.ModeCond.TheVariants as modes
use Rattle.mode_queries.specs.Proper.{IsFitModeCondition}
use Rattle.query_words.specs.declared.cube_parts.Condition.{Condition}
use Rattle.query_words.specs.declared.cube_parts.Condition.TheVariants.{Dimension, Modes}
use Rattle.query_words.specs.declared.known.Column.{Column}
use Rattle.query_words.specs.declared.known.Column.TheVariants.{Attribute, ShipMode}
use Rattle.query_words.specs.declared.known.Subject.{Subject}
use Rattle.query_words.specs.Known.{column_name, subject_name}
use Rattle.query_words.specs.Words.{condition_name, condition_sign, parts_by, SpellsCondition, SpellsMembers}

-- columns in the order of their names, which are separated by commas (44), and none where there is no word
abbrev pub AreNamed : Option (List ℕ) → List Column → Type 0
AreNamed None columns = columns ≡ []
AreNamed (Some text) columns = map column_name columns ≡ parts_by 44 text

-- conditions on what can be a column
abbrev pub one_of : Column → List (List ℕ) → Condition
one_of (Attribute attr) texts = Dimension (conds.OneOf attr texts)
one_of ShipMode texts = Modes (modes.OneOf texts)

abbrev pub between : Column → List ℕ → List ℕ → Condition
between (Attribute attr) low high = Dimension (conds.Between attr low high)
between ShipMode low high = Modes (modes.Between low high)

-- a query may have a condition
abbrev pub IsFit : Condition → Type 0
IsFit (Dimension condition) = IsFitCondition condition
IsFit (Modes condition) = IsFitModeCondition condition

-- a word spells a condition that a query may have
abbrev pub SpellsFit : List ℕ → Condition → Type 0
SpellsFit word condition = SpellsCondition word condition × IsFit condition

-- what is after a sign spells such a condition on something
pub record SpellsAfter (subject : Subject) (sign : ℕ) (members : List ℕ) (condition : Condition) : Type 0 where
  pub name_is : condition_name condition ≡ subject_name subject
  pub sign_is : condition_sign condition ≡ sign
  pub spelled : SpellsMembers members condition
  pub fit : IsFit condition
