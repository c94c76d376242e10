-- What the definitions mean, in words that do not compute. Each is proved as the contract of a function.
use Rattle.std.specs.Prelude.{◌≡◌, ◌↔◌, ◌<◌, true, IsTrue, Some, slice_get, length, ℕ, List, ◌≤◌, ◌^◌}
use Rattle.cube_model.specs.declared.attr.Attr.{Attr}
use Rattle.cube_model.specs.declared.query.Query.{Query}
use Rattle.cube_model.specs.declared.rows.DimRows.{DimRows}
use Rattle.cube_model.specs.Attributes.{axis_of, attribute_at}
use Rattle.cube_model.specs.Validity.{IsValid}
use Rattle.lattice.specs.declared.level.Level.{Level}
use Rattle.lattice.specs.declared.view.View.{View}
use Rattle.lattice.specs.Determined.{highest_level, member_at, Serves}
use Rattle.lattice.specs.Levels.{height}
use Rattle.lattice.specs.Views.{Answers, answers, index_of, lattice}

-- answering is a partial order, and the test tells it
pub record AnsweringIsAPartialOrder : Type 0 where
  pub itself : (view : View) → Answers view view
  pub through : (view between other : View) → Answers view between → Answers between other → Answers view other
  pub both_ways : (view other : View) → Answers view other → Answers other view → view ≡ other
  pub decided : (view other : View) → IsTrue (answers view other) ↔ Answers view other

-- a view's number is its place in the lattice, and no two views have one number
pub record IndexesNameViews : Type 0 where
  pub place : (view : View) → slice_get (lattice true) (index_of view) ≡ Some view
  pub below : (view : View) → index_of view < length (lattice true)
  pub one_view : (view other : View) → index_of view ≡ index_of other → view ≡ other

-- a view that answers another serves each query that the other serves
abbrev pub ServingGoesDown : Type 0
ServingGoesDown = (view other : View) (query : Query) → Answers view other → Serves other query → Serves view query

-- The hierarchy is that of the rows: in valid dimension rows, where two keys have one member at a level, they have one
-- value of each attribute that the table gives to the level.
abbrev pub LevelsDetermine : Type 0
LevelsDetermine = (dimensions : DimRows) (attr : Attr) (level : Level) (key other : ℕ) (member : List ℕ)
    → IsValid dimensions → key < 2 ^ 32 → other < 2 ^ 32 → height level ≤ height (highest_level attr)
    → member_at dimensions (axis_of attr) level key ≡ Some member
    → member_at dimensions (axis_of attr) level other ≡ Some member
    → attribute_at dimensions (axis_of attr) key attr ≡ attribute_at dimensions (axis_of attr) other attr
