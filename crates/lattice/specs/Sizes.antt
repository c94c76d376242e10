-- How many cells a view can have (Harinarayan, Rajaraman and Ullman 1996): no more than there are fact rows, and no
-- more than there are choices of a member of each of its levels.
use Rattle.std.specs.Prelude.{ℕ, ◌*◌, min, Bool, true, false, List, Option, Some, None}
use Rattle.std.specs.Option.{is_some}
use Rattle.lattice.specs.declared.counts.Counts.{Counts}
use Rattle.lattice.specs.declared.counts.LevelCounts.{LevelCounts}
use Rattle.lattice.specs.declared.level.Level.{Level}
use Rattle.lattice.specs.declared.level.Level.TheVariants.{Lowest, Middle, Highest, All}
use Rattle.lattice.specs.declared.view.View.{View}
use Rattle.lattice.specs.Views.{lattice}

-- the members of a level. ALL is one
abbrev pub members_at : LevelCounts → Level → ℕ
members_at counts Lowest = counts.lowest
members_at counts Middle = counts.middle
members_at counts Highest = counts.highest
members_at counts All = 1

-- the ship modes by which a view groups, if it does
abbrev pub mode_count : Option ℕ → Bool → ℕ
mode_count (Some count) true = count
mode_count (Some count) false = 1
mode_count None grouped = 1

-- the choices of a member of each level of a view
abbrev pub choices_of : Counts → View → ℕ
choices_of counts view =
    members_at counts.customer view.customer * (members_at counts.supplier view.supplier
    * (members_at counts.part view.part *
    (members_at counts.date view.date * mode_count counts.ship_modes view.ship_mode)))

-- the most cells of a view
abbrev pub size_of : ℕ → Counts → View → ℕ
size_of rows counts view = min rows (choices_of counts view)

-- the lattice of the counts: ship mode is an axis where they count ship modes
abbrev pub lattice_of : Counts → List View
lattice_of counts = lattice (is_some counts.ship_modes)
