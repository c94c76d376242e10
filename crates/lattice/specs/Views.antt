-- The views of a cube, and the lattice that they form (Harinarayan, Rajaraman and Ullman 1996): a view groups the fact
-- rows by one level of each axis, and by their ship mode or not. The numbers of views are our own.
use Rattle.std.specs.Prelude.{ℕ, ◌+◌, ◌*◌, ◌≤◌, Bool, true, false, ◌&&◌, not, ◌||◌, nat_le, IsTrue, List, ◌++◌, map}
use Rattle.std.specs.List.{flat_map}
use Rattle.cube_model.specs.declared.attr.Axis.{Axis}
use Rattle.cube_model.specs.declared.attr.Axis.TheVariants.{Customer, Supplier, Part, Date}
use Rattle.lattice.specs.declared.level.Level.{Level}
use Rattle.lattice.specs.declared.view.View.{View}
use Rattle.lattice.specs.Levels.{height, levels}

-- the level of an axis by which a view groups
abbrev pub level_on : Axis → View → Level
level_on Customer view = view.customer
level_on Supplier view = view.supplier
level_on Part view = view.part
level_on Date view = view.date

-- the number of a view: the heights of its levels as digits of base four, and 256 more where it groups by ship mode
abbrev pub mode_number : Bool → ℕ
mode_number false = 0
mode_number true = 256

abbrev pub index_of : View → ℕ
index_of view =
    mode_number view.ship_mode
    + (64 * height view.customer + (16 * height view.supplier + (4 * height view.part + height view.date)))

-- A view answers another, that is, the cells of the one tell those of the other: it groups each axis as finely or
-- finer, and by ship mode where the other does.
pub record Answers (view other : View) : Type 0 where
  pub customer : height view.customer ≤ height other.customer
  pub supplier : height view.supplier ≤ height other.supplier
  pub part : height view.part ≤ height other.part
  pub date : height view.date ≤ height other.date
  pub ship_mode : IsTrue other.ship_mode → IsTrue view.ship_mode

-- the same as a test
abbrev pub answers : View → View → Bool
answers view other =
    nat_le (height view.customer) (height other.customer)
    && (nat_le (height view.supplier) (height other.supplier)
    && (nat_le (height view.part) (height other.part)
    && (nat_le (height view.date) (height other.date)
    && (view.ship_mode || not other.ship_mode))))

-- the views that group by ship mode, or those that do not, by their numbers
abbrev pub views_with : Bool → List View
views_with ship_mode =
    flat_map (λ customer. flat_map (λ supplier. flat_map (λ part. map (λ date.
    record { customer = customer; supplier = supplier; part = part; date = date; ship_mode = ship_mode })
    levels) levels) levels) levels

-- the lattice over the four axes, and the one that has ship mode as a fifth: all its views, by their numbers
abbrev pub lattice : Bool → List View
lattice false = views_with false
lattice true = views_with false ++ views_with true
