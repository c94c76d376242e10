-- What cuboids are chosen from, and the choice (Harinarayan, Rajaraman and Ullman 1996).
use Rattle.std.specs.Prelude.{◌≡◌, ◌⊎◌, ◌<◌, ℕ, Option, None, Some, List, [], length, map}
use Rattle.sector_device.specs.declared.device.Sectors.{Ghosts}
use Rattle.cube_model.specs.declared.attr.Attr.{Attr}
use Rattle.cube_model.specs.declared.attr.Attr.TheVariants.{CustomerCity, CustomerNation, CustomerRegion, SupplierCity}
use Rattle.cube_model.specs.declared.attr.Attr.TheVariants.{SupplierNation, SupplierRegion, PartBrand1, PartCategory}
use Rattle.cube_model.specs.declared.attr.Attr.TheVariants.{PartMfgr, DateKey, DateYearmonthnum, DateYear}
use Rattle.cube_model.specs.declared.fault.Fault.{Fault}
use Rattle.cube_model.specs.declared.fault.Fault.TheVariants.{BadQuery, Memory}
use Rattle.cube_model.specs.declared.rows.DimRows.{DimRows}
use Rattle.cube_model.specs.Admission.{all_rows}
use Rattle.cube_model.specs.Places.{attr_members}
use Rattle.lattice.specs.declared.counts.Counts.{Counts}
use Rattle.lattice.specs.declared.counts.LevelCounts.{LevelCounts}
use Rattle.lattice.specs.declared.view.View.{View}
use Rattle.view_choice.specs.Choice.{IsGreedy, Lattice, benefits}
use Rattle.view_choice.specs.Cuboids.{cuboids, cuboids_for, most_demanded}
use Rattle.object_store.specs.Store as stores
use Rattle.warehouse_root.specs.declared.layout.Layout.{Layout}
use Rattle.warehouse_root.specs.declared.layout.Layout.TheVariants.{First, Second}
use Rattle.warehouse_root.specs.Limits.{most_cuboids}
use Rattle.warehouse_root.specs.Root as roots
use Rattle.warehouse_objects.specs.Warehouse.{Warehouse, dropped_ids, ship_modes_of, with_views}
use Rattle.warehouse_objects.specs.Represents.{root_of}
use Rattle.warehouse.specs.declared.chosen.Chosen.{Chosen}
use Rattle.warehouse.specs.declared.session.Session.{Session}
use Rattle.warehouse.specs.Session.{content_of, room_of}

-- how many members the levels of an axis have
abbrev pub members_on : DimRows → Attr → Attr → Attr → LevelCounts
members_on rows lowest middle highest = record {
  lowest = length (attr_members rows lowest);
  middle = length (attr_members rows middle);
  highest = length (attr_members rows highest);
}

-- the count of ship modes in a layout: none in the first, where they are no members
abbrev pub modes_counted : Layout → List (List ℕ) → Option ℕ
modes_counted First modes = None
modes_counted Second modes = Some (length modes)

-- how many members the levels of the axes have, with a count of ship modes
abbrev pub members_counted : DimRows → Option ℕ → Counts
members_counted rows ship_modes = record {
  customer = members_on rows CustomerCity CustomerNation CustomerRegion;
  supplier = members_on rows SupplierCity SupplierNation SupplierRegion;
  part = members_on rows PartBrand1 PartCategory PartMfgr;
  date = members_on rows DateKey DateYearmonthnum DateYear;
  ship_modes = ship_modes;
}

-- those of a warehouse
abbrev pub counts_of : Warehouse → Counts
counts_of w = members_counted w.rows (modes_counted w.layout (ship_modes_of w))

-- the views of a warehouse, with what a choice among them looks at: its fact rows, and the members of its levels
abbrev pub choices : Warehouse → Lattice View
choices w = cuboids (length (all_rows w.batches)) (counts_of w)

-- the same where only some views are asked for, each as often as it is among them
abbrev pub choices_for : Warehouse → List View → Lattice View
choices_for w demanded = cuboids_for (length (all_rows w.batches)) (counts_of w) demanded

-- what is chosen from where all views are asked for, or some
abbrev pub lattice_asked : ℕ → Counts → Option (List View) → Lattice View
lattice_asked rows counts None = cuboids rows counts
lattice_asked rows counts (Some demanded) = cuboids_for rows counts demanded

abbrev pub choices_asked : Warehouse → Option (List View) → Lattice View
choices_asked w asked = lattice_asked (length (all_rows w.batches)) (counts_of w) asked

-- more are to be chosen than may be stored, or more are asked for than are counted
abbrev pub AreTooMany : ℕ → Option (List View) → Type 0
AreTooMany k None = most_cuboids < k
AreTooMany k (Some demanded) = (most_cuboids < k) ⊎ (most_demanded < length demanded)

abbrev pub views_of : List Chosen → List View
views_of chosen = map (λ one. one.view) chosen

-- the greedy list for k, each view with its benefit under those before it
pub record IsChosenFrom (lattice : Lattice View) (k : ℕ) (chosen : List Chosen) : Type 0 where
  pub greedy : IsGreedy lattice k (views_of chosen)
  pub benefits_are : map (λ one. one.benefit) chosen ≡ benefits lattice (views_of chosen)

-- that over the fact rows and the members of a warehouse
abbrev pub IsChoice : Warehouse → ℕ → List Chosen → Type 0
IsChoice w k chosen = IsChosenFrom (choices w) k chosen

-- and that for some views that are asked for
abbrev pub IsChoiceFor : Warehouse → List View → ℕ → List Chosen → Type 0
IsChoiceFor w demanded k chosen = IsChosenFrom (choices_for w demanded) k chosen

-- why the commit of a choice of views is refused where the device has not failed
abbrev pub ViewsRefuse : {D : Type 0} (g : Ghosts D) → Session D g → Warehouse → List View → Fault → Type 0
ViewsRefuse g session w views fault =
    stores.Refuses (content_of g session) (room_of session) [] (dropped_ids w views)
    (roots.root_spelling (root_of (with_views w views))) fault

-- Why a choice is refused where the device has not failed: too many views are asked for, or there is no memory, or its
-- commit is refused.
abbrev pub ChooseRefuses : {D : Type 0} (g : Ghosts D) → Session D g → Warehouse → ℕ → Fault → Type 0
ChooseRefuses g session w k fault =
    ((fault ≡ BadQuery) × (most_cuboids < k))
    ⊎ ((fault ≡ Memory)
    ⊎ ((chosen : List Chosen) × IsChoice w k chosen × ViewsRefuse g session w (views_of chosen) fault))

-- the same where some views are asked for: they may also be too many
abbrev pub ChooseForRefuses : {D : Type 0} (g : Ghosts D) → Session D g → Warehouse → List View → ℕ → Fault → Type 0
ChooseForRefuses g session w demanded k fault =
    ((fault ≡ BadQuery) × ((most_cuboids < k) ⊎ (most_demanded < length demanded)))
    ⊎ ((fault ≡ Memory)
    ⊎ ((chosen : List Chosen) × IsChoiceFor w demanded k chosen × ViewsRefuse g session w (views_of chosen) fault))
