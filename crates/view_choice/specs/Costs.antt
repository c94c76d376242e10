-- The sizes of views and the costs of those that are asked for under a choice, as the code keeps them.
use Rattle.std.specs.Prelude.{◌≡◌, ℕ, ◌-◌, ◌<◌, ◌≤◌, min, cond, nat_le, List, map, length, Option, Some, None}
use Rattle.std.specs.Prelude.{slice_index_or}
use Rattle.std.specs.List.{sum_by, All}
use Rattle.lattice.specs.declared.view.View.{View}
use Rattle.lattice.specs.Views.{answers}
use Rattle.view_choice.specs.declared.costs.Costed.{Costed}
use Rattle.view_choice.specs.declared.costs.Candidate.{Candidate}
use Rattle.view_choice.specs.Choice.{Lattice, cost}
use Rattle.view_choice.specs.Cuboids.{most_stored_cells}

-- a view with its size
abbrev pub sized : (View → ℕ) → View → Candidate
sized size view = record { view = view; size = size view }

-- all views of a lattice so
abbrev pub view_candidates : Lattice View → List Candidate
view_candidates lattice = map (sized lattice.size) lattice.views

-- a view whose cost is the fact rows
abbrev pub costs_all_rows : ℕ → View → Costed
costs_all_rows rows view = record { view = view; cost = rows }

-- a view with its cost under a choice
abbrev pub costed_view : Lattice View → List View → View → Costed
costed_view lattice chosen view = record { view = view; cost = cost lattice chosen view }

-- all views that are asked for so
abbrev pub costed : Lattice View → List View → List Costed
costed lattice chosen = map (costed_view lattice chosen) lattice.demanded

-- by how much a view of a size lowers the cost of another
abbrev pub saved_by : View → ℕ → Costed → ℕ
saved_by view size other = cond (answers view other.view) (other.cost - size) 0

-- the benefit of a view of a size: by how much it lowers the costs of all
abbrev pub benefit_among : List Costed → View → ℕ → ℕ
benefit_among all view size = sum_by (saved_by view size) all

-- the benefit of a view that may be stored, and nothing of one that may not
abbrev pub gain_among : List Costed → Candidate → ℕ
gain_among all candidate =
    cond (nat_le candidate.size most_stored_cells) (benefit_among all candidate.view candidate.size) 0

-- the costs add up to a number of 64 bits
abbrev pub costs_in_all : List Costed → ℕ
costs_in_all all = sum_by (λ other. other.cost) all

-- a view with its cost when one more view is chosen, of a size
abbrev pub lowered : View → ℕ → Costed → Costed
lowered view size other = record {
  view = other.view;
  cost = cond (answers view other.view) (min other.cost size) other.cost;
}

-- the item at a place gains most, more than those before it, and it does gain
pub record IsFirstGreatestAt {X : Type 0} (gain : X → ℕ) (items : List X) (place : ℕ) : Type 0 where
  pub inside : place < length items
  pub gains : (default : X) → 0 < gain (slice_index_or items place default)
  pub greatest : (k : ℕ) (default : X) → k < length items
      → gain (slice_index_or items k default) ≤ gain (slice_index_or items place default)
  pub first : (k : ℕ) (default : X) → k < place
      → gain (slice_index_or items k default) < gain (slice_index_or items place default)

-- the first place of greatest gain, or nothing where none gains
abbrev pub IsFirstGreatest : {X : Type 0} → (X → ℕ) → List X → Option ℕ → Type 0
IsFirstGreatest gain items None = All (λ item. gain item ≡ 0) items
IsFirstGreatest gain items (Some place) = IsFirstGreatestAt gain items place
