-- Which views to store: the cost and the benefit of views, and the greedy list, as Harinarayan, Rajaraman and Ullman
-- 1996 define them, over any finite list of views, of any sizes, whichever view answers which. A difference of numbers
-- stops at zero.
use Rattle.std.specs.Prelude.{◌≡◌, ℕ, ◌-◌, ◌<◌, ◌≤◌, min, Bool, List, [], ◌∷◌, ◌++◌, map, length, take, slice_index_or}
use Rattle.std.specs.List.{fold, sum_by, filter, Contains}

-- what a choice is made from: the fact rows, the views, those that are asked for, each as often as it is, the numbers
-- and sizes in cells of views, which view answers which (its cells suffice to work out those of the other), and the
-- most cells that a stored view may have
pub record Lattice (V : Type 0) : Type 0 where
  pub rows : ℕ
  pub views : List V
  pub demanded : List V
  pub index : V → ℕ
  pub size : V → ℕ
  pub answers : V → V → Bool
  pub most_cells : ℕ

-- the cost of a view under a choice: the least of the fact rows and the sizes of the chosen views that answer it
abbrev pub cost : {V : Type 0} → Lattice V → List V → V → ℕ
cost lattice chosen view =
    fold min lattice.rows (map lattice.size (filter (λ other. lattice.answers other view) chosen))

-- the benefit of a view under a choice: by how much it lowers the cost of the views asked for that it answers, in all
abbrev pub benefit : {V : Type 0} → Lattice V → List V → V → ℕ
benefit lattice chosen view =
    sum_by (λ other. cost lattice chosen other - lattice.size view) (filter (lattice.answers view) lattice.demanded)

-- the benefit of a whole choice: by how much it lowers the cost of the views asked for from the fact rows, in all
abbrev pub total_benefit : {V : Type 0} → Lattice V → List V → ℕ
total_benefit lattice chosen = sum_by (λ view. lattice.rows - cost lattice chosen view) lattice.demanded

-- the benefit of each view under those before it, where some are before the first
abbrev pub benefits_after : {V : Type 0} → Lattice V → List V → List V → List ℕ
benefits_after lattice before [] = []
benefits_after lattice before (view ∷ views) =
    benefit lattice before view ∷ benefits_after lattice (before ++ view ∷ []) views

-- the benefit of each view under those before it
abbrev pub benefits : {V : Type 0} → Lattice V → List V → List ℕ
benefits lattice views = benefits_after lattice [] views

-- a candidate: a view of the lattice that may be stored
pub record IsCandidate {V : Type 0} (lattice : Lattice V) (view : V) : Type 0 where
  pub known : Contains lattice.views view
  pub small : lattice.size view ≤ lattice.most_cells

-- the candidate of greatest benefit under a choice, that of the least number at a tie, and the benefit is above zero
pub record IsBest {V : Type 0} (lattice : Lattice V) (chosen : List V) (view : V) : Type 0 where
  pub candidate : IsCandidate lattice view
  pub gains : 0 < benefit lattice chosen view
  pub greatest : (other : V) → IsCandidate lattice other → benefit lattice chosen other ≤ benefit lattice chosen view
  pub least : (other : V) → IsCandidate lattice other → benefit lattice chosen other ≡ benefit lattice chosen view
      → lattice.index view ≤ lattice.index other

-- no candidate has a benefit under a choice
abbrev pub NoneGains : {V : Type 0} → Lattice V → List V → Type 0
NoneGains {V} lattice chosen = (other : V) → IsCandidate lattice other → benefit lattice chosen other ≡ 0

-- The greedy list for k: each member is the best under those before it. It has k members, or it has fewer and no
-- candidate has a benefit under it.
pub record IsGreedy {V : Type 0} (lattice : Lattice V) (k : ℕ) (chosen : List V) : Type 0 where
  pub at_most : length chosen ≤ k
  pub each : (i : ℕ) → i < length chosen → (default : V)
      → IsBest lattice (take i chosen) (slice_index_or chosen i default)
  pub ends : length chosen < k → NoneGains lattice chosen
