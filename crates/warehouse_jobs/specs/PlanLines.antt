-- The lines of plans. Our own.
use Rattle.std.specs.Prelude.{ℕ, ◌-◌, Bool, List, [], ◌∷◌, ◌++◌, codes}
use Rattle.std.specs.List.{flat_map}
use Rattle.std.specs.Fmt.{decimal}
use Rattle.lattice.specs.Names.{view_text}
use Rattle.planner.specs.declared.price.AccessPath.{AccessPath}
use Rattle.planner.specs.declared.price.AccessPath.TheVariants.{Scan, Cells}
use Rattle.planner.specs.declared.price.Priced.{Priced}
use Rattle.planned_queries.specs.Planned.{mark_of}

-- from where a plan reads first, with or without a fifth axis, such as: view 248 ALL|ALL|mfgr|day mark 1
abbrev pub source_text : Bool → AccessPath → List ℕ
source_text ship_modes Scan = codes "scan"
source_text ship_modes (Cells view mark) = view_text ship_modes view ++ (codes " mark " ++ decimal mark)

-- what a plan reads: the fact rows of so many batches, its tail, and so many cells and fact rows together
abbrev pub cost_text : ℕ → ℕ → List ℕ
cost_text tail cost = codes " tail " ++ (decimal tail ++ (codes " cost " ++ (decimal cost ++ codes "\n")))

-- the line of a plan over the first batches, which a name begins. Its tail is the batches after its mark
abbrev pub plan_line : Bool → List ℕ → ℕ → Priced → List ℕ
plan_line ship_modes name as_of one =
    name ++ (source_text ship_modes one.plan ++ cost_text (as_of - mark_of one.plan) one.cost)

-- a plan that is not taken, such as: other scan tail 1 cost 3
abbrev pub other_line : Bool → ℕ → Priced → List ℕ
other_line ship_modes as_of one = plan_line ship_modes (codes "other ") as_of one

-- the plan that is taken, which is the first, and then the others
abbrev pub plans_text : Bool → ℕ → List Priced → List ℕ
plans_text ship_modes as_of [] = []
plans_text ship_modes as_of (first ∷ others) =
    plan_line ship_modes (codes "plan ") as_of first ++ flat_map (other_line ship_modes as_of) others
