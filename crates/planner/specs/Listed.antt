-- A list of plans whose first is the one to be taken. Our own.
use Rattle.std.specs.Prelude.{◌≡◌, ◌⊎◌, ℕ, Some, List, slice_get}
use Rattle.cube_model.specs.declared.query.Query.{Query}
use Rattle.planner.specs.declared.price.Priced.{Priced}
use Rattle.planner.specs.declared.stored.Stored.{Stored}
use Rattle.planner.specs.Plans.{ComesFirst, IsCheapest}

-- the first plan of a list is the one to be taken
abbrev pub HasCheapestFirst : Query → List Stored → List ℕ → ℕ → List Priced → Type 0
HasCheapestFirst query stored batch_rows as_of plans =
    (first : Priced) × (slice_get plans 0 ≡ Some first) × IsCheapest query stored batch_rows as_of first.plan first.cost

-- the first plan of a list is that of another list, or one more: the one of the two that is taken before the other
abbrev pub HasBetterFirst : List Priced → Priced → List Priced → Type 0
HasBetterFirst old other new = (first : Priced) → slice_get old 0 ≡ Some first
    → (next : Priced) × (slice_get new 0 ≡ Some next) × ((next ≡ first) ⊎ (next ≡ other)) × ComesFirst next first
    × ComesFirst next other
