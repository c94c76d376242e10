-- Why the library makes no journal of a load. Our own.
use Rattle.std.specs.Prelude.{◌≡◌, ◌⊎◌, ◌≤◌, ℕ, List}
use Rattle.cube_model.specs.declared.fault.Fault.{Fault}
use Rattle.cube_model.specs.declared.fault.Fault.TheVariants.{BadQuery}
use Rattle.cube_model.specs.Limits.{most_batch_rows}
use Rattle.c_library.specs.Loading.{RefusesLoad}

-- the numbers of a load: that of its first batch, and how many rows a batch has
abbrev pub AreLoadNumbers : ℕ → ℕ → Type 0
AreLoadNumbers first rows = (1 ≤ first) × ((1 ≤ rows) × (rows ≤ most_batch_rows))

-- they are no such numbers; or the load is refused
abbrev pub RefusesChange : List ℕ → (first rows : ℕ) → List ℕ → Fault → Type 0
RefusesChange image first rows lineorder fault = ((fault ≡ BadQuery) × (AreLoadNumbers first rows → ⊥))
    ⊎ RefusesLoad image first rows lineorder fault
