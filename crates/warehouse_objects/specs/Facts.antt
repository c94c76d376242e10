-- What was submitted to a warehouse, and what one command may add to it. Our own.
use Rattle.std.specs.Prelude.{◌≡◌, ℕ, ◌+◌, nat_le, nat_lt, Option, None, List, [], ◌∷◌, ◌++◌, length}
use Rattle.cube_model.specs.declared.fault.Fault.{Fault}
use Rattle.cube_model.specs.declared.fault.Fault.TheVariants.{Gap, Repeated, TooManyAdditions}
use Rattle.cube_model.specs.declared.rows.DimRows.{DimRows}
use Rattle.cube_model.specs.declared.rows.LineOrder.{LineOrder}
use Rattle.cube_model.specs.Admission.{early_refusal, moded_refusal, refusal}
use Rattle.cube_model.specs.Causes.{cause_if, first_cause}
use Rattle.dimensions.specs.Added.{addition_cause, joined}
use Rattle.warehouse_root.specs.declared.layout.Layout.{Layout}
use Rattle.warehouse_root.specs.declared.layout.Layout.TheVariants.{First, Second}
use Rattle.warehouse_root.specs.Limits.{most_additions}
use Rattle.warehouse_objects.specs.Migration.{migration_refusal}
use Rattle.warehouse_objects.specs.Warehouse.{Warehouse}

-- all of a warehouse but its cuboids and their target
pub record Facts : Type 0 where
  pub layout : Layout
  pub rows : DimRows
  pub batches : List (List LineOrder)
  pub additions : ℕ

abbrev pub facts_in : Warehouse → Facts
facts_in w = record { layout = w.layout; rows = w.rows; batches = w.batches; additions = w.additions }

-- with one batch more
abbrev pub with_next : Facts → List LineOrder → Facts
with_next facts batch = record facts { batches = facts.batches ++ batch ∷ [] }

-- with rows added to the dimensions
abbrev pub with_rows : Facts → DimRows → Facts
with_rows facts more = record facts { rows = joined facts.rows more; additions = facts.additions + 1 }

-- in the second layout
abbrev pub in_second : Facts → Facts
in_second facts = record facts { layout = Second }

-- the first cause that forbids the number of an addition after so many: they are numbered from 1
abbrev pub number_refusal : ℕ → ℕ → Option Fault
number_refusal additions number = first_cause (
    cause_if (nat_le number additions) Repeated
    ∷ cause_if (nat_lt (additions + 1) number) Gap
    ∷ cause_if (nat_le most_additions additions) TooManyAdditions ∷ [])

-- the first cause that forbids an addition of a number after so many
abbrev pub addition_refusal : DimRows → ℕ → ℕ → DimRows → Option Fault
addition_refusal rows additions number more =
    first_cause (number_refusal additions number ∷ addition_cause rows more ∷ [])

-- the first cause for which a batch with a number is refused after others: from the second layout on ship modes are
-- members too
abbrev pub refusal_in : Layout → DimRows → List (List LineOrder) → ℕ → List LineOrder → Option Fault
refusal_in First rows batches number batch = refusal rows batches number batch
refusal_in Second rows batches number batch = moded_refusal rows batches number batch

-- a batch that is not refused
abbrev pub IsAdmissibleIn : Layout → DimRows → List (List LineOrder) → ℕ → List LineOrder → Type 0
IsAdmissibleIn layout rows batches number batch = refusal_in layout rows batches number batch ≡ None

-- what one command may change
pub data Change : Type 0 where
  a_batch : List LineOrder → Change
  some_rows : DimRows → Change
  the_layout : Change

-- facts with a change that is admissible there
abbrev pub AddsChange : Facts → Change → Facts → Type 0
AddsChange facts (a_batch batch) new =
    IsAdmissibleIn facts.layout facts.rows facts.batches (length facts.batches + 1) batch
    × (new ≡ with_next facts batch)
AddsChange facts (some_rows more) new = (addition_refusal facts.rows facts.additions (facts.additions + 1) more ≡ None)
    × (new ≡ with_rows facts more)
AddsChange facts the_layout new = (migration_refusal facts.layout facts.batches ≡ None) × (new ≡ in_second facts)

-- a batch of a number may be added to a warehouse
abbrev pub AdmitsBatch : Warehouse → ℕ → List LineOrder → Type 0
AdmitsBatch w number batch = IsAdmissibleIn w.layout w.rows w.batches number batch

-- the first cause that forbids it
abbrev pub refusal_of : Warehouse → ℕ → List LineOrder → Option Fault
refusal_of w number batch = refusal_in w.layout w.rows w.batches number batch

-- a batch passes those checks that take no memory: all in the first layout, and in the second all before ship modes
abbrev pub PassesChecksIn : Layout → DimRows → List (List LineOrder) → ℕ → List LineOrder → Type 0
PassesChecksIn First rows batches number batch = refusal rows batches number batch ≡ None
PassesChecksIn Second rows batches number batch = early_refusal rows batches number batch ≡ None

abbrev pub PassesChecks : Warehouse → ℕ → List LineOrder → Type 0
PassesChecks w number batch = PassesChecksIn w.layout w.rows w.batches number batch

-- a warehouse may move to the second layout
abbrev pub CanMigrate : Warehouse → Type 0
CanMigrate w = migration_refusal w.layout w.batches ≡ None

-- the first cause that forbids an addition of a number to the dimensions of a warehouse
abbrev pub rows_refusal_of : Warehouse → ℕ → DimRows → Option Fault
rows_refusal_of w number more = addition_refusal w.rows w.additions number more

-- an addition of a number may be made to the dimensions of a warehouse
abbrev pub AdmitsRows : Warehouse → ℕ → DimRows → Type 0
AdmitsRows w number more = rows_refusal_of w number more ≡ None
