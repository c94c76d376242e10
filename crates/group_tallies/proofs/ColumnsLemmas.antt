-- Columns that are made longer, one after another.
use Rattle.std.proofs.Common.{◌≡◌, ap, ℕ, zero, suc, ◌<◌, List, [], ◌∷◌, length, arith, take, get_or, slice_set}
use Rattle.std.specs.List.{AllByRecursion}
use Rattle.std.specs.declared.alloc.Global.{Global}
use Rattle.std.specs.declared.vec.Vec.{Vec}
use Rattle.group_tallies.specs.Columns.{tally_at, tallies_at}
use Rattle.group_tallies.specs.declared.tally.Tally.{Tally}

-- a column that says the same at a slot
pub tallies_at-set : (columns : List (Vec Tally Global)) (i : ℕ) (column other : Vec Tally Global) (slot : ℕ)
    → i < length columns → tally_at column.items slot ≡ tally_at (get_or columns i other).items slot
    → tallies_at (slice_set columns i column) slot ≡ tallies_at columns slot
tallies_at-set [] i column other slot h same = absurd (omega (arith, h))
tallies_at-set (first ∷ columns) zero column other slot h same = ap (λ tally. tally ∷ tallies_at columns slot) same
tallies_at-set (first ∷ columns) (suc i) column other slot h same =
    ap (λ tallies. tally_at first.items slot ∷ tallies)
    (tallies_at-set columns i column other slot (omega (arith, h)) same)

pub All-take-set : {X : Type 0} (P : X → Type 0) (xs : List X) (i : ℕ) (x : X) → i < length xs
    → AllByRecursion P (take i xs) → P x → AllByRecursion P (take (suc i) (slice_set xs i x))
All-take-set P [] i x h all here = absurd (omega (arith, h))
All-take-set P (first ∷ xs) zero x h all here = (here, tt)
All-take-set P (first ∷ xs) (suc i) x h all here = (all.0, All-take-set P xs i x (omega (arith, h)) all.1 here)
