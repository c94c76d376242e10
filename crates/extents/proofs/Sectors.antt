-- Which sectors lie in joined lists of extents, and what runs in order are.
use Rattle.std.proofs.Common.{ℕ, ◌+◌, ◌≤◌, ◌<◌, ◌⊎◌, List, [], ◌∷◌, ◌++◌, inl, inr, arith}
use Rattle.extents.specs.declared.extent.Extent.{Extent}
use Rattle.extents.specs.Extents.{SomeHolds}
use Rattle.extents.specs.Runs.{AreRuns}

-- a sector of two lists is in one of them
pub in_either : (xs ys : List Extent) (s : ℕ) → SomeHolds (xs ++ ys) s → SomeHolds xs s ⊎ SomeHolds ys s
in_either [] ys s held = inr held
in_either (x ∷ xs) ys s (inl here) = inl (inl here)
in_either (x ∷ xs) ys s (inr held) = elim (in_either xs ys s held) [ inl front ↦ inl (inr front) | inr back ↦ inr back ]

-- a sector of the first list is in the two
pub in_front : (xs ys : List Extent) (s : ℕ) → SomeHolds xs s → SomeHolds (xs ++ ys) s
in_front (x ∷ xs) ys s (inl here) = inl here
in_front (x ∷ xs) ys s (inr held) = inr (in_front xs ys s held)
in_front [] ys s held = absurd held

-- a sector of the second list is in the two
pub in_back : (xs ys : List Extent) (s : ℕ) → SomeHolds ys s → SomeHolds (xs ++ ys) s
in_back [] ys s held = held
in_back (x ∷ xs) ys s held = inr (in_back xs ys s held)

-- runs may be said to begin earlier
pub lower : (low mid high : ℕ) (runs : List Extent) → low ≤ mid → AreRuns mid high runs → AreRuns low high runs
lower low mid high [] le ok = tt
lower low mid high (run ∷ others) le ok = (omega arith, ok.1, ok.2, ok.3)

-- a sector of runs lies between their bounds
pub bounds : (low high : ℕ) (runs : List Extent) (s : ℕ) → AreRuns low high runs → SomeHolds runs s
    → (low ≤ s) × (s + 1 < high)
bounds low high [] s ok held = absurd held
bounds low high (run ∷ others) s ok (inl here) = (omega arith, omega arith)
bounds low high (run ∷ others) s ok (inr held) =
    let later : (run.first + run.len + 1 ≤ s) × (s + 1 < high) =
    bounds (run.first + run.len + 1) high others s ok.3 held in
    (omega arith, omega arith)

-- runs that end where others begin
pub AreRuns-append : (low mid high : ℕ) (xs ys : List Extent) → mid ≤ high → AreRuns low mid xs → AreRuns mid high ys
    → low ≤ mid → AreRuns low high (xs ++ ys)
AreRuns-append low mid high [] ys le front back low_le = lower low mid high ys low_le back
AreRuns-append low mid high (x ∷ xs) ys le front back low_le =
    (front.0, front.1, omega arith, AreRuns-append (x.first + x.len + 1) mid high xs ys le front.3 back (omega arith))
