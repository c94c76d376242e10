-- To which member of the level above each member of a level belongs, by codes. Our own.
use Rattle.std.specs.Prelude.{◌≡◌, ℕ, ◌==◌, Bool, List, [], ◌∷◌, ◌++◌, length, MatchOption, slice_get, if◌then◌else◌}

-- a member keeps its upper member, the next member gets one, and no code is left out
abbrev pub PutsUpper : List ℕ → ℕ → ℕ → Bool → List ℕ → Type 0
PutsUpper old code upper linked new = MatchOption (slice_get old code)
    ((linked ≡ (code == length old)) × (new ≡ (if code == length old then old ++ upper ∷ [] else old)))
    (λ other. (linked ≡ (other == upper)) × (new ≡ old))
