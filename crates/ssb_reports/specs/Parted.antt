-- The fields of a report's line as they are written, one after the other.
use Rattle.std.specs.Prelude.{ℕ, List, [], ◌∷◌, ◌++◌}

-- fields with a bar between each two, and a lead in front of the first
abbrev pub parted : List ℕ → List ℕ → List (List ℕ) → List ℕ
parted bar lead [] = []
parted bar lead (field ∷ fields) = lead ++ (field ++ parted bar bar fields)

-- what leads the next field after some others: a bar, and nothing where there are none
abbrev pub lead_after : {A : Type 0} → List ℕ → List A → List ℕ
lead_after bar [] = []
lead_after bar (first ∷ others) = bar
