-- A line so far, in front of what is left.
use Rattle.std.specs.Prelude.{◌≡◌, ℕ, ⊤, List, [], ◌∷◌, Option, Some, None, Bool, true, false}
use Rattle.std.specs.Prelude.{Result, Ok, Err}
use Rattle.batch_loader.specs.Lines.{lines_of, onto_first_line}
use Rattle.batch_loader.specs.Reading.{TakesLine, IsLongLine}

-- the bytes so far are before the first of some lines
abbrev pub with_front : List ℕ → List (List ℕ) → List (List ℕ)
with_front [] lines = lines
with_front (byte ∷ front) lines = onto_first_line byte (with_front front lines)

-- what was left once is these bytes in front of what is left now
abbrev pub IsFront : Option (List ℕ) → Option (List ℕ) → List ℕ → Type 0
IsFront None now front = ⊤
IsFront (Some text) None front = ⊥
IsFront (Some text) (Some rest) front = lines_of text ≡ with_front front (lines_of rest)

-- after the taking of a part: at true the line is whole, at false it goes on, and an error means that it is too long
abbrev pub TakesPart : Option (List ℕ) → Option (List ℕ) → List ℕ → ℕ → Result Bool Unit → Type 0
TakesPart old now line limit (Ok true) = TakesLine old now line
TakesPart old now line limit (Ok false) = IsFront old now line
TakesPart old now line limit (Err _) = IsLongLine old limit
