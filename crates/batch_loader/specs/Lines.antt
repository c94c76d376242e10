-- The lines of a text. A line ends at LF or at the end of the text.
use Rattle.std.specs.Prelude.{ℕ, ◌==◌, List, [], ◌∷◌, cond}

-- a byte goes to the front of the first line
abbrev pub onto_first_line : ℕ → List (List ℕ) → List (List ℕ)
onto_first_line byte [] = (byte ∷ []) ∷ []
onto_first_line byte (line ∷ lines) = (byte ∷ line) ∷ lines

-- the lines of a text, each ending at LF (10) or at the end. After an LF at the end there is no further line
abbrev pub lines_of : List ℕ → List (List ℕ)
lines_of [] = []
lines_of (byte ∷ bytes) = cond (byte == 10) ([] ∷ lines_of bytes) (onto_first_line byte (lines_of bytes))
