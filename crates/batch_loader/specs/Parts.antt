-- A list cut into parts, as the lines of a text are cut into batches.
use Rattle.std.specs.Prelude.{ℕ, zero, suc, List, [], ◌∷◌, length, take, drop}

-- a list cut into parts of so many items, of which the last may have fewer, in at most so many steps
abbrev pub parts_in : {A : Type 0} → ℕ → ℕ → List A → List (List A)
parts_in steps size [] = []
parts_in zero size (item ∷ items) = []
parts_in (suc steps) size (item ∷ items) = take size (item ∷ items) ∷ parts_in steps size (drop size (item ∷ items))

-- the whole list
abbrev pub parts_of : {A : Type 0} → ℕ → List A → List (List A)
parts_of size items = parts_in (length items) size items
