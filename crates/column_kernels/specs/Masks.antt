-- Which rows of a batch are selected: one truth value a row. Our own.
use Rattle.std.specs.Prelude.{ℕ, zero, suc, Bool, true, false, ◌&&◌, nat_le, ◌==◌, ◌%◌, ◌/◌, List, [], ◌∷◌}

-- a quantity and a discount lie in their ranges, ends included
abbrev pub lies_in : ℕ × ℕ → ℕ × ℕ → ℕ → ℕ → Bool
lies_in quantities discounts quantity discount =
    (nat_le quantities.0 quantity && nat_le quantity quantities.1)
    && (nat_le discounts.0 discount && nat_le discount discounts.1)

-- the lowest bits of a word as truth values, the lowest first
unfoldable pub bits_of : ℕ → ℕ → List Bool
bits_of zero word = []
bits_of (suc count) word = (word % 2 == 1) ∷ bits_of count (word / 2)

-- those of some rows, or of their numbers, that are selected, in order
abbrev pub selected_by : {A : Type 0} → List Bool → List A → List A
selected_by [] rows = []
selected_by (chosen ∷ marks) [] = []
selected_by (true ∷ marks) (row ∷ rows) = row ∷ selected_by marks rows
selected_by (false ∷ marks) (row ∷ rows) = selected_by marks rows
