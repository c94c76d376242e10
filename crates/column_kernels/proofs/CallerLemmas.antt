-- For proofs over masks and sums of selected rows.
use Rattle.std.proofs.Common.{◌≡◌, ℕ, ◌+◌, Bool, true, false, cond, List, [], ◌∷◌, map, length, refl, sym, ap, ◌∙◌}
use Rattle.std.proofs.Common.{arith, pos}
use Rattle.std.proofs.lemmas.Int.{ints}
use Rattle.std.proofs.lemmas.List.Recursion.{is_count_by}
use Rattle.std.specs.List.{count_by, sum}
use Rattle.std.specs.Simd.Lanes.{sum_l}
use Rattle.cube_model.specs.Aggregates.{total}
use Rattle.column_kernels.specs.Masks.{selected_by}
use Rattle.column_kernels.proofs.Selecting.{sum_is, total-cons}

-- what is made of each row is selected with the row
pub selected-map : {A B : Type 0} (f : A → B) (marks : List Bool) (rows : List A)
    → selected_by marks (map f rows) ≡ map f (selected_by marks rows)
selected-map f [] rows = refl
selected-map f (m ∷ marks) [] = refl
selected-map f (true ∷ marks) (row ∷ rows) = ap (λ l. f row ∷ l) (selected-map f marks rows)
selected-map f (false ∷ marks) (row ∷ rows) = selected-map f marks rows

total_of_l : (numbers : List ℕ) → total (map (λ (n : ℕ). pos n) numbers) ≡ pos (sum_l numbers)
total_of_l [] = refl
total_of_l (x ∷ numbers) = total-cons (pos x) (map (λ (n : ℕ). pos n) numbers) ∙ omega (arith, ints, total_of_l numbers)

-- a sum of numbers is their total as whole numbers
pub total_of_numbers : (numbers : List ℕ) → total (map (λ (n : ℕ). pos n) numbers) ≡ pos (sum numbers)
total_of_numbers numbers = total_of_l numbers ∙ ap (λ (n : ℕ). pos n) (sym (sum_is numbers))

abbrev chosen_count : List Bool → ℕ
chosen_count [] = 0
chosen_count (chosen ∷ marks) = cond chosen (1 + chosen_count marks) (chosen_count marks)

chosen_count_is : (marks : List Bool) → chosen_count marks ≡ count_by (λ (chosen : Bool). chosen) marks
chosen_count_is = is_count_by chosen_count (λ (chosen : Bool). chosen) refl (λ chosen marks. refl)

chosen_rows : {A : Type 0} (marks : List Bool) (rows : List A) → length marks ≡ length rows
    → chosen_count marks ≡ length (selected_by marks rows)
chosen_rows [] rows long = refl
chosen_rows (m ∷ marks) [] long = absurd (omega (arith, long))
chosen_rows (true ∷ marks) (row ∷ rows) long = omega (arith, chosen_rows marks rows (omega (arith, long)))
chosen_rows (false ∷ marks) (row ∷ rows) long = chosen_rows marks rows (omega (arith, long))

-- of as many rows as there are marks, those that are set are selected
pub count_selected : {A : Type 0} (marks : List Bool) (rows : List A) → length marks ≡ length rows
    → count_by (λ (chosen : Bool). chosen) marks ≡ length (selected_by marks rows)
count_selected marks rows long = sym (chosen_count_is marks) ∙ chosen_rows marks rows long
