-- Fact rows have one list of cells.
use Rattle.std.proofs.Common.{◌≡◌, ◌∙◌, sym, ap, refl, subst, ℕ, zero, suc, ◌==◌, ◌<◌, ◌≤◌, Bool, true, false, cond}
use Rattle.std.proofs.Common.{List, [], ◌∷◌, get_or, Some, None, arith}
use Rattle.std.specs.List.{Contains}
use Rattle.lattice.specs.declared.view.View.{View}
use Rattle.cuboid_cells.specs.declared.cell.Cell.{Cell}
use Rattle.cuboid_cells.specs.Cells.{AreAscending, cell_at}
use Rattle.cuboid_upkeep.specs.Grouping.{Group}
use Rattle.cuboid_upkeep.specs.Lawful.{CellsAreTheOne}
use Rattle.cuboid_upkeep.proofs.Found.{found_key, own_key, same_key}
use Rattle.cuboid_upkeep.proofs.Sorted.{found_in, key_number}

pub tail_ascends : (cell : Cell) (cells : List Cell) → AreAscending (cell ∷ cells) → AreAscending cells
tail_ascends cell cells up = λ i j d before within. up (suc i) (suc j) d (omega (arith, before)) (omega (arith, within))

at_head : (cell : Cell) (cells : List Cell) → cell_at (key_number cell) (cell ∷ cells) ≡ Some cell
at_head cell cells =
    ap (λ (b : Bool). cond b (Some cell) (cell_at (key_number cell) cells))
    (own_key (key_number cell) (key_number cell) refl)

-- the first cell has the least key
least_first : (cell : Cell) (cells : List Cell) (found : Cell) → AreAscending (cell ∷ cells)
    → Contains (cell ∷ cells) found → key_number cell ≤ key_number found
least_first cell cells found up (zero, within, is) = omega (arith, ap key_number is)
least_first cell cells found up (suc k, within, is) =
    let above : key_number cell < key_number (get_or cells k found) = up 0 (suc k) found (omega arith) within in
    omega (arith, above, ap key_number is)

pub none_after : (cell : Cell) (cells : List Cell) → AreAscending (cell ∷ cells)
    → cell_at (key_number cell) cells ≡ None
none_after cell cells up =
    (elim (cell_at (key_number cell) cells) as (λ o. cell_at (key_number cell) cells ≡ o → o ≡ None) [
      | None ↦ λ e. refl
      | Some found ↦ λ e.
          (let there = found_in (key_number cell) cells found e in
          let above : key_number cell < key_number (get_or cells there.0 found) =
          up 0 (suc there.0) found (omega arith) (omega (arith, there.1)) in
          absurd (omega (arith, above, ap key_number there.2, found_key (key_number cell) cells found e)))
    ]) refl

pub one_list : (cells others : List Cell) → AreAscending cells → AreAscending others
    → ((number : ℕ) → cell_at number cells ≡ cell_at number others) → cells ≡ others
one_list [] [] up also same = refl
one_list [] (other ∷ others) up also same = absurd (cc (same (key_number other), at_head other others))
one_list (cell ∷ cells) [] up also same = absurd (cc (same (key_number cell), at_head cell cells))
one_list (cell ∷ cells) (other ∷ others) up also same =
    let there : cell_at (key_number cell) (other ∷ others) ≡ Some cell = sym (same (key_number cell))
    ∙ at_head cell cells in
    let here : cell_at (key_number other) (cell ∷ cells) ≡ Some other = same (key_number other)
    ∙ at_head other others in
    let low = least_first other others cell also (found_in (key_number cell) (other ∷ others) cell there) in
    let high = least_first cell cells other up (found_in (key_number other) (cell ∷ cells) other here) in
    let key : key_number cell ≡ key_number other = omega (arith, low, high) in
    let first : cell ≡ other = cc (sym there ∙ ap (λ (n : ℕ). cell_at n (other ∷ others)) key ∙ at_head other others) in
    let rest : cells ≡ others = one_list cells others (tail_ascends cell cells up) (tail_ascends other others also)
    (λ number.
    (elim (key_number cell == number) as (λ b. (key_number cell == number) ≡ b
    → cell_at number cells ≡ cell_at number others) [
      | true ↦ λ e.
          (let own : key_number cell ≡ number = same_key (key_number cell) number e in
          ap (λ (n : ℕ). cell_at n cells) (sym own) ∙ none_after cell cells up
          ∙ sym (ap (λ (n : ℕ). cell_at n others) (sym own ∙ key) ∙ none_after other others also))
      | false ↦ λ e.
          sym (ap (λ (b : Bool). cond b (Some cell) (cell_at number cells)) e)
          ∙ same number
          ∙ ap (λ (b : Bool). cond b (Some other) (cell_at number others)) (ap (λ (n : ℕ). n == number) (sym key) ∙ e)
    ]) refl) in
    λ i. first i ∷ rest i

pub the_one : CellsAreTheOne
the_one dimensions modes rows one other same first second =
    let group = subst (λ (view : View). Group dimensions modes view rows other.cells) (sym same) second.group in
    let list = one_list one.cells other.cells first.ascending second.ascending
    (λ number. first.group number ∙ sym (group number)) in
    λ i. record { view = same i; cells = list i }
