-- Cells in the order of their keys.
use Rattle.std.proofs.Common.{◌≡◌, ◌≢◌, ◌∙◌, sym, ap, refl, ℕ, zero, suc, ◌<◌, ◌≤◌, true, false, cond, nat_eq, List, []}
use Rattle.std.proofs.Common.{◌∷◌, map, length, get_or, Some, None, arith, All}
use Rattle.std.specs.List.{Contains, IsDistinct}
use Rattle.std.specs.List.Sorted.{IsNonDecreasingBy, IsPermutation}
use Rattle.std.proofs.lemmas.Bool.Decides.{nat_tests}
use Rattle.std.proofs.lemmas.List.{get_or-map, length-map}
use Rattle.std.proofs.lemmas.List.Sums.{position_or_len_is}
use Rattle.std.proofs.lemmas.List.Sorted.{All-permutation, Contains-permutation, IsPermutation-map, IsPermutation-sym}
use Rattle.std.proofs.lemmas.List.Sorted.{length_permutation}
use Rattle.std.proofs.lemmas.Map.Keys.{IsDistinct-IsPermutation, apart_from_distinct}
use Rattle.cube_model.specs.declared.rows.DimRows.{DimRows}
use Rattle.cube_model.specs.declared.rows.LineOrder.{LineOrder}
use Rattle.lattice.specs.declared.view.View.{View}
use Rattle.cuboid_cells.specs.declared.cell.Cell.{Cell}
use Rattle.cuboid_cells.specs.Cells.{AreAscending, AreProperCells, cell_at, key_as_number}
use Rattle.cuboid_upkeep.specs.Grouping.{RepresentRows}
use Rattle.cuboid_upkeep.specs.Steps.{AreGrouped, IsGood}
use Rattle.cuboid_upkeep.proofs.Found.{at_place, found_key, has_key, other_key, own_key}

abbrev pub key_number : Cell → ℕ
key_number cell = key_as_number cell.key

-- no two cells have one key
abbrev pub AreApart : List Cell → Type 0
AreApart cells = (i j : ℕ) (d : Cell) → i < j → j < length cells
    → key_number (get_or cells i d) ≢ key_number (get_or cells j d)

unequal : (a b : ℕ) → nat_eq a b ≡ false → a ≢ b
unequal a b e same = absurd (grind (arith, nat_tests))

pub distinct_apart : (cells : List Cell) → IsDistinct nat_eq (map key_number cells) → AreApart cells
distinct_apart cells once i j d before within same =
    let within_keys : j < length (map key_number cells) = omega (arith, within, length-map cells key_number) in
    let test = apart_from_distinct nat_eq (map key_number cells) i j (key_number d) once before within_keys in
    unequal (get_or (map key_number cells) i (key_number d)) (get_or (map key_number cells) j (key_number d)) test
    (get_or-map key_number cells i d (key_number d) (omega (arith, before, within)) ∙ same
    ∙ sym (get_or-map key_number cells j d (key_number d) within))

pub ascending_apart : (cells : List Cell) → AreAscending cells → AreApart cells
ascending_apart cells up i j d before within same = absurd (omega (arith, same, up i j d before within))

-- the cell of its key
pub only_one : (cells : List Cell) (cell : Cell) → AreApart cells → Contains cells cell
    → cell_at (key_number cell) cells ≡ Some cell
only_one cells cell apart (place, within, is) =
    let here : key_number (get_or cells place cell) ≡ key_number cell = ap key_number is in
    at_place (key_number cell) cells place cell
    (sym (position_or_len_is (has_key (key_number cell)) cells place cell (omega (arith, within))
    (λ k before. other_key (key_number (get_or cells k cell)) (key_number cell)
    (λ same. apart k place cell before within (same ∙ sym here)))
    (λ _. own_key (key_number (get_or cells place cell)) (key_number cell) here))) within
    ∙ ap Some is

-- what is found is there
pub found_in : (number : ℕ) (cells : List Cell) (found : Cell) → cell_at number cells ≡ Some found
    → Contains cells found
found_in number [] found is = absurd (cc is)
found_in number (cell ∷ cells) found is =
    (elim (has_key number cell) as (λ b. cond b (Some cell) (cell_at number cells) ≡ Some found
    → Contains (cell ∷ cells) found) [
      | true ↦ λ same. (zero, omega arith, cc same)
      | false ↦ λ same. (let rest = found_in number cells found same in (suc rest.0, omega (arith, rest.1), rest.2))
    ]) is

module _ (cells new : List Cell) (same : IsPermutation cells new) (once : IsDistinct nat_eq (map key_number cells))
  where
    flips : (x y : ℕ) → nat_eq x y ≡ nat_eq y x
    flips x y = grind (arith, nat_tests)

    once_still : IsDistinct nat_eq (map key_number new)
    once_still = IsDistinct-IsPermutation nat_eq flips (map key_number cells) (map key_number new)
        (IsPermutation-map key_number cells new same) once

    pub found_still : (number : ℕ) → cell_at number new ≡ cell_at number cells
    found_still number =
        (elim (cell_at number cells) as (λ o. cell_at number cells ≡ o → cell_at number new ≡ o) [
          | Some cell ↦ λ e.
              ap (λ (n : ℕ). cell_at n new) (sym (found_key number cells cell e))
              ∙ only_one new cell (distinct_apart new once_still)
              (Contains-permutation cells new cell same (found_in number cells cell e))
          | None ↦ λ e.
              (elim (cell_at number new) as (λ o. cell_at number new ≡ o → o ≡ None) [
                | Some cell ↦ λ f.
                    (let there : cell_at number cells ≡ Some cell =
                    ap (λ (n : ℕ). cell_at n cells) (sym (found_key number new cell f))
                    ∙ only_one cells cell (distinct_apart cells once)
                    (Contains-permutation new cells cell (IsPermutation-sym cells new same)
                    (found_in number new cell f)) in
                    absurd (cc (there, e)))
                | None ↦ λ f. refl
              ]) refl
        ]) refl

    pub ascend_still : IsNonDecreasingBy key_number new → AreAscending new
    ascend_still order i j d before within =
        let apart = distinct_apart new once_still i j d before within in
        let below : key_number (get_or new i d) ≤ key_number (get_or new j d) =
        order i j d (omega (arith, before)) within in
        strictly (key_number (get_or new i d)) (key_number (get_or new j d)) below apart
      where
        strictly : (a b : ℕ) → a ≤ b → a ≢ b → a < b
        strictly a b below apart = grind arith

module _ (dimensions : DimRows) (modes : List (List ℕ)) (view : View) (rows : List LineOrder) (cells new : List Cell)
    (are : AreGrouped dimensions modes view rows cells)
    (same : IsPermutation cells new) (order : IsNonDecreasingBy key_number new) where
  pub they_represent : RepresentRows dimensions modes rows (record { view = view; cells = new })
  they_represent = record {
    known = are.known;
    ascending = ascend_still cells new same are.once order;
    group = λ number. found_still cells new same are.once number ∙ are.group number;
  }

  good_still : All (IsGood view) new
  good_still = All-permutation (IsGood view) cells new same are.good

  pub they_are_proper : length rows ≤ 65536 → AreProperCells (record { view = view; cells = new })
  they_are_proper few = record {
    rules = record {
      few = omega (arith, few, are.few, length_permutation cells new same);
      each = λ k d within. (good_still k d within).is_cell;
      ascending = ascend_still cells new same are.once order;
    };
    fit = λ k d within. (good_still k d within).fits;
  }
