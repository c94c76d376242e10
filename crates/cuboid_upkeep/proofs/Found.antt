-- Finding the cell of a key.
use Rattle.std.proofs.Common.{◌≡◌, ◌∙◌, sym, ap, refl, ℕ, ◌==◌, ◌<◌, ◌≤◌, Bool, true, false, cond, nat_eq, List, []}
use Rattle.std.proofs.Common.{◌∷◌, map, length, get_or, slice_get, Option, Some, None, arith}
use Rattle.std.specs.List.{position_or_len}
use Rattle.std.proofs.lemmas.Bool.Decides.{nat_tests}
use Rattle.std.proofs.lemmas.List.Folds.{find_at}
use Rattle.std.proofs.lemmas.Option.{slice_get_past, slice_get-get_or}
use Rattle.dictionary.proofs.Items.{position_or_len-map}
use Rattle.cuboid_cells.specs.declared.cell.Cell.{Cell}
use Rattle.cuboid_cells.specs.Cells.{cell_at, key_as_number}
use Rattle.cuboid_cells.specs.Merges.{merged_if_any}

-- whether a cell has a key
abbrev pub has_key : ℕ → Cell → Bool
has_key number cell = key_as_number cell.key == number

pub flipped : (a b : ℕ) → nat_eq a b ≡ (b == a)
flipped a b = grind (arith, nat_tests)

pub own_key : (a b : ℕ) → a ≡ b → (a == b) ≡ true
own_key a b same = grind (arith, nat_tests)

pub other_key : (a b : ℕ) → (a ≡ b → ⊥) → (a == b) ≡ false
other_key a b apart = elim (a == b) as (λ t. (a == b) ≡ t → t ≡ false) [
  | true ↦ λ e. absurd (apart (grind (arith, nat_tests)))
  | false ↦ λ e. refl
] refl

pub same_key : (a b : ℕ) → (a == b) ≡ true → a ≡ b
same_key a b e = grind (arith, nat_tests)

-- where a key is among the keys, its cell is among the cells
pub place_is : (number : ℕ) (cells : List Cell)
    → position_or_len (nat_eq number) (map (λ (cell : Cell). key_as_number cell.key) cells)
    ≡ position_or_len (has_key number) cells
place_is number cells =
    position_or_len-map (nat_eq number) (λ (cell : Cell). key_as_number cell.key) cells
    ∙ ap (λ (test : Cell → Bool). position_or_len test cells) (λ i cell. flipped number (key_as_number cell.key) i)

pub at_place : (number : ℕ) (cells : List Cell) (place : ℕ) (d : Cell) → place ≡ position_or_len (has_key number) cells
    → place < length cells
    → cell_at number cells ≡ Some (get_or cells place d)
at_place number cells place d is within =
    find_at (has_key number) cells ∙ ap (slice_get cells) (sym is) ∙ slice_get-get_or cells place d within

pub at_none : (number : ℕ) (cells : List Cell) (place : ℕ) → place ≡ position_or_len (has_key number) cells
    → length cells ≤ place
    → cell_at number cells ≡ None
at_none number cells place is past =
    find_at (has_key number) cells ∙ ap (slice_get cells) (sym is) ∙ slice_get_past cells place past

-- what is found has the key
pub found_key : (number : ℕ) (cells : List Cell) (found : Cell) → cell_at number cells ≡ Some found
    → key_as_number found.key ≡ number
found_key number [] found is = absurd (cc is)
found_key number (cell ∷ cells) found is =
    (elim (has_key number cell) as
    (λ b. has_key number cell ≡ b → cond b (Some cell) (cell_at number cells) ≡ Some found
    → key_as_number found.key ≡ number) [
      | true ↦ λ e same. (let own : cell ≡ found = cc same in ap (λ (c : Cell). key_as_number c.key) (sym own)
          ∙ same_key (key_as_number cell.key) number e)
      | false ↦ λ e same. found_key number cells found same
    ]) refl is

pub none_else : (a : Option Cell) → merged_if_any a None ≡ a
none_else None = refl
none_else (Some cell) = refl
