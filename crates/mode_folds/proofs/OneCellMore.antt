-- The cells of each ship mode, one cell more.
use Rattle.std.proofs.Common.{◌≡◌, ◌∙◌, inl, inr, sym, ap, refl, ℕ, zero, suc, ◌==◌, ◌<◌, ◌≤◌, Bool, true, false}
use Rattle.std.proofs.Common.{cond, List, [], ◌∷◌, ◌++◌, map, length, length-set, get_or, get_or-set_same}
use Rattle.std.proofs.Common.{get_or-set_other, slice_set, arith, append-nil}
use Rattle.std.proofs.Math.ListN.{replicate}
use Rattle.std.specs.declared.alloc.Global.{Global}
use Rattle.std.specs.declared.vec.Vec.{Vec}
use Rattle.std.proofs.lemmas.Bool.{cases_eq}
use Rattle.std.proofs.lemmas.Bool.Decides.{nat_tests}
use Rattle.std.proofs.lemmas.List.{get_or-map, length-map, map-set}
use Rattle.std.proofs.lemmas.List.Elements.{filter-append}
use Rattle.cuboid_cells.specs.declared.cell.Cell.{Cell}
use Rattle.mode_folds.specs.Celling.{AreCellParts, cells_at}

abbrev lists : List (Vec Cell Global) → List (List Cell)
lists parts = map (λ part. part.items) parts

abbrev none : List Cell
none = []

pub no_cells : (count : ℕ) (parts : List (Vec Cell Global)) → lists parts ≡ replicate count []
    → AreCellParts count [] parts
no_cells count parts is = record {
  counted = sym (length-map parts (λ part. part.items)) ∙ ap length is ∙ replicate-length count;
  each = λ code lt. ap (λ l. get_or l code []) is ∙ nothing count code;
}
  where
    replicate-length : (n : ℕ) → length (replicate n none) ≡ n
    replicate-length zero = refl
    replicate-length (suc n) = ap suc (replicate-length n)

    nothing : (n code : ℕ) → get_or (replicate n none) code none ≡ none
    nothing zero code = refl
    nothing (suc n) zero = refl
    nothing (suc n) (suc code) = nothing n code

one_last : (code : ℕ) (cells : List Cell) (cell : Cell) (b : Bool) → (cell.key.ship_mode == code) ≡ b
    → cells_at code (cells ++ cell ∷ []) ≡ cells_at code cells ++ cond b (cell ∷ []) []
one_last code cells cell b e = filter-append (λ other. other.key.ship_mode == code) cells (cell ∷ [])
    ∙ ap (λ t. cells_at code cells ++ cond t (cell ∷ []) []) e

-- the part of a ship mode
pub part_at : (count : ℕ) (cells : List Cell) (parts : List (Vec Cell Global)) → AreCellParts count cells parts
    → (place : ℕ) (part : Vec Cell Global) → place < length parts → part ≡ get_or parts place part
    → part.items ≡ cells_at place cells
part_at count cells parts divided place part lt is =
    ap (λ p. p.items) is ∙ sym (get_or-map (λ p. p.items) parts place part [] lt)
    ∙ divided.each place (omega (arith, lt, divided.counted))

module _ (count : ℕ) (cells : List Cell) (cell : Cell) (parts : List (Vec Cell Global))
    (so_far : AreCellParts count cells parts) where
  -- the cell comes after those of its ship mode
  pub put : (part own : Vec Cell Global) → cell.key.ship_mode < length parts
      → own.items ≡ (get_or parts cell.key.ship_mode part).items ++ cell ∷ []
      → AreCellParts count (cells ++ cell ∷ []) (slice_set parts cell.key.ship_mode own)
  put part own lt is =
      let place = cell.key.ship_mode in
      record {
        counted = length-set parts place own ∙ so_far.counted;
        each = λ code within. elim (cases_eq code place) [
          | inl same ↦
              (let here : (place == code) ≡ true = grind (arith, nat_tests) in
              ap (λ l. get_or l code []) (map-set (λ p. p.items) parts place own)
              ∙ ap (λ n. get_or (slice_set (lists parts) place own.items) n []) same
              ∙ get_or-set_same (lists parts) place own.items []
              (omega (arith, lt, length-map parts (λ p. p.items)))
              ∙ is ∙ ap (λ l. l ++ cell ∷ []) (sym (get_or-map (λ p. p.items) parts place part [] lt)
              ∙ ap (λ n. get_or (lists parts) n []) (sym same) ∙ so_far.each code within)
              ∙ sym (one_last code cells cell true here))
          | inr apart ↦
              (let there : (place == code) ≡ false = grind (arith, nat_tests) in
              ap (λ l. get_or l code []) (map-set (λ p. p.items) parts place own)
              ∙ get_or-set_other (lists parts) place code own.items [] apart
              ∙ so_far.each code within ∙ sym (append-nil (cells_at code cells))
              ∙ sym (one_last code cells cell false there))
        ];
      }

  -- a cell of no part is left out
  pub left_out : count ≤ cell.key.ship_mode → AreCellParts count (cells ++ cell ∷ []) parts
  left_out past = record {
    counted = so_far.counted;
    each = λ code within.
        let there : (cell.key.ship_mode == code) ≡ false = grind (arith, nat_tests) in
        so_far.each code within ∙ sym (append-nil (cells_at code cells))
        ∙ sym (one_last code cells cell false there);
  }
