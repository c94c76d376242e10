-- Cells whose keys climb. Our own.
use Rattle.std.proofs.Common.{◌≡◌, ℕ, suc, ◌+◌, ◌<◌, ◌≤◌, List, [], ◌∷◌, ◌++◌, All, refl, ap, ◌∙◌, arith, Bool, cond}
use Rattle.std.proofs.Common.{Some, None}
use Rattle.std.proofs.lemmas.Bool.{ne_eqb}
use Rattle.std.proofs.lemmas.List.Elements.{All-cons, All-head, All-nil}
use Rattle.std.proofs.lemmas.List.Kept.{AllPairs-cons}
use Rattle.cuboid_cells.specs.declared.cell.Cell.{Cell}
use Rattle.cuboid_cells.specs.Cells.{AreAscending, cell_at, key_as_number}
use Rattle.cuboid_cells.specs.Pieces.{Climbs}

-- the same as `Climbs`, and all are below `high`
abbrev pub ClimbsTo : ℕ → List Cell → ℕ → Type 0
ClimbsTo low [] high = low ≤ high
ClimbsTo low (cell ∷ cells) high = (low ≤ key_as_number cell.key) × ClimbsTo (key_as_number cell.key + 1) cells high

-- from lower down
pub lower : (low at : ℕ) (cells : List Cell) → low ≤ at → Climbs at cells → Climbs low cells
lower low at [] below climbs = tt
lower low at (cell ∷ cells) below climbs = (omega (arith, below, climbs.0), climbs.1)

-- none has a key below
pub all_from : (low : ℕ) (cells : List Cell) → Climbs low cells → All (λ cell. low ≤ key_as_number cell.key) cells
all_from low [] climbs = All-nil (λ cell. low ≤ key_as_number cell.key)
all_from low (cell ∷ cells) climbs =
    let later = all_from (key_as_number cell.key + 1) cells climbs.1 in
    All-cons (λ one. low ≤ key_as_number one.key) cell cells climbs.0
    (λ k d within. omega (arith, later k d within, climbs.0))

-- a cell after them
pub climb_more : (low high : ℕ) (cells : List Cell) (cell : Cell) → ClimbsTo low cells high
    → high ≤ key_as_number cell.key
    → ClimbsTo low (cells ++ cell ∷ []) (key_as_number cell.key + 1)
climb_more low high [] cell climbs above = (omega (arith, climbs, above), omega arith)
climb_more low high (first ∷ cells) cell climbs above =
    (climbs.0, climb_more (key_as_number first.key + 1) high cells cell climbs.1 above)

-- no cell has a key below them
pub none_at : (low key : ℕ) (cells : List Cell) → Climbs low cells → key < low → cell_at key cells ≡ None
none_at low key [] climbs below = refl
none_at low key (cell ∷ cells) climbs below =
    ap (λ (is : Bool). cond is (Some cell) (cell_at key cells))
    (ne_eqb (key_as_number cell.key) key (λ same. omega (arith, same, below, climbs.0)))
    ∙ none_at (key_as_number cell.key + 1) key cells climbs.1 (omega (arith, below, climbs.0))

-- ascending cells climb
pub climbs_from : (low : ℕ) (cells : List Cell) → AreAscending cells → All (λ cell. low ≤ key_as_number cell.key) cells
    → Climbs low cells
climbs_from low [] ascending above = tt
climbs_from low (cell ∷ cells) ascending above = (
  All-head (λ one. low ≤ key_as_number one.key) cell cells above,
  climbs_from (key_as_number cell.key + 1) cells
      (λ i j d before within. ascending (suc i) (suc j) d (omega (arith, before)) (omega (arith, within)))
      (λ k d within. let over = ascending 0 (suc k) d (omega arith) (omega (arith, within)) in omega (arith, over)),
)

none_below : (low high : ℕ) (cells : List Cell) → ClimbsTo low cells high
    → All (λ cell. low ≤ key_as_number cell.key) cells
none_below low high [] climbs = All-nil (λ cell. low ≤ key_as_number cell.key)
none_below low high (cell ∷ cells) climbs =
    let after = none_below (key_as_number cell.key + 1) high cells climbs.1 in
    All-cons (λ one. low ≤ key_as_number one.key) cell cells climbs.0
    (λ k d within. omega (arith, after k d within, climbs.0))

-- and climbing cells ascend
pub climbs_ascend : (low high : ℕ) (cells : List Cell) → ClimbsTo low cells high → AreAscending cells
climbs_ascend low high [] climbs = λ i j d before within. absurd (omega (arith, within))
climbs_ascend low high (cell ∷ cells) climbs =
    let after = none_below (key_as_number cell.key + 1) high cells climbs.1 in
    AllPairs-cons (λ one other. key_as_number one.key < key_as_number other.key) cell cells
    (λ k d within. omega (arith, after k d within)) (climbs_ascend (key_as_number cell.key + 1) high cells climbs.1)
