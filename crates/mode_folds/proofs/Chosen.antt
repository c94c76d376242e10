-- Cells of some ship modes represent the fact rows of these ship modes.
use Rattle.std.proofs.Common.{◌≡◌, ◌∙◌, sym, ap, refl, ℕ, ◌==◌, ◌+◌, ◌*◌, ◌<◌, ◌/◌, ◌%◌, Bool, true, false, cond}
use Rattle.std.proofs.Common.{Option, Some, None, List, [], ◌∷◌, arith, All}
use Rattle.std.specs.List.{filter, find}
use Rattle.std.proofs.Math.Nat.{mod-add-div'}
use Rattle.std.proofs.lemmas.Bool.Decides.{nat_tests}
use Rattle.std.proofs.lemmas.List.{get_or-map}
use Rattle.std.proofs.lemmas.List.Elements.{All-filter, All-head, All-tail}
use Rattle.std.proofs.lemmas.List.Kept.{AllPairs-filter}
use Rattle.cube_model.specs.declared.rows.DimRows.{DimRows}
use Rattle.cube_model.specs.declared.rows.LineOrder.{LineOrder}
use Rattle.dictionary.proofs.CallerLemmas.{text_at_place}
use Rattle.dictionary.specs.Columns.{place_of}
use Rattle.lattice.specs.declared.view.View.{View}
use Rattle.cuboid_cells.specs.declared.cell.Cell.{Cell}
use Rattle.cuboid_cells.specs.Cells.{AreProperCells, CellFits, IsCellOf, PlainCells, cell_at, key_as_number}
use Rattle.cuboid_cells.specs.Steps.{cells_of}
use Rattle.cuboid_upkeep.specs.Codes.{IsMode, mode_code}
use Rattle.cuboid_upkeep.specs.Grouping.{HasMembers, RepresentRows, cell_over, key_of, rows_of_number}
use Rattle.mode_folds.specs.Celling.{passes_at}
use Rattle.mode_folds.proofs.Foldables.{fewer_filter}
use Rattle.mode_queries.specs.Joining.{passing}
use Rattle.mode_queries.specs.Selection.{passes_modes}
use Rattle.mode_queries.specs.declared.query.ModeCond.{ModeCond}

-- ---- items that are kept: of those that pass a test all or none
module _ {X : Type 0} (test keep : X → Bool) (b : Bool) (x : X) (xs : List X)
    (same : test x ≡ true → keep x ≡ b) where
  filter_one : filter test (filter keep xs) ≡ cond b (filter test xs) []
      → filter test (filter keep (x ∷ xs)) ≡ cond b (filter test (x ∷ xs)) []
  filter_one rest = by (test x) (keep x) refl refl
    where
      left : List X
      left = filter test (filter keep xs)

      more : (b : Bool) → left ≡ cond b (filter test xs) [] → cond b (x ∷ left) left ≡ cond b (x ∷ filter test xs) []
      more true is = ap (λ l. x ∷ l) is
      more false is = is

      by : (t k : Bool) → test x ≡ t → keep x ≡ k
          → filter test (cond k (x ∷ filter keep xs) (filter keep xs)) ≡ cond b (cond t (x ∷ filter test xs)
          (filter test xs)) []
      by true true is kept = ap (λ t. cond t (x ∷ left) left) is
          ∙ ap (λ own. cond own (x ∷ left) left) (sym kept ∙ same is) ∙ more b rest
      by true false is kept = ap (λ own. cond own (x ∷ left) left) (sym kept ∙ same is) ∙ more b rest
      by false true is kept = ap (λ t. cond t (x ∷ left) left) is ∙ rest
      by false false is kept = rest

  find_one : find test (filter keep xs) ≡ cond b (find test xs) None
      → find test (filter keep (x ∷ xs)) ≡ cond b (find test (x ∷ xs)) None
  find_one rest = by (test x) (keep x) refl refl
    where
      by : (t k : Bool) → test x ≡ t → keep x ≡ k
          → find test (cond k (x ∷ filter keep xs) (filter keep xs)) ≡ cond b (cond t (Some x) (find test xs)) None
      by true true is kept = ap (λ t. cond t (Some x) (find test (filter keep xs))) is
          ∙ ap (λ own. cond own (Some x) None) (sym kept ∙ same is)
      by true false is kept =
          rest ∙ ap (λ own. cond own (find test xs) None) (sym (same is) ∙ kept)
          ∙ ap (λ own. cond own (Some x) None) (sym kept ∙ same is)
      by false true is kept = ap (λ t. cond t (Some x) (find test (filter keep xs))) is ∙ rest
      by false false is kept = rest

module _ {X : Type 0} (P : X → Type 0) (test keep : X → Bool) (b : Bool)
    (same : (x : X) → P x → test x ≡ true → keep x ≡ b) where
  pub filter_kept : (xs : List X) → All P xs → filter test (filter keep xs) ≡ cond b (filter test xs) []
  filter_kept [] all = nothing b
    where
      nothing : (b : Bool) → ◌≡◌ {A = List X} [] (cond b [] [])
      nothing true = refl
      nothing false = refl
  filter_kept (x ∷ xs) all =
      filter_one test keep b x xs (same x (All-head P x xs all)) (filter_kept xs (All-tail P x xs all))

  find_kept : (xs : List X) → All P xs → find test (filter keep xs) ≡ cond b (find test xs) None
  find_kept [] all = nothing b
    where
      nothing : (b : Bool) → ◌≡◌ {A = Option X} None (cond b None None)
      nothing true = refl
      nothing false = refl
  find_kept (x ∷ xs) all =
      find_one test keep b x xs (same x (All-head P x xs all)) (find_kept xs (All-tail P x xs all))

abbrev pub kept : (ℕ → Bool) → List Cell → List Cell
kept q cells = filter (λ cell. q cell.key.ship_mode) cells

-- cells that are kept keep the rules of a view
pub kept_proper : (view : View) (q : ℕ → Bool) (cells : List Cell) → AreProperCells (cells_of view cells)
    → AreProperCells (cells_of view (kept q cells))
kept_proper view q cells proper = record {
  rules = record {
    few = omega (arith, proper.rules.few, fewer_filter (λ (cell : Cell). q cell.key.ship_mode) cells);
    each = All-filter (λ cell. q cell.key.ship_mode) (IsCellOf view) cells proper.rules.each;
    ascending = AllPairs-filter (λ one other. key_as_number one.key < key_as_number other.key)
        (λ cell. q cell.key.ship_mode) cells proper.rules.ascending;
  };
  fit = All-filter (λ cell. q cell.key.ship_mode) CellFits cells proper.fit;
}

-- the codes for which a test passes are those of the ship modes for which another does
module _ (dimensions : DimRows) (modes : List (List ℕ)) (view : View) (grouped : view.ship_mode ≡ true)
    (p : List ℕ → Bool) (q : ℕ → Bool) (agree : (text : List ℕ) → IsMode modes text → q (place_of modes text) ≡ p text)
  where
    row_at : (front code : ℕ) → code < 65536 → (row : LineOrder) → HasMembers dimensions modes view row
        → (key_as_number (key_of dimensions modes view row) == (front * 65536 + code)) ≡ true → p row.shipmode ≡ q code
    row_at front code low row has is =
        let mode = has.ship_mode grouped in
        let own : (key_of dimensions modes view row).ship_mode ≡ place_of modes row.shipmode =
        ap (λ b. mode_code b modes row.shipmode) grouped in
        let same : key_as_number (key_of dimensions modes view row) ≡ front * 65536 + code = grind (arith, nat_tests) in
        let code_is : place_of modes row.shipmode ≡ code = omega (arith, same, own, low, mode.below) in
        sym (agree row.shipmode mode) ∙ ap q code_is

    cell_is : (front code : ℕ) → code < 65536 → (cell : Cell) → CellFits cell
        → (key_as_number cell.key == (front * 65536 + code)) ≡ true → q cell.key.ship_mode ≡ q code
    cell_is front code low cell fits is =
        let same : key_as_number cell.key ≡ front * 65536 + code = grind (arith, nat_tests) in
        let code_is : cell.key.ship_mode ≡ code = omega (arith, same, low, fits.key.ship_mode) in
        ap q code_is

    module _ (rows : List LineOrder) (cells : List Cell) (fit : All CellFits cells)
        (represent : RepresentRows dimensions modes rows (cells_of view cells)) where
      abbrev own : List LineOrder
      own = filter (λ row. p row.shipmode) rows

      by_parts : (front code : ℕ) → code < 65536
          → cell_at (front * 65536 + code) (kept q cells)
          ≡ cell_over dimensions modes view (rows_of_number dimensions modes view (front * 65536 + code) own)
      by_parts front code low =
          let number = front * 65536 + code in
          find_kept CellFits (λ cell. key_as_number cell.key == number) (λ cell. q cell.key.ship_mode) (q code)
          (cell_is front code low) cells fit
          ∙ ap (λ o. cond (q code) o None) (represent.group number)
          ∙ or_none (q code) (rows_of_number dimensions modes view number rows)
          ∙ ap (cell_over dimensions modes view)
          (sym (filter_kept (HasMembers dimensions modes view)
          (λ row. key_as_number (key_of dimensions modes view row) == number) (λ row. p row.shipmode) (q code)
          (row_at front code low) rows represent.known))
        where
          or_none : (b : Bool) (some : List LineOrder) → cond b (cell_over dimensions modes view some) None
              ≡ cell_over dimensions modes view (cond b some [])
          or_none true some = refl
          or_none false some = refl

      pub kept_represent : RepresentRows dimensions modes own (cells_of view (kept q cells))
      kept_represent = record {
        known = All-filter (λ row. p row.shipmode) (HasMembers dimensions modes view) rows represent.known;
        ascending = AllPairs-filter (λ one other. key_as_number one.key < key_as_number other.key)
            (λ cell. q cell.key.ship_mode) cells represent.ascending;
        group = λ number.
            let parts : number / 65536 * 65536 + number % 65536 ≡ number = omega (arith, mod-add-div' number 65536) in
            let low : number % 65536 < 65536 = omega arith in
            ap (λ n. cell_at n (kept q cells)) (sym parts) ∙ by_parts (number / 65536) (number % 65536) low
            ∙ ap (λ n. cell_over dimensions modes view (rows_of_number dimensions modes view n own)) parts;
      }

-- the cells whose ship modes pass conditions
pub passing_represent : (dimensions : DimRows) (conditions : List ModeCond) (modes : List (List ℕ)) (plain : PlainCells)
    (rows : List LineOrder) → plain.view.ship_mode ≡ true → AreProperCells plain
    → RepresentRows dimensions modes rows plain
    → RepresentRows dimensions modes (passing conditions rows)
    (cells_of plain.view (kept (passes_at conditions modes) plain.cells))
passing_represent dimensions conditions modes plain rows grouped proper represent =
    kept_represent dimensions modes plain.view grouped (passes_modes conditions) (passes_at conditions modes)
    (λ text mode. get_or-map (passes_modes conditions) modes (place_of modes text) [] false mode.among
    ∙ ap (passes_modes conditions) (text_at_place modes text mode.among)) rows plain.cells proper.fit represent
