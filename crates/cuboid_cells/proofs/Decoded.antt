-- When the parts that were read are a run. Our own.
use Rattle.std.proofs.Common.{◌≡◌, ℕ, ◌+◌, ◌*◌, ◌<◌, ◌≤◌, Bool, List, [], ◌∷◌, ◌++◌, length, All, refl, sym, ap, ◌∙◌}
use Rattle.std.proofs.Common.{subst, arith, append-nil}
use Rattle.std.specs.List.{flat_map}
use Rattle.lattice.specs.declared.view.View.{View}
use Rattle.lattice.specs.Views.{index_of}
use Rattle.lattice.proofs.Places.{one_view}
use Rattle.cuboid_cells.specs.declared.cell.Cell.{Cell}
use Rattle.cuboid_cells.specs.declared.reading.Header.{Header}
use Rattle.cuboid_cells.specs.declared.span.Span.{Span}
use Rattle.cuboid_cells.specs.Cells.{FollowRules, KeepRules, PlainCells}
use Rattle.cuboid_cells.specs.Limits.{most_cells}
use Rattle.cuboid_cells.specs.Reading.{IsHeaderOf, IsHeaderWith, IsReadableCell, ReadsCells, ReadsRunHeader}
use Rattle.cuboid_cells.specs.Spelled.{IsRun, cell_bytes, cell_of, run_header, name_of}
use Rattle.cuboid_cells.specs.Steps.{cells_of}
use Rattle.cuboid_cells.proofs.CallerLemmas.{are_readable, cells-one, header-one, length-name_of, length-run_of}
use Rattle.cuboid_cells.proofs.CallerLemmas.{views_below}

-- a header names one view
pub high_view : (bytes : ℕ) (header : Header) → 512 ≤ header.view → (view : View) → IsHeaderOf bytes header view → ⊥
high_view bytes header high view is = omega (arith, high, is.view, views_below view)

pub no_other : (bytes : ℕ) (header : Header) (found : View) → header.view ≡ index_of found
    → (IsHeaderWith found.ship_mode bytes header → ⊥)
    → (view : View) → IsHeaderOf bytes header view → ⊥
no_other bytes header found named refuses view is =
    let same : view ≡ found = one_view view found (sym is.view ∙ named) in
    refuses (subst (λ (v : View). IsHeaderWith v.ship_mode bytes header) same is.rest)

-- as many cells as a header may name, which follow the rules, keep them all
pub kept : (view : View) (count : ℕ) (old new : List ℕ) (cells : List Cell)
    → ReadsCells view.ship_mode count old new cells
    → count ≤ most_cells → FollowRules view cells → KeepRules view cells
kept view count old new cells reads few rules =
    record { few = omega (arith, reads.many, few); each = rules.0; ascending = rules.1 }

module _ (bytes : List ℕ) where
  -- a run has more bytes than its header
  pub too_short : length bytes < 20 → (span : Span) (plain : PlainCells) → IsRun bytes span plain → ⊥
  too_short short span plain is = omega (arith, short, ap length is.spelled, length-run_of span plain)

  module _ (r0 : List ℕ) (header : Header) (reads : ReadsRunHeader bytes r0 header) where
    -- the header of a run, and what is after it
    parts : (span : Span) (plain : PlainCells) → IsRun bytes span plain
        → (header.name.now ≡ name_of plain.view.ship_mode) × (header.view ≡ index_of plain.view)
        × (header.from ≡ span.from) × (header.to ≡ span.to)
        × (header.cells ≡ length plain.cells) × (r0 ≡ flat_map (cell_of plain.view.ship_mode) plain.cells)
    parts span plain is =
        header-one header.name.now (name_of plain.view.ship_mode) header.view header.from header.to header.cells
        (index_of plain.view) span.from span.to (length plain.cells) r0
        (flat_map (cell_of plain.view.ship_mode) plain.cells)
        reads.fits.name (length-name_of plain.view.ship_mode) reads.fits.view reads.fits.from reads.fits.to
        reads.fits.cells
        (omega (arith, views_below plain.view)) (omega (arith, is.span.some, is.span.fits)) is.span.fits
        (omega (arith, is.proper.rules.few))
        (sym reads.spelled ∙ is.spelled)

    -- the header of a run is that of its view
    pub header_is_of : (span : Span) (plain : PlainCells) → IsRun bytes span plain
        → IsHeaderOf (length bytes) header plain.view
    header_is_of span plain is =
        let p = parts span plain is in record {
          view = p.1;
          rest = record {
            name = p.0;
            some = omega (arith, p.2, p.3, is.span.some);
            few = omega (arith, p.4, is.proper.rules.few);
            whole = ap length is.spelled ∙ length-run_of span plain
                ∙ ap (λ (n : ℕ). 20 + cell_bytes plain.view.ship_mode * n) (sym p.4);
          };
        }

    module _ (r1 : List ℕ) (view : View) (cells : List Cell) (heads : IsHeaderOf (length bytes) header view)
        (reads1 : ReadsCells view.ship_mode header.cells r0 r1 cells) where
      -- no byte is left
      none_left : r1 ≡ []
      none_left =
          let none : length r1 ≡ 0 = omega (arith, heads.rest.whole, reads.left, reads1.left) in
          (elim r1 as (λ (xs : List ℕ). length xs ≡ 0 → xs ≡ []) [
            | [] ↦ λ e. refl
            | x ∷ xs ↦ λ e. absurd (omega arith)
          ]) none

      ends : r0 ≡ flat_map (cell_of view.ship_mode) cells
      ends = reads1.spelled ∙ ap (λ (xs : List ℕ). flat_map (cell_of view.ship_mode) cells ++ xs) none_left
          ∙ append-nil (flat_map (cell_of view.ship_mode) cells)

      spelled : bytes ≡ run_header (name_of view.ship_mode) (index_of view) header.from header.to (length cells)
          ++ flat_map (cell_of view.ship_mode) cells
      spelled =
          reads.spelled
          ∙ ap (λ (xs : List ℕ). run_header header.name.now header.view header.from header.to header.cells ++ xs) ends
          ∙ ap (λ (xs : List ℕ). run_header xs header.view header.from header.to header.cells
          ++ flat_map (cell_of view.ship_mode) cells) heads.rest.name
          ∙ ap (λ (n : ℕ). run_header (name_of view.ship_mode) n header.from header.to header.cells
          ++ flat_map (cell_of view.ship_mode) cells) heads.view
          ∙ ap (λ (n : ℕ). run_header (name_of view.ship_mode) (index_of view) header.from header.to n
          ++ flat_map (cell_of view.ship_mode) cells) (sym reads1.many)

      -- the parts are a run, where the cells keep the rules
      pub is_run : KeepRules view cells
          → IsRun bytes (record { from = header.from; to = header.to }) (cells_of view cells)
      is_run rules = record {
        spelled = spelled;
        span = record { some = heads.rest.some; fits = reads.fits.to };
        proper = record { rules = rules; fit = λ k d within. (reads1.readable k d within).fits };
      }

      -- and where there is a run, they do
      pub they_keep : (span : Span) (plain : PlainCells) → IsRun bytes span plain → KeepRules view cells
      they_keep span plain is =
          let p = parts span plain is in
          let same : plain.view ≡ view = one_view plain.view view (sym p.1 ∙ heads.view) in
          let grouped : plain.view.ship_mode ≡ view.ship_mode = ap (λ (v : View). v.ship_mode) same in
          let bytes_of : flat_map (cell_of view.ship_mode) cells ≡ flat_map (cell_of view.ship_mode) plain.cells =
          sym ends ∙ p.5 ∙ ap (λ (g : Bool). flat_map (cell_of g) plain.cells) grouped in
          let all = cells-one view.ship_mode cells plain.cells [] [] reads1.readable
          (subst (λ (g : Bool). All (IsReadableCell g) plain.cells) grouped (are_readable plain is.proper))
          (reads1.many ∙ p.4)
          (append-nil (flat_map (cell_of view.ship_mode) cells) ∙ bytes_of
          ∙ sym (append-nil (flat_map (cell_of view.ship_mode) plain.cells))) in
          subst (KeepRules view) (sym all.0) (subst (λ (v : View). KeepRules v plain.cells) same is.proper.rules)
