-- Whether cells are the grouping of batches.
use Rattle.std.proofs.Common.{◌∙◌, ◌⊎◌, inl, inr, zero, suc, ◌∷◌, Result, Ok, Err, IfOk, IfErr, ◌≡◌, ◌<◌, ◌↔◌, sym, ap}
use Rattle.std.proofs.Common.{refl, subst, arith, ℕ, List, [], length, map, take, get_or, Some}
use Rattle.std.proofs.lemmas.List.{get_or-map, length-map}
use Rattle.cube_model.specs.Admission.{all_rows}
use Rattle.cube_model.specs.declared.fault.Fault.{Fault}
use Rattle.cube_model.specs.declared.fault.Fault.TheVariants.{BadLayout, Device, Memory, TooManyCells}
use Rattle.cube_model.specs.declared.rows.DimRows.{DimRows}
use Rattle.cube_model.specs.declared.rows.LineOrder.{LineOrder}
use Rattle.object_store.specs.Content.{Content}
use Rattle.lattice.specs.Views.{index_of}
use Rattle.cuboid_cells.specs.Cells.{AreProperCells, PlainCells}
use Rattle.cuboid_upkeep.specs.Grouping.{RepresentRows}
use Rattle.cuboid_upkeep.specs.Lawful.{CellsAreTheOne}
use Rattle.cuboid_upkeep.specs.Steps.{HaveTooMany}
use Rattle.warehouse_root.specs.declared.cuboid.StoredCuboid.{StoredCuboid}
use Rattle.warehouse_root.specs.Layouts.{view_count}
use Rattle.stored_cuboids.specs.Grouped.{EndsGrouping}
use Rattle.warehouse_objects.proofs.CallerLemmas.{own_view, view_within}
use Rattle.warehouse_objects.specs.Represents.{IsLaidOut, said_of}
use Rattle.warehouse_objects.specs.Warehouse.{Cuboid, Warehouse, cuboid_at, ship_modes_of}
use Rattle.stored_cuboids.specs.Merged.{HasMerge, IsSound}
use Rattle.stored_cuboids.proofs.Merging.{merged_one}
use Rattle.cuboid_cells.specs.Steps.{cells_of}

-- ---- cells that group rows

module _ (law : CellsAreTheOne) (rows : DimRows) (modes : List (List ℕ)) (facts : List LineOrder)
    (own cells : PlainCells) (same : own.view ≡ cells.view) where
  pub is_grouping : RepresentRows rows modes facts own → (own.cells ≡ cells.cells)
      ↔ RepresentRows rows modes facts cells
  is_grouping represent = (
    λ list. let both : own ≡ cells = λ i. record { view = same i; cells = list i } in
        subst (RepresentRows rows modes facts) both represent,
    λ also. ap (λ (p : PlainCells). p.cells) (law rows modes facts own cells same represent also),
  )

pub not_too_many : CellsAreTheOne
    → (rows : DimRows) (modes : List (List ℕ)) (facts : List LineOrder) (cells : PlainCells) → AreProperCells cells
    → HaveTooMany rows modes cells.view facts → RepresentRows rows modes facts cells → ⊥
not_too_many law rows modes facts cells proper large represent =
    let same = law rows modes facts (cells_of cells.view large.cells) cells refl large.represent represent in
    absurd (omega (arith, proper.rules.few, large.many, ap (λ (p : PlainCells). length p.cells) same))

-- ---- sound cuboids

pub sound_by : (w : Warehouse) (stored : Cuboid) (mark : ℕ) (cells : PlainCells) → stored.mark ≡ mark
    → HasMerge stored cells → RepresentRows w.rows (ship_modes_of w) (all_rows (take mark w.batches)) cells
    ↔ IsSound w stored
sound_by w stored mark cells ends merge = (
  λ represent. record {
    cells = cells;
    merge = merge;
    grouping = subst (λ (n : ℕ). RepresentRows w.rows (ship_modes_of w) (all_rows (take n w.batches)) cells) (sym ends)
        represent;
  },
  λ sound.
      let same : sound.cells ≡ cells =
      merged_one (cells_of stored.view []) stored.runs sound.cells cells sound.merge merge in
      subst (λ (n : ℕ). RepresentRows w.rows (ship_modes_of w) (all_rows (take n w.batches)) cells) ends
      (subst (λ (m : PlainCells). RepresentRows w.rows (ship_modes_of w) (all_rows (take stored.mark w.batches)) m) same
      sound.grouping),
)

-- cells of the view of a stored cuboid are of a view of the layout
pub stored_within : (c : Content) (w : Warehouse) (view : ℕ) (stored : Cuboid) (cells : PlainCells) → IsLaidOut c w
    → cuboid_at view w.cuboids ≡ Some stored → index_of cells.view ≡ index_of stored.view
    → index_of cells.view < view_count w.layout
stored_within c w view stored cells laid found same = omega (arith, same, view_within c w laid view stored found)

-- ---- the cuboids of a root

-- what the root says at a place, of the cuboid there
module _ (c : Content) (w : Warehouse) (entries : List StoredCuboid) (laid : IsLaidOut c w)
    (same : entries ≡ map said_of w.cuboids) (k : ℕ) (d : Cuboid) (s : StoredCuboid) (within : k < length w.cuboids)
  where
    pub said_there : said_of (get_or w.cuboids k d) ≡ get_or entries k s
    said_there =
        get_or_any k (map said_of w.cuboids) (said_of d) s (omega (arith, within, length-map w.cuboids said_of))
        (get_or-map said_of w.cuboids k d (said_of d) within)
        ∙ ap (λ (l : List StoredCuboid). get_or l k s) (sym same)
      where
        get_or_any : (n : ℕ) (l : List StoredCuboid) (a b : StoredCuboid) → n < length l
            → get_or l n a ≡ said_of (get_or w.cuboids k d) → said_of (get_or w.cuboids k d) ≡ get_or l n b
        get_or_any n [] a b lt is = absurd (omega (arith, lt))
        get_or_any zero (x ∷ l) a b lt is = sym is
        get_or_any (suc n) (x ∷ l) a b lt is = get_or_any n l a b (omega (arith, lt)) is

    pub found_there : cuboid_at (get_or entries k s).view w.cuboids ≡ Some (get_or w.cuboids k d)
    found_there =
        ap (λ (e : StoredCuboid). cuboid_at e.view w.cuboids) (sym said_there)
        ∙ own_view w.cuboids k d laid.root.proper.ascending within

-- ---- results

pub ok_so : {X : Type 0} (P Q : X → Type 0) (result : Result X Fault) → ((x : X) → P x → Q x) → IfOk result P
    → IfOk result Q
ok_so P Q (Ok x) so is = so x is
ok_so P Q (Err fault) so is = tt

pub which_large : {X : Type 0} (result : Result X Fault) (n m : ℕ) → result ≡ Err (TooManyCells n)
    → IfErr result (EndsGrouping m)
    → result ≡ Err (TooManyCells m)
which_large {X} result n m is causes =
    by (subst (λ (r : Result X Fault). IfErr r
    (EndsGrouping m)) is causes)
  where
    by : (TooManyCells n ≡ Memory)
        ⊎ ((TooManyCells n ≡ Device) ⊎ ((TooManyCells n ≡ BadLayout) ⊎ (TooManyCells n ≡ TooManyCells m)))
        → result ≡ Err (TooManyCells m)
    by (inl e) = absurd cc
    by (inr (inl e)) = absurd cc
    by (inr (inr (inl e))) = absurd cc
    by (inr (inr (inr e))) = is ∙ ap (λ (f : Fault). Err f) e
