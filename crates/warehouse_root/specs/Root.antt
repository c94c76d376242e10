-- What the root of a warehouse says, how it is spelled, and which rules it keeps. Our layout.
use Rattle.std.specs.Prelude.{◌≡◌, ℕ, ◌+◌, ◌<◌, ◌≤◌, ◌==◌, ◌↔◌, if◌then◌else◌, List, [], ◌∷◌, ◌++◌, length, map, All}
use Rattle.std.specs.List.{AllPairs, flat_map}
use Rattle.cube_model.specs.Limits.{most_batch_rows, most_batches}
use Rattle.wire.specs.Spelling.{spelling}
use Rattle.warehouse_root.specs.declared.cuboid.StoredCuboid.{StoredCuboid}
use Rattle.warehouse_root.specs.declared.layout.Layout.{Layout}
use Rattle.cube_model.specs.declared.totals.Totals.{Totals}
use Rattle.warehouse_root.specs.Layouts.{view_count}
use Rattle.warehouse_root.specs.declared.layout.Layout.TheVariants.{Second}
use Rattle.cuboid_cells.specs.Limits.{most_cells}
use Rattle.warehouse_root.specs.Limits.{greatest_total, most_additions, most_cuboids, most_runs}

-- what a root says, wherever it lies in memory
pub record PlainRoot : Type 0 where
  pub layout : Layout
  -- how many rows each batch has, the first batch first
  pub batches : List ℕ
  -- how many of the first batches each stored cuboid is to hold
  pub target : ℕ
  -- how often rows were added to dimensions
  pub additions : ℕ
  -- the sums of absolute values over the rows of all batches
  pub totals : Totals
  pub cuboids : List StoredCuboid

-- how many batches, the target, how many additions, how many cuboids
abbrev pub counts_spelling : ℕ → ℕ → ℕ → ℕ → List ℕ
counts_spelling batches target additions cuboids =
    spelling 4 batches ++ (spelling 4 target ++ (spelling 4 additions ++ spelling 4 cuboids))

-- the 48 bytes of the totals, measure by measure
abbrev pub totals_spelling : Totals → List ℕ
totals_spelling totals =
    spelling 8 totals.quantity ++ (spelling 8 totals.extendedprice ++ (spelling 8 totals.revenue
    ++ (spelling 8 totals.supplycost ++ (spelling 8 totals.discounted ++ spelling 8 totals.profit))))

-- the 12 bytes of a cuboid
abbrev pub cuboid_of : StoredCuboid → List ℕ
cuboid_of cuboid =
    spelling 2 cuboid.view ++ (spelling 2 cuboid.runs ++ (spelling 4 cuboid.mark ++ spelling 4 cuboid.cells))

-- the bytes of a root: the counts, the totals, the rows of each batch, each cuboid
abbrev pub root_spelling : PlainRoot → List ℕ
root_spelling root =
    counts_spelling (length root.batches) root.target root.additions (length root.cuboids)
    ++ (totals_spelling root.totals ++ (flat_map (spelling 4) root.batches ++ flat_map cuboid_of root.cuboids))

-- each total keeps its limit
pub record AreProperTotals (totals : Totals) : Type 0 where
  pub quantity : totals.quantity ≤ greatest_total
  pub extendedprice : totals.extendedprice ≤ greatest_total
  pub revenue : totals.revenue ≤ greatest_total
  pub supplycost : totals.supplycost ≤ greatest_total
  pub discounted : totals.discounted ≤ greatest_total
  pub profit : totals.profit ≤ greatest_total

-- the rules of a cuboid that is stored over so many batches
pub record IsProperCuboid (layout : Layout) (batches : ℕ) (cuboid : StoredCuboid) : Type 0 where
  pub view : cuboid.view < view_count layout
  pub mark : cuboid.mark ≤ batches
  -- a cuboid that holds no batch has no run, and another one has some
  pub no_run : (cuboid.runs ≡ 0) ↔ (cuboid.mark ≡ 0)
  pub most_runs : cuboid.runs ≤ most_runs
  pub most_cells : cuboid.cells ≤ most_cells

-- the view of each cuboid is below those of the cuboids after it
abbrev pub ViewsAscend : List StoredCuboid → Type 0
ViewsAscend cuboids = AllPairs (λ one other. one.view < other.view) cuboids

-- the rules of a root
pub record IsProperRoot (root : PlainRoot) : Type 0 where
  pub most_batches : length root.batches ≤ most_batches
  pub rows : All (λ rows. rows ≤ most_batch_rows) root.batches
  pub target : root.target ≤ length root.batches
  pub additions : root.additions ≤ most_additions
  pub totals : AreProperTotals root.totals
  pub most_cuboids : length root.cuboids ≤ most_cuboids
  pub each : All (IsProperCuboid root.layout (length root.batches)) root.cuboids
  pub ascending : ViewsAscend root.cuboids

-- the bytes are those of a proper root: there is no other spelling of it
pub record IsRoot (bytes : List ℕ) (root : PlainRoot) : Type 0 where
  pub spelled : bytes ≡ root_spelling root
  pub proper : IsProperRoot root

-- the bytes are a root of that layout
pub record IsRootOf (layout : Layout) (bytes : List ℕ) (root : PlainRoot) : Type 0 where
  pub of_layout : root.layout ≡ layout
  pub is_root : IsRoot bytes root

-- the root of a warehouse of no batch
abbrev pub first_root : Layout → PlainRoot
first_root layout = record {
  layout = layout;
  batches = [];
  target = 0;
  additions = 0;
  totals = record { quantity = 0; extendedprice = 0; revenue = 0; supplycost = 0; discounted = 0; profit = 0 };
  cuboids = [];
}

-- the root with one batch more, of so many rows, and the totals with its rows
abbrev pub root_with_batch : ℕ → Totals → PlainRoot → PlainRoot
root_with_batch rows totals root = record root { batches = root.batches ++ rows ∷ []; totals = totals }

-- the root with another target
abbrev pub with_target : ℕ → PlainRoot → PlainRoot
with_target target root = record root { target = target }

-- the root where rows were added to dimensions once more
abbrev pub root_with_addition : PlainRoot → PlainRoot
root_with_addition root = record root { additions = root.additions + 1 }

-- the root of the same batches and cuboids in the second layout
abbrev pub root_in_second : PlainRoot → PlainRoot
root_in_second root = record root { layout = Second }

-- a cuboid in the place of that of its view
abbrev pub put_stored_cuboid : StoredCuboid → List StoredCuboid → List StoredCuboid
put_stored_cuboid cuboid cuboids = map (λ other. if other.view == cuboid.view then cuboid else other) cuboids

abbrev pub with_cuboid : StoredCuboid → PlainRoot → PlainRoot
with_cuboid cuboid root = record root { cuboids = put_stored_cuboid cuboid root.cuboids }

-- the root with other cuboids, which are to hold no batch yet
abbrev pub with_cuboids : List StoredCuboid → PlainRoot → PlainRoot
with_cuboids cuboids root = record root { target = 0; cuboids = cuboids }
