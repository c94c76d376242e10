-- What is read from the front of bytes, before any rule is looked at. Our own.
use Rattle.std.specs.Prelude.{◌≡◌, ℕ, ◌+◌, ◌*◌, ◌^◌, ◌<◌, List, ◌++◌, length, All}
use Rattle.std.specs.List.{flat_map}
use Rattle.wire.specs.Spelling.{spelling}
use Rattle.warehouse_root.specs.declared.cuboid.StoredCuboid.{StoredCuboid}
use Rattle.warehouse_root.specs.declared.layout.Layout.{Layout}
use Rattle.cube_model.specs.declared.totals.Totals.{Totals}
use Rattle.warehouse_root.specs.declared.reading.Counts.{Counts}
use Rattle.warehouse_root.specs.Root.{IsProperRoot, IsRoot, IsRootOf, PlainRoot, counts_spelling, cuboid_of}
use Rattle.warehouse_root.specs.Root.{totals_spelling}

-- a root with these counts has so many bytes
abbrev pub AreCountsOf : ℕ → Counts → Type 0
AreCountsOf bytes counts = bytes ≡ 64 + 4 * counts.batches + 12 * counts.cuboids

-- what a root says that has these parts
abbrev pub root_of_parts : Layout → Counts → Totals → List ℕ → List StoredCuboid → PlainRoot
root_of_parts layout counts totals batches cuboids = record {
  layout = layout;
  batches = batches;
  target = counts.target;
  additions = counts.additions;
  totals = totals;
  cuboids = cuboids;
}

-- each number of the counts fits its field
pub record CountsFit (counts : Counts) : Type 0 where
  pub batches : counts.batches < 2 ^ 32
  pub target : counts.target < 2 ^ 32
  pub additions : counts.additions < 2 ^ 32
  pub cuboids : counts.cuboids < 2 ^ 32

-- each total fits its field
pub record TotalsFit (totals : Totals) : Type 0 where
  pub quantity : totals.quantity < 2 ^ 64
  pub extendedprice : totals.extendedprice < 2 ^ 64
  pub revenue : totals.revenue < 2 ^ 64
  pub supplycost : totals.supplycost < 2 ^ 64
  pub discounted : totals.discounted < 2 ^ 64
  pub profit : totals.profit < 2 ^ 64

-- each number of a cuboid fits its field
pub record CuboidFits (cuboid : StoredCuboid) : Type 0 where
  pub view : cuboid.view < 2 ^ 16
  pub runs : cuboid.runs < 2 ^ 16
  pub mark : cuboid.mark < 2 ^ 32
  pub cells : cuboid.cells < 2 ^ 32

-- the counts were read from the front of `old`, and `new` is left
pub record ReadsCounts (old new : List ℕ) (counts : Counts) : Type 0 where
  pub fit : CountsFit counts
  pub spelled : old ≡ counts_spelling counts.batches counts.target counts.additions counts.cuboids ++ new
  pub left : length old ≡ 16 + length new

-- the totals were read from the front of `old`, and `new` is left
pub record ReadsTotals (old new : List ℕ) (totals : Totals) : Type 0 where
  pub fit : TotalsFit totals
  pub spelled : old ≡ totals_spelling totals ++ new
  pub left : length old ≡ 48 + length new

-- the rows of so many batches were read from the front of `old`, and `new` is left
pub record ReadsRows (count : ℕ) (old new : List ℕ) (batches : List ℕ) : Type 0 where
  pub fit : All (λ rows. rows < 2 ^ 32) batches
  pub many : length batches ≡ count
  pub spelled : old ≡ flat_map (spelling 4) batches ++ new
  pub left : length old ≡ 4 * count + length new

-- a cuboid was read from the front of `old`, and `new` is left
pub record ReadsCuboid (old new : List ℕ) (cuboid : StoredCuboid) : Type 0 where
  pub fits : CuboidFits cuboid
  pub spelled : old ≡ cuboid_of cuboid ++ new
  pub left : length old ≡ 12 + length new

-- so many cuboids were read from the front of `old`, and `new` is left
pub record ReadsCuboids (count : ℕ) (old new : List ℕ) (cuboids : List StoredCuboid) : Type 0 where
  pub fit : All CuboidFits cuboids
  pub many : length cuboids ≡ count
  pub spelled : old ≡ flat_map cuboid_of cuboids ++ new
  pub left : length old ≡ 12 * count + length new

-- the counts and the totals were read from the front of `old`, which is as long as the counts say, and `new` is left
pub record ReadsFront (old new : List ℕ) (counts : Counts) (totals : Totals) : Type 0 where
  pub mid : List ℕ
  pub counts_read : ReadsCounts old mid counts
  pub whole : AreCountsOf (length old) counts
  pub totals_read : ReadsTotals mid new totals

-- the bytes are those of a root of these parts, where they keep the rules, and of no other root
pub record ArePartsOf (bytes : List ℕ) (counts : Counts) (totals : Totals) (batches : List ℕ)
    (cuboids : List StoredCuboid) : Type 0 where
  pub many : length batches ≡ counts.batches
  pub is_root_of : (layout : Layout) → IsProperRoot (root_of_parts layout counts totals batches cuboids)
      → IsRootOf layout bytes (root_of_parts layout counts totals batches cuboids)
  pub parts_are : (layout : Layout) (root : PlainRoot) → IsRootOf layout bytes root
      → root_of_parts layout counts totals batches cuboids ≡ root

-- the bytes are those of no root
abbrev pub SpellNoRoot : List ℕ → Type 0
SpellNoRoot bytes = (root : PlainRoot) → ¬ IsRoot bytes root
