-- Upkeep: the target first, and then the cuboids.
use Rattle.std.proofs.Common.{◌≡◌, ◌⊎◌, ⊎_elim, inl, inr, ◌≤◌, ℕ, Some, None, Option, List, length, All, refl, sym, ◌∙◌}
use Rattle.std.proofs.Common.{ap, subst, arith}
use Rattle.std.proofs.lemmas.List.{length-map}
use Rattle.cube_model.specs.declared.fault.Fault.{Fault}
use Rattle.cube_model.specs.declared.fault.Fault.TheVariants.{Memory}
use Rattle.cube_model.specs.declared.rows.DimRows.{DimRows}
use Rattle.cube_model.specs.declared.rows.LineOrder.{LineOrder}
use Rattle.lattice.specs.declared.view.View.{View}
use Rattle.object_store.specs.Content.{Content}
use Rattle.object_store.specs.Disk.{Disk, Leaves}
use Rattle.object_store.proofs.Moments.{leaves_then, leaves_weaker}
use Rattle.object_store.proofs.Lists.{All-unmap}
use Rattle.warehouse_root.specs.Root.{IsProperCuboid, PlainRoot}
use Rattle.warehouse_objects.specs.Represents.{AreItsMembers, Represents, root_of, said_of}
use Rattle.warehouse_objects.specs.Warehouse.{Warehouse, aimed}
use Rattle.stored_cuboids.specs.Keeping.{IsCaughtUp, IsDone, IsKeptUp}
use Rattle.stored_cuboids.specs.Upkeep.{CuboidsAreCurrent, AreWholeBut}
use Rattle.stored_cuboids.proofs.Turns.{batches_kept, kept_same}

pub memory_or : (fault : Fault) → (fault ≡ Memory) ⊎ (fault ≡ Memory → ⊥)
memory_or Memory = inl refl
memory_or fault = inr (λ e. cc)

pub kept_aimed : (w : Warehouse) → IsKeptUp w (aimed w)
kept_aimed w = record { facts = refl; cuboids = (kept_same w).cuboids }

pub members_aimed : (w : Warehouse) (rows : DimRows) (modes : List (List ℕ)) → AreItsMembers w rows modes
    → AreItsMembers (aimed w) rows modes
members_aimed w rows modes are = record { rows = are.rows; modes = are.modes }

-- the target is none of what is kept
pub from_aimed : (w v : Warehouse) → IsCaughtUp (aimed w) v → IsKeptUp w v
from_aimed w v caught = record {
  facts = caught.kept.facts;
  cuboids = caught.kept.cuboids;
}

abbrev pub Kept : Warehouse → Content → Type 0
Kept w c = (v : Warehouse) × IsKeptUp w v × Represents c v

pub leaves_same : (w : Warehouse) (c : Content) (old new : Disk) → (old.keeps_word → Represents c w)
    → Leaves old new (λ x. x ≡ c) → Leaves old new (Kept w)
leaves_same w c old new represents =
    leaves_weaker (λ (x : Content). x ≡ c) (Kept w) old new
    (λ k x e. (w, kept_same w, subst (λ (y : Content). Represents y w) (sym e) (represents k)))

pub leaves_aimed : (w : Warehouse) (old new : Disk) → Leaves old new (λ c. Represents c w ⊎ Represents c (aimed w))
    → Leaves old new (Kept w)
leaves_aimed w old new = leaves_weaker (λ (c : Content). Represents c w ⊎ Represents c (aimed w)) (Kept w) old new
    (λ k c. ⊎_elim {C = Kept w c} (λ before. (w, kept_same w, before)) (λ after. (aimed w, kept_aimed w, after)))

pub leaves_both : (w : Warehouse) (old mid new : Disk) → Leaves old mid (λ c. Represents c w ⊎ Represents c (aimed w))
    → Leaves mid new (λ c. (v : Warehouse) × IsCaughtUp (aimed w) v × Represents c v) → Leaves old new (Kept w)
leaves_both w old mid new first second =
    leaves_then (Kept w) old mid new (leaves_aimed w old mid first)
    (leaves_weaker (λ (c : Content). (v : Warehouse) × IsCaughtUp (aimed w) v × Represents c v) (Kept w) mid new
    (λ k c there. (there.0, from_aimed w there.0 there.1, there.2)) second)

-- a cuboid holds no more batches than there are
within : (c : Content) (w : Warehouse) → Represents c w → All (λ cuboid. cuboid.mark ≤ length w.batches) w.cuboids
within c w represents k default less =
    let proper = All-unmap (IsProperCuboid (root_of w).layout (length (root_of w).batches)) said_of w.cuboids
    represents.root.proper.each k default less in
    omega (arith, proper.mark, length-map w.batches (λ (batch : List LineOrder). length batch))

-- so one that holds as many as it is to, where that is all of them, holds all
pub all_whole : (c : Content) (w : Warehouse) (passed : Option View) → Represents c w → w.target ≡ length w.batches
    → IsDone w passed → AreWholeBut w passed
all_whole c w None represents target done = λ k default less. let low = done k default less in let high =
    within c w represents k default less in omega (arith, low, high, target)
all_whole c w (Some view) represents target done = (done, target)

-- the target after upkeep is all batches
pub target_is : (w v : Warehouse) → IsCaughtUp (aimed w) v → v.target ≡ length v.batches
target_is w v caught = caught.target
    ∙ ap (λ (batches : List (List LineOrder)). length batches) (sym (batches_kept (aimed w) v caught.kept))

-- the marks of the cuboids are those that the root says
pub whole_by_root : (w : Warehouse) (root : PlainRoot) (count : ℕ) → root_of w ≡ root → count ≡ length root.batches
    → All (λ cuboid. cuboid.mark ≡ count) root.cuboids → CuboidsAreCurrent w
whole_by_root w root count root_is count_is all =
    let there = subst (λ (r : PlainRoot). All (λ cuboid. cuboid.mark ≡ count) r.cuboids) (sym root_is) all in
    let many : length root.batches ≡ length w.batches = ap (λ (r : PlainRoot). length r.batches) (sym root_is)
    ∙ length-map w.batches (λ (batch : List LineOrder). length batch) in
    λ k default less. let own = All-unmap (λ cuboid. cuboid.mark ≡ count) said_of w.cuboids there k default less in own
    ∙ count_is ∙ many
