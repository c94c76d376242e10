use Rattle.std.proofs.Common.{◌≡◌, List, length}
use Rattle.warehouse_objects.specs.Warehouse.{Cuboid}
use Rattle.warehouse_jobs.specs.Copied.{AreSaidOf}
use Rattle.warehouse_jobs.proofs.CopiedCuboidsLemmas.{AreFirst}
use Rattle.warehouse_jobs.proofs.copied_cuboids.views_in.Given as goal

abbrev pub invariant-loop-place : goal.invariant-loop-place
invariant-loop-place l = record {
  many : length l.views.items ≡ l.place;
  first : (stored : List Cuboid) → AreSaidOf stored l.cuboids → AreFirst stored l.place l.views.items;
}
