use Rattle.std.proofs.Common.{◌≡◌, map, take}
use Rattle.warehouse.specs.Choosing.{views_of}
use Rattle.warehouse.proofs.choosing.paired.Given as goal

abbrev pub invariant-loop-place : goal.invariant-loop-place
invariant-loop-place l = record {
  views : views_of l.chosen.items ≡ take l.place l.views;
  benefits : map (λ one. one.benefit) l.chosen.items ≡ take l.place l.benefits;
}
