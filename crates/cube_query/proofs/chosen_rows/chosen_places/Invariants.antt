use Rattle.std.proofs.Common.{◌≡◌, ◌≤◌, ◌++◌, drop, length, take}
use Rattle.cube_query.specs.Chosen.{places_from}
use Rattle.cube_query.proofs.chosen_rows.chosen_places.Given as goal

abbrev pub invariant-loop-place : goal.invariant-loop-place
invariant-loop-place l = record {
  few : l.kept ≤ l.place;
  long : length l.places.items ≡ l.count;
  chosen : take l.kept l.places.items ++ places_from l.place (drop l.place l.mask) ≡ places_from 0 l.mask;
}
