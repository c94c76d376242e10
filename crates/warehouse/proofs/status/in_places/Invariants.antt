use Rattle.std.proofs.Common.{◌≡◌, ◌<◌, ℕ, None, length, nat_lt, if◌then◌else◌, slice_get, slice_index_or}
use Rattle.warehouse.proofs.status.in_places.Given as goal

abbrev pub invariant-loop-place : goal.invariant-loop-place
invariant-loop-place l = record {
  many : length l.places ≡ 16;
  each : (k : ℕ) → k < 16 → slice_index_or l.places k None ≡ (if nat_lt k l.place then slice_get l.cuboids k else None);
}
