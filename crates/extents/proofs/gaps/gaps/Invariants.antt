use Rattle.std.proofs.Common.{◌≡◌, ◌++◌, drop}
use Rattle.extents.proofs.GapsLemmas.{AreInOrder, gaps_of}
use Rattle.extents.proofs.gaps.gaps.Given as goal

abbrev pub invariant-loop-extent : goal.invariant-loop-extent
invariant-loop-extent l = record {
  so_far : l.runs.items ++ gaps_of l.count l.from (drop l.extent-index l.sorted) ≡ gaps_of l.count 2 l.sorted;
  onward : AreInOrder l.count 2 l.sorted → AreInOrder l.count l.from (drop l.extent-index l.sorted);
  back : AreInOrder l.count l.from (drop l.extent-index l.sorted) → AreInOrder l.count 2 l.sorted;
}
