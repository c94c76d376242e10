use Rattle.std.proofs.Common.{◌≡◌, drop}
use Rattle.object_store.specs.Catalogue.{IdsAscend}
use Rattle.object_store.specs.Commit.{put_each}
use Rattle.object_store.proofs.entries.put_entries.Given as goal

abbrev pub invariant-loop-k : goal.invariant-loop-k
invariant-loop-k l = record {
  ascending : IdsAscend l.entries.items;
  rest : put_each (λ e. e.id) (drop l.k l.placed) l.entries.items
      ≡ put_each (λ e. e.id) l.placed l.initial.entries.items;
}
