use Rattle.std.proofs.Common.{◌≡◌, drop}
use Rattle.object_store.specs.Catalogue.{IdsAscend}
use Rattle.object_store.specs.Commit.{drop_each}
use Rattle.object_store.proofs.entries.without.Given as goal

abbrev pub invariant-loop-k : goal.invariant-loop-k
invariant-loop-k l = record {
  ascending : IdsAscend l.kept.items;
  rest : drop_each (λ e. e.id) (drop l.k l.drops) l.kept.items ≡ drop_each (λ e. e.id) l.drops l.initial.kept.items;
}
