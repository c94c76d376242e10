use Rattle.std.proofs.Common.{◌+◌, ◌<◌, ℕ, List, drop, sym, subst, ap, ◌∙◌}
use Rattle.std.proofs.lemmas.List.{drop_more}
use Rattle.object_store.specs.declared.catalogue.entry.Entry.{Entry}
use Rattle.object_store.specs.Catalogue.{IdsAscend}
use Rattle.object_store.specs.Commit.{drop_each}
use Rattle.object_store.proofs.Lists.{AllPairs-drop_by}
use Rattle.object_store.proofs.entries.without.Goals as goal

pub loop-k-preserved : goal.loop-k-preserved
loop-k-preserved c =
    let so_far = c.loop-k.invariant in
    let dropped = c.drop_entry.ensures in
    let drops = c.args.drops.now in
    let old = c.loop-k.kept.items in record {
      ascending =
          subst IdsAscend (sym dropped)
          (AllPairs-drop_by (λ (a : Entry) (b : Entry). a.id < b.id) (λ (e : Entry). e.id) _ old so_far.ascending);
      rest =
          ap (λ (l : List Entry). drop_each (λ e. e.id) (drop (c.loop-k.k + 1) drops) l) dropped
          ∙ ap (λ (l : List ℕ). drop_each (λ e. e.id) l old) (sym (drop_more drops c.loop-k.k 0 c.loop-k-test.true))
          ∙ so_far.rest;
    }
