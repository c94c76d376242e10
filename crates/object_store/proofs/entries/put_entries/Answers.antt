use Rattle.std.proofs.Common.{◌+◌, List, drop, sym, subst, ap, ◌∙◌}
use Rattle.std.proofs.lemmas.List.{drop_more}
use Rattle.object_store.specs.declared.catalogue.entry.Entry.{Entry}
use Rattle.object_store.specs.Catalogue.{IdsAscend}
use Rattle.object_store.specs.Commit.{put_each}
use Rattle.object_store.proofs.Lists.{ascending-put_by}
use Rattle.object_store.proofs.entries.put_entries.Goals as goal

-- what is read past the end of a list
abbrev no_entry : Entry
no_entry = record { id = 0; first = 0; bytes = 0 }

pub loop-k-preserved : goal.loop-k-preserved
loop-k-preserved c =
    let so_far = c.loop-k.invariant in
    let put = c.in_ok-put_entry.ensures.ok in
    let placed = c.args.placed.now in
    let old = c.loop-k.entries.items in record {
      ascending = subst IdsAscend (sym put) (ascending-put_by (λ (e : Entry). e.id) _ old so_far.ascending);
      rest =
          ap (λ (l : List Entry). put_each (λ e. e.id) (drop (c.loop-k.k + 1) placed) l) put
          ∙ ap (λ (l : List Entry). put_each (λ e. e.id) l old)
          (sym (drop_more placed c.loop-k.k no_entry c.loop-k-test.true))
          ∙ so_far.rest;
    }
