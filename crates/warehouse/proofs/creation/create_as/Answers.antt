use Rattle.std.proofs.Common.{ℕ, List, sym, subst}
use Rattle.object_store.specs.Store.{content_of}
use Rattle.warehouse_objects.specs.Loaded.{IsLoaded}
use Rattle.warehouse_objects.specs.Warehouse.{fresh_in}
use Rattle.warehouse.proofs.Represented.{is_at}
use Rattle.warehouse.proofs.CreationLemmas.{made_of, no_memory, refused_of}
use Rattle.warehouse.proofs.creation.create_as.Goals as goal

pub returns-in-Err-clause-refused : goal.returns-in-Err-clause-refused
returns-in-Err-clause-refused g c =
    no_memory g.D.Sectors c.args.device c.args.layout c.args.dims c.in-Err.fault
    (λ k image. g.met.D.Sectors.only_now c.args.device image k) c.in-Err.ensures.memory

pub returns-in-Err-shared-clause-refused : goal.returns-in-Err-shared-clause-refused
returns-in-Err-shared-clause-refused g c =
    no_memory g.D.Sectors c.args.device c.args.layout c.args.dims c.in-Err-shared.fault
    (λ k image. g.met.D.Sectors.only_now c.args.device image k) c.in-Err-shared.ensures.memory

pub invariant_of-result : goal.invariant_of-result
invariant_of-result g c = record {
  loaded = λ fine k.
      subst (λ (modes : List (List ℕ)). IsLoaded (content_of g.D.Sectors c.in-Ok-make_store.store)
      c.in-Ok-shared.dims.value modes c.in-Ok.beginning.root) (sym c.none.ensures)
      (c.in-Ok-make_store.ensures.ok.loaded k);
}

pub returns-in-Ok-make_store-clause-ok : goal.returns-in-Ok-make_store-clause-ok
returns-in-Ok-make_store-clause-ok g c =
    let made = made_of g.D.Sectors c.args.device c.args.layout _ c.args.dims _ _ c.in-Ok-shared.ensures.ok
    c.in-Ok-make_store.ensures.ok in record {
      leaves = made.leaves;
      at = is_at g.D.Sectors _ (fresh_in c.args.layout c.args.dims) made.fine made.represents;
      unformatted = made.unformatted;
    }

pub returns-in-Err-make_store-clause-refused : goal.returns-in-Err-make_store-clause-refused
returns-in-Err-make_store-clause-refused g c =
    refused_of g.D.Sectors c.args.device c.args.layout _ c.args.dims _ _ c.in-Ok-shared.ensures.ok
    c.in-Err-make_store.ensures.refused
