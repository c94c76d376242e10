use Rattle.std.proofs.Common.{◌≡◌, sym, subst}
use Rattle.object_store.specs.Content.{Content}
use Rattle.object_store.specs.Disk.{disk, Leaves}
use Rattle.object_store.specs.Store as stores
use Rattle.warehouse_objects.specs.Loaded.{IsLoaded}
use Rattle.warehouse.proofs.opening.load.Goals as goal

pub invariant_of-result : goal.invariant_of-result
invariant_of-result g c = record {
  loaded = λ fine k. subst (λ (x : Content). IsLoaded x c.in-Ok.kept.dims.value c.in-Ok.kept.modes c.in-Ok.kept.root)
      (sym (c.in-Ok.ensures.stays.content k)) (c.in-Ok.ensures.loaded k);
}

pub returns-in-Err-clause-leaves_err : goal.returns-in-Err-clause-leaves_err
returns-in-Err-clause-leaves_err g c =
    subst (λ (d : g.row.D.Denot). Leaves (stores.disk_of g.D.Sectors c.args.store) (disk g.D.Sectors d)
    (λ x. x ≡ stores.content_of g.D.Sectors c.args.store)) (sym c.close.ensures) c.read.ensures.leaves
