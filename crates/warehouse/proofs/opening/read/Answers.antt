use Rattle.std.proofs.Common.{sym, subst}
use Rattle.cube_model.specs.declared.rows.DimRows.{DimRows}
use Rattle.object_store.specs.Content.{Content}
use Rattle.warehouse_root.specs.declared.layout.Layout.{Layout}
use Rattle.warehouse_objects.specs.Represents.{HasModes, HasRows}
use Rattle.dimensions.specs.Shown.{AreStorable}
use Rattle.object_store.specs.Store as stores
use Rattle.warehouse_objects.proofs.OneMoreRead.{then_reads}
use Rattle.object_store.proofs.CallerLemmas.{leaves_now}
use Rattle.warehouse.proofs.opening.read.Goals as goal

pub returns-clause-loaded : goal.returns-clause-loaded
returns-clause-loaded g c k =
    let content : Content = stores.content_of g.D.Sectors c.args.store.now in
    let still : stores.IsStill g.D.Sectors c.args.store.now c.read_modes.new.store =
    c.in_ok-modes.ensures.reads.stays (λ is. cc) in record {
      layout = c.in_ok-root.ensures.layout;
      has_rows = subst (λ (rows : DimRows). HasRows content rows) (sym c.in_ok-dims-2.ensures.ok)
          (subst (λ (x : Content). HasRows x c.in_ok-dims.dims)
          (still.content (c.read_dims.ensures.reads.leaves.word k))
          (c.in_ok-dims.ensures.ok k));
      has_modes = subst (λ (l : Layout). HasModes content l c.in_ok-modes.modes) c.layout.ensures.value
          (c.in_ok-modes.ensures.ok (c.read_dims.ensures.reads.leaves.word k));
      are_modes = c.in_ok-modes.ensures.are;
      storable = subst AreStorable (sym c.in_ok-dims-2.ensures.ok) c.in_ok-dims.ensures.storable;
      is_root = c.in_ok-root.ensures.ok;
    }

pub returns-in_err-dims-clause-leaves : goal.returns-in_err-dims-clause-leaves
returns-in_err-dims-clause-leaves g c =
    (then_reads g.D.Sectors c.args.store.now c.read_modes.new.store c.read_dims.new.store
    (c.in_ok-modes.ensures.reads.stays (λ is. cc)) _ c.requires.fine c.read_modes.ensures.reads.leaves
    c.read_dims.ensures.reads).leaves

pub returns-in_err-dims-2-clause-leaves : goal.returns-in_err-dims-2-clause-leaves
returns-in_err-dims-2-clause-leaves g c =
    (then_reads g.D.Sectors c.args.store.now c.read_modes.new.store c.read_dims.new.store
    (c.in_ok-modes.ensures.reads.stays (λ is. cc)) _ c.requires.fine c.read_modes.ensures.reads.leaves
    c.read_dims.ensures.reads).leaves

pub returns-clause-leaves : goal.returns-clause-leaves
returns-clause-leaves g c =
    (then_reads g.D.Sectors c.args.store.now c.read_modes.new.store c.read_dims.new.store
    (c.in_ok-modes.ensures.reads.stays (λ is. cc)) _ c.requires.fine c.read_modes.ensures.reads.leaves
    c.read_dims.ensures.reads).leaves

pub returns-in_err-root-clause-leaves : goal.returns-in_err-root-clause-leaves
returns-in_err-root-clause-leaves g c =
    leaves_now g.D.Sectors g.met.D.Sectors.only_now c.args.store.now c.requires.fine
