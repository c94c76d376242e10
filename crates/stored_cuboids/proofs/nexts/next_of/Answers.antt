use Rattle.std.proofs.Common.{◌≡◌, ◌≤◌, ℕ, take, Err, IsErrOf, sym, ◌∙◌, ap, subst, arith}
use Rattle.std.proofs.lemmas.Result.{IfOk-weaker}
use Rattle.cube_model.specs.declared.fault.Fault.{Fault}
use Rattle.warehouse_objects.proofs.Folded.{err_fault}
use Rattle.cube_model.specs.Admission.{all_rows}
use Rattle.cube_model.specs.declared.fault.Fault.TheVariants.{TooManyCells}
use Rattle.lattice.specs.Views.{index_of}
use Rattle.lattice.specs.declared.view.View.{View}
use Rattle.lattice.proofs.Places.{one_view}
use Rattle.cuboid_cells.specs.declared.span.Span.{Span}
use Rattle.cuboid_upkeep.specs.Steps.{HaveTooMany}
use Rattle.object_store.specs.Content.{Content}
use Rattle.object_store.specs.Store.{IsStill, content_of, device_of}
use Rattle.warehouse_root.specs.declared.cuboid.StoredCuboid.{StoredCuboid}
use Rattle.warehouse_root.specs.Root.{PlainRoot}
use Rattle.warehouse_objects.specs.Warehouse.{ship_modes_of}
use Rattle.warehouse_objects.specs.Represents.{AreItsMembers, Represents, rows_in}
use Rattle.warehouse_objects.proofs.CallerLemmas.{laid_of}
use Rattle.warehouse_objects.proofs.OneMoreRead.{then_reads}
use Rattle.stored_cuboids.specs.Nexts.{IsNextStep}
use Rattle.stored_cuboids.proofs.Made.{next_weaker}
use Rattle.stored_cuboids.proofs.NextsLemmas.{own_layout, whole_too_large}
use Rattle.cuboid_upkeep.proofs.LawsLemmas.{more_rows_have_no_fewer_cells, rows_have_cells}
use Rattle.stored_cuboids.proofs.nexts.next_of.Goals as goal

pub returns-in-Ok-clause-reads : goal.returns-in-Ok-clause-reads
returns-in-Ok-clause-reads g c =
    then_reads g.D.Sectors c.args.store.now c.cells_of_batches.new.store c.next_run.new.store
    (c.in-Ok.ensures.reads.stays (λ is. cc)) c.next_run.result c.requires.fine
    c.cells_of_batches.ensures.reads.leaves c.next_run.ensures.reads

pub returns-in-Ok-clause-ok : goal.returns-in-Ok-clause-ok
returns-in-Ok-clause-ok g c =
    let still : IsStill g.D.Sectors c.args.store.now c.cells_of_batches.new.store =
    c.in-Ok.ensures.reads.stays (λ is. cc) in
    let content : Content = content_of g.D.Sectors c.args.store.now in
    IfOk-weaker c.next_run.result _ _
    (λ next is.
    subst (λ (mark : ℕ). IsNextStep (λ w. g.D.Sectors.keeps_word (device_of c.next_run.new.store) × Represents content w
    × AreItsMembers w c.args.dims.now c.args.modes.now) c.args.root.now c.args.cuboid mark next) c.target.ensures
    (next_weaker _ (λ w. g.D.Sectors.keeps_word (device_of c.next_run.new.store) × Represents content w
    × AreItsMembers w c.args.dims.now c.args.modes.now) c.args.root.now c.args.cuboid c.target.result next
    (λ w old has less.
    let k = c.next_run.ensures.reads.leaves.word less.0 in (
      less.0,
      subst (λ (x : Content). Represents x w) (sym (still.content k)) less.1,
      c.in-Ok.ensures.ok k w (laid_of content w less.1) less.2,
    )) is))
    c.next_run.ensures.ok

pub returns-in-Ok-clause-large : goal.returns-in-Ok-clause-large
returns-in-Ok-clause-large g c is k w stored represents has rows =
    let still : IsStill g.D.Sectors c.args.store.now c.cells_of_batches.new.store =
    c.in-Ok.ensures.reads.stays (λ e. cc) in
    let content : Content = content_of g.D.Sectors c.args.store.now in
    let mid = c.next_run.ensures.reads.leaves.word k in
    let view : c.in-Ok.tail.view ≡ c.args.view = c.in-Ok.ensures.view in
    let target : c.target.result ≡ w.target = c.target.ensures ∙ ap (λ (r : PlainRoot). r.target) has.root_is in
    subst (λ (n : ℕ). HaveTooMany w.rows (ship_modes_of w) c.args.view (all_rows (take n w.batches))) target
    (subst (λ (v : View). HaveTooMany w.rows (ship_modes_of w) v (all_rows (take c.target.result w.batches))) view
    (c.next_run.ensures.large
    (subst (λ (v : View). IsErrOf c.next_run.result (TooManyCells (index_of v))) (sym view) is) k w stored
    (subst (λ (x : Content). Represents x w) (sym (still.content mid)) represents) has
    (c.in-Ok.ensures.ok mid w (laid_of content w represents) rows)))

pub returns-in-Ok-clause-refused : goal.returns-in-Ok-clause-refused
returns-in-Ok-clause-refused g c is k w stored represents has rows =
    let still : IsStill g.D.Sectors c.args.store.now c.cells_of_batches.new.store =
    c.in-Ok.ensures.reads.stays (λ e. cc) in
    let content : Content = content_of g.D.Sectors c.args.store.now in
    let mid = c.next_run.ensures.reads.leaves.word k in
    c.next_run.ensures.refused is k w stored
    (subst (λ (x : Content). Represents x w) (sym (still.content mid)) represents) has
    (c.in-Ok.ensures.ok mid w (laid_of content w represents) rows)

pub returns-in-Err-clause-large : goal.returns-in-Err-clause-large
returns-in-Err-clause-large g c is k w stored represents has rows =
    let content : Content = content_of g.D.Sectors c.args.store.now in
    let span : Span = record { from = c.args.cuboid.mark; to = c.target.result } in
    let view : c.args.view ≡ stored.view =
    one_view c.args.view stored.view (c.requires.view ∙ ap (λ (s : StoredCuboid). s.view) (sym has.said_is)) in
    let target : c.target.result ≡ w.target = c.target.ensures ∙ ap (λ (r : PlainRoot). r.target) has.root_is in
    let within = own_layout content c.args.root.now c.args.cuboid w stored c.args.view represents has c.requires.view in
    let some : span.from ≤ span.to = omega (arith, c.requires.after, c.target.ensures) in
    let tail : HaveTooMany w.rows (ship_modes_of w) c.args.view (rows_in w.batches span) =
    c.in-Err.ensures.large (ap (λ (f : Fault). Err f) (err_fault c.in-Err.fault _ is)) k w
    (laid_of content w represents) has.root_is rows within in
    subst (λ (n : ℕ). HaveTooMany w.rows (ship_modes_of w) c.args.view (all_rows (take n w.batches))) target
    (subst (λ (v : View). HaveTooMany w.rows (ship_modes_of w) v (all_rows (take c.target.result w.batches))) (sym view)
    (whole_too_large rows_have_cells more_rows_have_no_fewer_cells w stored has.holds span
    (ap (λ (s : StoredCuboid). s.mark) (sym has.said_is)) some
    (subst (λ (v : View). HaveTooMany w.rows (ship_modes_of w) v (rows_in w.batches span)) view tail)))

pub returns-in-Err-clause-refused : goal.returns-in-Err-clause-refused
returns-in-Err-clause-refused g c is k w stored represents has rows =
    let content : Content = content_of g.D.Sectors c.args.store.now in
    c.in-Err.ensures.refused (ap (λ (f : Fault). Err f) (err_fault c.in-Err.fault _ is)) k w
    (laid_of content w represents) has.root_is rows
    (own_layout content c.args.root.now c.args.cuboid w stored c.args.view represents has c.requires.view)
