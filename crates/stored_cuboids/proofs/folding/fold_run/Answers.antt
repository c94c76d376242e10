use Rattle.std.proofs.Common.{Err, ◌∙◌, ap, subst, sym}
use Rattle.std.proofs.lemmas.Result.{err_from_is_err_and}
use Rattle.cube_model.specs.declared.fault.Fault.{Fault}
use Rattle.cube_model.specs.declared.fault.Fault.TheVariants.{BadLayout}
use Rattle.lattice.specs.declared.view.View.{View}
use Rattle.lattice.specs.Determined.{Serves}
use Rattle.object_store.specs.Store.{IsStill, content_of, size_in}
use Rattle.warehouse_objects.proofs.Folded.{err_fault}
use Rattle.warehouse_objects.proofs.OneMoreRead.{has_read, same_error, then_reads}
use Rattle.stored_cuboids.proofs.CountedRuns.{counts_run, not_counted}
use Rattle.stored_cuboids.proofs.folding.fold_run.Goals as goal

pub fold_cells-requires-clause-fine : goal.fold_cells-requires-clause-fine
fold_cells-requires-clause-fine g c =
    let still : IsStill g.D.Sectors c.args.store.now c.open_next.new.store =
    c.in_ok-reader.ensures.reads.stays (λ is. cc) in
    still.failed ∙ c.requires.fine

pub fold_cells-requires-clause-serves : goal.fold_cells-requires-clause-serves
fold_cells-requires-clause-serves g c =
    subst (λ (view : View). Serves view c.args.fold.now.query) (sym c.in_ok-reader.ensures.goes_on.same)
    c.requires.serves

pub fold_cells-requires-clause-total : goal.fold_cells-requires-clause-total
fold_cells-requires-clause-total g c = ap (size_in c.open_next.new.store) c.in_ok-reader.ensures.id
    ∙ c.in_ok-reader.ensures.total

pub returns-in_err-reader-clause-refused : goal.returns-in_err-reader-clause-refused
returns-in_err-reader-clause-refused g c =
    let p = err_from_is_err_and c.from_residual.result c.from_residual.ensures.1 in
    rw (p.1, p.2) (λ is k others next rows goes represent can.
    c.in_err-reader.ensures.refused (ap (λ (f : Fault). Err f) (err_fault c.in_err-reader.field-0.0 BadLayout is)) k
    others next goes)

pub returns-clause-ok : goal.returns-clause-ok
returns-clause-ok g c = λ k.
    let still : IsStill g.D.Sectors c.args.store.now c.open_next.new.store =
    c.in_ok-reader.ensures.reads.stays (λ is. cc) in
    let kept = c.in_ok-fold_cells.ensures.reads.leaves.word k in
    let same = still.content kept in
    counts_run (content_of g.D.Sectors c.args.store.now) (content_of g.D.Sectors c.open_next.new.store) same c.args.id
    c.args.view c.args.at c.in_ok-reader.reader c.in_ok-reader.ensures.id
    (c.in_ok-reader.ensures.ok kept) c.in_ok-reader.next c.in_ok-reader.ensures.goes_on c.args.dims.now
    c.args.modes.now c.args.fold.now c.fold_cells.new.fold (c.in_ok-fold_cells.ensures.ok k)

pub returns-in_err-fold_cells-clause-refused : goal.returns-in_err-fold_cells-clause-refused
returns-in_err-fold_cells-clause-refused g c =
    let p = err_from_is_err_and c.from_residual-in_err-fold_cells.result c.from_residual-in_err-fold_cells.ensures.1 in
    rw (p.1, p.2) (λ is k others next rows goes represent can.
    let still : IsStill g.D.Sectors c.args.store.now c.open_next.new.store =
    c.in_ok-reader.ensures.reads.stays (λ is. cc) in
    let kept = c.in_err-fold_cells.ensures.reads.leaves.word k in
    not_counted (content_of g.D.Sectors c.args.store.now) (content_of g.D.Sectors c.open_next.new.store)
    (still.content kept) c.args.id c.args.view c.args.at c.in_ok-reader.reader c.in_ok-reader.ensures.id
    (c.in_ok-reader.ensures.ok kept) c.args.dims.now c.args.modes.now c.args.fold.now
    (c.in_err-fold_cells.ensures.refused
    (ap (λ (f : Fault). Err f) (err_fault c.in_err-fold_cells.field-0.0 BadLayout is)) k)
    others next rows goes represent can)

pub returns-clause-reads : goal.returns-clause-reads
returns-clause-reads g c =
    then_reads g.D.Sectors c.args.store.now c.open_next.new.store c.fold_cells.new.store
    (c.in_ok-reader.ensures.reads.stays (λ is. cc)) _ c.requires.fine c.in_ok-reader.ensures.reads.leaves
    (has_read g.D.Sectors c.open_next.new.store c.fold_cells.new.store _ (λ is. cc)
    (c.in_ok-fold_cells.ensures.reads.stays (λ is. cc)) c.in_ok-fold_cells.ensures.reads.leaves)

pub returns-in_err-fold_cells-clause-reads : goal.returns-in_err-fold_cells-clause-reads
returns-in_err-fold_cells-clause-reads g c =
    let p = err_from_is_err_and c.from_residual-in_err-fold_cells.result c.from_residual-in_err-fold_cells.ensures.1 in
    rw (p.1, p.2) (same_error g.D.Sectors c.args.store.now c.fold_cells.new.store _
    (then_reads g.D.Sectors c.args.store.now c.open_next.new.store c.fold_cells.new.store
    (c.in_ok-reader.ensures.reads.stays (λ is. cc)) _ c.requires.fine c.in_ok-reader.ensures.reads.leaves
    c.in_err-fold_cells.ensures.reads))
