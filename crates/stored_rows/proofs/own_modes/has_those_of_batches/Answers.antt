use Rattle.std.proofs.Common.{◌≡◌, ⊎_elim, None, Some, ap, sym, ◌∙◌, subst}
use Rattle.std.proofs.lemmas.Result.{err_from_is_err_and}
use Rattle.cube_model.specs.declared.fault.Fault.{Fault}
use Rattle.cube_model.specs.declared.fault.Fault.TheVariants.{Device, Memory}
use Rattle.object_store.specs.Content.{Content}
use Rattle.object_store.specs.Store.{IsStill, content_of}
use Rattle.warehouse_root.specs.declared.layout.Layout.TheVariants.{Second}
use Rattle.warehouse_root.specs.Root.{PlainRoot}
use Rattle.warehouse_objects.specs.Represents.{Represents}
use Rattle.warehouse_objects.proofs.Folded.{err_fault}
use Rattle.object_store.proofs.SourceLemmas.{still_then}
use Rattle.warehouse_objects.proofs.OneMoreRead.{has_read, reads_more, same_error, then_reads}
use Rattle.stored_rows.proofs.OwnModesLemmas.{goes_on, never_refused}
use Rattle.stored_rows.proofs.own_modes.has_those_of_batches.Goals as goal

pub returns-in-Err-read_ship_modes-clause-reads : goal.returns-in-Err-read_ship_modes-clause-reads
returns-in-Err-read_ship_modes-clause-reads g c =
    same_error g.D.Sectors c.args.store.now c.read_ship_modes.new.store c.in-Err-read_ship_modes.fault
    (then_reads g.D.Sectors c.args.store.now c.read_object.new.store c.read_ship_modes.new.store
    (c.in-Ok.ensures.reads.stays (λ is. cc)) _ c.requires.fine c.read_object.ensures.reads.leaves
    c.in-Err-read_ship_modes.ensures.reads)

pub returns-in-Err-2-read_ship_modes-clause-no : goal.returns-in-Err-2-read_ship_modes-clause-no
returns-in-Err-2-read_ship_modes-clause-no g c is k w represents rooted =
    let still : IsStill g.D.Sectors c.args.store.now c.read_object.new.store = c.in-Ok.ensures.reads.stays (λ e. cc) in
    let fault : Fault = c.in-Err-read_ship_modes.fault in
    let other = goes_on fault (sym c.if-ends_reading-2.ensures) in
    let word = c.read_ship_modes.ensures.reads.leaves.word k in
    let second : w.layout ≡ Second = ap (λ (r : PlainRoot). r.layout) (sym rooted) ∙ c.requires.second in
    ⊎_elim {C = ⊥} other.1
    (λ refused. let both : None ≡ Some fault = sym (never_refused (content_of g.D.Sectors c.args.store.now) w represents
    second) ∙ refused in absurd cc)
    (c.in-Err-read_ship_modes.ensures.refused other.0 k w
    (subst (λ (x : Content). Represents x w) (sym (still.content word)) represents) rooted)

pub returns-in-Err-2-read_ship_modes-clause-reads : goal.returns-in-Err-2-read_ship_modes-clause-reads
returns-in-Err-2-read_ship_modes-clause-reads g c =
    let other = goes_on c.in-Err-read_ship_modes.fault (sym c.if-ends_reading-2.ensures) in
    has_read g.D.Sectors c.args.store.now c.read_ship_modes.new.store _ (λ is. cc)
    (still_then g.D.Sectors c.args.store.now c.read_object.new.store c.read_ship_modes.new.store
    (c.in-Ok.ensures.reads.stays (λ is. cc))
    (c.in-Err-read_ship_modes.ensures.reads.stays
    (λ is. other.0 (err_fault c.in-Err-read_ship_modes.fault Device is))))
    (reads_more g.D.Sectors c.args.store.now c.read_object.new.store c.read_ship_modes.new.store
    (c.in-Ok.ensures.reads.stays (λ is. cc)) c.read_object.ensures.reads.leaves c.read_ship_modes.ensures.reads.leaves)

pub returns-in_err-own-clause-reads : goal.returns-in_err-own-clause-reads
returns-in_err-own-clause-reads g c =
    let p = err_from_is_err_and c.from_residual.result c.from_residual.ensures.1 in
    rw (p.1, p.2) (has_read g.D.Sectors c.args.store.now c.read_ship_modes.new.store _
    (λ is. let none : Device ≡ Memory = sym (err_fault c.in_err-own.field-0.0 Device is)
    ∙ c.in_err-own.ensures.memory in absurd cc)
    (still_then g.D.Sectors c.args.store.now c.read_object.new.store c.read_ship_modes.new.store
    (c.in-Ok.ensures.reads.stays (λ is. cc)) (c.in-Ok-read_ship_modes.ensures.reads.stays (λ is. cc)))
    (reads_more g.D.Sectors c.args.store.now c.read_object.new.store c.read_ship_modes.new.store
    (c.in-Ok.ensures.reads.stays (λ is. cc)) c.read_object.ensures.reads.leaves c.read_ship_modes.ensures.reads.leaves))

pub returns-clause-reads : goal.returns-clause-reads
returns-clause-reads g c =
    has_read g.D.Sectors c.args.store.now c.read_ship_modes.new.store _ (λ is. cc)
    (still_then g.D.Sectors c.args.store.now c.read_object.new.store c.read_ship_modes.new.store
    (c.in-Ok.ensures.reads.stays (λ is. cc)) (c.in-Ok-read_ship_modes.ensures.reads.stays (λ is. cc)))
    (reads_more g.D.Sectors c.args.store.now c.read_object.new.store c.read_ship_modes.new.store
    (c.in-Ok.ensures.reads.stays (λ is. cc)) c.read_object.ensures.reads.leaves c.read_ship_modes.ensures.reads.leaves)
