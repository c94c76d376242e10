use Rattle.std.proofs.Common.{◌≡◌, ℕ, List, Some, Err, ◌∙◌, ap, sym}
use Rattle.std.proofs.lemmas.Result.{IfOk-weaker, err_from_is_err_and}
use Rattle.cube_model.specs.declared.fault.Fault.{Fault}
use Rattle.cube_model.specs.declared.fault.Fault.TheVariants.{BadLayout}
use Rattle.object_store.specs.Store.{content_of}
use Rattle.warehouse_objects.proofs.ReadingLemmas.{first_two_there, rows_found, rows_refused, rows_there}
use Rattle.warehouse_objects.proofs.Folded.{err_fault}
use Rattle.warehouse_objects.proofs.OneMoreRead.{then_reads}
use Rattle.warehouse_objects.proofs.Contents.{rows_one}
use Rattle.warehouse_objects.proofs.reading.read_dims.Goals as goal

pub returns-in_err-customers-clause-refused : goal.returns-in_err-customers-clause-refused
returns-in_err-customers-clause-refused g c =
    let p = err_from_is_err_and c.from_residual.result c.from_residual.ensures.1 in
    rw (p.1, p.2) (λ is k w represents.
    let bad : c.in_err-customers.field-0.0 ≡ BadLayout = err_fault c.in_err-customers.field-0.0 BadLayout is in
    first_two_there (content_of g.D.Sectors c.args.store.now) w represents
    (c.in_err-customers.ensures.missing (ap (λ (f : Fault). Err f) bad) k))

pub returns-clause-ok : goal.returns-clause-ok
returns-clause-ok g c =
    IfOk-weaker c.read_others.result _ _
    (rows_there g.D.Sectors c.args.store.now c.read_two.new.store c.read_others.new.store c.deref.result.now
    c.deref-2.result.now (c.in_ok-customers.ensures.reads.stays (λ is. cc)) c.read_others.ensures.reads.leaves.word
    (λ k.
    let two = c.in_ok-customers.ensures.found k in (
      two.0 ∙ ap (λ (l : List ℕ). Some l) (sym c.deref.ensures.value),
      two.1
          ∙ ap (λ (l : List ℕ). Some l) (sym c.deref-2.ensures.value),
    )))
    c.read_others.ensures.ok

pub returns-clause-found : goal.returns-clause-found
returns-clause-found g c =
    rows_found g.D.Sectors c.args.store.now c.read_two.new.store c.read_others.new.store c.deref.result.now
    c.deref-2.result.now (c.in_ok-customers.ensures.reads.stays (λ is. cc)) c.read_others.ensures.reads.leaves.word
    (λ k.
    let two = c.in_ok-customers.ensures.found k in (
      two.0 ∙ ap (λ (l : List ℕ). Some l) (sym c.deref.ensures.value),
      two.1
          ∙ ap (λ (l : List ℕ). Some l) (sym c.deref-2.ensures.value),
    ))
    rows_one c.read_others.result c.read_others.ensures.ok c.read_others.ensures.storable

pub returns-clause-refused : goal.returns-clause-refused
returns-clause-refused g c is =
    rows_refused g.D.Sectors c.args.store.now c.read_two.new.store c.read_others.new.store c.deref.result.now
    c.deref-2.result.now (c.in_ok-customers.ensures.reads.stays (λ is. cc)) c.read_others.ensures.reads.leaves.word
    (λ k.
    let two = c.in_ok-customers.ensures.found k in (
      two.0 ∙ ap (λ (l : List ℕ). Some l) (sym c.deref.ensures.value),
      two.1
          ∙ ap (λ (l : List ℕ). Some l) (sym c.deref-2.ensures.value),
    ))
    (c.read_others.ensures.refused is)

pub returns-clause-reads : goal.returns-clause-reads
returns-clause-reads g c =
    then_reads g.D.Sectors c.args.store.now c.read_two.new.store c.read_others.new.store
    (c.in_ok-customers.ensures.reads.stays (λ is. cc)) c.read_others.result c.requires.fine
    c.read_two.ensures.reads.leaves c.read_others.ensures.reads
