use Rattle.std.proofs.Common.{◌≡◌, inl, inr, ⊎_elim, ℕ, List, Some, Err, ◌∙◌, ap, sym}
use Rattle.std.proofs.lemmas.Result.{IfErr-weaker, err_from_is_err_and}
use Rattle.cube_model.specs.declared.fault.Fault.{Fault}
use Rattle.cube_model.specs.declared.fault.Fault.TheVariants.{BadLayout, Device}
use Rattle.object_store.specs.Store.{content_of, device_of}
use Rattle.warehouse_objects.proofs.ReadingLemmas.{four_decoded, four_refused, last_two_there}
use Rattle.warehouse_objects.proofs.Folded.{err_fault, never_device, of_fault}
use Rattle.warehouse_objects.proofs.OneMoreRead.{has_read}
use Rattle.warehouse_objects.proofs.reading.read_others.Goals as goal

pub returns-in_err-parts-clause-refused : goal.returns-in_err-parts-clause-refused
returns-in_err-parts-clause-refused g c =
    let p = err_from_is_err_and c.from_residual.result c.from_residual.ensures.1 in
    rw (p.1, p.2) (λ is k one two w represents.
    let bad : c.in_err-parts.field-0.0 ≡ BadLayout = err_fault c.in_err-parts.field-0.0 BadLayout is in
    last_two_there (content_of g.D.Sectors c.args.store.now) w represents
    (c.in_err-parts.ensures.missing (ap (λ (f : Fault). Err f) bad) k))

pub returns-clause-ok : goal.returns-clause-ok
returns-clause-ok g c =
    four_decoded (content_of g.D.Sectors c.args.store.now) (g.D.Sectors.keeps_word (device_of c.read_two.new.store))
    c.args.customers.now c.args.suppliers.now c.deref.result.now c.deref-2.result.now (λ k.
    let two = c.in_ok-parts.ensures.found k in (
      two.0 ∙ ap (λ (l : List ℕ). Some l) (sym c.deref.ensures.value),
      two.1
          ∙ ap (λ (l : List ℕ). Some l) (sym c.deref-2.ensures.value),
    ))
    c.decoded.result c.decoded.ensures.ok

pub returns-clause-refused : goal.returns-clause-refused
returns-clause-refused g c =
    four_refused (content_of g.D.Sectors c.args.store.now) (g.D.Sectors.keeps_word (device_of c.read_two.new.store))
    c.args.customers.now c.args.suppliers.now c.deref.result.now c.deref-2.result.now (λ k.
    let two = c.in_ok-parts.ensures.found k in (
      two.0 ∙ ap (λ (l : List ℕ). Some l) (sym c.deref.ensures.value),
      two.1
          ∙ ap (λ (l : List ℕ). Some l) (sym c.deref-2.ensures.value),
    ))
    c.decoded.result c.decoded.ensures.refused

pub returns-clause-reads : goal.returns-clause-reads
returns-clause-reads g c =
    has_read g.D.Sectors c.args.store.now c.read_two.new.store c.decoded.result
    (λ is. never_device _ (of_fault _ c.decoded.result Device c.decoded.ensures.refused is))
    (c.in_ok-parts.ensures.reads.stays (λ is. cc)) c.read_two.ensures.reads.leaves

pub returns-clause-causes : goal.returns-clause-causes
returns-clause-causes g c =
    IfErr-weaker c.decoded.result _ _ (λ fault. ⊎_elim (λ memory. inl memory) (λ bad. inr (inr bad.0)))
    c.decoded.ensures.refused
