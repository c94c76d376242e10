use Rattle.std.proofs.Common.{◌≡◌, ⊎_elim, ℕ, List, sym, ◌∙◌, ap, subst, inr}
use Rattle.std.proofs.lemmas.Bool.{false≢true}
use Rattle.std.proofs.lemmas.Result.{err_from_is_err_and}
use Rattle.cube_model.specs.declared.fault.Fault.{Fault}
use Rattle.object_store.specs.Found.{ExplainsRefusal, SpellNoCatalogue, is_of_layout}
use Rattle.object_store.specs.Reading.{IsNewest}
use Rattle.object_store.proofs.Frames.{bytes_same}
use Rattle.object_store.proofs.Looking.{newest_same, nothing_sized, nothing_spelled}
use Rattle.object_store.proofs.find.find.Goals as goal

pub returns-then-superblock-count-clause-nothing : goal.returns-then-superblock-count-clause-nothing
returns-then-superblock-count-clause-nothing g c layout w =
    let s0 = g.D.Sectors.state c.args.device.now in
    let s1 = g.D.Sectors.state c.newest.new.device in
    let found = rw c.in-Ok-Some.field-0-is at c.in-Ok-Some.ensures.found in
    let super = c.in-Ok-Some.superblock in
    nothing_sized s0.size s0.reads super
    (newest_same s1.reads s0.reads (λ slot lt. (c.newest.ensures.reads.only w).others slot (λ none. none)) super
    (found w))
    (λ e. c.if-superblock-count.true (e ∙ sym c.newest.ensures.reads.size ∙ sym c.count.ensures))

pub returns-in_err-catalogue-clause-nothing : goal.returns-in_err-catalogue-clause-nothing
returns-in_err-catalogue-clause-nothing g c =
    let p = err_from_is_err_and c.from_residual.result c.from_residual.ensures.1 in
    rw (p.1, p.2) (λ layout w.
    let s0 = g.D.Sectors.state c.args.device.now in
    let s1 = g.D.Sectors.state c.newest.new.device in
    let found = rw c.in-Ok-Some.field-0-is at c.in-Ok-Some.ensures.found in
    let super = c.in-Ok-Some.superblock in
    let w1 = c.read_catalogue.ensures.reads.word w in
    let same : (i : ℕ) → s1.reads i ≡ s0.reads i = λ i. (c.newest.ensures.reads.only w1).others i (λ none. none) in
    let newest : IsNewest s0.reads super = newest_same s1.reads s0.reads (λ slot lt. same slot) super (found w1) in
    let sized : super.sectors ≡ s0.size = c.if-superblock-count.false ∙ c.count.ensures ∙ c.newest.ensures.reads.size in
    ⊎_elim (λ memory. absurd (false≢true (sym (ap (λ (f : Fault). is_of_layout f) memory) ∙ layout)))
    (λ other. ⊎_elim (λ device. absurd (false≢true (sym (ap (λ (f : Fault). is_of_layout f) device) ∙ layout)))
    (λ bad. nothing_spelled s0.size s0.reads super newest sized
    (subst (λ (l : List ℕ). SpellNoCatalogue super l)
    (bytes_same s1.reads s0.reads super.catalogue super.bytes (λ i held. same i)) (bad.1 w))) other)
    c.in_err-catalogue.ensures.refused)

pub returns-then-superblock-count-clause-explained : goal.returns-then-superblock-count-clause-explained
returns-then-superblock-count-clause-explained g c w =
    let s0 = g.D.Sectors.state c.args.device.now in
    let s1 = g.D.Sectors.state c.newest.new.device in
    let found = rw c.in-Ok-Some.field-0-is at c.in-Ok-Some.ensures.found in
    let super = c.in-Ok-Some.superblock in
    inr (
      super,
      newest_same s1.reads s0.reads (λ slot lt. (c.newest.ensures.reads.only w).others slot (λ none. none)) super
          (found w),
      λ e. c.if-superblock-count.true (e ∙ sym c.newest.ensures.reads.size ∙ sym c.count.ensures),
    )

pub returns-in_err-catalogue-clause-explained : goal.returns-in_err-catalogue-clause-explained
returns-in_err-catalogue-clause-explained g c =
    let p = err_from_is_err_and c.from_residual.result c.from_residual.ensures.1 in
    rw (p.1, p.2) (λ w.
    let s0 = g.D.Sectors.state c.args.device.now in
    let s1 = g.D.Sectors.state c.newest.new.device in
    let found = rw c.in-Ok-Some.field-0-is at c.in-Ok-Some.ensures.found in
    let super = c.in-Ok-Some.superblock in
    let w1 = c.read_catalogue.ensures.reads.word w in
    let newest : IsNewest s0.reads super =
    newest_same s1.reads s0.reads (λ slot lt. (c.newest.ensures.reads.only w1).others slot (λ none. none)) super
    (found w1) in
    let sized : super.sectors ≡ s0.size = c.if-superblock-count.false ∙ c.count.ensures ∙ c.newest.ensures.reads.size in
    ⊎_elim (λ memory. subst (λ (f : Fault). ExplainsRefusal f s0.size s0.reads) (sym memory) tt)
    (λ other. ⊎_elim (λ device. subst (λ (f : Fault). ExplainsRefusal f s0.size s0.reads) (sym device) tt)
    (λ bad. subst (λ (f : Fault). ExplainsRefusal f s0.size s0.reads) (sym bad.0) (super, newest, sized)) other)
    c.in_err-catalogue.ensures.refused)
