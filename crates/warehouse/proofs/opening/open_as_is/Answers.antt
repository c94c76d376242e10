use Rattle.std.proofs.Common.{⊎_elim, inl, inr, sym, ap, ◌∙◌, subst, arith, ◌%◌, ◌+◌, ◌-◌, ◌^◌, min, ℕ}
use Rattle.cube_model.specs.declared.fault.Fault.{Fault}
use Rattle.object_store.specs.Content.{Content}
use Rattle.object_store.specs.Disk.{disk, IsShown}
use Rattle.object_store.specs.Found.{ExplainsRefusal, is_of_layout}
use Rattle.object_store.specs.Store as stores
use Rattle.warehouse.specs.Found.{MayRepresent}
use Rattle.warehouse.specs.Session.{disk_of}
use Rattle.warehouse.proofs.OpeningLemmas.{only_since, read_leaves, session_may, never_loaded, never_none}
use Rattle.warehouse.proofs.opening.open_as_is.Goals as goal

pub returns-in-Ok-load-clause-leaves : goal.returns-in-Ok-load-clause-leaves
returns-in-Ok-load-clause-leaves g c facts last all =
    read_leaves g.D.Sectors c.args.device c.in-Ok.store facts last all c.in-Ok.ensures.only c.in-Ok.ensures.found
    (disk_of g.D.Sectors c.in-Ok-load.session) c.in-Ok-load.ensures.leaves

pub returns-in-Ok-load-clause-ok : goal.returns-in-Ok-load-clause-ok
returns-in-Ok-load-clause-ok g c facts last all k =
    session_may g.D.Sectors c.args.device c.in-Ok.store facts last all c.in-Ok.ensures.only c.in-Ok.ensures.found
    c.in-Ok-load.session c.in-Ok-load.ensures.fine c.in-Ok-load.ensures.content c.in-Ok-load.ensures.leaves k

pub returns-in-Ok-load-clause-shown : goal.returns-in-Ok-load-clause-shown
returns-in-Ok-load-clause-shown g c k =
    subst (λ (x : Content). IsShown (disk g.D.Sectors c.args.device) x) (sym (c.in-Ok-load.ensures.content k))
    (c.in-Ok.ensures.found (c.in-Ok-load.ensures.leaves.word k))

pub returns-in-Ok-load-clause-word : goal.returns-in-Ok-load-clause-word
returns-in-Ok-load-clause-word g c k = c.in-Ok.ensures.only.word (c.in-Ok-load.ensures.leaves.word k)

pub returns-in-Ok-load-clause-failures : goal.returns-in-Ok-load-clause-failures
returns-in-Ok-load-clause-failures g c = c.in-Ok-load.ensures.failures ∙ c.in-Ok.ensures.failures

pub returns-in-Err-clause-refused : goal.returns-in-Err-clause-refused
returns-in-Err-clause-refused g c = record {
  leaves = λ facts last all.
      only_since (disk g.D.Sectors c.args.device) (disk g.D.Sectors c.in-Err.e.1) facts last all
      c.in-Err.ensures.only_err;
  never = λ facts last all k.
      ⊎_elim (λ memory. inl memory)
      (⊎_elim (λ device. inr device)
      (λ layout. absurd
      (never_none (disk g.D.Sectors c.args.device) (MayRepresent facts last) all (c.in-Err.ensures.only_err.word k)
      (c.in-Err.ensures.nothing layout k))))
      c.in-Err.ensures.causes;
  failures = c.in-Err.ensures.device;
  unformatted = λ is k.
      let s = g.D.Sectors.state c.args.device in
      subst (λ (f : Fault). ExplainsRefusal f s.size s.reads) is (c.in-Err.ensures.explained k);
  explained = λ other k. c.in-Err.ensures.explained k;
  blank = λ is k blank none.
      let s = g.D.Sectors.state c.args.device in
      let newest = subst (λ (f : Fault). ExplainsRefusal f s.size s.reads) is (c.in-Err.ensures.explained k) in
      none (newest.0.generation % 2) (omega arith) newest.0 newest.1.in_slot;
  causes = c.in-Err.ensures.causes;
}

pub returns-in-Err-load-clause-refused : goal.returns-in-Err-load-clause-refused
returns-in-Err-load-clause-refused g c = record {
  leaves = λ facts last all.
      read_leaves g.D.Sectors c.args.device c.in-Ok.store facts last all c.in-Ok.ensures.only c.in-Ok.ensures.found
      (disk g.D.Sectors c.in-Err-load.e.1) c.in-Err-load.ensures.leaves_err;
  never = λ facts last all k.
      ⊎_elim (λ memory. inl memory)
      (⊎_elim (λ device. inr device)
      (λ bad. absurd
      (never_loaded g.D.Sectors c.args.device c.in-Ok.store facts last all c.in-Ok.ensures.only c.in-Ok.ensures.found
      (disk g.D.Sectors c.in-Err-load.e.1) c.in-Err-load.ensures.leaves_err k
      (c.in-Err-load.ensures.readable bad k))))
      c.in-Err-load.ensures.causes;
  failures = λ is. c.in-Err-load.ensures.device is ∙ ap (λ (n : ℕ). min (n + 1) (2 ^ 64 - 1)) c.in-Ok.ensures.failures;
  unformatted = λ is k. absurd (⊎_elim (λ memory. cc) (⊎_elim (λ device. cc) (λ bad. cc)) c.in-Err-load.ensures.causes);
  explained = λ other k.
      let s = g.D.Sectors.state c.args.device in
      ⊎_elim (λ memory. subst (λ (f : Fault). ExplainsRefusal f s.size s.reads) (sym memory) tt)
      (⊎_elim (λ failed. subst (λ (f : Fault). ExplainsRefusal f s.size s.reads) (sym failed) tt)
      (λ bad. absurd (other bad)))
      c.in-Err-load.ensures.causes;
  blank = λ is k blank none.
      let word = c.in-Err-load.ensures.leaves_err.word k in
      let shown = c.in-Ok.ensures.found word in
      let content = stores.content_of g.D.Sectors c.in-Ok.store in
      blank (c.in-Ok.ensures.only.word word) shown.image shown.is (content.generation % 2) (omega arith) shown.shows.0
      shown.shows.2.in_slot;
  causes =
      ⊎_elim (λ memory. inl memory) (⊎_elim (λ device. inr (inl device)) (λ bad. inr (inr (ap is_of_layout bad))))
      c.in-Err-load.ensures.causes;
}
