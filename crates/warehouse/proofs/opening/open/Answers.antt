use Rattle.std.proofs.Common.{⊎_elim, inl, inr, Err, ◌+◌, ◌-◌, ◌^◌, ◌%◌, ℕ, min, sym, ◌∙◌, ap, subst, arith}
use Rattle.cube_model.specs.declared.fault.Fault.{Fault}
use Rattle.object_store.specs.Disk.{disk, Leaves}
use Rattle.object_store.specs.Found.{ExplainsRefusal, is_of_layout}
use Rattle.warehouse.specs.Found.{MayRepresentSince}
use Rattle.warehouse.specs.Session.{content_of, disk_of}
use Rattle.warehouse.proofs.Caught.{finish_leaves, found_caught, since_caught}
use Rattle.warehouse.proofs.opening.open.Goals as goal

pub returns-in-Ok-finish-clause-leaves : goal.returns-in-Ok-finish-clause-leaves
returns-in-Ok-finish-clause-leaves g c facts last all =
    finish_leaves (disk g.D.Sectors c.args.device) facts last g.D.Sectors c.in-Ok.session
    (disk_of g.D.Sectors c.finish.new.self)
    (c.in-Ok.ensures.ok facts last all) (c.in-Ok.ensures.leaves facts last all) c.finish.ensures.word
    c.finish.ensures.leaves

pub returns-in-Ok-finish-clause-ok : goal.returns-in-Ok-finish-clause-ok
returns-in-Ok-finish-clause-ok g c facts last all k =
    let start = disk g.D.Sectors c.args.device in
    let found = c.in-Ok.ensures.ok facts last all (c.finish.ensures.word k) in
    let now = c.in-Ok-finish.ensures.ok found.0 found.3 in (
      now.0,
      found_caught start facts last found.0 now.0 now.1 found.1,
      since_caught start facts last found.0 now.0 now.1
          found.2,
      now.2,
      now.3 k,
    )

pub returns-in-Err-finish-clause-refused : goal.returns-in-Err-finish-clause-refused
returns-in-Err-finish-clause-refused g c = record {
  leaves = λ facts last all.
      let start = disk g.D.Sectors c.args.device in
      subst (λ (d : g.row.D.Denot). Leaves start (disk g.D.Sectors d) (MayRepresentSince start facts last))
      (sym c.close.ensures)
      (finish_leaves start facts last g.D.Sectors c.in-Ok.session (disk_of g.D.Sectors c.finish.new.self)
      (c.in-Ok.ensures.ok facts last all) (c.in-Ok.ensures.leaves facts last all) c.finish.ensures.word
      c.finish.ensures.leaves);
  never = λ facts last all k.
      let word = subst (λ (d : g.row.D.Denot). g.D.Sectors.keeps_word d) c.close.ensures k in
      let found = c.in-Ok.ensures.ok facts last all (c.finish.ensures.word word) in
      ⊎_elim (λ memory. inl memory)
      (⊎_elim (λ device. inr device)
      (λ bad. absurd (c.in-Err-finish.ensures.readable (ap (λ (f : Fault). Err f) bad) word found.0 found.3)))
      c.in-Err-finish.ensures.causes;
  failures = λ is.
      ap (λ (d : g.row.D.Denot). g.D.Sectors.failed d) c.close.ensures
      ∙ (c.in-Err-finish.ensures.device (ap (λ (f : Fault). Err f) is)).failures
      ∙ ap (λ (n : ℕ). min (n + 1) (2 ^ 64 - 1)) c.in-Ok.ensures.failures;
  unformatted = λ is k.
      absurd (⊎_elim (λ memory. cc) (⊎_elim (λ device. cc) (λ bad. cc)) c.in-Err-finish.ensures.causes);
  explained = λ other k.
      let s = g.D.Sectors.state c.args.device in
      ⊎_elim (λ memory. subst (λ (f : Fault). ExplainsRefusal f s.size s.reads) (sym memory) tt)
      (⊎_elim (λ failed. subst (λ (f : Fault). ExplainsRefusal f s.size s.reads) (sym failed) tt)
      (λ bad. absurd (other bad)))
      c.in-Err-finish.ensures.causes;
  blank = λ is k blank none.
      let word = c.finish.ensures.word (subst (λ (d : g.row.D.Denot). g.D.Sectors.keeps_word d) c.close.ensures k) in
      let shown = c.in-Ok.ensures.shown word in
      let content = content_of g.D.Sectors c.in-Ok.session in
      blank (c.in-Ok.ensures.word word) shown.image shown.is (content.generation % 2) (omega arith) shown.shows.0
      shown.shows.2.in_slot;
  causes =
      ⊎_elim (λ memory. inl memory) (⊎_elim (λ device. inr (inl device)) (λ bad. inr (inr (ap is_of_layout bad))))
      c.in-Err-finish.ensures.causes;
}
