use Rattle.std.proofs.Common.{⊎_elim, inl, inr}
use Rattle.std.proofs.lemmas.Result.{IfErr-weaker, on_ok_weaker}
use Rattle.object_store.proofs.Moments.{leaves_weaker}
use Rattle.warehouse_objects.specs.Represents.{Represents}
use Rattle.warehouse.specs.Session.{disk_of}
use Rattle.warehouse.specs.Submitting.{WithOrWithout}
use Rattle.warehouse.proofs.SessionLemmas.{fine_before, untouched}
use Rattle.warehouse.proofs.session.Session.submit_batch.Goals as goal

pub returns-in-Err-clause-causes : goal.returns-in-Err-clause-causes
returns-in-Err-clause-causes g c cause w rows at grown k =
    ⊎_elim (λ refused. inl refused) (λ memory. inr (inl memory)) (c.in-Err.ensures.model w rows at grown k)

pub returns-clause-leaves : goal.returns-clause-leaves
returns-clause-leaves g c = λ w rows at grown.
    c.put.ensures.leaves w rows (record {
      at = at;
      prepared_is = c.in-Ok.ensures.ready rows grown;
      admissible = λ k. c.in-Ok.ensures.model w rows at grown k;
      still = c.in-Ok.ensures.leaves w at;
    })

pub returns-clause-ok : goal.returns-clause-ok
returns-clause-ok g c =
    on_ok_weaker c.put.result
    (λ then w rows at grown.
    then w rows (record {
      at = at;
      prepared_is = c.in-Ok.ensures.ready rows grown;
      admissible = λ k. c.in-Ok.ensures.model w rows at grown k;
      still = c.in-Ok.ensures.leaves w at;
    }))
    c.put.ensures.ok

pub returns-clause-causes : goal.returns-clause-causes
returns-clause-causes g c =
    IfErr-weaker c.put.result _ _
    (λ fault causes cause w rows at grown.
    causes cause w rows (record {
      at = at;
      prepared_is = c.in-Ok.ensures.ready rows grown;
      admissible = λ k. c.in-Ok.ensures.model w rows at grown k;
      still = c.in-Ok.ensures.leaves w at;
    }))
    c.put.ensures.causes

pub returns-in-Err-clause-leaves : goal.returns-in-Err-clause-leaves
returns-in-Err-clause-leaves g c w rows at grown =
    let disk = disk_of g.D.Sectors c.args.self.now in
    leaves_weaker (λ content. Represents content w) (WithOrWithout w c.args.number rows) disk disk
    (λ k content represents. inl represents) (c.in-Err.ensures.leaves w at)

pub returns-in-Err-clause-refused : goal.returns-in-Err-clause-refused
returns-in-Err-clause-refused g c =
    untouched g.D.Sectors c.in-Err.fault c.args.self.now c.in-Err.ensures.leaves c.in-Err.ensures.failed
    c.in-Err.ensures.device

pub returns-clause-refused : goal.returns-clause-refused
returns-clause-refused g c =
    let batch = c.requires.batch in
    fine_before g.D.Sectors c.put.result c.args.self.now c.put.new.self c.in-Ok.ensures.fine
    (IfErr-weaker c.put.result _ _
    (λ fault as_before cause w at.
    as_before cause w batch.0 (record {
      at = at;
      prepared_is = c.in-Ok.ensures.ready batch.0 batch.1;
      admissible = λ k. c.in-Ok.ensures.model w batch.0 at batch.1 k;
      still = c.in-Ok.ensures.leaves w at;
    }))
    c.put.ensures.refused)
    c.put.ensures.kept c.put.ensures.failed c.put.ensures.device c.put.ensures.word
