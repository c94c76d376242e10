use Rattle.std.proofs.Common.{rules, Err, sym, ap, arith}
use Rattle.std.proofs.lemmas.Result.{err_from_is_err_and}
use Rattle.cube_model.specs.declared.fault.Fault.{Fault}
use Rattle.cube_model.specs.declared.fault.Fault.TheVariants.{BadLayout}
use Rattle.object_store.specs.Store.{content_of}
use Rattle.warehouse_objects.proofs.Folded.{err_fault}
use Rattle.stored_rows.proofs.Rows.{never_none, none_said, rows_are}
use Rattle.object_store.proofs.CallerLemmas.{leaves_now}
use Rattle.stored_rows.proofs.reading.read_rows.Goals as goal

pub returns-in-None-clause-rows : goal.returns-in-None-clause-rows
returns-in-None-clause-rows g c k w represents rooted =
    none_said w c.args.root.now rooted c.args.before (sym c.in-None.ensures.count)

pub returns-in-None-clause-reads : goal.returns-in-None-clause-reads
returns-in-None-clause-reads g c = record {
  leaves = leaves_now g.D.Sectors g.met.D.Sectors.only_now c.args.store.now c.requires.fine;
  stays = search rules;
  device = search rules;
}

pub returns-in_err-rows-in-Some-clause-refused : goal.returns-in_err-rows-in-Some-clause-refused
returns-in_err-rows-in-Some-clause-refused g c =
    let p = err_from_is_err_and c.from_residual.result c.from_residual.ensures.1 in
    rw (p.1, p.2) (λ is k w represents rooted.
    never_none (content_of g.D.Sectors c.args.store.now) w represents c.args.before
    (omega (arith, c.in-Some.ensures.few)) c.args.root.now rooted c.in-Some.count (sym c.in-Some.ensures.count)
    (c.in_err-rows-in-Some.ensures.refused
    (ap (λ (f : Fault). Err f) (err_fault c.in_err-rows-in-Some.field-0.0 BadLayout is)) k))

pub returns-in_ok-rows-in-Some-clause-rows : goal.returns-in_ok-rows-in-Some-clause-rows
returns-in_ok-rows-in-Some-clause-rows g c k w represents rooted =
    rows_are (content_of g.D.Sectors c.args.store.now) w represents c.args.before (omega (arith, c.in-Some.ensures.few))
    c.in_ok-rows-in-Some.rows (c.in_ok-rows-in-Some.ensures.rows k)
