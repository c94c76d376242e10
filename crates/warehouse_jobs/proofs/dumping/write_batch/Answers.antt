use Rattle.std.proofs.Common.{◌∙◌, sym}
use Rattle.std.proofs.lemmas.Result.{IfErr-weaker, err_from_is_err_and}
use Rattle.warehouse_objects.proofs.Folded.{ok_so}
use Rattle.warehouse.specs.Comparing.{numbered}
use Rattle.warehouse.proofs.OnlyReading.{reads_alike}
use Rattle.warehouse_jobs.proofs.DumpingLemmas.{batch_refused, never_device, never_failed, none_there, not_read}
use Rattle.warehouse_jobs.proofs.DumpingLemmas.{rows_refused, rows_written}
use Rattle.warehouse_jobs.proofs.dumping.write_batch.Goals as goal

pub returns-in_err-found-clause-reads : goal.returns-in_err-found-clause-reads
returns-in_err-found-clause-reads g c =
    let p = err_from_is_err_and c.from_residual.result c.from_residual.ensures.1 in
    rw (p.1, p.2)
    (reads_alike g.D.Sectors c.args.session.now c.rows_of_batch.new.self _ _ (λ is. cc, λ is. cc)
    (λ is. cc, λ is. cc) c.in_err-found.ensures.reads)

pub returns-in-None-clause-reads : goal.returns-in-None-clause-reads
returns-in-None-clause-reads g c =
    reads_alike g.D.Sectors c.args.session.now c.rows_of_batch.new.self _ _ (λ is. absurd cc, λ is. absurd cc)
    (λ is. absurd cc, λ is. absurd cc) c.in_ok-found.ensures.reads

pub returns-in-Some-clause-reads : goal.returns-in-Some-clause-reads
returns-in-Some-clause-reads g c =
    let written = rw c.as_slice.ensures at c.write_facts.ensures in
    let old = g.W.Write.contents c.args.out.now in
    let new = g.W.Write.contents c.write_facts.new.out in
    reads_alike g.D.Sectors c.args.session.now c.rows_of_batch.new.self _ _
    (λ is. absurd cc, λ is. absurd (never_device c.in-Some.rows old new c.write_facts.result written is))
    (λ is. absurd cc, λ is. absurd (never_failed c.in-Some.rows old new c.write_facts.result written is))
    c.in_ok-found.ensures.reads

pub returns-in_err-found-clause-refused : goal.returns-in_err-found-clause-refused
returns-in_err-found-clause-refused g c =
    let p = err_from_is_err_and c.from_residual.result c.from_residual.ensures.1 in
    rw (p.1, p.2)
    (λ w at k. not_read (numbered w.batches c.args.number) _ c.in_err-found.field-0.0
    (λ no. c.in_err-found.ensures.refused no w at k))

pub returns-in-None-clause-refused : goal.returns-in-None-clause-refused
returns-in-None-clause-refused g c w at k =
    none_there c.in_ok-found.found (numbered w.batches c.args.number) (c.in_ok-found.ensures.rows w at k) c.in-None.is
    (g.W.Write.contents c.args.out.now)

pub returns-in-Some-clause-ok : goal.returns-in-Some-clause-ok
returns-in-Some-clause-ok g c =
    ok_so _ _ c.write_facts.result
    (λ written w at k. (c.in-Some.rows, sym (c.in_ok-found.ensures.rows w at k) ∙ c.in-Some.is, written))
    (rows_written c.in-Some.rows _ _ c.write_facts.result (rw c.as_slice.ensures at c.write_facts.ensures))

pub returns-in-Some-clause-refused : goal.returns-in-Some-clause-refused
returns-in-Some-clause-refused g c =
    IfErr-weaker c.write_facts.result _ _
    (λ fault refused w at k. batch_refused c.in_ok-found.found (numbered w.batches c.args.number)
    (c.in_ok-found.ensures.rows w at k) c.in-Some.rows c.in-Some.is _ _ fault refused)
    (rows_refused c.in-Some.rows _ _ c.write_facts.result (rw c.as_slice.ensures at c.write_facts.ensures))
