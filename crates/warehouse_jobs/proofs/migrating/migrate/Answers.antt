use Rattle.std.proofs.lemmas.Result.{err_from_is_err_and}
use Rattle.std.proofs.Common.{ap, Err}
use Rattle.warehouse_jobs.proofs.MigratingLemmas.{move-refused, move-written}
use Rattle.warehouse_jobs.proofs.migrating.migrate.Goals as goal

pub returns-in_err-migrate-clause-migrates : goal.returns-in_err-migrate-clause-migrates
returns-in_err-migrate-clause-migrates g c w at k = record {
  ends = move-refused g.D.Sectors w c.args.session.now c.migrate.new.self (g.W.Write.contents c.args.out.now)
      (g.W.Write.contents c.args.out.now) _ _
      (λ e. (c.in_err-migrate.ensures.refused.calls.device (ap (λ f. Err f) e)).failed)
      (λ no. (c.in_err-migrate.ensures.causes no w at k, (c.in_err-migrate.ensures.refused.stays no w at).0))
      (err_from_is_err_and _ c.from_residual.ensures.1);
  leaves = c.migrate.ensures.leaves w at;
}

pub returns-clause-migrates : goal.returns-clause-migrates
returns-clause-migrates g c w at k =
    let ok = c.in_ok-migrate.ensures.ok w at in record {
      ends = move-written g.D.Sectors w c.args.session.now c.migrate.new.self (g.W.Write.contents c.args.out.now)
          (g.W.Write.contents c.write_second_layout.new.out) c.write_second_layout.result (ok.1 k, ok.0)
          c.write_second_layout.ensures;
      leaves = c.migrate.ensures.leaves w at;
    }
