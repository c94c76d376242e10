use Rattle.std.proofs.lemmas.Result.{err_from_is_err_and}
use Rattle.std.proofs.Common.{ap, Err}
use Rattle.warehouse_jobs.proofs.Cuboids.{upkeep-refused, upkeep-written}
use Rattle.warehouse_jobs.proofs.keeping.keep_up.Goals as goal

pub returns-in_err-upkeep-clause-keeps : goal.returns-in_err-upkeep-clause-keeps
returns-in_err-upkeep-clause-keeps g c w at k = record {
  ends = upkeep-refused g.D.Sectors w c.args.session.now c.upkeep.new.self (g.W.Write.contents c.args.out.now)
      (g.W.Write.contents c.args.out.now) _ _
      (λ e. (c.in_err-upkeep.ensures.calls.device (ap (λ f. Err f) e)).failed)
      (λ no. let then_at = c.in_err-upkeep.ensures.refused no w at in (then_at.0, then_at.1, then_at.2, then_at.3 k))
      (err_from_is_err_and _ c.from_residual.ensures.1);
  leaves = c.upkeep.ensures.leaves w at;
}

pub returns-clause-keeps : goal.returns-clause-keeps
returns-clause-keeps g c w at k =
    let ok = c.in_ok-upkeep.ensures.ok w at in record {
      ends = upkeep-written g.D.Sectors w c.args.session.now c.upkeep.new.self (g.W.Write.contents c.args.out.now)
          (g.W.Write.contents c.write_upkeep.new.out) c.write_upkeep.result
          (record { now = ok.0; kept = ok.1; whole = ok.3 k; at = ok.2 }) c.write_upkeep.ensures;
      leaves = c.upkeep.ensures.leaves w at;
    }
