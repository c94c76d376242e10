use Rattle.std.proofs.Common.{arith}
use Rattle.std.proofs.lemmas.Result.{err_from_is_err_and}
use Rattle.warehouse_jobs.proofs.LoadingLemmas.{loads-none}
use Rattle.warehouse_jobs.proofs.Turns.{still}
use Rattle.warehouse_jobs.proofs.loading.load_from.Goals as goal

pub returns-in_err-text-clause-loads : goal.returns-in_err-text-clause-loads
returns-in_err-text-clause-loads g c w at k =
    loads-none g.D.Sectors w c.args.first c.args.rows (g.R.Read.remaining c.args.lineorder) c.args.session.now
    (g.W.Write.contents c.args.out.now) _ _ (omega arith) c.in_err-text.ensures.err at
    (still g.D.Sectors c.args.session.now w g.met.D.Sectors.only_now at)
    (err_from_is_err_and _ c.from_residual.ensures.1)

pub returns-clause-loads : goal.returns-clause-loads
returns-clause-loads g c w at k =
    c.load.ensures.loads w (g.R.Read.remaining c.args.lineorder) at k c.in_ok-text.ensures.left
    c.in_ok-text.ensures.number c.in_ok-text.ensures.fault
