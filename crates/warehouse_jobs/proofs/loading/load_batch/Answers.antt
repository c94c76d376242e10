use Rattle.std.proofs.lemmas.Result.{err_from_is_err_and}
use Rattle.warehouse_jobs.proofs.Turns.{does-refused, does-written}
use Rattle.warehouse_jobs.proofs.loading.load_batch.Goals as goal

pub returns-in_err-taken-clause-does : goal.returns-in_err-taken-clause-does
returns-in_err-taken-clause-does g c w rows at grown k =
    does-refused g.D.Sectors w c.args.number rows c.args.session.now c.take_in.new.session
    (g.W.Write.contents c.args.out.now) _ _ (c.in_err-taken.ensures.refused w rows at grown k)
    (err_from_is_err_and _ c.from_residual.ensures.1)

pub returns-clause-does : goal.returns-clause-does
returns-clause-does g c w rows at grown k =
    does-written g.D.Sectors w c.args.number rows c.args.session.now c.take_in.new.session
    (g.W.Write.contents c.args.out.now) (g.W.Write.contents c.write_batch.new.out) c.in_ok-taken.taken
    c.write_batch.result
    (c.in_ok-taken.ensures.taken w rows at grown k)
    (rw (c.row_count.ensures.count _ _ rows grown) at c.write_batch.ensures)
