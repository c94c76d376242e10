use Rattle.std.proofs.lemmas.Result.{on_ok_weaker}
use Rattle.cube_query.proofs.RunningLemmas.{agreeing_same, query_stays, takes_both}
use Rattle.cube_query.proofs.running.Fold.add_columns.Goals as goal

pub returns : goal.returns
returns c =
    let dims = c.args.dims.now in
    let old = c.args.self.now in
    let new = c.add_batch.new.self in
    let batch = c.args.batch in
    record {
      over = c.add_batch.ensures.over;
      query = query_stays dims old new batch c.add_batch.result c.add_batch.ensures.ok c.add_batch.ensures.err;
      ok = on_ok_weaker c.add_batch.result (λ takes rows agree. takes_both dims old new batch rows agree takes)
          c.add_batch.ensures.ok;
      err = c.add_batch.ensures.err;
      refused = λ bad rows agree can.
          c.add_batch.ensures.refused bad rows (agreeing_same dims old.query batch rows agree) can;
      only = c.add_batch.ensures.only;
    }
