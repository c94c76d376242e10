use Rattle.std.proofs.Common.{◌∙◌, List, sym, subst}
use Rattle.std.proofs.lemmas.Result.{on_ok_weaker}
use Rattle.cube_model.specs.declared.rows.LineOrder.{LineOrder}
use Rattle.cube_query.specs.Asked.{AreSame, is_asked}
use Rattle.cube_query.specs.Groups.{Takes}
use Rattle.cube_query.proofs.RunningLemmas.{query_stays, same_self}
use Rattle.cube_query.proofs.running.Fold.add_segment.Goals as goal

pub returns : goal.returns
returns c =
    let dims = c.args.dims.now in
    let old = c.args.self.now in
    let new = c.add_batch.new.self in
    let rows = c.args.segment.now.rows in
    let asks = is_asked old.query in
    record {
      over = c.add_batch.ensures.over;
      query = query_stays dims old new c.columns.result c.add_batch.result c.add_batch.ensures.ok
          c.add_batch.ensures.err;
      ok = on_ok_weaker c.add_batch.result
          (λ takes counted same.
          subst (λ (all : List LineOrder). Takes dims old all new) (c.columns.ensures.rows ∙ sym same) takes)
          c.add_batch.ensures.ok;
      err = c.add_batch.ensures.err;
      refused = λ bad counted same can.
          c.add_batch.ensures.refused bad counted
          (subst (λ (all : List LineOrder). AreSame asks all counted) (sym c.columns.ensures.rows)
          (subst (λ (all : List LineOrder). AreSame asks rows all) (sym same) (same_self asks rows))) can;
      only = c.add_batch.ensures.only;
    }
