use Rattle.std.proofs.lemmas.Result.{on_ok_weaker}
use Rattle.column_segment.proofs.encoding.BatchColumns.push_piece.Goals as goal

pub returns-clause-ok : goal.returns-clause-ok
returns-clause-ok c =
    on_ok_weaker c.push_texts.result (λ texts before have. record {
      keys = c.in_ok-push.ensures.ok before have.keys;
      figures = c.in_ok-push-2.ensures.ok before have.figures;
      texts = texts before have.texts;
    }) c.push_texts.ensures.ok
