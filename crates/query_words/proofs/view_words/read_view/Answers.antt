use Rattle.std.proofs.lemmas.Result.{IfOk-weaker}
use Rattle.query_words.proofs.NamedViews.{by_levels}
use Rattle.query_words.proofs.view_words.read_view.Goals as goal

pub returns-in-None : goal.returns-in-None
returns-in-None c = IfOk-weaker c.view_of_levels.result _ _ (λ found. by_levels c.args.word.now found c.in-None.ensures)
    c.view_of_levels.ensures
