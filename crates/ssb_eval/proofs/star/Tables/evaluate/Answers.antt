use Rattle.std.proofs.Common.{◌∙◌, ap, subst, sym}
use Rattle.std.proofs.lemmas.Result.{err_from_is_err_and}
use Rattle.batch_loader.specs.Unread.{Unread}
use Rattle.dimension_tables.specs.Tables.{KeepLines}
use Rattle.ssb_eval.specs.Evaluation.{moded_answer_of}
use Rattle.ssb_eval.specs.Tables.{StarLines}
use Rattle.ssb_eval.proofs.KeptLines.{evaluates-no_answer, keeps-cause, keeps-unknown, no_key, unread-rest}
use Rattle.ssb_eval.proofs.star.Tables.evaluate.Goals as goal

pub returns-in_err-answered-clause-evaluates : goal.returns-in_err-answered-clause-evaluates
returns-in_err-answered-clause-evaluates g c = λ texts unread.
    evaluates-no_answer (moded_answer_of c.args.asked) texts c.in_ok-dims.dims _ _
    (err_from_is_err_and _ c.from_residual-in_err-answered.ensures.1)
    (c.in_ok-dims.ensures.dims texts unread.dimensions)
    (c.in_err-answered.ensures.answer texts.lineorder
    (unread-rest _ _ texts.lineorder (ap (λ (t : StarLines). t.lineorder) c.self.view_is
    ∙ c.in_ok-dims.ensures.rest.0) unread.lineorder))

pub returns-in_err-answered-clause-cause : goal.returns-in_err-answered-clause-cause
returns-in_err-answered-clause-cause g c = λ fresh.
    keeps-cause _ _
    (subst (λ (t : StarLines). KeepLines t.dimensions) (sym c.self.view_is) (c.in_ok-dims.ensures.lines fresh))
    (c.in_err-answered.ensures.line (ap (λ (t : StarLines). t.lineorder.fault) c.self.view_is
    ∙ ap (λ (l : Unread). l.fault) c.in_ok-dims.ensures.rest.0 ∙ fresh.lineorder))
    (ap (λ (t : StarLines). t.broken) c.self.view_is ∙ c.in_ok-dims.ensures.whole ∙ fresh.broken)

pub returns-in_err-answered-clause-unknown : goal.returns-in_err-answered-clause-unknown
returns-in_err-answered-clause-unknown g c = λ texts unread.
    keeps-unknown texts c.in_ok-dims.dims _ (c.in_ok-dims.ensures.dims texts unread.dimensions)
    (c.in_err-answered.ensures.unknown
    (no_key c.in_ok-dims.dims _ (ap (λ (t : StarLines). t.unknown) c.self.view_is ∙ c.in_ok-dims.ensures.rest.1
    ∙ unread.unknown)))

pub returns-clause-evaluates : goal.returns-clause-evaluates
returns-clause-evaluates g c = λ texts unread. (
  c.in_ok-dims.ensures.dims texts unread.dimensions,
  c.in_ok-answered.ensures.answer texts.lineorder
      (unread-rest _ _ texts.lineorder (ap (λ (t : StarLines). t.lineorder) c.self.view_is
      ∙ c.in_ok-dims.ensures.rest.0) unread.lineorder),
)

pub returns-clause-unknown : goal.returns-clause-unknown
returns-clause-unknown g c = λ texts unread.
    keeps-unknown texts c.in_ok-dims.dims _ (c.in_ok-dims.ensures.dims texts unread.dimensions)
    (c.in_ok-answered.ensures.unknown
    (no_key c.in_ok-dims.dims _ (ap (λ (t : StarLines). t.unknown) c.self.view_is ∙ c.in_ok-dims.ensures.rest.1
    ∙ unread.unknown)))
