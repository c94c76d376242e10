use Rattle.std.proofs.Common.{◌∙◌, Err, subst}
use Rattle.std.proofs.lemmas.Result.{err_from_is_err_and}
use Rattle.cube_query.proofs.CallerLemmas.{memory_alone}
use Rattle.dimension_tables.specs.Texts.{GivesUnlessFailed}
use Rattle.mode_folds.specs.States.{IsFoldableByModes}
use Rattle.ssb_eval.specs.Evaluation.{moded_answer_of}
use Rattle.ssb_eval.proofs.Batches.{gives-answered, gives-nothing}
use Rattle.ssb_eval.proofs.FactsLemmas.{over_rows}
use Rattle.ssb_eval.proofs.facts.group_facts.Goals as goal

pub returns-in_err-fold_lines-clause-answer : goal.returns-in_err-fold_lines-clause-answer
returns-in_err-fold_lines-clause-answer g c = λ text known.
    let dims = c.args.dims.now in
    let fault = c.in_err-fold_lines.field-0.0 in
    gives-nothing c.args.asked dims text fault _
    (err_from_is_err_and _ c.from_residual-in_err-fold_lines.ensures.1)
    (subst (λ q. GivesUnlessFailed (moded_answer_of q dims text) (Err fault)) c.in_ok-fold.ensures.ok.query_is
    (c.in_err-fold_lines.ensures.facts text known))

pub into_answered-requires : goal.into_answered-requires
into_answered-requires g c =
    let done = c.in_ok-fold_lines.ensures.folded in
    over_rows c.args.dims.now c.fold_lines.new.fold done.rows done.folded

pub returns-clause-answer : goal.returns-clause-answer
returns-clause-answer g c = λ text known.
    let dims = c.args.dims.now in
    let fold = c.fold_lines.new.fold in
    let done = c.in_ok-fold_lines.ensures.folded in
    gives-answered c.args.asked dims text fold c.into_answered.result
    (done.query_is ∙ c.in_ok-fold.ensures.ok.query_is)
    (c.in_ok-fold_lines.ensures.facts text known)
    c.into_answered.ensures.answer
    (memory_alone c.into_answered.result (IsFoldableByModes dims fold) (done.rows, (done.folded, done.foldable))
    c.into_answered.ensures.refused c.into_answered.ensures.only)
