use Rattle.std.proofs.Common.{◌≡◌, ◌∙◌}
use Rattle.std.proofs.lemmas.Result.{IfOk-weaker}
use Rattle.cube_model.specs.declared.fault.Fault.TheVariants.{BadLayout}
use Rattle.stored_rows.proofs.MoreReads.{ends_stays, err_later, word_then}
use Rattle.stored_rows.proofs.passing.after_dictionary.Goals as goal

pub returns-in_err-count-clause-refused : goal.returns-in_err-count-clause-refused
returns-in_err-count-clause-refused g c = λ err keeps text rest there begins.
    c.in_err-count.ensures.refused (err_later c.from_residual.result _ c.from_residual.ensures.1 err) keeps text rest
    there begins

pub returns-clause-passed : goal.returns-clause-passed
returns-clause-passed g c =
    IfOk-weaker c.after_texts.result _ _ (λ end passed keeps text rest there begins.
    let kept = word_then g.S.Source c.count_at.new.source c.after_texts.new.source _
    (ends_stays (λ fault. fault ≡ BadLayout) g.S.Source c.count_at.new.source c.after_texts.new.source)
    c.after_texts.result c.after_texts.ensures.run keeps in
    passed keeps text rest (c.in_ok-count.ensures.run.stays.texts kept c.args.id ∙ there)
    (c.in_ok-count.ensures.found kept text rest there begins)) c.after_texts.ensures.passed

pub returns-clause-refused : goal.returns-clause-refused
returns-clause-refused g c = λ err keeps text rest there begins.
    let kept = word_then g.S.Source c.count_at.new.source c.after_texts.new.source _
    (ends_stays (λ fault. fault ≡ BadLayout) g.S.Source c.count_at.new.source c.after_texts.new.source)
    c.after_texts.result c.after_texts.ensures.run keeps in
    c.after_texts.ensures.refused err keeps text rest (c.in_ok-count.ensures.run.stays.texts kept c.args.id ∙ there)
    (c.in_ok-count.ensures.found kept text rest there begins)
