use Rattle.std.proofs.Common.{◌≡◌, ◌∙◌, ◌++◌, sym, ap, List, ℕ}
use Rattle.std.proofs.lemmas.Bool.{both_ways}
use Rattle.std.proofs.lemmas.Result.{err_from_is_err_and}
use Rattle.partial_reports.specs.Head.{head_text, is_proper}
use Rattle.partial_reports.proofs.head_reading.read_head.Goals as goal

pub returns-in_err-head-clause-complete : goal.returns-in_err-head-clause-complete
returns-in_err-head-clause-complete c = λ head digest left proper is e.
    let p = err_from_is_err_and c.from_residual.result c.from_residual.ensures.1 in
    rw (p.1, p.2) (c.in_err-head.ensures head digest left proper is e)

pub returns-then-not-is_proper-clause-complete : goal.returns-then-not-is_proper-clause-complete
returns-then-not-is_proper-clause-complete c = λ head digest left proper is e.
    let read = c.in_ok-head.ensures head digest left proper is e in
    absurd (both_ways c.is_proper.result c.if-not-is_proper.true (c.is_proper.ensures ∙ ap is_proper read.0 ∙ proper))

pub returns-in-Some-clause-complete : goal.returns-in-Some-clause-complete
returns-in-Some-clause-complete c = λ head digest left proper is e.
    let read = c.in_ok-head.ensures head digest left proper is e in
    let spelled : c.as_slice.result.now ≡ head_text head digest = c.as_slice.ensures.value ∙ c.in_ok-spelled.ensures.ok
    ∙ (λ i. head_text (read.0 i) (read.1 i)) in
    (read.0, read.1, c.in-Some.ensures.begins left (e ∙ ap (λ (t : List ℕ). t ++ left) (sym spelled)))

pub returns-clause-complete : goal.returns-clause-complete
returns-clause-complete c = λ head digest left proper is e.
    let read = c.in_ok-head.ensures head digest left proper is e in
    let spelled : c.as_slice.result.now ≡ head_text head digest = c.as_slice.ensures.value ∙ c.in_ok-spelled.ensures.ok
    ∙ (λ i. head_text (read.0 i) (read.1 i)) in
    absurd (c.in-None.ensures.begins left (e ∙ ap (λ (t : List ℕ). t ++ left) (sym spelled)))
