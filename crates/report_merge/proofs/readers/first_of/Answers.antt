use Rattle.std.proofs.Common.{◌∙◌, sym, subst, List, ℕ}
use Rattle.std.proofs.lemmas.Result.{MatchResult-weaker, err_from_is_err_and}
use Rattle.report_merge.specs.Merging.{IsPartialReport}
use Rattle.report_merge.proofs.ReadersLemmas.{outside}
use Rattle.report_merge.proofs.readers.first_of.Goals as goal
use Rattle.report_merge.specs.Mergeable.{IsOutside}

pub returns-in_err-text-clause-complete : goal.returns-in_err-text-clause-complete
returns-in_err-text-clause-complete g c = λ text part e is.
    let p = err_from_is_err_and c.from_residual.result c.from_residual.ensures.1 in
    rw p.1 (subst IsOutside (sym p.2) c.in_err-text.ensures.only)

pub returns-clause-complete : goal.returns-clause-complete
returns-clause-complete g c = λ text part e is.
    let found =
    c.new.ensures.complete part
    (subst (λ (one : List ℕ). IsPartialReport one part)
    (sym (c.as_slice.ensures.value ∙ c.in_ok-text.ensures.ok text e)) is) in
    MatchResult-weaker c.new.result found (λ merge same. tt) outside
