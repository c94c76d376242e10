use Rattle.std.proofs.Common.{◌∙◌, sym, subst, List, ℕ}
use Rattle.std.proofs.lemmas.Result.{IfOk-weaker, MatchResult-weaker, err_from_is_err_and}
use Rattle.report_merge.specs.Merging.{AddsPart, IsPartialReport}
use Rattle.report_merge.proofs.ReadersLemmas.{outside}
use Rattle.report_merge.proofs.readers.add_one.Goals as goal
use Rattle.report_merge.specs.Mergeable.{IsOutside}

pub returns-clause-ok : goal.returns-clause-ok
returns-clause-ok g c =
    IfOk-weaker c.add.result _ _
    (λ next adds text e. subst (λ one. AddsPart c.args.merge one next)
    (c.as_slice.ensures.value ∙ c.in_ok-text.ensures.ok text e) adds)
    c.add.ensures.ok

pub returns-in_err-text-clause-complete : goal.returns-in_err-text-clause-complete
returns-in_err-text-clause-complete g c = λ text other e is alike apart.
    let p = err_from_is_err_and c.from_residual.result c.from_residual.ensures.1 in
    rw p.1 (subst IsOutside (sym p.2) c.in_err-text.ensures.only)

pub returns-clause-complete : goal.returns-clause-complete
returns-clause-complete g c = λ text other e is alike apart.
    let found =
    c.add.ensures.complete other
    (subst (λ (one : List ℕ). IsPartialReport one other)
    (sym (c.as_slice.ensures.value ∙ c.in_ok-text.ensures.ok text e)) is) alike apart in
    MatchResult-weaker c.add.result found (λ next merged. tt) outside
