use Rattle.std.proofs.Common.{subst}
use Rattle.partial_reports.proofs.Cutting.{cut_found, not_nowhere}
use Rattle.std.proofs.Common.{length}
use Rattle.memchr.specs.Find.{Nowhere, Passes, is_byte}
use Rattle.partial_reports.proofs.head_reading.cut.Goals as goal

pub returns-in_err-end-clause-found : goal.returns-in_err-end-clause-found
returns-in_err-end-clause-found c =
    λ front back none is. absurd
    (not_nowhere c.args.sign front back
    (subst (λ t. Nowhere (Passes (is_byte c.args.sign) t) 0 (length t)) is c.in_err-end.ensures))

pub returns-clause-found : goal.returns-clause-found
returns-clause-found c =
    λ front back none is. cut_found c.args.sign front back c.args.text.now c.in_ok-end.end none is c.in_ok-end.ensures.0
    c.in_ok-end.ensures.1
