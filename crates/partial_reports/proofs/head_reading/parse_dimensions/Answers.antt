use Rattle.std.proofs.Common.{◌∙◌, ◌++◌, codes}
use Rattle.std.proofs.lemmas.Option.{none-some, same_Some}
use Rattle.hex.specs.Hex.{encode_lower}
use Rattle.partial_reports.proofs.HeadTexts.{dimensions_front}
use Rattle.partial_reports.proofs.HeadReadingLemmas.{digest_lacks}
use Rattle.partial_reports.proofs.head_reading.parse_dimensions.Goals as goal

pub returns-in_err-line : goal.returns-in_err-line
returns-in_err-line c =
    λ digest left is e. absurd
    (c.in_err-line.ensures (codes "dimensions " ++ encode_lower digest) left (digest_lacks digest is)
    (e ∙ dimensions_front digest left))

pub returns-in-Some : goal.returns-in-Some
returns-in-Some c = λ digest left is e.
    let read = c.in_ok-line.ensures (codes "dimensions " ++ encode_lower digest) left (digest_lacks digest is)
    (e ∙ dimensions_front digest left) in
    (same_Some c.in-Some.digest digest (c.in-Some.ensures digest is read.0), read.1)

pub returns-in-None : goal.returns-in-None
returns-in-None c = λ digest left is e.
    let read = c.in_ok-line.ensures (codes "dimensions " ++ encode_lower digest) left (digest_lacks digest is)
    (e ∙ dimensions_front digest left) in
    none-some digest (c.in-None.ensures digest is read.0)
