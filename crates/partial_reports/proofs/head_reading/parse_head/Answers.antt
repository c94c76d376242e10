use Rattle.std.proofs.Common.{◌∙◌}
use Rattle.std.proofs.lemmas.Result.{err_from_is_err_and}
use Rattle.partial_reports.proofs.HeadTexts.{after_dimensions, after_part, after_version, head_front, proper_head}
use Rattle.partial_reports.proofs.HeadReadingLemmas.{same_version, version_lacks, version_line}
use Rattle.partial_reports.proofs.head_reading.parse_head.Goals as goal

pub returns-in_err-version : goal.returns-in_err-version
returns-in_err-version c = λ head digest left proper is e.
    absurd (c.in_err-version.ensures version_line (after_version head digest left) version_lacks
    (e ∙ head_front head digest left))

pub returns-then-ne : goal.returns-then-ne
returns-then-ne c = λ head digest left proper is e.
    let first = c.in_ok-version.ensures version_line (after_version head digest left) version_lacks
    (e ∙ head_front head digest left) in
    absurd (same_version c.in_ok-version.version.now c.as_slice.result.now c.ne.result first.0 c.as_slice.ensures
    c.ne.ensures c.if-ne.true)

pub returns-in_err-numbers : goal.returns-in_err-numbers
returns-in_err-numbers c = λ head digest left proper is e.
    let first = c.in_ok-version.ensures version_line (after_version head digest left) version_lacks
    (e ∙ head_front head digest left) in
    let p = err_from_is_err_and c.from_residual-in_err-numbers.result c.from_residual-in_err-numbers.ensures.1 in
    rw (p.1, p.2) (c.in_err-numbers.ensures head (after_part head digest left) proper first.1)

pub returns-in_err-digest : goal.returns-in_err-digest
returns-in_err-digest c = λ head digest left proper is e.
    let first = c.in_ok-version.ensures version_line (after_version head digest left) version_lacks
    (e ∙ head_front head digest left) in
    let part = c.in_ok-numbers.ensures head (after_part head digest left) proper first.1 in
    absurd (c.in_err-digest.ensures digest (after_dimensions head left) is part.2)

pub returns-in_err-words : goal.returns-in_err-words
returns-in_err-words c = λ head digest left proper is e.
    let first = c.in_ok-version.ensures version_line (after_version head digest left) version_lacks
    (e ∙ head_front head digest left) in
    let part = c.in_ok-numbers.ensures head (after_part head digest left) proper first.1 in
    let dimensions = c.in_ok-digest.ensures digest (after_dimensions head left) is part.2 in
    let p = err_from_is_err_and c.from_residual-in_err-words.result c.from_residual-in_err-words.ensures.1 in
    rw (p.1, p.2) (c.in_err-words.ensures head.words left (proper_head head proper).words dimensions.1)

pub returns : goal.returns
returns c = λ head digest left proper is e.
    let first = c.in_ok-version.ensures version_line (after_version head digest left) version_lacks
    (e ∙ head_front head digest left) in
    let part = c.in_ok-numbers.ensures head (after_part head digest left) proper first.1 in
    let dimensions = c.in_ok-digest.ensures digest (after_dimensions head left) is part.2 in
    let words = c.in_ok-words.ensures head.words left (proper_head head proper).words dimensions.1 in
    ((λ i. record { numbers = part.0 i; parts = part.1 i; words = words.0 i }), dimensions.0)
