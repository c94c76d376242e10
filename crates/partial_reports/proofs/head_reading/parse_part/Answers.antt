use Rattle.std.proofs.Common.{◌∙◌, sym, ap}
use Rattle.std.proofs.lemmas.Option.{none-some, same_Some}
use Rattle.partial_reports.specs.HeadReading.{part_line}
use Rattle.partial_reports.proofs.HeadReadingLemmas.{part_lacks, part_line_front, short_head}
use Rattle.partial_reports.proofs.head_reading.parse_part.Goals as goal

pub returns-in_err-line : goal.returns-in_err-line
returns-in_err-line c = λ head left proper e.
    absurd (c.in_err-line.ensures (part_line head) left (part_lacks head (short_head head proper))
    (e ∙ part_line_front head left))

pub returns-in-Ok-Some : goal.returns-in-Ok-Some
returns-in-Ok-Some c = λ head left proper e.
    let read = c.in_ok-line.ensures (part_line head) left (part_lacks head (short_head head proper))
    (e ∙ part_line_front head left) in
    let same = same_Some c.in-Ok-Some.part (head.numbers, head.parts)
    (sym c.in-Ok-Some.field-0-is ∙ c.in-Ok-Some.ensures head proper read.0) in
    (ap (λ p. p.0) same, ap (λ p. p.1) same, read.1)

pub returns-in-Ok-None : goal.returns-in-Ok-None
returns-in-Ok-None c = λ head left proper e.
    let read = c.in_ok-line.ensures (part_line head) left (part_lacks head (short_head head proper))
    (e ∙ part_line_front head left) in
    absurd (none-some _ (sym c.in-Ok-None.field-0-is ∙ c.in-Ok-None.ensures head proper read.0))

pub returns-in-Err : goal.returns-in-Err
returns-in-Err c = λ head left proper e.
    let read = c.in_ok-line.ensures (part_line head) left (part_lacks head (short_head head proper))
    (e ∙ part_line_front head left) in
    c.in-Err.ensures head proper read.0
