use Rattle.std.proofs.Common.{◌++◌, ◌∷◌, Some}
use Rattle.std.specs.Fmt.{decimal}
use Rattle.std.proofs.lemmas.Option.{none-some, same_Some}
use Rattle.std.proofs.lemmas.Result.{err_from_is_err_and}
use Rattle.partial_reports.specs.Head.{numbers_text}
use Rattle.partial_reports.proofs.HeadReadingLemmas.{no_slash, short_head}
use Rattle.partial_reports.proofs.head_reading.part_in.Goals as goal

pub returns-in_default-cut : goal.returns-in_default-cut
returns-in_default-cut c = λ head proper is.
    absurd (c.in_default-cut.ensures.found (numbers_text head.numbers) (decimal head.parts)
    (no_slash head (short_head head proper))
    (c.in-Some.ensures.begins (numbers_text head.numbers ++ 47 ∷ decimal head.parts) is))

pub returns-in_default-number_in : goal.returns-in_default-number_in
returns-in_default-number_in c = λ head proper is.
    let short = short_head head proper in
    let halves = c.in-Some-cut.ensures.found (numbers_text head.numbers) (decimal head.parts) (no_slash head short)
    (c.in-Some.ensures.begins (numbers_text head.numbers ++ 47 ∷ decimal head.parts) is) in
    absurd (none-some head.parts (c.in_default-number_in.ensures head.parts short.parts halves.1))

pub returns-in_err-numbers : goal.returns-in_err-numbers
returns-in_err-numbers c = λ head proper is.
    let short = short_head head proper in
    let halves = c.in-Some-cut.ensures.found (numbers_text head.numbers) (decimal head.parts) (no_slash head short)
    (c.in-Some.ensures.begins (numbers_text head.numbers ++ 47 ∷ decimal head.parts) is) in
    let p = err_from_is_err_and c.from_residual.result c.from_residual.ensures.1 in
    rw (p.1, p.2) (c.in_err-numbers.ensures head.numbers short.some short.numbers halves.0)

pub returns : goal.returns
returns c = λ head proper is.
    let short = short_head head proper in
    let halves = c.in-Some-cut.ensures.found (numbers_text head.numbers) (decimal head.parts) (no_slash head short)
    (c.in-Some.ensures.begins (numbers_text head.numbers ++ 47 ∷ decimal head.parts) is) in
    let parts =
    same_Some c.in-Some-number_in.parts head.parts (c.in-Some-number_in.ensures head.parts short.parts halves.1) in
    let numbers = c.in_ok-numbers.ensures head.numbers short.some short.numbers halves.0 in
    λ i. Some (numbers i, parts i)
