use Rattle.std.proofs.Common.{◌≡◌, ◌∙◌, subst, length, Option, Some, List, ℕ}
use Rattle.std.specs.Str.{bytes_eq}
use Rattle.wire.specs.Parts.{Gives}
use Rattle.stored_rows.proofs.TextPartLemmas.{compared}
use Rattle.stored_rows.proofs.text_part.has_header.Goals as goal

pub returns-clause-same : goal.returns-clause-same
returns-clause-same g c = λ keeps text at.
    let part : List ℕ = c.read_part.new.to in
    let own : List ℕ = c.header_of-own.result in
    let gives : Gives (Some text) 0 part =
    subst (λ (o : Option (List ℕ)). Gives o 0 part) at (c.in_ok-read_part.ensures.bytes keeps) in
    let long : length part ≡ 12 = c.read_part.auto.to in
    let compares : c.eq.result ≡ bytes_eq part own = c.eq.ensures
    ∙ (λ i. bytes_eq (c.as_slice.ensures i) (c.as_slice-2.ensures i)) in
    compared text part own c.args.number c.args.rows long gives c.header_of-own.ensures c.eq.result compares
    c.ranges.number.fits c.requires.few
