use Rattle.std.proofs.Common.{◌≡◌, ◌+◌, ◌*◌, List, ℕ, Option, length, subst}
use Rattle.std.specs.Option.{IsSomeAnd}
use Rattle.std.proofs.lemmas.Result.{IfOk-weaker}
use Rattle.wire.specs.Runs.{IsRefused}
use Rattle.stored_rows.proofs.MoreReads.{word_then}
use Rattle.stored_rows.proofs.TextPartLemmas.{columns_same}
use Rattle.stored_rows.proofs.text_part.has_columns.Goals as goal

pub returns-in-Some-clause-same : goal.returns-in-Some-clause-same
returns-in-Some-clause-same g c =
    IfOk-weaker c.has_header.result _ _ (λ answer same keeps text there.
    columns_same text c.args.number c.args.rows c.in-Some.field-0 answer
    (subst (λ (o : Option (List ℕ)). IsSomeAnd o (λ own. 12 + 63 * c.args.rows + c.in-Some.field-0 ≡ length own)) there
    (c.in-Some.ensures.text
    (word_then g.S.Source c.args.source.now c.has_header.new.source
    (λ fault. IsRefused g.S.Source fault c.args.source.now c.has_header.new.source) (λ fault refused. refused.stays)
    c.has_header.result c.has_header.ensures.run keeps)))
    (same keeps text there)) c.has_header.ensures.same
