use Rattle.std.proofs.Common.{inr, refl, sym, true≢false, ◌∙◌}
use Rattle.column_segment.proofs.Passes.{none_header, none_numbers, none_texts}
use Rattle.column_segment.proofs.ReadingLemmas.{refused}
use Rattle.column_segment.proofs.Whole.{whole}
use Rattle.column_segment.proofs.reading.read_layout.Goals as goal

pub returns-in_err-header-clause-refused : goal.returns-in_err-header-clause-refused
returns-in_err-header-clause-refused c =
    refused c.from_residual.result _ c.from_residual.ensures.1 (none_header c.args.bytes.now)
    (inr (c.in_err-header.ensures.fault, c.in_err-header.ensures.none refl))

pub returns-then-not-has_numbers-clause-refused : goal.returns-then-not-has_numbers-clause-refused
returns-then-not-has_numbers-clause-refused c = inr (
  refl,
  none_numbers c.args.bytes.now c.in_ok-header.header.number c.in_ok-header.header.rows c.in_ok-header.ensures.ok
      (λ has. true≢false (sym (c.has_numbers.ensures.1 has) ∙ c.if-not-has_numbers.true)),
)

pub returns-in_err-texts-clause-refused : goal.returns-in_err-texts-clause-refused
returns-in_err-texts-clause-refused c =
    refused c.from_residual-in_err-texts.result _ c.from_residual-in_err-texts.ensures.1
    (none_texts c.args.bytes.now c.in_ok-header.header.number c.in_ok-header.header.rows c.in_ok-header.ensures.ok)
    c.in_err-texts.ensures.refused

pub returns-clause-ok : goal.returns-clause-ok
returns-clause-ok c =
    whole c.args.bytes.now
    (record {
      number = c.in_ok-header.header.number;
      rows = c.in_ok-header.header.rows;
      texts = c.in_ok-texts.texts;
    })
    (λ k. (c.type_inv.bytes k).fits) c.in_ok-header.ensures.ok (c.has_numbers.ensures.0 c.if-not-has_numbers.false)
    c.in_ok-texts.ensures.ok
