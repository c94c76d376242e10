use Rattle.std.proofs.Common.{inr, refl}
use Rattle.column_segment.proofs.Passes.{none_end, none_fourth, none_third}
use Rattle.column_segment.proofs.ReadingLemmas.{refused}
use Rattle.column_segment.proofs.reading.read_last_two.Goals as goal

pub returns-in_err-commitdate-clause-refused : goal.returns-in_err-commitdate-clause-refused
returns-in_err-commitdate-clause-refused c =
    refused c.from_residual.result _ c.from_residual.ensures.1
    (none_third c.args.bytes.now c.args.rows c.args.from (λ k. (c.type_inv.bytes k).fits) c.requires.few)
    c.in_err-commitdate.ensures.refused

pub returns-in_err-shipmode-clause-refused : goal.returns-in_err-shipmode-clause-refused
returns-in_err-shipmode-clause-refused c =
    refused c.from_residual-in_err-shipmode.result _ c.from_residual-in_err-shipmode.ensures.1
    (none_fourth c.args.bytes.now c.args.rows c.args.from (λ k. (c.type_inv.bytes k).fits) c.requires.few
    c.in_ok-commitdate.commitdate c.in_ok-commitdate.ensures.ok)
    c.in_err-shipmode.ensures.refused

pub returns-then-shipmode-rows-clause-refused : goal.returns-then-shipmode-rows-clause-refused
returns-then-shipmode-rows-clause-refused c = inr (
  refl,
  none_end c.args.bytes.now c.args.rows c.args.from (λ k. (c.type_inv.bytes k).fits) c.requires.few
      c.in_ok-commitdate.commitdate c.in_ok-commitdate.ensures.ok c.in_ok-shipmode.shipmode c.in_ok-shipmode.ensures.ok
      c.if-shipmode-rows.true,
)
