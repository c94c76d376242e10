use Rattle.std.proofs.Common.{◌≡◌, ◌∙◌, ◌<◌, ap, arith, cond, rules, subst, sym, true, None, Some}
use Rattle.std.specs.List.{list_all, All}
use Rattle.cube_model.specs.Attributes.{axis_of}
use Rattle.cube_model.specs.Places.{row_count_of}
use Rattle.group_numbers.specs.declared.digits.Digit.{Digit}
use Rattle.group_numbers.specs.Parts.{holds_at, part_at, part_by}
use Rattle.group_numbers.proofs.DigitsOn.{digits_there, part_by-digits_on}
use Rattle.group_numbers.proofs.EachDigit.{some_groups}
use Rattle.group_numbers.proofs.Numbers.{part_below}
use Rattle.group_numbers.proofs.side.given_at.Goals as goal

pub part_by-requires-clause-place : goal.part_by-requires-clause-place
part_by-requires-clause-place c =
    let dims = c.args.dims.now in
    subst (All (λ (digit : Digit). c.args.place < row_count_of dims (axis_of digit.attr))) (sym c.requires.digits)
    (digits_there dims c.args.axis c.args.place c.requires.place c.args.query.now.columns)

pub part_by-requires-clause-fits : goal.part_by-requires-clause-fits
part_by-requires-clause-fits c =
    let dims = c.args.dims.now in
    let columns = c.args.query.now.columns in
    let is : part_by dims c.args.place c.args.digits.now ≡ part_at dims c.args.axis c.args.place columns =
    ap (part_by dims c.args.place) c.requires.digits ∙ part_by-digits_on dims c.args.axis c.args.place columns in
    omega (
      arith,
      is,
      part_below dims c.args.axis c.args.place c.requires.place columns (some_groups dims columns),
      c.requires.fits,
    )

pub returns-then-all_hold_at : goal.returns-then-all_hold_at
returns-then-all_hold_at c =
    let dims = c.args.dims.now in
    let columns = c.args.query.now.columns in
    let holds : list_all (holds_at dims c.args.axis c.args.place) c.args.query.now.conditions ≡ true = search rules in
    let is : c.part_by.result ≡ part_at dims c.args.axis c.args.place columns =
    c.part_by.ensures ∙ ap (part_by dims c.args.place) c.requires.digits
    ∙ part_by-digits_on dims c.args.axis c.args.place columns in
    λ i. cond (sym holds i) (Some (is i)) None
