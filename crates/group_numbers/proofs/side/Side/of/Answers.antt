use Rattle.std.proofs.Common.{◌∙◌, ap, map, sym}
use Rattle.group_numbers.specs.Parts.{given_at}
use Rattle.group_numbers.proofs.OneKind.{kinds_give}
use Rattle.group_numbers.proofs.Outcomes.{given_unused}
use Rattle.group_numbers.proofs.side.Side.of.Goals as goal

pub returns-then-not-is_used-clause-side : goal.returns-then-not-is_used-clause-side
returns-then-not-is_used-clause-side c =
    λ place within. sym
    (given_unused c.args.dims.now c.args.axis place c.args.query.now (sym c.is_used.ensures ∙ c.if-not-is_used.true))

pub returns-then-count-le-NARROW-clause-side : goal.returns-then-count-le-NARROW-clause-side
returns-then-count-le-NARROW-clause-side c =
    kinds_give c.args.dims.now c.in_ok-places.ensures.storable
    c.args.query.now c.args.axis
    c.in_ok-places.places.items c.in_ok-narrow_parts.field-0.items c.in_ok-places.ensures.places
    (c.in_ok-narrow_parts.ensures
    ∙ ap (map (given_at c.args.dims.now c.args.query.now c.args.axis)) c.deref.ensures.value)

pub returns-clause-side : goal.returns-clause-side
returns-clause-side c =
    kinds_give c.args.dims.now c.in_ok-places.ensures.storable
    c.args.query.now c.args.axis
    c.in_ok-places.places.items c.in_ok-wide_parts.field-0.items c.in_ok-places.ensures.places
    (c.in_ok-wide_parts.ensures
    ∙ ap (map (given_at c.args.dims.now c.args.query.now c.args.axis)) c.deref-else-count-le-NARROW.ensures.value)
