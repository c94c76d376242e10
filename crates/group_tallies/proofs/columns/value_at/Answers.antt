use Rattle.std.proofs.Common.{◌≡◌, ◌∙◌, ◌≤◌, pos, sym, ap, subst, arith, get_or}
use Rattle.cube_model.specs.declared.answer.Value.TheVariants.{Whole}
use Rattle.cube_model.specs.declared.measure.Agg.TheVariants.{Count}
use Rattle.group_tallies.specs.Columns.{tally_at}
use Rattle.group_tallies.specs.Tallies.{value_of}
use Rattle.group_tallies.specs.declared.tally.Tally.{Tally}
use Rattle.group_tallies.proofs.LineLaws.{counted, values_of-at}
use Rattle.group_tallies.proofs.columns.value_at.Goals as goal

pub value-requires : goal.value-requires
value-requires c =
    let columns = c.args.columns.now in
    let column = c.index-columns-place.result in
    let tally : c.tally_at-tally.result ≡ tally_at (get_or columns c.args.place column).items c.args.slot =
    c.tally_at-tally.ensures
    ∙ ap (λ items. tally_at items c.args.slot)
    (c.as_slice.ensures.value ∙ ap (λ one. one.items) c.index-columns-place.is) in
    subst (λ (t : Tally). 1 ≤ t.count) (sym tally)
    (counted c.args.slot columns c.requires.seen c.args.place column
    (omega (arith, c.requires.place, c.requires.columns)))

pub returns : goal.returns
returns c =
    let columns = c.args.columns.now in
    let aggs = c.args.aggs.now in
    let slot = c.args.slot in
    let column = c.index-columns-place.result in
    let agg = get_or aggs c.args.place Count in
    let tally : c.tally_at-tally.result ≡ tally_at (get_or columns c.args.place column).items slot =
    c.tally_at-tally.ensures
    ∙ ap (λ items. tally_at items slot)
    (c.as_slice.ensures.value ∙ ap (λ one. one.items) c.index-columns-place.is) in
    c.value.ensures ∙ ap (value_of agg) tally
    ∙ sym (values_of-at slot aggs columns c.args.place Count column (Whole (pos 0)) c.requires.columns
    c.requires.place)
