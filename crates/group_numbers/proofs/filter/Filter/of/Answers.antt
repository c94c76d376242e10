use Rattle.std.proofs.Common.{◌≡◌, ◌∙◌, ◌+◌, ◌<◌, sym, ap, subst, arith, None, inl, inr}
use Rattle.cube_model.specs.Places.{row_count_of, row_index_of}
use Rattle.group_numbers.specs.Kinds.{kind_at}
use Rattle.group_numbers.specs.GroupNumbers.{IsShut, gives}
use Rattle.group_numbers.specs.declared.filter.Filter.{Filter}
use Rattle.group_numbers.proofs.Filtering.{OnlyShuts, filter_shuts, nothing_given, shuts_none}
use Rattle.group_numbers.proofs.Keys.{own_row, row_total}
use Rattle.dimensions.proofs.CallerLemmas.{good_on}
use Rattle.group_numbers.proofs.filter.Filter.of.Goals as goal

pub at-kind-requires : goal.at-kind-requires
at-kind-requires c =
    let total = row_total c.args.dims.now c.args.axis c.keys-keys.result.now c.keys-keys.ensures.keys in
    c.of-kinds.ensures.known c.loop-row.row (omega (arith, c.loop-row-test.true, total))

pub loop-row-init : goal.loop-row-init
loop-row-init c =
    subst (λ l. OnlyShuts (IsShut c.args.dims.now c.args.axis c.args.side.now) c.span_of-first.result.0 l)
    (sym (c.in_ok-passes.ensures.items_if_clones_equal (λ y e. e)))
    (shuts_none (IsShut c.args.dims.now c.args.axis c.args.side.now) c.span_of-first.result.0 c.saturating_sub.result)

pub loop-row-preserved : goal.loop-row-preserved
loop-row-preserved c = λ k e.
    let dims = c.args.dims.now in
    let axis = c.args.axis in
    let keys = c.keys-keys.result.now in
    let row = c.loop-row.row in
    let first = c.span_of-first.result.0 in
    let total = row_total dims axis keys c.keys-keys.ensures.keys in
    let within : row < row_count_of dims axis = omega (arith, c.loop-row-test.true, total) in
    let good = good_on dims c.keys-keys.ensures.storable
    axis in
    elim (c.mark.ensures k e) [
      | inl here ↦
          let own : row_index_of dims axis (first + k) ≡ row = ap (row_index_of dims axis) (sym here.0)
          ∙ own_row dims axis keys c.keys-keys.ensures.keys good row c.loop-row-test.true in
          let nothing : gives c.args.side.now (kind_at dims axis row) ≡ None =
          ap (gives c.args.side.now) (sym (c.at-kind.ensures ∙ c.of-kinds.ensures.are row within))
          ∙ sym c.at-given.ensures ∙ nothing_given c.at-given.result (sym c.is_some.ensures ∙ here.1) in
          (omega (arith, own, within), ap (λ n. gives c.args.side.now (kind_at dims axis n)) own ∙ nothing)
      | inr other ↦ c.loop-row.invariant k other
    ]

pub returns : goal.returns
returns c =
    let made : Filter = record { first = c.span_of-first.result.0; passes = c.loop-row.passes } in
    filter_shuts (IsShut c.args.dims.now c.args.axis c.args.side.now) made c.loop-row.invariant
