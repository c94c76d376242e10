use Rattle.std.proofs.Common.{◌≡◌, ◌∙◌, ap, sym, arith, rules, length, slice_get, Some, [], Bool, true, false, not}
use Rattle.std.proofs.Common.{refl}
use Rattle.cube_model.specs.Attributes.{axis_of, attribute_at}
use Rattle.cube_model.specs.Places.{texts_of, row_index_of, row_count_of}
use Rattle.cube_model.specs.contracts.attr.Axis.{the_type}
use Rattle.dimensions.proofs.AttributeLaws.{on_axis, texts_count, slice_get-past, slice_get-within}
use Rattle.dimensions.proofs.dims.Dims.attribute.Goals as goal
use denote.Enum.Bare.{same_true}

not_false : (b : Bool) → false ≡ not b → b ≡ true
not_false true e = refl
not_false false e = e

pub returns-then-row-row_count : goal.returns-then-row-row_count
returns-then-row-row_count c =
    let same : c.axis.result ≡ c.args.axis = same_true the_type (search rules) _ _ (not_false _ c.if-ne.ensures) in
    let own : axis_of c.args.attr ≡ c.args.axis = sym c.axis.ensures ∙ same in
    let index : row_index_of c.args.self.now (axis_of c.args.attr) c.args.key ≡ c.row_index-row.result =
    ap (λ axis. row_index_of c.args.self.now axis c.args.key) own ∙ sym c.row_index-row.ensures in
    let count : length (texts_of c.args.self.now c.args.attr) ≡ c.row_count.result =
    texts_count c.args.self.now c.args.attr ∙ ap (row_count_of c.args.self.now) own
    ∙ sym c.row_count.ensures.count in
    sym (ap (λ axis. attribute_at c.args.self.now axis c.args.key c.args.attr) (sym own)
    ∙ on_axis c.args.self.now c.args.attr c.args.key
    ∙ slice_get-past (texts_of c.args.self.now c.args.attr)
    (row_index_of c.args.self.now (axis_of c.args.attr) c.args.key)
    (omega (arith, index, count, c.if-row-row_count.true)))

pub returns : goal.returns
returns c =
    let same : c.axis.result ≡ c.args.axis = same_true the_type (search rules) _ _ (not_false _ c.if-ne.ensures) in
    let own : axis_of c.args.attr ≡ c.args.axis = sym c.axis.ensures ∙ same in
    let index : row_index_of c.args.self.now (axis_of c.args.attr) c.args.key ≡ c.row_index-row.result =
    ap (λ axis. row_index_of c.args.self.now axis c.args.key) own ∙ sym c.row_index-row.ensures in
    let count : length (texts_of c.args.self.now c.args.attr) ≡ c.row_count.result =
    texts_count c.args.self.now c.args.attr ∙ ap (row_count_of c.args.self.now) own
    ∙ sym c.row_count.ensures.count in
    ap (λ text. Some text) (c.member.ensures ∙ c.rank.ensures.text)
    ∙ sym (ap (λ axis. attribute_at c.args.self.now axis c.args.key c.args.attr) (sym own)
    ∙ on_axis c.args.self.now c.args.attr c.args.key ∙ ap (slice_get (texts_of c.args.self.now c.args.attr)) index
    ∙ slice_get-within (texts_of c.args.self.now c.args.attr) c.row_index-row.result []
    (omega (arith, count, c.if-row-row_count.false)))
