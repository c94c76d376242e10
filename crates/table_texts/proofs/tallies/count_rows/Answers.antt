use Rattle.std.proofs.Common.{◌≡◌, ◌∙◌, ◌<◌, [], ap, sym, subst, length, get_or}
use Rattle.cube_model.specs.Places.{attr_members, row_count_of, texts_of, text_at}
use Rattle.table_texts.proofs.Counting.{tallies-next}
use Rattle.table_texts.proofs.Ranks.{length-texts}
use Rattle.table_texts.proofs.tallies.count_rows.Goals as goal

pub loop-place-preserved : goal.loop-place-preserved
loop-place-preserved c =
    let rows = c.args.dims.now in
    let attr = c.args.attr in
    let members = attr_members rows attr in
    let within : c.loop-place.place < length (texts_of rows attr) =
    subst (λ count. c.loop-place.place < count)
    (c.row_count-place-end.ensures.count ∙ ap (row_count_of rows) c.axis.ensures ∙ sym (length-texts rows attr))
    c.loop-place-test.true in
    let below : c.from-rank.result < length members =
    subst (λ rank. rank < length members) (sym c.from-rank.ensures) c.rank.ensures.below in
    let text : get_or members c.from-rank.result [] ≡ text_at rows attr c.loop-place.place =
    ap (λ rank. get_or members rank []) c.from-rank.ensures ∙ c.rank.ensures.text in
    tallies-next rows attr c.loop-place.place c.from-rank.result c.loop-place.tallies c.with_row.result within below
    text c.loop-place.invariant c.with_row.ensures.first c.with_row.ensures.rows
