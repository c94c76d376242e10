use Rattle.std.proofs.Common.{◌≡◌, ◌∙◌, ◌++◌, ◌∷◌, [], sym, ap, arith, get_or, take}
use Rattle.std.proofs.lemmas.List.{take_more, take_all, map-append}
use Rattle.std.specs.declared.alloc.Global.{Global}
use Rattle.std.specs.declared.vec.Vec.{Vec}
use Rattle.group_tallies.specs.Columns.{tallies_at, tally_at}
use Rattle.group_tallies.specs.declared.tally.Tally.{Tally}
use Rattle.group_tallies.proofs.columns.copy_columns.Goals as goal

pub loop-i-preserved : goal.loop-i-preserved
loop-i-preserved c = λ slot.
    let columns = c.args.columns.now in
    let i = c.loop-i.i in
    let one = c.in_ok-from_slice.field-0 in
    let column = c.index-columns-i.result in
    let read = λ (v : Vec Tally Global). tally_at v.items slot in
    let here : read one ≡ read (get_or columns i column) =
    ap (λ items. tally_at items slot) (c.in_ok-from_slice.ensures.items ∙ c.as_slice.ensures.value
    ∙ ap (λ (v : Vec Tally Global). v.items) c.index-columns-i.is) in
    ap (λ cs. tallies_at cs slot) c.in_ok-push.ensures.items
    ∙ map-append read c.loop-i.copy.items (one ∷ [])
    ∙ (λ j. c.loop-i.invariant slot j ++ here j ∷ [])
    ∙ sym (ap (λ cs. tallies_at cs slot) (take_more columns i column c.loop-i-test.true)
    ∙ map-append read (take i columns) (get_or columns i column ∷ []))

pub returns : goal.returns
returns c = λ slot. c.loop-i.invariant slot
    ∙ ap (λ cs. tallies_at cs slot) (take_all c.loop-i.i c.args.columns.now (omega (arith, c.loop-i-test.false)))
