use Rattle.std.proofs.Common.{◌∙◌, ◌<◌, sym, subst, arith, length, get_or, below_more, rules}
use Rattle.std.proofs.lemmas.List.{get_or_default}
use Rattle.std.specs.declared.alloc.Global.{Global}
use Rattle.std.specs.declared.vec.Vec.{Vec}
use Rattle.cube_model.specs.declared.measure.Agg.{Agg}
use Rattle.cube_model.specs.declared.measure.Agg.TheVariants.{Count}
use Rattle.group_tallies.specs.Columns.{HasRoom}
use Rattle.group_tallies.specs.declared.tally.Tally.{Tally}
use Rattle.group_tallies.proofs.room.have_room.Goals as goal

pub returns-then-not-has_room : goal.returns-then-not-has_room
returns-then-not-has_room g c =
    let i = c.loop-i.i in
    let rows = g.F.FactRows.rows c.args.rows.now in
    let column = c.index-columns-i.result in (
      λ t. absurd (cc t),
      λ all.
          let here = subst
          (λ (other : Vec Tally Global). HasRoom (get_or c.args.aggs.now i Count) other.items rows
          c.args.group_slots.now) (sym c.index-columns-i.is) (all i c.loop-i-test.true Count column) in
          let room = subst (λ items. HasRoom (get_or c.args.aggs.now i Count) items rows c.args.group_slots.now)
          (sym c.as_slice.ensures.value) here in
          let yes = c.has_room.ensures.1 room in
          absurd (cc (yes, c.if-not-has_room.true)),
    )

pub loop-i-preserved : goal.loop-i-preserved
loop-i-preserved g c =
    let i = c.loop-i.i in
    let aggs = c.args.aggs.now in
    let columns = c.args.columns.now in
    let rows = g.F.FactRows.rows c.args.rows.now in
    let group_slots = c.args.group_slots.now in
    let first = c.index-columns-i.result in
    let in_columns : i < length columns = omega (arith, c.loop-i-test.true, c.requires.columns) in
    let room = c.has_room.ensures.0 c.if-not-has_room.false in
    let here = subst (λ items. HasRoom (get_or aggs i Count) items rows group_slots) c.as_slice.ensures.value room in
    below_more (λ k. (agg : Agg) (column : Vec Tally Global)
    → HasRoom (get_or aggs k agg) (get_or columns k column).items rows group_slots) i c.loop-i.invariant
    (λ agg column.
    subst (λ a. HasRoom a (get_or columns i column).items rows group_slots)
    (get_or_default aggs i Count agg c.loop-i-test.true)
    (subst (λ (other : Vec Tally Global). HasRoom (get_or aggs i Count) other.items rows group_slots)
    (c.index-columns-i.is ∙ get_or_default columns i first column in_columns) here))

pub returns : goal.returns
returns g c =
    (λ t k h agg column. c.loop-i.invariant k (omega (arith, h, c.loop-i-test.false)) agg column, λ all. search rules)
