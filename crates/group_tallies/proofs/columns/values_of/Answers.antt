use Rattle.std.proofs.Common.{◌∙◌, ◌++◌, ◌∷◌, [], pos, sym, arith}
use Rattle.std.proofs.lemmas.List.{take_more, take_all}
use Rattle.cube_model.specs.declared.answer.Value.TheVariants.{Whole}
use Rattle.group_tallies.specs.Columns.{tallies_at}
use Rattle.group_tallies.specs.Tallies.{values_of}
use Rattle.group_tallies.proofs.LineLaws.{length-values_of}
use Rattle.group_tallies.proofs.columns.values_of.Goals as goal

pub loop-i-preserved : goal.loop-i-preserved
loop-i-preserved c =
    let columns = c.args.columns.now in
    let aggs = c.args.aggs.now in
    let slot = c.args.slot in
    let i = c.loop-i.i in
    c.in_ok-push.ensures.items
    ∙ (λ j. c.loop-i.invariant j ++ c.value_at.ensures j ∷ [])
    ∙ sym (take_more (values_of aggs (tallies_at columns slot)) i (Whole (pos 0))
    (omega (arith, c.loop-i-test.true, length-values_of slot aggs columns c.requires.columns)))

pub returns : goal.returns
returns c =
    c.from_vec.ensures ∙ c.loop-i.invariant
    ∙ take_all c.loop-i.i (values_of c.args.aggs.now (tallies_at c.args.columns.now c.args.slot))
    (omega (
      arith,
      c.loop-i-test.false,
      length-values_of c.args.slot c.args.aggs.now c.args.columns.now
          c.requires.columns,
    ))
