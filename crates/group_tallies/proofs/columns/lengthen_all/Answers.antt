use Rattle.std.proofs.Common.{◌∙◌, ◌<◌, ◌≤◌, arith, length, length-set, add-one}
use Rattle.group_tallies.proofs.ColumnsLemmas.{tallies_at-set, All-take-set}
use Rattle.group_tallies.proofs.columns.lengthen_all.Goals as goal

pub returns-in_err-lengthen-clause-same : goal.returns-in_err-lengthen-clause-same
returns-in_err-lengthen-clause-same c = λ slot.
    let h : c.loop-i.i < length c.loop-i.columns = omega (arith, c.loop-i-test.true, c.loop-i.invariant.2) in
    tallies_at-set c.loop-i.columns c.loop-i.i c.lengthen.new.column c.index-columns-i.result slot h
    (c.lengthen.ensures.same slot) ∙ c.loop-i.invariant.0 slot

pub loop-i-preserved : goal.loop-i-preserved
loop-i-preserved c =
    let h : c.loop-i.i < length c.loop-i.columns = omega (arith, c.loop-i-test.true, c.loop-i.invariant.2) in (
      λ slot. tallies_at-set c.loop-i.columns c.loop-i.i c.lengthen.new.column c.index-columns-i.result slot h
          (c.lengthen.ensures.same slot) ∙ c.loop-i.invariant.0 slot,
      rw add-one (All-take-set (λ column. c.args.len ≤ length column.items) c.loop-i.columns c.loop-i.i
          c.lengthen.new.column h c.loop-i.invariant.1 c.in_ok-lengthen.ensures.long),
      length-set c.loop-i.columns c.loop-i.i c.lengthen.new.column ∙ c.loop-i.invariant.2,
    )
