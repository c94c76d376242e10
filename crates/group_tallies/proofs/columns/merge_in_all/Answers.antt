use Rattle.std.proofs.Common.{◌≡◌, ◌∙◌, ◌<◌, ℕ, List, ap, sym, subst, arith, length, length-set, get_or}
use Rattle.std.specs.Vec.{with_items}
use Rattle.std.specs.declared.alloc.Global.{Global}
use Rattle.std.specs.declared.vec.Vec.{Vec}
use Rattle.std.proofs.lemmas.List.{get_or_default, with_items_is}
use Rattle.cube_model.specs.declared.measure.Agg.TheVariants.{Count}
use Rattle.group_tallies.specs.Coarser.{gathered, AddsIn, CanMergeTallies, FitMerged, HasMergeRoom, LieWithin}
use Rattle.group_tallies.specs.declared.tally.Tally.{Tally}
use Rattle.group_tallies.proofs.Columnwise.{AreAddedBelow-set, AddIn-whole, All-at, All-set}
use Rattle.group_tallies.proofs.Merging.{CanMerge-at, HasMergeRoom-at}
use Rattle.group_tallies.proofs.Refusals.{on_err}
use Rattle.group_tallies.proofs.columns.merge_in_all.Goals as goal

pub merge_in-requires-clause-may : goal.merge_in-requires-clause-may
merge_in-requires-clause-may c =
    subst (λ (column : List Tally). LieWithin c.args.sources.now c.args.targets.now (length column))
    (sym c.as_mut_slice.ensures.value)
    (All-at (λ (column : Vec Tally Global). LieWithin c.args.sources.now c.args.targets.now (length column.items))
    c.loop-i.columns c.loop-i.invariant.2 c.loop-i.i (omega (arith, c.loop-i-test.true, c.loop-i.invariant.0))
    c.index-columns-i.result)

pub loop-i-preserved : goal.loop-i-preserved
loop-i-preserved c =
    let i = c.loop-i.i in
    let column = get_or c.loop-i.columns i c.index-columns-i.result in
    let new = c.merge_in.new.column in
    let len : length new ≡ column.len = c.merge_in.ensures.length ∙ c.as_mut_slice.ensures.len in (
      length-set c.loop-i.columns i (with_items column new) ∙ c.loop-i.invariant.0,
      λ aggs part can.
          let within : i < length aggs = omega (arith, c.loop-i-test.true, c.loop-i.invariant.0, can.count) in
          let in_columns : i < length c.loop-i.columns = omega (arith, c.loop-i-test.true) in
          let below = c.loop-i.invariant.1 aggs part can in
          let added = λ (slot : ℕ). gathered slot part c.args.sources.now c.args.targets.now in
          let may : CanMergeTallies (get_or aggs i Count) c.as_mut_slice.result.now c.args.sources.now
          c.args.targets.now
          part =
          rw c.as_mut_slice.ensures.value
          (CanMerge-at aggs c.args.sources.now c.args.targets.now part c.args.columns.now c.loop-i.columns i within
          can below Count c.index-columns-i.result) in
          let counted : AddsIn (get_or aggs i Count) added column.items new =
          subst (λ old. AddsIn (get_or aggs i Count) added old new) c.as_mut_slice.ensures.value
          (c.in_ok-merge_in.ensures.ok (get_or aggs i Count) part may) in
          AreAddedBelow-set aggs added c.args.columns.now c.loop-i.columns i (with_items column new) can.count within
          below
          (λ agg first.
          subst (AddsIn (get_or aggs i agg) added (get_or c.loop-i.columns i first).items)
          (sym (with_items_is column new len))
          (subst (λ a. AddsIn a added (get_or c.loop-i.columns i first).items new)
          (get_or_default aggs i Count agg within)
          (subst (λ (old : Vec Tally Global). AddsIn (get_or aggs i Count) added old.items new)
          (get_or_default c.loop-i.columns i c.index-columns-i.result first in_columns) counted))),
      All-set (λ (column : Vec Tally Global). LieWithin c.args.sources.now c.args.targets.now (length column.items))
          c.loop-i.columns i (with_items column new) c.loop-i.invariant.2
          (subst (LieWithin c.args.sources.now c.args.targets.now)
          (sym (ap length (with_items_is column new len) ∙ c.merge_in.ensures.length
          ∙ ap length c.as_mut_slice.ensures.value))
          (All-at (λ (column : Vec Tally Global). LieWithin c.args.sources.now c.args.targets.now (length column.items))
          c.loop-i.columns c.loop-i.invariant.2 i (omega (arith, c.loop-i-test.true, c.loop-i.invariant.0))
          c.index-columns-i.result)),
    )

pub returns-clause-ok : goal.returns-clause-ok
returns-clause-ok c = λ aggs part can.
    AddIn-whole aggs (λ slot. gathered slot part c.args.sources.now c.args.targets.now) c.args.columns.now
    c.loop-i.columns c.loop-i.i can.count (omega (arith, c.loop-i-test.false, c.loop-i.invariant.0, can.count))
    (c.loop-i.invariant.1 aggs part can)

pub returns-in_err-merge_in-clause-err : goal.returns-in_err-merge_in-clause-err
returns-in_err-merge_in-clause-err c =
    let refused : FitMerged c.args.sources.now c.args.targets.now c.args.columns.now → ⊥ = λ fit.
    let aggs = fit.0 in
    let part = fit.1 in
    let i = c.loop-i.i in
    let within : i < length aggs = omega (arith, c.loop-i-test.true, c.loop-i.invariant.0, fit.2.0.count) in
    let below = c.loop-i.invariant.1 aggs part fit.2.0 in
    let can : CanMergeTallies (get_or aggs i Count) c.as_mut_slice.result.now c.args.sources.now c.args.targets.now
    part =
    rw c.as_mut_slice.ensures.value
    (CanMerge-at aggs c.args.sources.now c.args.targets.now part c.args.columns.now c.loop-i.columns i within
    fit.2.0 below Count c.index-columns-i.result) in
    let room : HasMergeRoom (get_or aggs i Count) c.as_mut_slice.result.now c.args.sources.now c.args.targets.now part =
    rw c.as_mut_slice.ensures.value
    (HasMergeRoom-at aggs c.args.sources.now c.args.targets.now part c.args.columns.now c.loop-i.columns i within
    fit.2.1 below Count c.index-columns-i.result) in
    c.in_err-merge_in.ensures.err (get_or aggs i Count) part can room in
    on_err _ _ refused
