use Rattle.std.proofs.Common.{◌≡◌, ◌∙◌, ℕ, List, ◌+◌, ap, sym, subst, arith, length, length-set, take}
use Rattle.std.proofs.lemmas.List.{take_all}
use Rattle.cube_model.specs.declared.measure.Agg.{Agg}
use Rattle.cube_model.specs.declared.rows.LineOrder.{LineOrder}
use Rattle.group_tallies.specs.Coarser.{gathered, AddsIn, CanMergeTallies, HasMergeRoom, LieWithin}
use Rattle.group_tallies.proofs.Merging.{source_in, target_in_column, count_room, sum_room, added-next}
use Rattle.group_tallies.proofs.Refusals.{on_err}
use Rattle.group_tallies.proofs.columns.merge_in.Goals as goal

pub merge_one-requires-clause-source : goal.merge_one-requires-clause-source
merge_one-requires-clause-source c =
    let lie = subst (LieWithin c.args.sources.now c.args.targets.now) (sym c.loop-place.invariant.0) c.requires.may in
    source_in c.args.sources.now c.args.targets.now (length c.loop-place.column) lie c.loop-place.place
    c.loop-place-test.true

pub merge_one-requires-clause-target : goal.merge_one-requires-clause-target
merge_one-requires-clause-target c =
    let lie = subst (LieWithin c.args.sources.now c.args.targets.now) (sym c.loop-place.invariant.0) c.requires.may in
    target_in_column c.args.sources.now c.args.targets.now (length c.loop-place.column) lie c.loop-place.place
    (omega (arith, c.loop-place-test.true, c.requires.targets))

pub loop-place-preserved : goal.loop-place-preserved
loop-place-preserved c = (
  ap length c.in_ok-merge_one.ensures.ok ∙ length-set c.loop-place.column _ _ ∙ c.loop-place.invariant.0,
  λ agg part can.
      subst (AddsIn agg
      (λ slot. gathered slot part (take (c.loop-place.place + 1) c.args.sources.now)
      (take (c.loop-place.place + 1) c.args.targets.now)) c.args.column.now) (sym c.in_ok-merge_one.ensures.ok)
      (added-next agg part c.args.sources.now c.args.targets.now c.requires.targets c.args.column.now
      c.loop-place.column c.loop-place.invariant.0 can c.loop-place.place c.loop-place-test.true
      (c.loop-place.invariant.1 agg part can)),
)

pub returns-clause-ok : goal.returns-clause-ok
returns-clause-ok c = λ agg part can.
    let sources : take c.loop-place.place c.args.sources.now ≡ c.args.sources.now =
    take_all c.loop-place.place c.args.sources.now (omega (arith, c.loop-place-test.false)) in
    let targets : take c.loop-place.place c.args.targets.now ≡ c.args.targets.now =
    take_all c.loop-place.place c.args.targets.now (omega (arith, c.loop-place-test.false, c.requires.targets)) in
    subst (λ es. AddsIn agg (λ slot. gathered slot part es c.args.targets.now) c.args.column.now c.loop-place.column)
    sources
    (subst (λ ts. AddsIn agg (λ slot. gathered slot part (take c.loop-place.place c.args.sources.now) ts)
    c.args.column.now c.loop-place.column) targets (c.loop-place.invariant.1 agg part can))

pub returns-in_err-merge_one-clause-err : goal.returns-in_err-merge_one-clause-err
returns-in_err-merge_one-clause-err c =
    let refused : (agg : Agg) (part : ℕ × ℕ → List LineOrder)
    → CanMergeTallies agg c.args.column.now c.args.sources.now c.args.targets.now part
    → HasMergeRoom agg c.args.column.now c.args.sources.now c.args.targets.now part → ⊥ = λ agg part can room.
    let so_far = c.loop-place.invariant.1 agg part can in
    c.in_err-merge_one.ensures.err
    (count_room agg part c.args.sources.now c.args.targets.now c.requires.targets c.args.column.now c.loop-place.column
    c.loop-place.invariant.0 can c.loop-place.place c.loop-place-test.true so_far room)
    (sum_room agg part c.args.sources.now c.args.targets.now c.requires.targets c.args.column.now c.loop-place.column
    c.loop-place.invariant.0 can c.loop-place.place c.loop-place-test.true so_far room) in
    on_err _ _ refused
