use Rattle.std.proofs.Common.{◌++◌, ◌∷◌, [], sym, subst, take, get_or}
use Rattle.std.proofs.lemmas.List.{take_more}
use Rattle.group_tallies.specs.Coarser.{AreTargets}
use Rattle.group_tallies.specs.Slots.{entries_of}
use Rattle.group_tallies.proofs.CoarserLemmas.{AreTargets-keep, AreTargets-push}
use Rattle.group_tallies.proofs.coarser.targets_of.Goals as goal

pub loop-i-preserved : goal.loop-i-preserved
loop-i-preserved c =
    let dimensions = c.args.grouping.now.dimensions in
    let attrs = c.args.grouping.now.query.columns in
    let i = c.loop-i.i in
    let source = get_or c.args.sources.now i (0, 0) in
    let front = take i c.args.sources.now in
    let new = entries_of c.target_of.new.slots in
    let kept = AreTargets-keep dimensions attrs c.args.column (entries_of c.loop-i.slots) new c.target_of.ensures.keep
    front c.loop-i.targets.items c.loop-i.invariant.0 in
    let pushed = AreTargets-push dimensions attrs c.args.column new front c.loop-i.targets.items source
    c.in_ok-target.target kept c.in_ok-target.ensures.target in (
      subst (λ es. AreTargets dimensions attrs c.args.column new es c.push.new.self.items)
          (sym (take_more c.args.sources.now i (0, 0) c.loop-i-test.true))
          (subst (λ ts. AreTargets dimensions attrs c.args.column new (front ++ source ∷ []) ts)
          (sym c.in_ok-push.ensures.items) pushed),
      c.target_of.ensures.cover,
      c.target_of.ensures.grow (entries_of c.args.slots.now) c.loop-i.invariant.2,
    )
