use Rattle.std.proofs.Common.{◌≡◌, ◌∙◌, ◌<◌, ◌≤◌, suc, ℕ, sym, ap, subst, add-one, length}
use Rattle.std.specs.List.{All, AllByRecursion}
use Rattle.std.proofs.lemmas.List.Elements.{All-filter}
use Rattle.group_tallies.specs.Coarser.{sources_of, leads, AreTalliedFrom, AreTargets, FitMerged, MayMerge, MergesIn}
use Rattle.group_tallies.specs.Columns.{is_seen, tallies_at}
use Rattle.std.specs.Prelude.{◌&&◌}
use Rattle.group_tallies.specs.Slots.{entries_of}
use Rattle.group_tallies.proofs.Columnwise.{as_many_columns}
use Rattle.group_tallies.proofs.CoarserLemmas.{Apart-sorted, can_merge, may_merge, passed, room_to_merge, part_of}
use Rattle.group_tallies.proofs.CoarserLemmas.{AreTargets-length}
use Rattle.group_tallies.proofs.Seen.{each_number, All-numbers}
use Rattle.group_numbers.specs.Numbers.{group_count, group_key_at}
use Rattle.group_tallies.proofs.coarser.coarsen.Goals as goal

pub targets_of-requires-clause-below : goal.targets_of-requires-clause-below
targets_of-requires-clause-below c =
    let d = c.args.grouping.now.dimensions in
    let q = c.args.grouping.now.query in
    let i = c.args.column in
    let old = entries_of c.args.slots.now in
    let columns = c.args.columns.now.items in
    let can = c.requires.can in
    let bound = group_count d q.columns in
    let below = each_number (λ n. n < bound) old can.numbers.sorted can.numbers.below in
    let sources : c.in_ok-sources.sources.items ≡ sources_of d q i (tallies_at columns) old =
    c.in_ok-sources.ensures ∙ ap (λ cs. sources_of d q i (tallies_at cs) old) c.as_slice.ensures.value in
    subst (All (λ (entry : ℕ × ℕ). entry.0 < bound)) (sym (c.as_slice-2.ensures.value ∙ sources))
    (All-filter
    (λ (entry : ℕ × ℕ). is_seen (tallies_at columns entry.1) && leads q.kind i (group_key_at d q.columns entry.0))
    (λ (entry : ℕ × ℕ). entry.0 < bound) old (All-numbers (λ n. n < bound) old below))

pub merge-requires-clause-targets : goal.merge-requires-clause-targets
merge-requires-clause-targets c =
    let d = c.args.grouping.now.dimensions in
    let q = c.args.grouping.now.query in
    let i = c.args.column in
    let old = entries_of c.args.slots.now in
    let columns = c.args.columns.now.items in
    let can = c.requires.can in
    let bound = group_count d q.columns in
    let below = each_number (λ n. n < bound) old can.numbers.sorted can.numbers.below in
    let sources : c.in_ok-sources.sources.items ≡ sources_of d q i (tallies_at columns) old =
    c.in_ok-sources.ensures ∙ ap (λ cs. sources_of d q i (tallies_at cs) old) c.as_slice.ensures.value in
    let differ = Apart-sorted bound old can.numbers.sorted below in
    let new = entries_of c.targets_of.new.slots in
    let longer = c.make_room.new.columns.items in
    let targets = c.in_ok-targets.targets.items in
    let are : AreTargets d q.columns i new (sources_of d q i (tallies_at columns) old) targets =
    subst (λ es. AreTargets d q.columns i new es targets) (c.as_slice-2.ensures.value ∙ sources)
    c.in_ok-targets.ensures.targets in
    ap length c.as_slice-4.ensures.value
    ∙ AreTargets-length d q.columns i new (sources_of d q i (tallies_at columns) old) targets are
    ∙ sym (ap length (c.as_slice-3.ensures.value ∙ sources))

pub merge-requires-clause-may : goal.merge-requires-clause-may
merge-requires-clause-may c =
    let d = c.args.grouping.now.dimensions in
    let q = c.args.grouping.now.query in
    let i = c.args.column in
    let old = entries_of c.args.slots.now in
    let columns = c.args.columns.now.items in
    let can = c.requires.can in
    let bound = group_count d q.columns in
    let below = each_number (λ n. n < bound) old can.numbers.sorted can.numbers.below in
    let sources : c.in_ok-sources.sources.items ≡ sources_of d q i (tallies_at columns) old =
    c.in_ok-sources.ensures ∙ ap (λ cs. sources_of d q i (tallies_at cs) old) c.as_slice.ensures.value in
    let differ = Apart-sorted bound old can.numbers.sorted below in
    let new = entries_of c.targets_of.new.slots in
    let longer = c.make_room.new.columns.items in
    let targets = c.in_ok-targets.targets.items in
    let are : AreTargets d q.columns i new (sources_of d q i (tallies_at columns) old) targets =
    subst (λ es. AreTargets d q.columns i new es targets) (c.as_slice-2.ensures.value ∙ sources)
    c.in_ok-targets.ensures.targets in
    let long : AllByRecursion (λ column. length new ≤ length column.items) longer = c.in_ok-make_room.ensures.long in
    let may : MayMerge (sources_of d q i (tallies_at columns) old) targets longer =
    may_merge d q i old new columns longer can.numbers differ c.targets_of.ensures.grow targets are long in
    subst (λ es. MayMerge es c.as_slice-4.result.now longer) (sym (c.as_slice-3.ensures.value ∙ sources))
    (subst (λ ts. MayMerge (sources_of d q i (tallies_at columns) old) ts longer) (sym c.as_slice-4.ensures.value) may)

pub returns-in_err-merge-clause-refused : goal.returns-in_err-merge-clause-refused
returns-in_err-merge-clause-refused c =
    let d = c.args.grouping.now.dimensions in
    let q = c.args.grouping.now.query in
    let i = c.args.column in
    let old = entries_of c.args.slots.now in
    let columns = c.args.columns.now.items in
    let can = c.requires.can in
    let bound = group_count d q.columns in
    let below = each_number (λ n. n < bound) old can.numbers.sorted can.numbers.below in
    let sources : c.in_ok-sources.sources.items ≡ sources_of d q i (tallies_at columns) old =
    c.in_ok-sources.ensures ∙ ap (λ cs. sources_of d q i (tallies_at cs) old) c.as_slice.ensures.value in
    let differ = Apart-sorted bound old can.numbers.sorted below in
    let new = entries_of c.targets_of.new.slots in
    let longer = c.make_room.new.columns.items in
    let targets = c.in_ok-targets.targets.items in
    let are : AreTargets d q.columns i new (sources_of d q i (tallies_at columns) old) targets =
    subst (λ es. AreTargets d q.columns i new es targets) (c.as_slice-2.ensures.value ∙ sources)
    c.in_ok-targets.ensures.targets in
    let long : AllByRecursion (λ column. length new ≤ length column.items) longer = c.in_ok-make_room.ensures.long in
    λ bad rows given foldable.
    let tallied : AreTalliedFrom d q (suc i) old columns rows =
    subst (λ n. AreTalliedFrom d q n old columns rows) (add-one i) given in
    let part = part_of d q i c.requires.column can.proper.some_aggregate can.rising old new columns longer can.numbers
    differ c.targets_of.ensures.grow c.make_room.ensures.same targets are rows tallied in
    let fit : FitMerged (sources_of d q i (tallies_at columns) old) targets longer = (
      q.aggregates,
      part,
      (
        can_merge d q i c.requires.column can.proper.some_aggregate can.rising old new columns longer can.numbers
            differ c.targets_of.ensures.grow c.make_room.ensures.same targets are rows tallied long,
        room_to_merge d q i c.requires.column can.proper.some_aggregate can.rising old new columns longer can.numbers
            differ c.targets_of.ensures.grow c.make_room.ensures.same targets are rows tallied foldable,
      ),
    ) in
    c.in_err-merge.ensures.err
    (subst (λ es. FitMerged es c.as_slice-4.result.now longer) (sym (c.as_slice-3.ensures.value ∙ sources))
    (subst (λ ts. FitMerged (sources_of d q i (tallies_at columns) old) ts longer) (sym c.as_slice-4.ensures.value)
    fit))

pub returns-clause-can : goal.returns-clause-can
returns-clause-can c =
    let can = c.requires.can in
    record {
      proper = can.proper;
      rising = can.rising;
      numbers = c.targets_of.ensures.grow.slots;
      cover = c.targets_of.ensures.cover;
      count = c.merge.ensures.count
          ∙ as_many_columns c.make_room.new.columns.items c.args.columns.now.items c.make_room.ensures.same ∙ can.count;
    }

pub returns-clause-tallied : goal.returns-clause-tallied
returns-clause-tallied c =
    let d = c.args.grouping.now.dimensions in
    let q = c.args.grouping.now.query in
    let i = c.args.column in
    let old = entries_of c.args.slots.now in
    let columns = c.args.columns.now.items in
    let can = c.requires.can in
    let bound = group_count d q.columns in
    let below = each_number (λ n. n < bound) old can.numbers.sorted can.numbers.below in
    let sources : c.in_ok-sources.sources.items ≡ sources_of d q i (tallies_at columns) old =
    c.in_ok-sources.ensures ∙ ap (λ cs. sources_of d q i (tallies_at cs) old) c.as_slice.ensures.value in
    let differ = Apart-sorted bound old can.numbers.sorted below in
    let new = entries_of c.targets_of.new.slots in
    let longer = c.make_room.new.columns.items in
    let targets = c.in_ok-targets.targets.items in
    let are : AreTargets d q.columns i new (sources_of d q i (tallies_at columns) old) targets =
    subst (λ es. AreTargets d q.columns i new es targets) (c.as_slice-2.ensures.value ∙ sources)
    c.in_ok-targets.ensures.targets in
    let long : AllByRecursion (λ column. length new ≤ length column.items) longer = c.in_ok-make_room.ensures.long in
    let counted = c.merge.new.columns.items in
    let merged : MergesIn (sources_of d q i (tallies_at columns) old) targets longer counted =
    subst (λ es. MergesIn es targets longer counted) (c.as_slice-3.ensures.value ∙ sources)
    (subst (λ ts. MergesIn c.as_slice-3.result.now ts longer counted) c.as_slice-4.ensures.value
    c.in_ok-merge.ensures.ok) in
    λ others given.
    let tallied_so : AreTalliedFrom d q (suc i) old columns others =
    subst (λ n. AreTalliedFrom d q n old columns others) (add-one i) given in
    passed d q i c.requires.column can.proper.some_aggregate can.rising old new columns longer can.numbers differ
    c.targets_of.ensures.grow c.make_room.ensures.same targets are others tallied_so counted
    (merged q.aggregates
    (part_of d q i c.requires.column can.proper.some_aggregate can.rising old new columns longer can.numbers differ
    c.targets_of.ensures.grow c.make_room.ensures.same targets are others tallied_so)
    (can_merge d q i c.requires.column can.proper.some_aggregate can.rising old new columns longer can.numbers
    differ c.targets_of.ensures.grow c.make_room.ensures.same targets are others tallied_so long))
