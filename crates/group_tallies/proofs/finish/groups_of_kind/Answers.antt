use Rattle.std.proofs.Common.{◌≡◌, ◌∙◌, refl, sym, ap, subst, length}
use Rattle.std.proofs.lemmas.Result.{IfOk-weaker}
use Rattle.group_tallies.specs.Columns.{seen_groups, tallies_at}
use Rattle.group_tallies.specs.GroupLines.{HaveLines, lines_by}
use Rattle.group_tallies.specs.Groups.{finest, groups_of}
use Rattle.group_tallies.specs.Slots.{entries_of}
use Rattle.group_tallies.proofs.FinishLemmas.{plain_groups, start}
use Rattle.group_tallies.proofs.Seen.{seen_are}
use Rattle.group_numbers.specs.Numbers.{group_key_at}
use Rattle.group_tallies.proofs.finish.groups_of_kind.Goals as goal

pub ordered_groups-requires-clause-columns : goal.ordered_groups-requires-clause-columns
ordered_groups-requires-clause-columns c = ap length c.as_slice.ensures.value ∙ c.requires.fold.count

pub returns-in_ok-groups-in-Plain-clause-groups : goal.returns-in_ok-groups-in-Plain-clause-groups
returns-in_ok-groups-in-Plain-clause-groups c =
    let d = c.args.grouping.now.dimensions in
    let q = c.args.grouping.now.query in
    subst (λ cs. HaveLines d q cs c.in_ok-groups-in-Plain.groups.items) c.as_slice.ensures.value
    c.in_ok-groups-in-Plain.ensures.groups

pub returns-in_ok-groups-in-Plain-clause-lines : goal.returns-in_ok-groups-in-Plain-clause-lines
returns-in_ok-groups-in-Plain-clause-lines c = λ rows tallied.
    let d = c.args.grouping.now.dimensions in
    let q = c.args.grouping.now.query in
    let entries = entries_of c.args.slots.now in
    let columns = c.args.columns.now.items in
    let fold = c.requires.fold in
    let plain = ap (λ query. query.kind) (sym c.requires.query) ∙ c.in-Plain.is in
    ap (λ cs. lines_by d q cs c.in_ok-groups-in-Plain.groups.items) (sym c.as_slice.ensures.value)
    ∙ c.in_ok-groups-in-Plain.ensures.lines rows
    (subst (λ cs. seen_groups (group_key_at d q.columns) (tallies_at cs) entries ≡ groups_of d q rows)
    (sym c.as_slice.ensures.value)
    (seen_are d (finest q) entries columns rows fold.proper.some_aggregate fold.rising fold.numbers tallied
    ∙ plain_groups d q plain rows))

pub all_groups-requires-clause-can : goal.all_groups-requires-clause-can
all_groups-requires-clause-can c =
    let fold = c.requires.fold in
    record {
      proper = fold.proper;
      rising = fold.rising;
      numbers = fold.numbers;
      cover = fold.cover;
      count = fold.count;
    }

pub returns-in-Rollup-clause-lines : goal.returns-in-Rollup-clause-lines
returns-in-Rollup-clause-lines c =
    let d = c.args.grouping.now.dimensions in
    let q = c.args.grouping.now.query in
    let entries = entries_of c.args.slots.now in
    let columns = c.args.columns.now.items in
    IfOk-weaker c.all_groups.result _ _
    (λ groups is rows first. is rows (start d q entries columns columns rows (λ slot. refl) first))
    c.all_groups.ensures.lines

pub returns-in-Rollup-clause-refused : goal.returns-in-Rollup-clause-refused
returns-in-Rollup-clause-refused c = λ bad rows first foldable.
    let d = c.args.grouping.now.dimensions in
    let q = c.args.grouping.now.query in
    let entries = entries_of c.args.slots.now in
    let columns = c.args.columns.now.items in
    c.all_groups.ensures.refused bad rows (start d q entries columns columns rows (λ slot. refl) first) foldable
