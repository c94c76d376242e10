use Rattle.std.proofs.Common.{◌≡◌, ◌∙◌, sym, subst, length}
use Rattle.std.proofs.lemmas.Result.{IfOk-weaker}
use Rattle.group_tallies.specs.Coarser.{AreTalliedFrom}
use Rattle.group_tallies.specs.Slots.{entries_of, AreSlots}
use Rattle.group_tallies.proofs.Columnwise.{as_many_columns}
use Rattle.group_tallies.proofs.FinishLemmas.{start}
use Rattle.group_numbers.specs.Numbers.{group_count}
use Rattle.group_tallies.proofs.finish.coarser_lines.Goals as goal

pub all_lines-requires-clause-can : goal.all_lines-requires-clause-can
all_lines-requires-clause-can c =
    let d = c.args.grouping.now.dimensions in
    let q = c.args.grouping.now.query in
    let fold = c.requires.fold in
    let entries = entries_of c.args.slots.now in
    let columns = c.args.columns.now in
    let copy = c.in_ok-columns.columns.items in
    let same_entries : entries_of c.in_ok-slots.slots ≡ entries = c.in_ok-slots.ensures.entries in
    record {
      proper = fold.proper;
      rising = fold.rising;
      numbers = subst (AreSlots (group_count d q.columns)) (sym same_entries) fold.numbers;
      cover = c.in_ok-slots.ensures.cover (group_count d q.columns) fold.cover;
      count = as_many_columns copy columns c.in_ok-columns.ensures ∙ fold.count;
    }

pub returns-clause-lines : goal.returns-clause-lines
returns-clause-lines c =
    let d = c.args.grouping.now.dimensions in
    let q = c.args.grouping.now.query in
    let entries = entries_of c.args.slots.now in
    let columns = c.args.columns.now in
    let copy = c.in_ok-columns.columns.items in
    let same_entries : entries_of c.in_ok-slots.slots ≡ entries = c.in_ok-slots.ensures.entries in
    IfOk-weaker c.all_lines.result _ _
    (λ lines is rows first.
    is rows (subst (λ es. AreTalliedFrom d q (length q.columns) es copy rows) (sym same_entries)
    (start d q entries columns copy rows c.in_ok-columns.ensures first)))
    c.all_lines.ensures.lines

pub returns-clause-refused : goal.returns-clause-refused
returns-clause-refused c =
    let d = c.args.grouping.now.dimensions in
    let q = c.args.grouping.now.query in
    let entries = entries_of c.args.slots.now in
    let columns = c.args.columns.now in
    let copy = c.in_ok-columns.columns.items in
    let same_entries : entries_of c.in_ok-slots.slots ≡ entries = c.in_ok-slots.ensures.entries in
    λ bad rows first foldable.
    c.all_lines.ensures.refused bad rows
    (subst (λ es. AreTalliedFrom d q (length q.columns) es copy rows) (sym same_entries)
    (start d q entries columns copy rows c.in_ok-columns.ensures first)) foldable
