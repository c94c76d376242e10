use Rattle.cube_model.specs.declared.fault.Fault.TheVariants.{BadLayout}
use Rattle.std.proofs.Common.{◌≡◌, ◌∙◌, Err, sym, ap, subst, length}
use Rattle.std.proofs.lemmas.Result.{err_from_is_err_and}
use Rattle.group_tallies.specs.Coarser.{AreTalliedFrom}
use Rattle.group_tallies.specs.Columns.{seen_groups, tallies_at}
use Rattle.group_tallies.specs.GroupLines.{HaveLines, lines_by}
use Rattle.group_tallies.specs.Groups.{groups_of}
use Rattle.group_tallies.specs.Slots.{entries_of}
use Rattle.group_tallies.specs.FoldInvariant.{AreTallied}
use Rattle.group_tallies.proofs.FinishLemmas.{all_groups}
use Rattle.group_tallies.proofs.Seen.{seen_are}
use Rattle.group_numbers.specs.Numbers.{group_key_at}
use Rattle.group_tallies.proofs.finish.all_groups.Goals as goal

pub ordered_groups-requires-clause-columns : goal.ordered_groups-requires-clause-columns
ordered_groups-requires-clause-columns c = ap length c.as_slice.ensures.value ∙ c.in_ok-coarsen_all.ensures.can.count

pub returns-clause-groups : goal.returns-clause-groups
returns-clause-groups c =
    let d = c.args.grouping.now.dimensions in
    let q = c.args.grouping.now.query in
    subst (λ cs. HaveLines d q cs c.in_ok-groups.groups.items) c.as_slice.ensures.value c.in_ok-groups.ensures.groups

pub returns-clause-lines : goal.returns-clause-lines
returns-clause-lines c = λ rows given.
    let d = c.args.grouping.now.dimensions in
    let q = c.args.grouping.now.query in
    let entries = entries_of c.args.slots.now in
    let columns = c.args.columns.now.items in
    let count : c.len-count.result ≡ length q.columns = c.len-count.ensures
    ∙ ap (λ query. length query.columns) c.requires.query in
    let can = c.in_ok-coarsen_all.ensures.can in
    let new = entries_of c.coarsen_all.new.slots in
    let all = c.coarsen_all.new.columns.items in
    let begun : AreTalliedFrom d q c.len-count.result entries columns rows =
    subst (λ n. AreTalliedFrom d q n entries columns rows) (sym count) given in
    let ended : AreTallied d q new all rows =
    all_groups d q new all rows (c.in_ok-coarsen_all.ensures.tallied rows begun) in
    ap (λ cs. lines_by d q cs c.in_ok-groups.groups.items) (sym c.as_slice.ensures.value)
    ∙ c.in_ok-groups.ensures.lines rows
    (subst (λ cs. seen_groups (group_key_at d q.columns) (tallies_at cs) new ≡ groups_of d q rows)
    (sym c.as_slice.ensures.value)
    (seen_are d q new all rows can.proper.some_aggregate can.rising can.numbers ended))

pub returns-in_err-coarsen_all-clause-refused : goal.returns-in_err-coarsen_all-clause-refused
returns-in_err-coarsen_all-clause-refused c =
    let p = err_from_is_err_and c.from_residual.result c.from_residual.ensures.1 in
    rw (p.1, p.2) (λ bad rows given foldable.
    let d = c.args.grouping.now.dimensions in
    let q = c.args.grouping.now.query in
    let entries = entries_of c.args.slots.now in
    let columns = c.args.columns.now.items in
    let count : c.len-count.result ≡ length q.columns = c.len-count.ensures
    ∙ ap (λ query. length query.columns) c.requires.query in
    let begun : AreTalliedFrom d q c.len-count.result entries columns rows =
    subst (λ n. AreTalliedFrom d q n entries columns rows) (sym count) given in
    let fault : c.in_err-coarsen_all.field-0.0 ≡ BadLayout = cc bad in
    c.in_err-coarsen_all.ensures.refused (ap (λ f. Err f) fault) rows begun foldable)
