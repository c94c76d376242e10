use Rattle.std.proofs.Common.{◌≡◌, ◌∙◌, ◌<◌, ℕ, false, sym, ap, subst, map, length, get_or}
use Rattle.std.specs.List.{All, IsDistinct}
use Rattle.std.specs.List.Sorted.{IsPermutation}
use Rattle.std.specs.Ordering.{nat_cmp, eq_by_cmp}
use Rattle.std.proofs.lemmas.List.Sorted.{IsPermutation-map, All-permutation}
use Rattle.cube_model.specs.Ascending.{IsAscending}
use Rattle.cube_model.specs.Orders.{line_cmp}
use Rattle.cube_model.specs.Proper.{is_average}
use Rattle.cube_model.specs.declared.measure.Agg.TheVariants.{Count}
use Rattle.group_tallies.specs.Columns.{entry_line, line_with, seen_entries, tallies_at}
use Rattle.group_tallies.specs.GroupLines.{HasLine, HaveLines, lines_by}
use Rattle.group_tallies.specs.Slots.{entries_of}
use Rattle.group_tallies.proofs.Answered.{lines_are, unordered_lines}
use Rattle.group_tallies.proofs.LineLaws.{fit_order, seen_apart, seen_below, seen_have_lines, seen_lines, sorted_answer}
use Rattle.group_numbers.specs.Numbers.{group_count, group_key_at}
use Rattle.cube_model.proofs.LawsLemmas.{answer_is_the_one}
use Rattle.group_tallies.proofs.lines.ordered_groups.Goals as goal

pub returns-in-None-clause-groups : goal.returns-in-None-clause-groups
returns-in-None-clause-groups c =
    let dims = c.args.grouping.now.dimensions in
    let query = c.args.grouping.now.query in
    let aggs = query.aggregates in
    let columns = c.args.columns.now in
    let entries = entries_of c.args.slots.now in
    let seen : c.in_ok-groups.groups.items ≡ seen_entries (tallies_at columns) entries = c.in_ok-groups.ensures in
    subst (HaveLines dims query columns) (sym seen) (seen_have_lines dims query columns entries c.requires.numbers)

pub returns-in-None-clause-lines : goal.returns-in-None-clause-lines
returns-in-None-clause-lines c = λ rows represents.
    let dims = c.args.grouping.now.dimensions in
    let query = c.args.grouping.now.query in
    let aggs = query.aggregates in
    let columns = c.args.columns.now in
    let entries = entries_of c.args.slots.now in
    let seen : c.in_ok-groups.groups.items ≡ seen_entries (tallies_at columns) entries = c.in_ok-groups.ensures in
    ap (lines_by dims query columns) seen
    ∙ seen_lines (group_key_at dims query.columns) aggs columns entries
    ∙ ap (map (line_with aggs)) represents
    ∙ lines_are dims query rows (ap (λ q. q.order) (sym c.requires.query) ∙ c.in-None.is)

pub returns-in_ok-sorted-in-Some-clause-groups : goal.returns-in_ok-sorted-in-Some-clause-groups
returns-in_ok-sorted-in-Some-clause-groups c =
    let dims = c.args.grouping.now.dimensions in
    let query = c.args.grouping.now.query in
    let aggs = query.aggregates in
    let columns = c.args.columns.now in
    let entries = entries_of c.args.slots.now in
    let seen : c.in_ok-groups.groups.items ≡ seen_entries (tallies_at columns) entries = c.in_ok-groups.ensures in
    let same : IsPermutation (seen_entries (tallies_at columns) entries) c.in_ok-sorted-in-Some.sorted.items =
    subst (λ all. IsPermutation all c.in_ok-sorted-in-Some.sorted.items) (c.as_slice.ensures.value ∙ seen)
    c.in_ok-sorted-in-Some.ensures.same in
    All-permutation (HasLine dims query columns) (seen_entries (tallies_at columns) entries)
    c.in_ok-sorted-in-Some.sorted.items same (seen_have_lines dims query columns entries c.requires.numbers)

pub returns-in_ok-sorted-in-Some-clause-lines : goal.returns-in_ok-sorted-in-Some-clause-lines
returns-in_ok-sorted-in-Some-clause-lines c = λ rows represents.
    let dims = c.args.grouping.now.dimensions in
    let query = c.args.grouping.now.query in
    let aggs = query.aggregates in
    let columns = c.args.columns.now in
    let entries = entries_of c.args.slots.now in
    let seen : c.in_ok-groups.groups.items ≡ seen_entries (tallies_at columns) entries = c.in_ok-groups.ensures in
    let aggregates : c.as_slice-aggregates.result.now ≡ aggs = c.as_slice-aggregates.ensures
    ∙ ap (λ q. q.aggregates) c.requires.query in
    let asked = ap (λ q. q.order) (sym c.requires.query) ∙ c.in-Some.is in
    let same : IsPermutation (seen_entries (tallies_at columns) entries) c.in_ok-sorted-in-Some.sorted.items =
    subst (λ all. IsPermutation all c.in_ok-sorted-in-Some.sorted.items) (c.as_slice.ensures.value ∙ seen)
    c.in_ok-sorted-in-Some.ensures.same in
    let key = group_key_at dims query.columns in
    let order = c.in-Some.order in
    let sorted = c.in_ok-sorted-in-Some.sorted.items in
    let rising : IsAscending (line_cmp order) (map (entry_line key aggs columns) sorted) =
    subst (λ all. IsAscending (line_cmp order) (map (entry_line key all columns) sorted)) aggregates
    c.in_ok-sorted-in-Some.ensures.rising in
    sorted_answer dims query rows order asked answer_is_the_one
    (map (entry_line key aggs columns) (seen_entries (tallies_at columns) entries))
    (map (entry_line key aggs columns) sorted)
    (seen_lines key aggs columns entries ∙ ap (map (line_with aggs)) represents ∙ unordered_lines dims query rows)
    (IsPermutation-map (entry_line key aggs columns) (seen_entries (tallies_at columns) entries) sorted same)
    rising

pub in_order-requires-clause-aggregate : goal.in_order-requires-clause-aggregate
in_order-requires-clause-aggregate c =
    let dims = c.args.grouping.now.dimensions in
    let query = c.args.grouping.now.query in
    let aggs = query.aggregates in
    let columns = c.args.columns.now in
    let entries = entries_of c.args.slots.now in
    let seen : c.in_ok-groups.groups.items ≡ seen_entries (tallies_at columns) entries = c.in_ok-groups.ensures in
    let aggregates : c.as_slice-aggregates.result.now ≡ aggs = c.as_slice-aggregates.ensures
    ∙ ap (λ q. q.aggregates) c.requires.query in
    let asked = ap (λ q. q.order) (sym c.requires.query) ∙ c.in-Some.is in
    let fit = fit_order query c.in-Some.order c.requires.proper asked in
    subst (λ all. c.in-Some.order.aggregate < length all) (sym aggregates) fit.1

pub in_order-requires-clause-whole : goal.in_order-requires-clause-whole
in_order-requires-clause-whole c =
    let dims = c.args.grouping.now.dimensions in
    let query = c.args.grouping.now.query in
    let aggs = query.aggregates in
    let columns = c.args.columns.now in
    let entries = entries_of c.args.slots.now in
    let seen : c.in_ok-groups.groups.items ≡ seen_entries (tallies_at columns) entries = c.in_ok-groups.ensures in
    let aggregates : c.as_slice-aggregates.result.now ≡ aggs = c.as_slice-aggregates.ensures
    ∙ ap (λ q. q.aggregates) c.requires.query in
    let asked = ap (λ q. q.order) (sym c.requires.query) ∙ c.in-Some.is in
    let fit = fit_order query c.in-Some.order c.requires.proper asked in
    subst (λ all. is_average (get_or all c.in-Some.order.aggregate Count) ≡ false) (sym aggregates) fit.2

pub in_order-requires-clause-below : goal.in_order-requires-clause-below
in_order-requires-clause-below c =
    let dims = c.args.grouping.now.dimensions in
    let query = c.args.grouping.now.query in
    let aggs = query.aggregates in
    let columns = c.args.columns.now in
    let entries = entries_of c.args.slots.now in
    let seen : c.in_ok-groups.groups.items ≡ seen_entries (tallies_at columns) entries = c.in_ok-groups.ensures in
    subst (All (λ (group : ℕ × ℕ). group.0 < group_count dims query.columns)) (sym (c.as_slice.ensures.value ∙ seen))
    (seen_below (group_count dims query.columns) (tallies_at columns) entries c.requires.numbers.sorted
    c.requires.numbers.below)

pub in_order-requires-clause-apart : goal.in_order-requires-clause-apart
in_order-requires-clause-apart c =
    let dims = c.args.grouping.now.dimensions in
    let query = c.args.grouping.now.query in
    let aggs = query.aggregates in
    let columns = c.args.columns.now in
    let entries = entries_of c.args.slots.now in
    let seen : c.in_ok-groups.groups.items ≡ seen_entries (tallies_at columns) entries = c.in_ok-groups.ensures in
    subst (λ all. IsDistinct (eq_by_cmp nat_cmp) (map (λ (group : ℕ × ℕ). group.0) all))
    (sym (c.as_slice.ensures.value ∙ seen)) (seen_apart (tallies_at columns) entries c.requires.numbers.sorted)
