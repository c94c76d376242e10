use Rattle.std.proofs.Common.{◌≡◌, ◌∙◌, ℕ, sym, ap, subst, map}
use Rattle.std.specs.List.{All, IsDistinct}
use Rattle.std.specs.List.Sorted.{IsPermutation}
use Rattle.std.specs.Ordering.{nat_cmp, eq_by_cmp}
use Rattle.std.proofs.lemmas.Result.{IfOk-weaker}
use Rattle.std.proofs.lemmas.List.Sorted.{IsPermutation-map, All-permutation}
use Rattle.std.proofs.lemmas.Map.Keys.{IsDistinct-IsPermutation}
use Rattle.std.proofs.lemmas.Cmp.{nat_cmp_total, eq_by_cmp_equiv}
use Rattle.cube_model.specs.Ascending.{IsAscending}
use Rattle.cube_model.specs.Orders.{line_cmp}
use Rattle.group_tallies.specs.Columns.{entry_line}
use Rattle.group_tallies.specs.Ranks.{Rank, IsRank}
use Rattle.group_tallies.proofs.LineLaws.{map-map}
use Rattle.group_tallies.proofs.OrderLemmas.{sorted_lines}
use Rattle.group_numbers.specs.Numbers.{group_key_at}
use Rattle.group_numbers.proofs.Numbers.{keys_rise}
use Rattle.group_tallies.proofs.order.in_order.Goals as goal

pub returns-clause-same : goal.returns-clause-same
returns-clause-same c =
    let ranks = c.sort_unstable.new.self.items in
    let moved : IsPermutation (map (λ (r : Rank). r.2) c.in_ok-ranked.ranked.items) (map (λ (r : Rank). r.2) ranks) =
    IsPermutation-map (λ (r : Rank). r.2) c.in_ok-ranked.ranked.items ranks c.sort_unstable.ensures.permutation in
    IfOk-weaker c.unranked.result _ _
    (λ sorted is.
    subst (λ all. IsPermutation c.args.groups.now all)
    (sym (is ∙ ap (map (λ (r : Rank). r.2)) c.as_slice.ensures.value))
    (subst (λ all. IsPermutation all (map (λ (r : Rank). r.2) ranks)) c.in_ok-ranked.ensures.groups moved))
    c.unranked.ensures

pub returns-clause-rising : goal.returns-clause-rising
returns-clause-rising c =
    let dims = c.args.grouping.now.dimensions in
    let attrs = c.args.grouping.now.query.columns in
    let order = c.args.order in
    let line = entry_line (group_key_at dims attrs) c.args.aggregates.now c.args.columns.now in
    let first = c.in_ok-ranked.ranked.items in
    let ranks = c.sort_unstable.new.self.items in
    let are : All (IsRank dims attrs order line) ranks =
    All-permutation (IsRank dims attrs order line) first ranks c.sort_unstable.ensures.permutation
    c.in_ok-ranked.ensures.ranks in
    let numbers : map (λ (r : Rank). r.2.0) first ≡ map (λ (g : ℕ × ℕ). g.0) c.args.groups.now =
    sym (map-map (λ (g : ℕ × ℕ). g.0) (λ (r : Rank). r.2) first)
    ∙ ap (map (λ (g : ℕ × ℕ). g.0)) c.in_ok-ranked.ensures.groups in
    let apart : IsDistinct (eq_by_cmp nat_cmp) (map (λ (r : Rank). r.2.0) ranks) =
    IsDistinct-IsPermutation (eq_by_cmp nat_cmp) (eq_by_cmp_equiv nat_cmp_total).symm (map (λ (r : Rank). r.2.0) first)
    (map (λ (r : Rank). r.2.0) ranks)
    (IsPermutation-map (λ (r : Rank). r.2.0) first ranks c.sort_unstable.ensures.permutation)
    (subst (IsDistinct (eq_by_cmp nat_cmp)) (sym numbers) c.requires.apart) in
    let rising : IsAscending (line_cmp order) (map line (map (λ (r : Rank). r.2) ranks)) =
    sorted_lines dims attrs (keys_rise dims attrs) order line (λ e i. group_key_at dims attrs e.0) ranks are
    c.sort_unstable.ensures.sorted apart in
    IfOk-weaker c.unranked.result _ _
    (λ sorted is. subst (λ all. IsAscending (line_cmp order) (map line all))
    (sym (is ∙ ap (map (λ (r : Rank). r.2)) c.as_slice.ensures.value)) rising)
    c.unranked.ensures
