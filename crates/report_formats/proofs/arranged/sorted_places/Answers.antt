use Rattle.std.proofs.Common.{◌∙◌, ap, subst, rules, ℕ, List}
use Rattle.std.specs.List.{range_with_len}
use Rattle.std.specs.List.Sorted.{IsPermutation}
use Rattle.std.specs.Ordering.{is_lt}
use Rattle.std.proofs.lemmas.Fn.{always_returns_same}
use Rattle.std.proofs.lemmas.List.Sorted.{ranks_by}
use Rattle.report_formats.specs.Arranging.{place_cmp}
use Rattle.report_formats.proofs.Comparisons.{place_cmp_total}
use Rattle.report_formats.proofs.Places.{sorted_places_are}
use Rattle.report_formats.proofs.arranged.sorted_places.Goals as goal

pub returns : goal.returns
returns g c =
    let lines = g.L.Lines.lines c.args.lines.now in
    let sorting = c.args.sorting in
    let found = c.sort_unstable_by.new.self.items in
    sorted_places_are sorting lines found
    (subst (λ (all : List ℕ). IsPermutation all found) (c.in_ok-places.ensures ∙ ap (range_with_len 0) c.count.ensures)
    c.sort_unstable_by.ensures.permutation)
    (c.sort_unstable_by.ensures.sorted (λ left right. is_lt (place_cmp sorting lines left right))
    (ranks_by (place_cmp_total sorting lines) (λ place. place))
    (always_returns_same _ _ _ (λ a r f k. search rules)))
