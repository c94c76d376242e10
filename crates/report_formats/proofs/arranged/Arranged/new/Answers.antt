use Rattle.std.proofs.Common.{◌≡◌, ◌∙◌, ◌≤◌, ap, subst, sym, length, take, List, ℕ, Option}
use Rattle.std.specs.Option.{option_map}
use Rattle.report_formats.specs.Arranging.{limited, lines_at, places_for}
use Rattle.report_formats.proofs.Places.{limited_fits, places_below, taken}
use Rattle.report_formats.proofs.arranged.Arranged.new.Goals as goal

pub invariant_of-result-clause-fits : goal.invariant_of-result-clause-fits
invariant_of-result-clause-fits g c =
    let lines = g.L.Lines.lines c.args.lines.now in
    let how = c.args.arrangement in
    let count : c.limited-count.result ≡ limited how.limit (length lines) = c.limited-count.ensures
    ∙ ap (limited how.limit) c.count.ensures in
    subst (λ (found : Option (List ℕ)). c.limited-count.result ≤ length (lines_at found lines))
    (sym c.in_ok-places.ensures.ok)
    (subst (λ n. n ≤ length (lines_at (places_for how.sorting lines) lines)) (sym count)
    (limited_fits how.limit how.sorting lines))

pub invariant_of-result-clause-in_range : goal.invariant_of-result-clause-in_range
invariant_of-result-clause-in_range g c =
    λ places is.
    places_below c.args.arrangement.sorting (g.L.Lines.lines c.args.lines.now) places.items
    (sym c.in_ok-places.ensures.ok ∙ ap (option_map (λ list. list.items)) is)

pub returns-clause-ok : goal.returns-clause-ok
returns-clause-ok g c =
    let lines = g.L.Lines.lines c.args.lines.now in
    let how = c.args.arrangement in
    let count : c.limited-count.result ≡ limited how.limit (length lines) = c.limited-count.ensures
    ∙ ap (limited how.limit) c.count.ensures in
    (λ i. take (count i) (lines_at (c.in_ok-places.ensures.ok i) lines)) ∙ taken how.limit how.sorting lines
