use Rattle.std.proofs.Common.{◌≡◌, ℕ, Bool, List, length, map, ap, ◌∙◌, arith, rules}
use Rattle.std.proofs.lemmas.List.{length-map}
use Rattle.std.specs.List.{sum}
use Rattle.column_kernels.specs.Masks.{bits_of, selected_by}
use Rattle.column_kernels.specs.Sums.{low, high}
use Rattle.column_kernels.proofs.LanesLemmas.{halves_sum}
use Rattle.column_kernels.proofs.Selecting.{sum_by_halves}
use Rattle.column_kernels.proofs.lanes.sum_of_numbers.Goals as goal

pub chosen_sum-low-requires-clause-small : goal.chosen_sum-low-requires-clause-small
chosen_sum-low-requires-clause-small c =
    let lanes : length c.loaded-lanes.result ≡ 32 = search rules in
    let long : length c.low_halves.result ≡ 32 = ap (λ (l : List ℕ). length l) c.low_halves.ensures.value
    ∙ length-map c.loaded-lanes.result low ∙ lanes in
    halves_sum c.low_halves.result long c.low_halves.ensures.small

pub chosen_sum-high-requires-clause-small : goal.chosen_sum-high-requires-clause-small
chosen_sum-high-requires-clause-small c =
    let lanes : length c.loaded-lanes.result ≡ 32 = search rules in
    let long : length c.high_halves.result ≡ 32 = ap (λ (l : List ℕ). length l) c.high_halves.ensures.value
    ∙ length-map c.loaded-lanes.result high ∙ lanes in
    halves_sum c.high_halves.result long c.high_halves.ensures.small

pub returns-clause-value : goal.returns-clause-value
returns-clause-value c =
    let marks : List Bool = bits_of 32 c.args.word in
    let lanes : List ℕ = c.loaded-lanes.result in
    let lows : c.chosen_sum-low.result ≡ sum (selected_by marks (map low lanes))
    = c.chosen_sum-low.ensures ∙ ap (λ (l : List ℕ). sum (selected_by marks l)) c.low_halves.ensures.value in
    let highs : c.chosen_sum-high.result ≡ sum (selected_by marks (map high lanes))
    = c.chosen_sum-high.ensures ∙ ap (λ (l : List ℕ). sum (selected_by marks l)) c.high_halves.ensures.value in
    let whole : c.joined.result ≡ sum (selected_by marks lanes) =
    omega (arith, c.joined.ensures.value, lows, highs, sum_by_halves marks lanes) in
    whole ∙ ap (λ (l : List ℕ). sum (selected_by marks l)) c.loaded-lanes.ensures
