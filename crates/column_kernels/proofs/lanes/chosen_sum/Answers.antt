use Rattle.std.proofs.Common.{◌≡◌, ℕ, ◌+◌, ◌<◌, ◌^◌, Bool, List, replicate, Fits, w64, ap, sym, subst, ◌∙◌, arith}
use Rattle.std.proofs.lemmas.Simd.{sum_fits, fold-sum}
use Rattle.std.specs.List.{sum}
use Rattle.std.specs.Simd.Lanes.{Steps, fold_l, sel_l, sum_l}
use Rattle.column_kernels.specs.Masks.{bits_of, selected_by}
use Rattle.column_kernels.proofs.Bits.{length-bits_of}
use Rattle.column_kernels.proofs.LanesLemmas.{chosen_lanes}
use Rattle.column_kernels.proofs.Selecting.{sum_is, chosen_sum, selected-le}
use Rattle.column_kernels.proofs.lanes.chosen_sum.Goals as goal

pub overflow_add-result : goal.overflow_add-result
overflow_add-result c =
    let word : ℕ = c.from.result in
    let lanes : List ℕ = c.args.lanes in
    let kept : List ℕ = sel_l (bits_of 32 word) lanes (replicate 32 0) in
    let is : sum_l kept ≡ sum (selected_by (bits_of 32 word) lanes) =
    chosen_sum (bits_of 32 word) lanes 32 (length-bits_of 32 word) c.requires.lanes in
    let room : 0 + sum_l kept < 2 ^ 64
    = omega (
      arith,
      is,
      sum_is (selected_by (bits_of 32 word) lanes),
      selected-le (bits_of 32 word) lanes,
      c.requires.small,
    ) in
    subst (λ (marks : List Bool). Steps (λ (s x : ℕ). Fits w64 (s + x)) (λ (s x : ℕ). s + x) 0
    (sel_l marks lanes (replicate 32 0)))
    (sym (chosen_lanes word)) (sum_fits w64 0 kept room)

pub returns : goal.returns
returns c =
    let word : ℕ = c.from.result in
    let lanes : List ℕ = c.args.lanes in
    let kept : List ℕ = sel_l (bits_of 32 word) lanes (replicate 32 0) in
    let from_0 : 0 + sum_l kept ≡ sum_l kept = omega arith in
    ap (λ (marks : List Bool). fold_l (λ (s x : ℕ). s + x) 0 (sel_l marks lanes (replicate 32 0))) (chosen_lanes word)
    ∙ fold-sum 0 kept ∙ from_0 ∙ chosen_sum (bits_of 32 word) lanes 32 (length-bits_of 32 word) c.requires.lanes
    ∙ ap (λ (w : ℕ). sum (selected_by (bits_of 32 w) lanes)) c.from.ensures
