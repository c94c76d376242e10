use Rattle.std.proofs.Common.{◌≡◌, ◌<◌, ℕ, Bool, List, map, sym, subst, ap, ◌∙◌, arith}
use Rattle.std.specs.Simd.Lanes.{Each1}
use Rattle.column_kernels.proofs.LanesLemmas.{bytes_small}
use Rattle.std.specs.List.{sum}
use Rattle.column_kernels.specs.Masks.{bits_of, selected_by}
use Rattle.column_kernels.specs.Sums.{numbers_of, products, low, high}
use Rattle.column_kernels.proofs.Selecting.{product_sum_by_halves}
use Rattle.column_kernels.proofs.lanes.sum_of_products.Goals as goal

pub times-lows-requires-clause-small : goal.times-lows-requires-clause-small
times-lows-requires-clause-small c = (
  c.low_halves.ensures.small,
  subst (λ (l : List ℕ). Each1 (λ byte. byte < 256) l) (sym c.widened-bytes.ensures)
      (bytes_small c.args.factors.now c.fits-factors),
)

pub times-highs-requires-clause-small : goal.times-highs-requires-clause-small
times-highs-requires-clause-small c = (
  c.high_halves.ensures.small,
  subst (λ (l : List ℕ). Each1 (λ byte. byte < 256) l) (sym c.widened-bytes.ensures)
      (bytes_small c.args.factors.now c.fits-factors),
)

pub returns-clause-value : goal.returns-clause-value
returns-clause-value c =
    let marks : List Bool = bits_of 32 c.args.word in
    let lanes : List ℕ = c.loaded-lanes.result in
    let bytes : List ℕ = c.widened-bytes.result in
    let rows : List ℕ → ℕ = λ l. sum (selected_by marks l) in
    let lows : c.chosen_sum.result ≡ sum (selected_by marks (products (map low lanes) bytes))
    = c.chosen_sum.ensures
    ∙ ap rows (c.times-lows.ensures.value ∙ ap (λ (l : List ℕ). products l bytes) c.low_halves.ensures.value) in
    let highs : c.chosen_sum-2.result ≡ sum (selected_by marks (products (map high lanes) bytes))
    = c.chosen_sum-2.ensures
    ∙ ap rows (c.times-highs.ensures.value ∙ ap (λ (l : List ℕ). products l bytes) c.high_halves.ensures.value) in
    let whole : c.joined.result ≡ sum (selected_by marks (products lanes bytes))
    = omega (arith, c.joined.ensures.value, lows, highs, product_sum_by_halves marks lanes bytes) in
    whole ∙ ap (λ (l : List ℕ). rows (products l bytes)) c.loaded-lanes.ensures
    ∙ ap (λ (l : List ℕ). rows (products (numbers_of c.args.numbers.now) l)) c.widened-bytes.ensures
