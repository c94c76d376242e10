use Rattle.std.proofs.Common.{◌≡◌, ◌≤◌, ◌<◌, ◌*◌, ◌/◌, ◌^◌, ℕ, Bool, List, length, drop, sym, subst, ap, ◌∙◌, arith}
use Rattle.std.proofs.lemmas.Simd.{length-zip2, mask_l-lt}
use Rattle.std.specs.Simd.{first_chunks}
use Rattle.std.specs.Simd.Lanes.{mask_l, zip2}
use Rattle.column_kernels.specs.Masks.{lies_in}
use Rattle.column_kernels.proofs.Blocks.{mask_of}
use Rattle.column_kernels.proofs.Chunks.{zip2_left}
use Rattle.column_kernels.proofs.mask.Mask.of_ranges.Goals as goal

pub invariant_of-result : goal.invariant_of-result
invariant_of-result c =
    let f : ℕ → ℕ → Bool = lies_in c.args.quantity c.args.discount in
    let word_of : List ℕ → List ℕ → ℕ = λ quantities discounts. mask_l (zip2 f quantities discounts) in
    let ones : List ℕ = c.as_chunks.result.1.now in
    let others : List ℕ = c.as_chunks-2.result.1.now in
    let whole : length c.in_ok-words.words.items ≤ length c.as_chunks.result.0.now
    = subst (λ (l : List ℕ). length l ≤ length c.as_chunks.result.0.now) (sym c.in_ok-words.ensures.ok)
    (zip2_left word_of c.as_chunks.result.0.now c.as_chunks-2.result.0.now) in
    let same : length ones ≡ length others =
    omega (arith, c.as_chunks.ensures.back_len, c.as_chunks-2.ensures.back_len, c.requires.rows) in
    let long : length (zip2 f ones others) ≡ length ones = length-zip2 f ones others same in
    let small : mask_l (zip2 f ones others) < 2 ^ length ones
    = subst (λ (n : ℕ). mask_l (zip2 f ones others) < 2 ^ n) long (mask_l-lt (zip2 f ones others)) in (
      omega (arith, whole, c.as_chunks.ensures.front_len, c.requires.few),
      (
        omega (arith, c.as_chunks.ensures.back_len),
        subst (λ (n : ℕ). n < 2 ^ length ones) (sym c.rest_mask.ensures)
            small,
      ),
    )

pub returns-clause-ok : goal.returns-clause-ok
returns-clause-ok c =
    let f : ℕ → ℕ → Bool = lies_in c.args.quantity c.args.discount in
    let word_of : List ℕ → List ℕ → ℕ = λ quantities discounts. mask_l (zip2 f quantities discounts) in
    let xs : List ℕ = c.args.quantities.now in
    let ys : List ℕ = c.args.discounts.now in
    let k : ℕ = length xs / 32 in
    let room : k * 32 ≤ length xs = omega arith in
    let fronts : c.as_chunks-2.result.0.now ≡ first_chunks 32 k ys
    = c.as_chunks-2.ensures.front ∙ ap (λ (n : ℕ). first_chunks 32 (n / 32) ys) c.requires.rows in
    let backs : c.as_chunks-2.result.1.now ≡ drop (k * 32) ys
    = c.as_chunks-2.ensures.back ∙ ap (λ (n : ℕ). drop (n / 32 * 32) ys) c.requires.rows in
    let words_are : c.in_ok-words.words.items ≡ zip2 word_of (first_chunks 32 k xs) (first_chunks 32 k ys)
    = c.in_ok-words.ensures.ok
    ∙ ap (λ (l : List (List ℕ)). zip2 word_of l c.as_chunks-2.result.0.now) c.as_chunks.ensures.front
    ∙ ap (zip2 word_of (first_chunks 32 k xs)) fronts in
    let rest_is : c.rest_mask.result ≡ mask_l (zip2 f (drop (k * 32) xs) (drop (k * 32) ys))
    = c.rest_mask.ensures ∙ ap (λ (l : List ℕ). mask_l (zip2 f l c.as_chunks-2.result.1.now)) c.as_chunks.ensures.back
    ∙ ap (λ (l : List ℕ). mask_l (zip2 f (drop (k * 32) xs) l)) backs in
    let many : length c.as_chunks.result.1.now ≡ length (drop (k * 32) xs) =
    ap (λ (l : List ℕ). length l) c.as_chunks.ensures.back in
    mask_of f k xs ys c.in_ok-words.words.items c.rest_mask.result (length c.as_chunks.result.1.now) room
    c.requires.rows words_are rest_is many
