use Rattle.std.proofs.Common.{◌≡◌, ℕ, Bool, List, ◌++◌, ap, ◌∙◌, arith}
use Rattle.std.specs.List.{flat_map, count_by}
use Rattle.column_kernels.specs.Masks.{bits_of}
use Rattle.column_kernels.proofs.Bits.{ones_of}
use Rattle.column_kernels.proofs.Blocks.{count-append}
use Rattle.column_kernels.proofs.mask.Mask.count.Goals as goal

pub returns : goal.returns
returns c =
    let words : List ℕ = c.self.inside.words.items in
    let rest : ℕ = c.self.inside.rest in
    let n : ℕ = c.self.inside.rest_rows in
    let count : List Bool → ℕ = count_by (λ (b : Bool). b) in
    let blocks : c.ones.result ≡ count_by (λ (b : Bool). b) (flat_map (bits_of 32) words)
    = c.ones.ensures.value
    ∙ ap (λ (l : List ℕ). count_by (λ (b : Bool). b) (flat_map (bits_of 32) l)) c.deref.ensures.value in
    let seen : count_by (λ (b : Bool). b) (flat_map (bits_of 32) words ++ bits_of n rest)
    ≡ count_by (λ (b : Bool). b) c.args.self.now
    = ap count c.self.view_is in
    omega (
      arith,
      blocks,
      ones_of n rest c.self.invariant.1.1,
      count-append (flat_map (bits_of 32) words)
          (bits_of n rest),
      seen,
    )
