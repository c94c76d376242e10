use Rattle.std.proofs.Common.{◌<◌, ◌/◌, ℕ, List, [], length, get_or, ap, ◌∙◌, arith}
use Rattle.std.specs.List.{sum}
use Rattle.column_kernels.specs.Masks.{bits_of, selected_by}
use Rattle.column_kernels.proofs.Chunks.{chunk_at}
use Rattle.column_kernels.proofs.column.BytesColumn.block_sum.Goals as goal

pub returns-clause-value : goal.returns-clause-value
returns-clause-value c =
    let column : List ℕ = c.args.self.now.column.now in
    let block : ℕ = c.args.block in
    let lt : block < length column / 32 = omega (arith, c.requires.within) in
    c.sum_of_bytes.ensures.value
    ∙ ap (λ (l : List ℕ). sum (selected_by (bits_of 32 c.args.word) l))
    (ap (λ (ls : List (List ℕ)). get_or ls block []) c.as_chunks.ensures.front
    ∙ chunk_at 32 (length column / 32) block column lt)
