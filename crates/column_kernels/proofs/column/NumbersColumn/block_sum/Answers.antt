use Rattle.std.proofs.Common.{◌<◌, ◌/◌, ◌*◌, ℕ, List, [], length, get_or, sym, ap, ◌∙◌, arith}
use Rattle.std.proofs.lemmas.List.{length-map}
use Rattle.std.specs.Int.{from_le_bytes, w64}
use Rattle.std.specs.List.{sum}
use Rattle.column_kernels.specs.Masks.{bits_of, selected_by}
use Rattle.column_kernels.specs.Sums.{numbers_of}
use Rattle.column_kernels.proofs.Chunks.{chunk_at, chunk-map}
use Rattle.column_kernels.proofs.column.NumbersColumn.block_sum.Goals as goal

pub returns-clause-value : goal.returns-clause-value
returns-clause-value c =
    let column : List (List ℕ) = c.args.self.now.column.now in
    let block : ℕ = c.args.block in
    let lt : block < length column / 32 = omega (arith, c.requires.within, length-map column (from_le_bytes w64)) in
    let rows : List ℕ → ℕ = λ l. sum (selected_by (bits_of 32 c.args.word) l) in
    c.sum_of_numbers.ensures.value
    ∙ ap (λ (l : List (List ℕ)). rows (numbers_of l))
    (ap (λ (ls : List (List (List ℕ))). get_or ls block []) c.as_chunks.ensures.front
    ∙ chunk_at 32 (length column / 32) block column lt)
    ∙ ap rows (sym (chunk-map (from_le_bytes w64) (32 * block) 32 column))
