use Rattle.std.proofs.Common.{◌<◌, ◌^◌, ℕ, List, sym, subst}
use Rattle.std.specs.Simd.Lanes.{sum_l}
use Rattle.column_kernels.proofs.LanesLemmas.{bytes_sum, bytes_small}
use Rattle.column_kernels.proofs.lanes.sum_of_bytes.Goals as goal

pub chosen_sum-requires-clause-small : goal.chosen_sum-requires-clause-small
chosen_sum-requires-clause-small c =
    subst (λ (l : List ℕ). sum_l l < 2 ^ 64) (sym c.widened.ensures)
    (bytes_sum c.args.bytes.now c.told-bytes (bytes_small c.args.bytes.now c.fits-bytes))
