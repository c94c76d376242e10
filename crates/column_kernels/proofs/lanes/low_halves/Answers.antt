use Rattle.std.proofs.Common.{List, ℕ, ◌<◌, subst, sym}
use Rattle.std.specs.Simd.Lanes.{Each1}
use Rattle.column_kernels.proofs.LanesLemmas.{masked_low, low_small}
use Rattle.column_kernels.proofs.lanes.low_halves.Goals as goal

pub returns-clause-value : goal.returns-clause-value
returns-clause-value c = masked_low c.args.lanes c.requires

pub returns-clause-small : goal.returns-clause-small
returns-clause-small c =
    subst (λ (l : List ℕ). Each1 (λ half. half < 4294967296) l) (sym (masked_low c.args.lanes c.requires))
    (low_small c.args.lanes)
