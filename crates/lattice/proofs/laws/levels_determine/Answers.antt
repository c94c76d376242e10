use Rattle.std.proofs.Common.{arith}
use Rattle.lattice.proofs.LawsLemmas.{tells}
use Rattle.cube_model.proofs.LawsLemmas.{valid_rows_keep_the_rules}
use Rattle.lattice.proofs.laws.levels_determine.Goals as goal

pub returns : goal.returns
returns c = λ dimensions attr level key other member valid small other_small.
    tells dimensions ((valid_rows_keep_the_rules dimensions).0 valid) key other (omega (arith, small))
    (omega (arith, other_small)) member attr level
