use Rattle.std.proofs.Common.{refl}
use Rattle.cube_model.specs.Fractions.{fraction_of}
use Rattle.test_texts.proofs.examples.averages_example.Goals as goal

pub returns : goal.returns
unfolding fraction_of
returns c = refl
