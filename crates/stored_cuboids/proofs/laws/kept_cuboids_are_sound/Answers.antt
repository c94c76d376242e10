use Rattle.stored_cuboids.proofs.Represented.{kept_cuboids_are_sound}
use Rattle.stored_cuboids.proofs.laws.kept_cuboids_are_sound.Goals as goal

pub returns : goal.returns
returns c = kept_cuboids_are_sound
