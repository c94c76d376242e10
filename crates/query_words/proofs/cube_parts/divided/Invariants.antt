use Rattle.std.proofs.Common.{◌≡◌}
use Rattle.std.specs.List.{flat_map}
use Rattle.query_words.specs.Parts.{dimensions_in, mode_conditions_in}
use Rattle.query_words.proofs.cube_parts.divided.Given as goal

abbrev pub invariant-loop-condition : goal.invariant-loop-condition
invariant-loop-condition l = record {
  dimensions : l.dimensions ≡ flat_map dimensions_in l.yielded;
  modes : l.modes ≡ flat_map mode_conditions_in l.yielded;
}
