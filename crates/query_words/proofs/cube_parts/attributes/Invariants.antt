use Rattle.std.proofs.Common.{◌≡◌, take}
use Rattle.std.specs.List.{flat_map}
use Rattle.query_words.specs.Parts.{attribute_in}
use Rattle.query_words.proofs.cube_parts.attributes.Given as goal

abbrev pub invariant-loop-column : goal.invariant-loop-column
invariant-loop-column l = l.attributes ≡ flat_map attribute_in (take l.column-index l.columns)
