use Rattle.std.proofs.Common.{◌≡◌, ◌++◌, take}
use Rattle.dictionary.specs.Columns.{codes_spelling}
use Rattle.dimension_objects.proofs.encoding.push_codes.Given as goal

abbrev pub invariant-loop-code : goal.invariant-loop-code
invariant-loop-code l = l.out.items ≡ l.fn.out.items ++ codes_spelling (take l.code-index l.codes)
