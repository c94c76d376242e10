use Rattle.std.proofs.Common.{◌≡◌, map, take}
use Rattle.query_words.specs.Known.{column_name}
use Rattle.query_words.proofs.columns.columns_of.Given as goal

abbrev pub invariant-loop-name : goal.invariant-loop-name
invariant-loop-name l = map column_name l.columns ≡ map (λ name. name.now) (take l.name-index l.names)
