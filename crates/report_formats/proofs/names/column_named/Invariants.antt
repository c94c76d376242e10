use Rattle.std.proofs.Common.{◌≡◌, ℕ, ◌<◌, [], false, get_or}
use Rattle.std.specs.Str.{bytes_eq}
use Rattle.mode_queries.specs.Names.{column_names}
use Rattle.report_formats.proofs.names.column_named.Given as goal

abbrev pub invariant-loop-column : goal.invariant-loop-column
invariant-loop-column l =
    (k : ℕ) → k < l.column → bytes_eq l.name (get_or (column_names l.asked) k []) ≡ false
