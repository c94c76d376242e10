use Rattle.std.proofs.Common.{◌≡◌, ℕ, List, ◌++◌}
use Rattle.std.specs.Io.KnownBytes.{Appends}
use Rattle.ssb_reports.proofs.writing.write_bytes.Given as goal

abbrev pub invariant-loop : goal.invariant-loop
invariant-loop g l =
    (written : List ℕ) × (l.bytes ≡ written ++ l.left)
    × Appends (g.W.Write.contents l.initial.out) (g.W.Write.contents l.out) written
