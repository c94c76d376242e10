use Rattle.std.proofs.Common.{take}
use Rattle.std.specs.Io.KnownBytes.{Appends}
use Rattle.table_texts.specs.Texts.{facts_text}
use Rattle.table_texts.proofs.facts.write_rows.Given as goal

abbrev pub invariant-loop-row : goal.invariant-loop-row
invariant-loop-row g l =
    Appends (g.W.Write.contents l.initial.out) (g.W.Write.contents l.out) (facts_text (take l.row-index l.rows))
