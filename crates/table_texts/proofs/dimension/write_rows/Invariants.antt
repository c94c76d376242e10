use Rattle.std.specs.Io.KnownBytes.{Appends}
use Rattle.table_texts.specs.Places.{text_before}
use Rattle.table_texts.proofs.dimension.write_rows.Given as goal

abbrev pub invariant-loop-place : goal.invariant-loop-place
invariant-loop-place g l =
    Appends (g.W.Write.contents l.initial.out) (g.W.Write.contents l.out) (text_before l.dims l.axis l.place)
