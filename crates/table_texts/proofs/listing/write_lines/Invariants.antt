use Rattle.std.proofs.Common.{take}
use Rattle.std.specs.Io.KnownBytes.{Appends}
use Rattle.std.specs.List.{flat_map}
use Rattle.cube_model.specs.Places.{attr_members}
use Rattle.table_texts.specs.Members.{member_line}
use Rattle.table_texts.proofs.listing.write_lines.Given as goal

abbrev pub invariant-loop-rank : goal.invariant-loop-rank
invariant-loop-rank g l =
    Appends (g.W.Write.contents l.initial.out) (g.W.Write.contents l.out)
    (flat_map (member_line l.dims l.attr) (take l.rank (attr_members l.dims l.attr)))
