use Rattle.std.proofs.Common.{◌≡◌, drop}
use Rattle.cube_model.specs.Keys.{key_cmp}
use Rattle.group_tallies.specs.GroupLines.{line_at}
use Rattle.report_formats.proofs.comparing.compare_keys.Given as goal

abbrev pub invariant-loop-column : goal.invariant-loop-column
invariant-loop-column g l =
    key_cmp (line_at (g.L.Lines.lines l.fn.lines) l.left).key (line_at (g.L.Lines.lines l.fn.lines) l.right).key
    ≡ key_cmp (drop l.column (line_at (g.L.Lines.lines l.fn.lines) l.left).key)
    (drop l.column (line_at (g.L.Lines.lines l.fn.lines) l.right).key)
