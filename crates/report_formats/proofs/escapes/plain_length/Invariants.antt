use Rattle.std.proofs.Common.{◌≡◌, take}
use Rattle.report_formats.specs.Escapes.{escaped}
use Rattle.report_formats.proofs.escapes.plain_length.Given as goal

abbrev pub invariant-loop-place : goal.invariant-loop-place
invariant-loop-place l = escaped l.how (take l.place l.text) ≡ take l.place l.text
