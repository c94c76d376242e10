use Rattle.std.proofs.Common.{◌≡◌}
use Rattle.table_texts.specs.Places.{is_spellable_before}
use Rattle.table_texts.proofs.dimension.is_spellable.Given as goal

abbrev pub invariant-loop-place : goal.invariant-loop-place
invariant-loop-place l = l.all ≡ is_spellable_before l.dims l.axis l.place
