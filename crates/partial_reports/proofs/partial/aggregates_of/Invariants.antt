use Rattle.std.proofs.Common.{◌≡◌, ◌∷◌, map, take}
use Rattle.partial_reports.specs.Parts.{partial_agg}
use Rattle.cube_model.specs.declared.measure.Agg.TheVariants.{Count}
use Rattle.partial_reports.proofs.partial.aggregates_of.Given as goal

abbrev pub invariant-loop-agg : goal.invariant-loop-agg
invariant-loop-agg l = l.kept ≡ Count ∷ map partial_agg (take l.agg-index l.aggregates)
