use Rattle.cube_model.specs.declared.measure.Measure.TheVariants.{Quantity}
use Rattle.std.proofs.Common.{◌≡◌, ℕ, ◌<◌, get_or}
use Rattle.cube_model.specs.Names.{measure_name}
use Rattle.query_words.proofs.names.measure.Given as goal

abbrev pub invariant-loop-measure : goal.invariant-loop-measure
invariant-loop-measure l = (k : ℕ) → k < l.measure-index
    → (measure_name (get_or l.measure-items k (Quantity)) ≡ l.name → ⊥)
