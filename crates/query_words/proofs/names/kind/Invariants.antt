use Rattle.cube_model.specs.declared.query.Kind.TheVariants.{Plain}
use Rattle.std.proofs.Common.{◌≡◌, ℕ, ◌<◌, get_or}
use Rattle.query_words.specs.Words.{kind_name}
use Rattle.query_words.proofs.names.kind.Given as goal

abbrev pub invariant-loop-kind : goal.invariant-loop-kind
invariant-loop-kind l = (k : ℕ) → k < l.kind-index → (kind_name (get_or l.kind-items k Plain) ≡ l.name → ⊥)
