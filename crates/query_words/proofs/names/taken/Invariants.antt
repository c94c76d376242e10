use Rattle.query_words.specs.declared.known.Taken.TheVariants.{Sum}
use Rattle.std.proofs.Common.{◌≡◌, ℕ, ◌<◌, get_or}
use Rattle.query_words.specs.Known.{taken_name}
use Rattle.query_words.proofs.names.taken.Given as goal

abbrev pub invariant-loop-taken : goal.invariant-loop-taken
invariant-loop-taken l = (k : ℕ) → k < l.taken-index → (taken_name (get_or l.taken-items k Sum) ≡ l.name → ⊥)
