use Rattle.query_words.specs.declared.known.Subject.TheVariants.{Quantity}
use Rattle.std.proofs.Common.{◌≡◌, ℕ, ◌<◌, get_or}
use Rattle.query_words.specs.Known.{subject_name}
use Rattle.query_words.proofs.names.number_subject.Given as goal

abbrev pub invariant-loop-subject : goal.invariant-loop-subject
invariant-loop-subject l = (k : ℕ) → k < l.subject-index
    → (subject_name (get_or l.subject-items k Quantity) ≡ l.name → ⊥)
