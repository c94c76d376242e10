use Rattle.ssb_reports.specs.declared.number.QNumber.TheVariants.{Q11}
use Rattle.std.proofs.Common.{◌≡◌, ℕ, ◌<◌, get_or}
use Rattle.ssb_reports.specs.Benchmark.{query_number_text}
use Rattle.query_words.proofs.names.number.Given as goal

abbrev pub invariant-loop-number : goal.invariant-loop-number
invariant-loop-number l = (k : ℕ) → k < l.number-index
    → (query_number_text (get_or l.number-items k (Q11)) ≡ l.name → ⊥)
