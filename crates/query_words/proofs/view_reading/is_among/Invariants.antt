use Rattle.std.proofs.Common.{◌≡◌, ◌<◌, ℕ, get_or}
use Rattle.lattice.specs.declared.view.View.{View}
use Rattle.lattice.specs.Views.{index_of}
use Rattle.query_words.proofs.view_reading.is_among.Given as goal

abbrev pub invariant-loop-other : goal.invariant-loop-other
invariant-loop-other l = (k : ℕ) (d : View) → k < l.other-index → index_of (get_or l.views k d) ≡ index_of l.view → ⊥
