use Rattle.std.proofs.Common.{◌≡◌, ◌<◌, ℕ, List, length}
use Rattle.partial_reports.specs.Head.{numbers_text}
use Rattle.partial_reports.proofs.NumbersLeft.{AreShort, NumbersLeft}
use Rattle.partial_reports.proofs.head_reading.numbers_in.Given as goal

abbrev pub invariant-loop-field : goal.invariant-loop-field
invariant-loop-field l =
    (numbers : List ℕ) → 0 < length numbers → AreShort numbers → l.fields ≡ numbers_text numbers
    → NumbersLeft numbers l.numbers l.left

abbrev pub decreases-loop-field : goal.decreases-loop-field
decreases-loop-field l = length l.left
