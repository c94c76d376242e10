use Rattle.std.proofs.Common.{◌≡◌, ℕ, ◌-◌, ◌≤◌, List, ◌++◌, length, take, drop, arith}
use Rattle.std.proofs.KnownBytes.{Appends-trans}
use Rattle.std.proofs.lemmas.Grind.{common_steps}
use Rattle.ssb_reports.proofs.writing.write_bytes.Goals as goal

still_whole : (bytes before left : List ℕ) (taken : ℕ) → bytes ≡ before ++ left → taken ≤ length left
    → bytes ≡ (before ++ take taken left) ++ take (length left - taken) (drop taken left)
still_whole bytes before left taken whole bound = grind (arith, common_steps)

-- what was taken joins what was written before
pub loop-preserved : goal.loop-preserved
loop-preserved g c =
    let before = c.loop.invariant in (
      before.0 ++ take c.in_ok-taken.taken c.loop.left.now,
      still_whole _ before.0 _ c.in_ok-taken.taken before.1
          c.in_ok-taken.ensures.bound,
      Appends-trans _ _ _ before.0 _ before.2 c.in_ok-taken.ensures.bytes,
    )
