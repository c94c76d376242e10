use Rattle.std.proofs.Common.{◌≡◌, ◌<◌, ℕ, suc, [], slice_index_or}
use Rattle.std.specs.declared.cmp.Ordering.TheVariants.{Less}
use Rattle.dimensions.proofs.MemberLaws.{text_cmp}
use Rattle.dimensions.proofs.ranks.ascend.Given as goal

abbrev pub invariant-loop-place : goal.invariant-loop-place
invariant-loop-place l = (k : ℕ) → suc k < l.place
    → text_cmp (slice_index_or l.texts k []) (slice_index_or l.texts (suc k) []) ≡ Less
