use Rattle.std.proofs.Common.{◌≡◌, ℕ, ◌+◌, ◌-◌, List, ◌++◌, length, take, drop, refl, ◌∙◌, ap, arith, length-drop}
use Rattle.std.proofs.lemmas.List.{length-take-le}
use borrow.Rule.Slice.PartMut.{post_of}
use Rattle.object_store.proofs.Frames.{bytes_same}
use Rattle.object_store.specs.Places.{bytes_at}
use Rattle.object_store.proofs.DeviceCalls.{reads_then}
use Rattle.object_store.proofs.Pieces.{range_grows, part_within}
use Rattle.object_store.proofs.read.read_range.Goals as goal

pub loop-done-preserved : goal.loop-done-preserved
loop-done-preserved g c =
    let so_far = c.loop-done.invariant in
    let earlier = c.read_some.ensures.reads.word in
    let s0 = g.D.Sectors.state c.args.device.now in
    let s1 = g.D.Sectors.state c.loop-done.device in
    let to = c.loop-done.to in
    let done = c.loop-done.done in
    let at = c.args.at in
    let first = c.args.first in
    let n = c.in_ok-done.field-0 in
    let new = c.read_some.new.to in
    let sub : List ℕ = take (length to - done) (drop done to) in
    let len : length to ≡ length c.args.to.now = c.loop-done.auto.to in
    let left : length sub ≡ length to - done =
    length-take-le (length to - done) (drop done to) (omega (arith, length-drop done to)) in record {
      within = part_within done n to new (length to - done) (omega (arith, c.loop-done-test.true))
          (omega (arith, c.in_ok-done.ensures.many.1, left)) (c.read_some.auto.to ∙ left);
      reads = reads_then g.D.Sectors c.args.device.now c.loop-done.device c.read_some.new.device so_far.reads
          c.read_some.ensures.reads;
      failures = c.in_ok-done.ensures.failures ∙ so_far.failures;
      bytes = λ w total enough.
          let same : bytes_at s1.reads first total ≡ bytes_at s0.reads first total =
          bytes_same s1.reads s0.reads first total
          (λ i held. (so_far.reads.only (earlier w)).others i (λ none. none)) in
          range_grows (bytes_at s0.reads first total) to sub new _ (post_of done (length to - done) to) at done n
          (omega (arith, c.loop-done-test.true)) c.in_ok-done.ensures.many.1 c.read_some.auto.to
          (so_far.bytes (earlier w) total enough)
          (c.in_ok-done.ensures.bytes w total (omega (arith, left, len, enough, c.loop-done-test.true))
          ∙ ap (λ (l : List ℕ). take n (drop (at + done) l) ++ drop n sub) same)
          refl;
    }
