use Rattle.std.proofs.Common.{◌≡◌, Some, length, sym, ap, ◌∙◌, subst, arith, take, length-take}
use Rattle.wire.specs.Parts.{Gives}
use Rattle.wire.specs.Runs.{HasRead}
use Rattle.wire.proofs.CallerLemmas.{HasRead-then}
use Rattle.wire.proofs.WholeLemmas.{part_more}
use Rattle.wire.proofs.whole.read_to_end.Goals as goal

pub loop-at-preserved : goal.loop-at-preserved
loop-at-preserved g c =
    let before = c.loop-at.invariant in
    let many : length (take c.min-count.result c.loop-at.buffer) ≡ c.min-count.result =
    omega (arith, length-take c.min-count.result c.loop-at.buffer) in
    let next : HasRead g.S.Source c.loop-at.source c.read_part.new.source = c.in_ok-read_part.ensures.run in record {
      within = omega arith;
      read = HasRead-then g.S.Source g.met.S.Source.reads_on _ _ _ before.read next;
      so_far = λ keeps has.
          let kept = next.stays.word keeps in
          let gives =
          subst (λ text. Gives text c.loop-at.at c.read_part.new.to) (before.read.stays.texts kept c.args.id)
          (c.in_ok-read_part.ensures.bytes keeps) in
          part_more _ c.loop-at.at c.min-count.result c.loop-at.out.items c.read_part.new.to (before.so_far kept has)
          gives (c.read_part.auto.to ∙ many) ∙ ap Some (sym c.in_ok-extend_from_slice.ensures.items);
    }
