use Rattle.std.proofs.Common.{rules, ◌≡◌, length, length-take, take, drop, ◌∙◌, subst, arith}
use Rattle.wire.specs.Parts.{Gives}
use Rattle.wire.specs.Runs.{HasRead}
use Rattle.wire.proofs.CallerLemmas.{HasRead-then}
use Rattle.warehouse.proofs.Compared.{agree-more}
use Rattle.warehouse.proofs.comparing.has_text.Goals as goal

pub loop-at-preserved : goal.loop-at-preserved
loop-at-preserved g c =
    let before = c.loop-at.invariant in
    let many : length (take c.min-count.result c.loop-at.buffer) ≡ c.min-count.result =
    omega (arith, length-take c.min-count.result c.loop-at.buffer) in
    let same : c.read_part.new.to ≡ take c.min-count.result (drop c.loop-at.at c.args.bytes.now) = search rules in
    let next : HasRead g.S.Source c.loop-at.source c.read_part.new.source = c.in_ok-read_part.ensures.run in record {
      within = omega arith;
      read = HasRead-then g.S.Source g.met.S.Source.reads_on _ _ _ before.read next;
      so_far = λ keeps.
          let kept = next.stays.word keeps in
          let gives =
          subst (λ text. Gives text c.loop-at.at c.read_part.new.to) (before.read.stays.texts kept c.args.id)
          (c.in_ok-read_part.ensures.bytes keeps) in
          agree-more _ c.args.bytes.now c.read_part.new.to c.loop-at.at c.min-count.result (before.so_far kept) gives
          (c.read_part.auto.to ∙ many) same;
    }
