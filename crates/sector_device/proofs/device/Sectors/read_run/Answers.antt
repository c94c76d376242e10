use Rattle.std.proofs.Common.{◌∙◌}
use Rattle.sector_device.proofs.WriteRuns.{stays_then}
use Rattle.sector_device.proofs.Runs.{run_grows}
use Rattle.sector_device.proofs.device.Sectors.read_run.Goals as goal

pub loop-k-preserved : goal.loop-k-preserved
loop-k-preserved g c =
    let so_far = c.loop-k.invariant in
    let earlier = c.read.ensures.word in
    let state = g.Self.Sectors.state in record {
      size = c.read.ensures.size ∙ so_far.size;
      failures = c.in_ok-read.ensures.failures ∙ so_far.failures;
      word = λ w. so_far.word (earlier w);
      goes_on = λ always was. c.read.ensures.goes_on always (so_far.goes_on always was);
      bytes = λ w. run_grows c.args.first c.loop-k.k (state c.args.self.now).reads (state c.loop-k.self).reads
          c.loop-k.to c.put_sector.new.bytes c.read.new.to
          (so_far.stays (earlier w)).reads (c.in_ok-read.ensures.bytes w) c.put_sector.ensures.here
          c.put_sector.ensures.before (so_far.bytes (earlier w));
      stays = λ w. stays_then _ _ _ (so_far.stays (earlier w)) (c.read.ensures.stays w);
    }
