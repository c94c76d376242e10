use Rattle.std.proofs.Common.{rules}
use Rattle.ssb_reports.proofs.Beginnings.{Writes-flushed}
use Rattle.trials.specs.Printed.{crashes_line}
use Rattle.trials.proofs.outcome.write_sound.Goals as goal

pub returns : goal.returns
returns g c = Writes-flushed _ (g.W.Write.contents c.write_sound_line.new.out) _ _ (crashes_line c.args.crashes)
    (search rules) c.flush.ensures.bytes c.flush.ensures.fault
