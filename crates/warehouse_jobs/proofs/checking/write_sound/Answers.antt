use Rattle.std.proofs.Common.{subst, ℕ}
use Rattle.std.specs.Io.KnownBytes.{Appends}
use Rattle.ssb_reports.proofs.Beginnings.{Writes-flushed}
use Rattle.warehouse_jobs.specs.Checking.{sound_line, sound_text}
use Rattle.warehouse_jobs.proofs.checking.write_sound.Goals as goal

pub returns : goal.returns
returns g c =
    Writes-flushed _ (g.W.Write.contents c.write_sound_line.new.out) _ _ (sound_text c.args.status.now)
    (subst (λ (n : ℕ). Appends (g.W.Write.contents c.args.out.now) (g.W.Write.contents c.write_sound_line.new.out)
    (sound_line c.args.status.now.batches c.args.status.now.rows n))
    c.stored_in-cuboids.ensures.count c.in_ok-write_sound_line.ensures)
    c.flush.ensures.bytes c.flush.ensures.fault
