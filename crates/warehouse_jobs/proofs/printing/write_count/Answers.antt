use Rattle.std.proofs.Common.{rules}
use Rattle.ssb_reports.proofs.Beginnings.{Writes-flushed}
use Rattle.warehouse_jobs.specs.Printed.{count_line}
use Rattle.warehouse_jobs.proofs.printing.write_count.Goals as goal

pub returns : goal.returns
returns g c = Writes-flushed _ (g.W.Write.contents c.write_named.new.out) _ _ (count_line c.args.count) (search rules)
    c.flush.ensures.bytes c.flush.ensures.fault
