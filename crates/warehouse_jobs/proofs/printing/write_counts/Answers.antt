use Rattle.std.proofs.Common.{rules}
use Rattle.warehouse_jobs.proofs.Additions.{some-additions}
use Rattle.warehouse_jobs.proofs.printing.write_counts.Goals as goal

pub returns : goal.returns
returns g c = rw (some-additions c.args.batches c.args.additions c.if-additions-eq0.false) (search rules)
