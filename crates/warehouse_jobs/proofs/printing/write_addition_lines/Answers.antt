use Rattle.warehouse_jobs.proofs.printing.write_addition_lines.Goals as goal

pub returns-in-Skipped : goal.returns-in-Skipped
returns-in-Skipped g c = rw c.in-Skipped.is (c.write_skipped.ensures c.args.rows)
