use Rattle.batch_loader.proofs.rows.line_order_numbers.Goals as goal

pub returns-in-Some-clause-fits : goal.returns-in-Some-clause-fits
returns-in-Some-clause-fits c = c.in-Some.ensures.fits c.args.line
