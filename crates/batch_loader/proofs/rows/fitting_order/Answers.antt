use Rattle.batch_loader.proofs.rows.fitting_order.Goals as goal

pub returns : goal.returns
returns c = (
  c.in_ok-fitting.ensures,
  (
    c.in_ok-fitting-2.ensures,
    (c.in_ok-fitting_few_digits.ensures, (c.in_ok-fitting-3.ensures, (c.in_ok-fitting-4.ensures, tt))),
  ),
)
