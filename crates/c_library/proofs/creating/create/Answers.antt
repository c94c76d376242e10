use Rattle.std.proofs.Common.{◌≡◌, ◌∙◌, ap, inl, inr, refl, [], Ok}
use Rattle.std.proofs.lemmas.Result.{IfOk-weaker, err_from_is_err_and}
use Rattle.journal_device.specs.Calls.{journal_of}
use Rattle.c_library.specs.Creating.{rows_of_tables}
use Rattle.c_library.proofs.creating.create.Goals as goal

pub returns-clause-creates : goal.returns-clause-creates
returns-clause-creates c =
    let read : rows_of_tables c.args.customer.now c.args.supplier.now c.args.part.now c.args.date.now
    ≡ Ok c.in_ok-dims.dims =
    c.in_ok-dims.ensures
    (record {
      customer = c.args.customer.now;
      supplier = c.args.supplier.now;
      part = c.args.part.now;
      date = c.args.date.now;
      lineorder = [];
    }) refl refl refl refl in
    IfOk-weaker c.journal_of.result _ _
    (λ journal is. (
      c.in_ok-dims.dims,
      read,
      (c.in_ok-calls.calls.items, is ∙ ap journal_of c.as_slice.ensures.value, c.in_ok-calls.ensures.creates),
    ))
    c.journal_of.ensures.ok

pub returns-in_err-dims-clause-refused : goal.returns-in_err-dims-clause-refused
returns-in_err-dims-clause-refused c =
    let p = err_from_is_err_and c.from_residual.result c.from_residual.ensures.1 in
    rw (p.1, p.2)
    (inl (c.in_err-dims.ensures
    (record {
      customer = c.args.customer.now;
      supplier = c.args.supplier.now;
      part = c.args.part.now;
      date = c.args.date.now;
      lineorder = [];
    }) refl refl refl refl))

pub returns-in_err-calls-clause-refused : goal.returns-in_err-calls-clause-refused
returns-in_err-calls-clause-refused c =
    let p = err_from_is_err_and c.from_residual-in_err-calls.result c.from_residual-in_err-calls.ensures.1 in
    let read : rows_of_tables c.args.customer.now c.args.supplier.now c.args.part.now c.args.date.now
    ≡ Ok c.in_ok-dims.dims =
    c.in_ok-dims.ensures
    (record {
      customer = c.args.customer.now;
      supplier = c.args.supplier.now;
      part = c.args.part.now;
      date = c.args.date.now;
      lineorder = [];
    }) refl refl refl refl in
    rw (p.1, p.2) (inr (c.in_ok-dims.dims, read, c.in_err-calls.ensures.refused))
