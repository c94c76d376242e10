use Rattle.std.proofs.Common.{◌≡◌, true, false, sym, ap, ◌∙◌, Err}
use Rattle.warehouse_jobs.proofs.loading.end.Goals as goal

pub returns-in_err-status : goal.returns-in_err-status
returns-in_err-status g c w at k =
    let bad : true ≡ false = sym (c.in_err-status.ensures.failed.0 (ap (λ f. Err f) c.in_err-status.ensures.only))
    ∙ at.fine in
    absurd (cc)

pub returns : goal.returns
returns g c w at k = rw (sym (c.in_ok-status.ensures.ok w at k).batches) c.write_count.ensures
