use Rattle.std.proofs.Common.{inl, refl}
use Rattle.std.proofs.lemmas.Result.{err_from_is_err_and}
use Rattle.warehouse_jobs.proofs.checking.check.Goals as goal

pub returns-in_err-write_sound-in-None-clause-checks : goal.returns-in_err-write_sound-in-None-clause-checks
returns-in_err-write_sound-in-None-clause-checks g c w at k =
    let p = err_from_is_err_and c.from_residual-in_err-write_sound-in-None.result
    c.from_residual-in_err-write_sound-in-None.ensures.1 in
    let now = c.in_ok-check.ensures.reads.stays (λ is. cc) w at in
    let wrote = c.in_err-write_sound-in-None.ensures in
    rw (p.1, p.2) (record {
      ends = inl (
        wrote.0,
        now,
        c.in_ok-status-in-None.status,
        c.in_ok-status-in-None.ensures.ok w now k,
        wrote.1,
      );
      leaves = c.check.ensures.reads.leaves w at;
    })

pub returns-in_ok-write_sound-in-None-clause-checks : goal.returns-in_ok-write_sound-in-None-clause-checks
returns-in_ok-write_sound-in-None-clause-checks g c w at k =
    let now = c.in_ok-check.ensures.reads.stays (λ is. cc) w at in record {
      ends = (
        refl,
        now,
        c.in_ok-status-in-None.status,
        c.in_ok-status-in-None.ensures.ok w now k,
        c.in_ok-write_sound-in-None.ensures,
      );
      leaves = c.check.ensures.reads.leaves w at;
    }
