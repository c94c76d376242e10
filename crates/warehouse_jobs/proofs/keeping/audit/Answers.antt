use Rattle.std.proofs.lemmas.Result.{err_from_is_err_and}
use Rattle.std.proofs.Common.{ap, Err, Bool, inl, subst}
use Rattle.warehouse.proofs.Cuboids.{laid_at}
use Rattle.warehouse_jobs.proofs.Cuboids.{audit-refused}
use Rattle.ssb_reports.specs.Writing.{AppendsBeginning}
use Rattle.warehouse_jobs.specs.Printed.{audit_text}
use Rattle.warehouse_jobs.proofs.keeping.audit.Goals as goal

pub returns-in_err-yes-clause-audits : goal.returns-in_err-yes-clause-audits
returns-in_err-yes-clause-audits g c w at k = record {
  ends = audit-refused g.D.Sectors w c.args.session.now c.audit.new.self (g.W.Write.contents c.args.out.now)
      (g.W.Write.contents c.args.out.now) _ _
      (λ e. (c.in_err-yes.ensures.reads.calls.device (ap (λ f. Err f) e)).failed)
      (λ no. (
        c.in_err-yes.ensures.refused no w (laid_at g.D.Sectors w c.args.session.now at) k,
        c.in_err-yes.ensures.reads.stays (λ is. no (cc)) w at,
      )) (err_from_is_err_and _ c.from_residual.ensures.1);
  leaves = c.audit.ensures.reads.leaves w at;
}

pub returns-in_err-write_audit-clause-audits : goal.returns-in_err-write_audit-clause-audits
returns-in_err-write_audit-clause-audits g c w at k =
    let p = err_from_is_err_and c.from_residual-in_err-write_audit.result
    c.from_residual-in_err-write_audit.ensures.1 in
    let written = c.in_err-write_audit.ensures in
    rw (p.1, p.2) (record {
      ends = inl (
        written.0,
        c.in_ok-yes.ensures.reads.stays (λ is. absurd cc) w at,
        subst (λ (yes : Bool). AppendsBeginning (g.W.Write.contents c.args.out.now)
            (g.W.Write.contents c.write_audit.new.out) (audit_text yes)) (c.in_ok-yes.ensures.yes w at k) written.1,
      );
      leaves = c.audit.ensures.reads.leaves w at;
    })
