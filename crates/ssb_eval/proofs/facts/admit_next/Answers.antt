use Rattle.ssb_eval.proofs.Admitting.{accepted_by}
use Rattle.ssb_eval.proofs.facts.admit_next.Goals as goal

pub returns-clause-taken : goal.returns-clause-taken
returns-clause-taken c =
    accepted_by c.args.admission.now c.admit_found.new.self c.next_number-number.result c.args.found.now
    c.admit_found.result c.admit_found.ensures.admits
