use Rattle.batch_admission.proofs.admission.Admission.findings.Goals as goal

pub returns-clause-found : goal.returns-clause-found
returns-clause-found c = λ dimensions. rw (← c.self.view_is) (c.none.ensures.found dimensions)
