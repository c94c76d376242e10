use Rattle.std.proofs.Common.{⊎_elim, inl, inr, None, ◌++◌, ◌∙◌, ap, List, ℕ}
use Rattle.report_formats.specs.Fields.{formatted}
use Rattle.warehouse.specs.Session.{device_of}
use Rattle.warehouse_jobs.specs.Reporting.{answered_by_modes, batches_asked}
use Rattle.c_library.proofs.Found.{same_facts}
use Rattle.c_library.proofs.answering.answer_on.Goals as goal

pub returns-in-Err-clause-refused : goal.returns-in-Err-clause-refused
returns-in-Err-clause-refused g c keeps facts shows =
    ⊎_elim (λ memory. inl (inl memory)) (λ device. inr (inl device))
    (c.in-Err.ensures.refused.never facts None shows (keeps c.in-Err.field-0-1))

pub returns-in-Ok-report_formatted-clause-answers : goal.returns-in-Ok-report_formatted-clause-answers
returns-in-Ok-report_formatted-clause-answers g c keeps facts shows =
    let k = keeps (device_of c.report_formatted.new.session) in
    let found = c.in-Ok.ensures.ok facts None shows (c.report_formatted.ensures.word k) in
    let ends = (c.in-Ok-report_formatted.ensures.reports found.0 found.3 k).ends in record {
      w = found.0;
      of = same_facts facts found.0 found.1;
      is_asked = ends.1;
      text_is = ends.2
          ∙ ap (λ (xs : List ℕ). xs ++ answered_by_modes (formatted c.args.asked.now) found.0
          (batches_asked found.0 c.args.as_of) c.args.asked.now.query) c.new-text.ensures.items;
    }

pub returns-clause-refused : goal.returns-clause-refused
returns-clause-refused g c keeps facts shows =
    let k = keeps (device_of c.report_formatted.new.session) in
    let found = c.in-Ok.ensures.ok facts None shows (c.report_formatted.ensures.word k) in
    ⊎_elim (λ output. inl (inr output.0))
    (λ nothing. ⊎_elim (λ device. inr (inl device.0))
    (λ no. inr (inr (found.0, same_facts facts found.0 found.1, no.0))) nothing.1)
    (c.in-Err-report_formatted.ensures.reports found.0 found.3 k).ends
