use Rattle.std.proofs.Common.{inl}
use Rattle.std.proofs.lemmas.Result.{err_from_is_err_and}
use Rattle.warehouse.proofs.GrowingLemmas.{prepares-with, refused-with, prepared-is}
use Rattle.batch_admission.proofs.CallerLemmas.{clean-texts}
use Rattle.warehouse.proofs.growing.GrowingBatch.prepared.Goals as goal

pub returns-in_err-totals-clause-model : goal.returns-in_err-totals-clause-model
returns-in_err-totals-clause-model c =
    let p = err_from_is_err_and c.from_residual-in_err-totals.result c.from_residual-in_err-totals.ensures.1 in
    rw (p.1, p.2) (λ w rows root_is modes_are grown.
    let checked = c.in_ok-more.ensures.model w rows root_is modes_are grown in
    inl (refused-with w c.args.number rows c.in_ok-more.more checked.0 checked.1 c.in_err-totals.field-0.0
    (c.in_err-totals.ensures.model w rows root_is grown.found)))

pub returns-clause-model : goal.returns-clause-model
returns-clause-model c = λ w rows root_is modes_are grown.
    let checked = c.in_ok-more.ensures.model w rows root_is modes_are grown in
    prepares-with w c.args.number rows c.in_ok-more.more checked.0 checked.1 c.args.root.now c.row_count.result
    c.in_ok-totals.totals c.with_segment.result root_is
    (c.row_count.ensures.count w.rows c.args.root.now rows grown)
    (c.in_ok-totals.ensures.model w rows root_is grown.found) c.with_segment.ensures.more c.with_segment.ensures.root
    c.with_segment.ensures.memory

pub returns-clause-ready : goal.returns-clause-ready
returns-clause-ready c =
    let batch = c.args.self.now in
    prepared-is batch c.args.root.now c.args.number c.in_ok-segment.segment.items c.in_ok-more.more c.row_count.result
    c.in_ok-totals.totals c.with_segment.result c.with_segment.ensures.segment c.with_segment.ensures.more
    c.with_segment.ensures.root c.with_segment.ensures.spelled
    (clean-texts batch.found c.in_ok-totals.ensures.clean) c.in_ok-segment.ensures.ok c.in_ok-totals.ensures.follows
    c.in_ok-more.ensures.more
