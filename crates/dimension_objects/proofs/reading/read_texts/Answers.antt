use Rattle.std.proofs.lemmas.Result.{err_from_is_err_and}
use Rattle.dimension_objects.proofs.Refused.{refused_so}
use Rattle.dimension_objects.proofs.Steps.{texts_none, texts_step}
use Rattle.dimension_objects.proofs.reading.read_texts.Goals as goal

pub returns-in_err-texts-clause-refused : goal.returns-in_err-texts-clause-refused
returns-in_err-texts-clause-refused c =
    let p = err_from_is_err_and c.from_residual.result c.from_residual.ensures.1 in
    rw (p.1, p.2) (refused_so c.in_err-texts.field-0.0
    (texts_none c.args.order.now c.loop-column.column-index c.loop-column-test.true c.args.cursor.now
    c.loop-column.cursor c.args.columns.now.items c.loop-column.columns.items c.loop-column.invariant
    c.requires.order)
    c.in_err-texts.ensures.refused)

pub loop-column-preserved : goal.loop-column-preserved
loop-column-preserved c =
    texts_step c.args.order.now c.loop-column.column-index c.loop-column-test.true c.args.cursor.now
    c.loop-column.cursor c.args.columns.now.items c.loop-column.columns.items c.loop-column.invariant
    c.requires.order
    (record { texts = c.in_ok-texts.texts; codes = c.index_mut.result.now.codes }) c.read.new.cursor
    c.in_ok-texts.ensures.ok.spelled c.in_ok-texts.ensures.ok.proper c.in_ok-texts.ensures.limit
