use Rattle.std.proofs.Common.{◌≡◌, ◌∙◌, ap, sym, subst, arith, ℕ, List, get_or}
use Rattle.std.proofs.lemmas.List.{get_or_read}
use Rattle.std.proofs.lemmas.Result.{err_from_is_err_and}
use Rattle.dimensions.specs.declared.coded.CodedColumn.{CodedColumn}
use Rattle.dimensions.specs.Coded.{no_coded}
use Rattle.dimensions.specs.Shapes.{lower_of}
use Rattle.dimension_objects.specs.Columns.{IsOrderOfColumns, ReadsCodes, places_of}
use Rattle.dimension_objects.proofs.Refused.{refused_so}
use Rattle.dimension_objects.proofs.Steps.{codes_none, codes_step, next_lt}
use Rattle.dimension_objects.proofs.reading.read_columns.Goals as goal

pub returns-in_err-codes-clause-refused : goal.returns-in_err-codes-clause-refused
returns-in_err-codes-clause-refused c =
    let p = err_from_is_err_and c.from_residual.result c.from_residual.ensures.1 in
    let are = subst (λ (n : ℕ). IsOrderOfColumns n c.args.order.now) (sym c.requires.count) c.requires.order in
    let places : c.place_count-places.result ≡ places_of c.args.rows c.loop-column.columns.items
    (lower_of c.args.axis (get_or c.args.order.now c.loop-column.column-index 0)) =
    c.place_count-places.ensures
    ∙ ap (λ (columns : List CodedColumn). places_of c.args.rows columns
    (lower_of c.args.axis (get_or c.args.order.now c.loop-column.column-index 0))) c.as_slice.ensures.value in
    rw (p.1, p.2) (refused_so c.in_err-codes.field-0.0
    (λ short. codes_none c.args.axis c.args.rows c.args.order.now c.loop-column.column-index c.loop-column-test.true
    c.args.cursor.now c.loop-column.cursor c.args.columns.now.items c.loop-column.columns.items
    c.loop-column.invariant are
    (omega (arith, short, places)))
    c.in_err-codes.ensures.refused)

pub loop-column-preserved : goal.loop-column-preserved
loop-column-preserved c =
    let are = subst (λ (n : ℕ). IsOrderOfColumns n c.args.order.now) (sym c.requires.count) c.requires.order in
    let column : ℕ = get_or c.args.order.now c.loop-column.column-index 0 in
    let places : c.place_count-places.result ≡ places_of c.args.rows c.loop-column.columns.items
    (lower_of c.args.axis (get_or c.args.order.now c.loop-column.column-index 0)) =
    c.place_count-places.ensures
    ∙ ap (λ (columns : List CodedColumn). places_of c.args.rows columns (lower_of c.args.axis column))
    c.as_slice.ensures.value in
    let lt = next_lt c.args.axis c.args.rows c.args.order.now c.loop-column.column-index c.loop-column-test.true
    c.args.cursor.now c.loop-column.cursor c.args.columns.now.items c.loop-column.columns.items
    c.loop-column.invariant are in
    let read = get_or_read c.loop-column.columns.items column c.index_mut.result.now lt c.index_mut.ensures.value
    no_coded in
    codes_step c.args.axis c.args.rows c.args.order.now c.loop-column.column-index c.loop-column-test.true
    c.args.cursor.now c.loop-column.cursor c.args.columns.now.items c.loop-column.columns.items
    c.loop-column.invariant are
    (record { texts = c.index_mut.result.now.texts; codes = c.in_ok-codes.codes }) c.read_codes.new.cursor
    (ap (λ own. own.texts) read)
    (subst (λ (n : ℕ). ReadsCodes n c.loop-column.cursor c.read_codes.new.cursor c.in_ok-codes.codes) places
    c.in_ok-codes.ensures.ok)
