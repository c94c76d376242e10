use Rattle.std.proofs.Common.{◌∙◌, sym, map}
use Rattle.std.proofs.lemmas.Bool.{both_ways}
use Rattle.std.proofs.lemmas.Result.{err_from_is_err_and}
use Rattle.ssb_reports.specs.Report.{value_text}
use Rattle.partial_reports.proofs.FieldsLemmas.{line_left}
use Rattle.partial_reports.proofs.fields.parse_line.Goals as goal

pub returns-in_err-key : goal.returns-in_err-key
returns-in_err-key c = λ line is e.
    let left = line_left c.args.query.now line c.args.text.now is e in
    let p = err_from_is_err_and c.from_residual.result c.from_residual.ensures.1 in
    rw (p.1, p.2)
    (c.in_err-key.ensures line.key (map value_text line.values) (is.members ∙ sym c.len.ensures) is.plain left)

pub returns-in_err-values : goal.returns-in_err-values
returns-in_err-values c = λ line is e.
    let left = line_left c.args.query.now line c.args.text.now is e in
    let key = c.in_ok-key.ensures line.key (map value_text line.values) (is.members ∙ sym c.len.ensures) is.plain
    left in
    let p = err_from_is_err_and c.from_residual-in_err-values.result c.from_residual-in_err-values.ensures.1 in
    rw (p.1, p.2) (c.in_err-values.ensures line.values (is.values ∙ sym c.len-2.ensures) is.whole key.1)

pub returns-then-has_more : goal.returns-then-has_more
returns-then-has_more c = λ line is e.
    let left = line_left c.args.query.now line c.args.text.now is e in
    let key = c.in_ok-key.ensures line.key (map value_text line.values) (is.members ∙ sym c.len.ensures) is.plain
    left in
    let values = c.in_ok-values.ensures line.values (is.values ∙ sym c.len-2.ensures) is.whole key.1 in
    absurd (both_ways c.has_more.result (c.has_more.ensures values.1) c.if-has_more.true)

pub returns : goal.returns
returns c = λ line is e.
    let left = line_left c.args.query.now line c.args.text.now is e in
    let key = c.in_ok-key.ensures line.key (map value_text line.values) (is.members ∙ sym c.len.ensures) is.plain
    left in
    let values = c.in_ok-values.ensures line.values (is.values ∙ sym c.len-2.ensures) is.whole key.1 in
    λ i. record { key = key.0 i; values = values.0 i }
