use Rattle.std.proofs.Common.{◌≡◌, ◌∙◌, sym, ap, subst, ◌++◌, ◌∷◌, [], List, codes, length}
use Rattle.std.specs.Fmt.{decimal}
use Rattle.std.specs.List.{join_with_byte}
use Rattle.std.proofs.lemmas.Result.{err_from_is_err_and}
use Rattle.cube_model.specs.declared.answer.Line.{Line}
use Rattle.partial_reports.proofs.CallerLemmas.{line_lf}
use Rattle.partial_reports.specs.Reading.{IsNextLine, line_fields}
use Rattle.partial_reports.proofs.ReadingLemmas.{count_front, count_lacks, line_front}
use Rattle.partial_reports.proofs.WordLines.{not_empty, not_full}
use Rattle.partial_reports.proofs.reading.read_line.Goals as goal

pub returns-in_default-clause-next : goal.returns-in_default-clause-next
returns-in_default-clause-next c = λ next left is.
    absurd (c.in_default.ensures.found (join_with_byte 124 (line_fields next)) left
    (line_lf c.args.query.now next is.readable) (is.spelled ∙ line_front next left))

pub returns-in_default-clause-end : goal.returns-in_default-clause-end
returns-in_default-clause-end c = λ few spelled.
    let many = length c.args.lines.now in
    absurd (c.in_default.ensures.found (codes "rows " ++ decimal many) [] (count_lacks many few)
    (spelled ∙ count_front many))

pub returns-in_err-check_count-clause-next : goal.returns-in_err-check_count-clause-next
returns-in_err-check_count-clause-next c = λ next left is.
    let halves =
    c.in-Some.ensures.found (join_with_byte 124 (line_fields next)) left (line_lf c.args.query.now next is.readable)
    (is.spelled ∙ line_front next left) in
    absurd (not_empty c.in-Some.back.now left c.is_empty.result halves.1 is.more c.is_empty.ensures c.if-is_empty.true)

pub returns-then-is_empty-clause-next : goal.returns-then-is_empty-clause-next
returns-then-is_empty-clause-next c = λ next left is.
    let halves =
    c.in-Some.ensures.found (join_with_byte 124 (line_fields next)) left (line_lf c.args.query.now next is.readable)
    (is.spelled ∙ line_front next left) in
    absurd (not_empty c.in-Some.back.now left c.is_empty.result halves.1 is.more c.is_empty.ensures c.if-is_empty.true)

pub returns-in_err-line-clause-next : goal.returns-in_err-line-clause-next
returns-in_err-line-clause-next c = λ next left is.
    let halves =
    c.in-Some.ensures.found (join_with_byte 124 (line_fields next)) left (line_lf c.args.query.now next is.readable)
    (is.spelled ∙ line_front next left) in
    let p = err_from_is_err_and c.from_residual-in_err-line.result c.from_residual-in_err-line.ensures.1 in
    rw (p.1, p.2) (c.in_err-line.ensures next is.readable halves.0)

pub returns-in_err-line-clause-end : goal.returns-in_err-line-clause-end
returns-in_err-line-clause-end c = λ few spelled.
    let many = length c.args.lines.now in
    let halves = c.in-Some.ensures.found (codes "rows " ++ decimal many) [] (count_lacks many few)
    (spelled ∙ count_front many) in
    absurd (not_full c.in-Some.back.now c.is_empty.result halves.1 c.is_empty.ensures c.if-is_empty.false)

pub returns-in_err-left-clause-next : goal.returns-in_err-left-clause-next
returns-in_err-left-clause-next c = λ next left is.
    let halves =
    c.in-Some.ensures.found (join_with_byte 124 (line_fields next)) left (line_lf c.args.query.now next is.readable)
    (is.spelled ∙ line_front next left) in
    let same : c.in_ok-line.line ≡ next = c.in_ok-line.ensures next is.readable halves.0 in
    let p = err_from_is_err_and c.from_residual-in_err-left.result c.from_residual-in_err-left.ensures.1 in
    let found : IsNextLine c.args.query.now c.as_slice.result.now c.in_ok-line.line c.args.text.now left =
    subst (λ (line : Line). IsNextLine c.args.query.now c.as_slice.result.now line c.args.text.now left) (sym same)
    (subst (λ (lines : List Line). IsNextLine c.args.query.now lines next c.args.text.now left) (sym c.as_slice.ensures)
    is) in
    rw (p.1, p.2) (c.in_err-left.ensures.complete left found)

pub returns-in_err-left-clause-end : goal.returns-in_err-left-clause-end
returns-in_err-left-clause-end c = λ few spelled.
    let many = length c.args.lines.now in
    let halves = c.in-Some.ensures.found (codes "rows " ++ decimal many) [] (count_lacks many few)
    (spelled ∙ count_front many) in
    absurd (not_full c.in-Some.back.now c.is_empty.result halves.1 c.is_empty.ensures c.if-is_empty.false)

pub returns-clause-line : goal.returns-clause-line
returns-clause-line c = record {
  line = c.in_ok-line.line;
  added = c.in_ok-push.ensures.ok;
  spelled = c.in_ok-left.ensures.text;
  are = rw (c.in_ok-push.ensures.ok, ← c.as_slice.ensures) c.in_ok-left.ensures.are;
}

pub returns-clause-next : goal.returns-clause-next
returns-clause-next c = λ next left is.
    let halves =
    c.in-Some.ensures.found (join_with_byte 124 (line_fields next)) left (line_lf c.args.query.now next is.readable)
    (is.spelled ∙ line_front next left) in
    let same : c.in_ok-line.line ≡ next = c.in_ok-line.ensures next is.readable halves.0 in
    let found : IsNextLine c.args.query.now c.as_slice.result.now c.in_ok-line.line c.args.text.now left =
    subst (λ (line : Line). IsNextLine c.args.query.now c.as_slice.result.now line c.args.text.now left) (sym same)
    (subst (λ (lines : List Line). IsNextLine c.args.query.now lines next c.args.text.now left) (sym c.as_slice.ensures)
    is) in (
      c.in_ok-left.ensures.complete left found,
      c.in_ok-push.ensures.ok
          ∙ ap (λ (line : Line). c.args.lines.now ++ line ∷ []) same,
    )

pub returns-clause-end : goal.returns-clause-end
returns-clause-end c = λ few spelled.
    let many = length c.args.lines.now in
    let halves = c.in-Some.ensures.found (codes "rows " ++ decimal many) [] (count_lacks many few)
    (spelled ∙ count_front many) in
    absurd (not_full c.in-Some.back.now c.is_empty.result halves.1 c.is_empty.ensures c.if-is_empty.false)
