use Rattle.std.proofs.Common.{◌≡◌, ◌∙◌, sym, ◌++◌, rules, arith}
use Rattle.std.proofs.lemmas.Grind.{common_steps}
use Rattle.std.proofs.lemmas.List.{append_cancel_left}
use Rattle.partial_reports.specs.Readable.{IsReadableLine}
use Rattle.ssb_reports.specs.Report.{line_text}
use Rattle.partial_reports.proofs.Rising.{all_and}
use Rattle.partial_reports.proofs.reading.after_line.Goals as goal

pub returns-in_err-check_readable-clause-complete : goal.returns-in_err-check_readable-clause-complete
returns-in_err-check_readable-clause-complete c =
    λ left next. absurd (c.in_err-check_readable.ensures.refused next.readable)

pub returns-in_err-check_follows-clause-complete : goal.returns-in_err-check_follows-clause-complete
returns-in_err-check_follows-clause-complete c =
    λ left next. absurd (c.in_err-check_follows.ensures.refused next.rising)

pub returns-in-Some-clause-are : goal.returns-in-Some-clause-are
returns-in-Some-clause-are c = record {
  each = all_and (IsReadableLine c.args.query.now) c.args.lines.now c.args.line.now c.requires.each
      c.in_ok-check_readable.ensures.ok;
  rising = c.in_ok-check_follows.ensures.ok;
}

pub returns-in-Some-clause-complete : goal.returns-in-Some-clause-complete
returns-in-Some-clause-complete c = λ left next.
    let spelled : c.args.text.now ≡ line_text c.args.line.now ++ c.in-Some.left.now =
    first_of (search rules, grind (arith, common_steps)) in
    append_cancel_left (line_text c.args.line.now) c.in-Some.left.now left (sym spelled ∙ next.spelled)
