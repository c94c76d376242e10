use Rattle.std.proofs.Common.{◌∙◌, sym, [], length, inl, inr}
use Rattle.std.proofs.lemmas.Option.{none-some, same_Some}
use Rattle.std.proofs.lemmas.Result.{err_from_is_err_and}
use Rattle.partial_reports.proofs.WordLines.{end_or_word, not_empty, not_full, word_line, word_read}
use Rattle.partial_reports.proofs.head_reading.parse_words.Goals as goal

pub returns-in_err-line : goal.returns-in_err-line
returns-in_err-line c = λ words left short e.
    elim (end_or_word words c.loop-taken.words c.loop-taken.lines.left.now left c.loop-taken._taken
    (length c.args.lines.now.left.now) (c.loop-taken.invariant words left short e)) [
      | inl end ↦ absurd (c.in_err-line.ensures [] left tt end.spelled)
      | inr next ↦ absurd (c.in_err-line.ensures (word_line next.word) next.others next.lacks next.spelled)
    ]

pub returns-then-is_empty : goal.returns-then-is_empty
returns-then-is_empty c = λ words left short e.
    elim (end_or_word words c.loop-taken.words c.loop-taken.lines.left.now left c.loop-taken._taken
    (length c.args.lines.now.left.now) (c.loop-taken.invariant words left short e)) [
      | inl end ↦ (end.is, (c.in_ok-line.ensures [] left tt end.spelled).1)
      | inr next ↦
          let read = c.in_ok-line.ensures (word_line next.word) next.others next.lacks next.spelled in
          absurd (not_empty c.in_ok-line.line.now (word_line next.word) c.is_empty.result read.0 next.long
          c.is_empty.ensures c.if-is_empty.true)
    ]

pub returns-in_err-word : goal.returns-in_err-word
returns-in_err-word c = λ words left short e.
    elim (end_or_word words c.loop-taken.words c.loop-taken.lines.left.now left c.loop-taken._taken
    (length c.args.lines.now.left.now) (c.loop-taken.invariant words left short e)) [
      | inl end ↦
          absurd (not_full c.in_ok-line.line.now c.is_empty.result (c.in_ok-line.ensures [] left tt end.spelled).0
          c.is_empty.ensures c.if-is_empty.false)
      | inr next ↦
          let read = c.in_ok-line.ensures (word_line next.word) next.others next.lacks next.spelled in
          let p = err_from_is_err_and c.from_residual-in_err-word.result c.from_residual-in_err-word.ensures.1 in
          rw (p.1, p.2) (c.in_err-word.ensures next.word read.0)
    ]

pub returns-in-None : goal.returns-in-None
returns-in-None c = λ words left short e.
    elim (end_or_word words c.loop-taken.words c.loop-taken.lines.left.now left c.loop-taken._taken
    (length c.args.lines.now.left.now) (c.loop-taken.invariant words left short e)) [
      | inl end ↦
          absurd (not_full c.in_ok-line.line.now c.is_empty.result (c.in_ok-line.ensures [] left tt end.spelled).0
          c.is_empty.ensures c.if-is_empty.false)
      | inr next ↦
          let read = c.in_ok-line.ensures (word_line next.word) next.others next.lacks next.spelled in
          absurd (none-some next.word (sym c.in-None.is ∙ c.in_ok-word.ensures next.word read.0))
    ]

pub loop-taken-preserved : goal.loop-taken-preserved
loop-taken-preserved c = λ words left short e.
    elim (end_or_word words c.loop-taken.words c.loop-taken.lines.left.now left c.loop-taken._taken
    (length c.args.lines.now.left.now) (c.loop-taken.invariant words left short e)) [
      | inl end ↦
          absurd (not_full c.in_ok-line.line.now c.is_empty.result (c.in_ok-line.ensures [] left tt end.spelled).0
          c.is_empty.ensures c.if-is_empty.false)
      | inr next ↦
          let read = c.in_ok-line.ensures (word_line next.word) next.others next.lacks next.spelled in
          let same = same_Some c.in-Some.word next.word (sym c.in-Some.is ∙ c.in_ok-word.ensures next.word read.0) in
          word_read words c.loop-taken.words c.push.new.self c.loop-taken.lines.left.now left c.next.new.self.left.now
          c.loop-taken._taken
          (length c.args.lines.now.left.now) c.in-Some.word next same c.in_ok-push-in-Some.ensures.ok read.1
    ]
