use Rattle.std.proofs.Common.{◌∙◌, sym, inl, inr}
use Rattle.std.specs.Fmt.{decimal}
use Rattle.std.proofs.lemmas.Option.{none-some, same_Some}
use Rattle.partial_reports.proofs.NumbersLeft.{last_or_next, last_read, next_left}
use Rattle.partial_reports.proofs.head_reading.numbers_in.Goals as goal
use Rattle.partial_reports.proofs.head_reading.numbers_in.Goals.{in-Some-number_in-2+in_ok-push, in_default-number_in}

pub returns-in-None : goal.returns-in-None
returns-in-None c =
    λ numbers some short is. elim
    (last_or_next numbers c.loop-field.numbers c.loop-field.left.now (c.loop-field.invariant numbers some short is)) [
      | inl last ↦ absurd (none-some _ (sym (c.in-Some.ensures.none last.lacks)))
      | inr next ↦
          let halves = c.in-Some.ensures.found (decimal next.number) next.others next.lacks next.spelled in
          absurd (none-some next.number (c.in-None.ensures next.number next.short halves.0))
    ]

pub loop-field-preserved : goal.loop-field-preserved
loop-field-preserved c =
    λ numbers some short is. elim
    (last_or_next numbers c.loop-field.numbers c.loop-field.left.now (c.loop-field.invariant numbers some short is)) [
      | inl last ↦ absurd (none-some _ (sym (c.in-Some.ensures.none last.lacks)))
      | inr next ↦
          let halves = c.in-Some.ensures.found (decimal next.number) next.others next.lacks next.spelled in
          let same = same_Some c.in-Some-number_in.number next.number
          (c.in-Some-number_in.ensures next.number next.short halves.0) in
          next_left numbers c.loop-field.numbers c.loop-field.left.now c.push.new.self c.in-Some.others.now
          c.in-Some-number_in.number next same
          c.in_ok-push-in-Some-number_in.ensures.ok halves.1
    ]

pub returns : goal.returns
returns c =
    λ numbers some short is. elim
    (last_or_next numbers c.loop-field.numbers c.loop-field.left.now (c.loop-field.invariant numbers some short is)) [
      | inl last ↦ (elim c.match-number_in-2.branch [
        | in-Some-number_in-2+in_ok-push w ↦
            w.numbers-is ∙ last_read numbers c.loop-field.numbers c.loop-field.left.now _ w.in-Some-number_in-2.number
            last
            (same_Some w.in-Some-number_in-2.number last.number
            (w.in-Some-number_in-2.ensures last.number last.short last.spelled)) w.in_ok-push.ensures.ok
        | in_default-number_in w ↦
            absurd (none-some last.number (w.in_default-number_in.ensures last.number last.short last.spelled))
      ])
      | inr next ↦ absurd (c.in_default.ensures.found (decimal next.number) next.others next.lacks next.spelled)
    ]
