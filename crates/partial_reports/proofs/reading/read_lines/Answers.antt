use Rattle.std.proofs.Common.{◌∙◌, sym, length, inl, inr}
use Rattle.std.proofs.lemmas.Option.{none-some}
use Rattle.std.proofs.lemmas.Result.{err_from_is_err_and}
use Rattle.partial_reports.proofs.ReadingLemmas.{end_or_line, one_more}
use Rattle.partial_reports.proofs.reading.read_lines.Goals as goal

pub returns-in_err-rest-clause-complete : goal.returns-in_err-rest-clause-complete
returns-in_err-rest-clause-complete c = λ all spells.
    let p = err_from_is_err_and c.from_residual.result c.from_residual.ensures.1 in
    elim (end_or_line c.args.query.now all c.loop-taken.lines c.loop-taken.left.now c.loop-taken._taken
    (length c.args.text.now) (c.loop-taken.invariant.left all spells)) [
      | inl end ↦ rw (p.1, p.2) (c.in_err-rest.ensures.end end.few end.spelled)
      | inr more ↦ rw (p.1, p.2) (c.in_err-rest.ensures.next more.line more.left more.next)
    ]

pub returns-in-None-clause-complete : goal.returns-in-None-clause-complete
returns-in-None-clause-complete c = λ all spells.
    elim (end_or_line c.args.query.now all c.loop-taken.lines c.loop-taken.left.now c.loop-taken._taken
    (length c.args.text.now) (c.loop-taken.invariant.left all spells)) [
      | inl end ↦ (let counted = rw c.in-None.is at c.in_ok-rest.ensures.count in counted.same ∙ end.is)
      | inr more ↦
          (let found = c.in_ok-rest.ensures.next more.line more.left more.next in absurd (rw c.in-None.is at found.0))
    ]

pub loop-taken-preserved : goal.loop-taken-preserved
loop-taken-preserved c =
    let reads = rw c.in-Some.is at c.in_ok-rest.ensures.line in
    record {
      are = reads.are;
      spelled = one_more c.args.query.now c.loop-taken.lines c.read_line.new.lines c.args.text.now c.loop-taken.left.now
          c.in-Some.rest.now c.loop-taken.invariant.spelled reads;
      left = λ all spells.
          elim (end_or_line c.args.query.now all c.loop-taken.lines c.loop-taken.left.now c.loop-taken._taken
          (length c.args.text.now) (c.loop-taken.invariant.left all spells)) [
            | inl end ↦
                absurd (none-some c.in-Some.rest (sym (c.in_ok-rest.ensures.end end.few end.spelled) ∙ c.in-Some.is))
            | inr more ↦
                (let found = c.in_ok-rest.ensures.next more.line more.left more.next in
                more.after c.read_line.new.lines c.in-Some.rest.now found.1 (rw c.in-Some.is at found.0))
          ];
    }
