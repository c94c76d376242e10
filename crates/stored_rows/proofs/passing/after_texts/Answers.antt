use Rattle.std.proofs.Common.{◌≡◌, ◌∙◌, drop, arith}
use Rattle.cube_model.specs.declared.fault.Fault.TheVariants.{BadLayout}
use Rattle.wire.proofs.CallerLemmas.{HasRead-then}
use Rattle.wire.specs.Runs.{HasRead}
use Rattle.stored_rows.proofs.MoreReads.{ends_later, ends_stays, err_later}
use Rattle.stored_rows.proofs.PassedTexts.{all_passed}
use Rattle.stored_rows.proofs.passing.after_texts.Goals as goal

pub loop-left-preserved : goal.loop-left-preserved
loop-left-preserved g c =
    let before = c.loop-left.invariant in
    let next : HasRead g.S.Source c.loop-left.source c.pass_window.new.source = c.in_ok-passed.ensures.run in record {
      read = HasRead-then g.S.Source g.met.S.Source.reads_on _ _ _ before.read next;
      few = omega (arith, before.few);
      passed = λ keeps text rest there begins.
          let kept = next.stays.word keeps in
          c.in_ok-passed.ensures.passed keeps text rest (before.read.stays.texts kept c.args.id ∙ there)
          (before.passed kept text rest there begins);
    }

pub returns-in_err-passed-clause-run : goal.returns-in_err-passed-clause-run
returns-in_err-passed-clause-run g c =
    ends_later g.S.Source g.met.S.Source.reads_on g.met.S.Source.fails_later c.args.source.now c.loop-left.source
    c.pass_window.new.source c.loop-left.invariant.read (λ fault. fault ≡ BadLayout) (λ fault. fault ≡ BadLayout)
    (λ fault bad. bad)
    c.from_residual.result _ c.from_residual.ensures.1 c.in_err-passed.ensures.run

pub returns-in_err-passed-clause-refused : goal.returns-in_err-passed-clause-refused
returns-in_err-passed-clause-refused g c = λ err keeps text rest there begins.
    let before = c.loop-left.invariant in
    let kept = (ends_stays (λ fault. fault ≡ BadLayout) g.S.Source c.loop-left.source c.pass_window.new.source _
    c.in_err-passed.ensures.run).word keeps in
    c.in_err-passed.ensures.refused (err_later c.from_residual.result _ c.from_residual.ensures.1 err) keeps text rest
    (before.read.stays.texts kept c.args.id ∙ there) (before.passed kept text rest there begins)

pub returns-clause-passed : goal.returns-clause-passed
returns-clause-passed g c = λ keeps text rest there begins.
    all_passed c.loop-left.left (drop c.loop-left.at text) rest (omega (arith, c.loop-left-test.false))
    (c.loop-left.invariant.passed keeps text rest there begins)
