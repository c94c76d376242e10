use Rattle.std.proofs.Common.{◌≡◌, ◌∙◌, ◌+◌, List, drop, subst, arith}
use Rattle.cube_model.specs.declared.fault.Fault.TheVariants.{BadLayout}
use Rattle.wire.proofs.CallerLemmas.{HasRead-then}
use Rattle.wire.specs.Runs.{HasRead}
use Rattle.column_segment.specs.Columns.{text_columns}
use Rattle.column_segment.specs.declared.columns.TextColumn.{TextColumn}
use Rattle.stored_rows.specs.TextColumns.{SpellColumns}
use Rattle.stored_rows.proofs.MoreReads.{ends_later, ends_stays, err_later}
use Rattle.stored_rows.proofs.PassedTexts.{column_passed}
use Rattle.stored_rows.proofs.TextColumns.{first_of, no_columns, split_at}
use Rattle.stored_rows.proofs.passing.after_columns.Goals as goal

pub returns-in_err-at-clause-run : goal.returns-in_err-at-clause-run
returns-in_err-at-clause-run g c =
    ends_later g.S.Source g.met.S.Source.reads_on g.met.S.Source.fails_later c.args.source.now c.loop.source
    c.after_column.new.source c.loop.invariant.read (λ fault. fault ≡ BadLayout) (λ fault. fault ≡ BadLayout)
    (λ fault bad. bad)
    c.from_residual.result _ c.from_residual.ensures.1 c.in_err-at.ensures.run

pub returns-in_err-at-clause-refused : goal.returns-in_err-at-clause-refused
returns-in_err-at-clause-refused g c = λ err keeps text there others are.
    let place = c.loop.counter in
    let so_far = c.loop.invariant in
    let kept = (ends_stays (λ fault. fault ≡ BadLayout) g.S.Source c.loop.source c.after_column.new.source _
    c.in_err-at.ensures.run).word keeps in
    no_columns c.args.rows (drop c.loop.at text) (drop (place + 1) text_columns) (first_of place) others
    (c.in_err-at.ensures.refused (err_later c.from_residual.result _ c.from_residual.ensures.1 err) keeps text
    (so_far.read.stays.texts kept c.args.id ∙ there))
    (subst (λ (l : List TextColumn). SpellColumns l c.args.rows (drop c.loop.at text) others)
    (split_at place (omega (arith, c.loop-test.true))) (so_far.passed kept text there others are))

pub loop-preserved : goal.loop-preserved
loop-preserved g c =
    let place = c.loop.counter in
    let so_far = c.loop.invariant in
    let next : HasRead g.S.Source c.loop.source c.after_column.new.source = c.in_ok-at.ensures.run in record {
      read = HasRead-then g.S.Source g.met.S.Source.reads_on _ _ _ so_far.read next;
      passed = λ keeps text there others are.
          let kept = next.stays.word keeps in
          column_passed c.args.rows (drop c.loop.at text) (drop c.in_ok-at.at text) (drop (place + 1) text_columns)
          (first_of place) others
          (c.in_ok-at.ensures.passed keeps text (so_far.read.stays.texts kept c.args.id ∙ there))
          (subst (λ (l : List TextColumn). SpellColumns l c.args.rows (drop c.loop.at text) others)
          (split_at place (omega (arith, c.loop-test.true))) (so_far.passed kept text there others are));
    }
