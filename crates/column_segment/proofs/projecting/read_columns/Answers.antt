use Rattle.std.proofs.Common.{◌∙◌, add-one, arith, subst, sym, take, true≢false}
use Rattle.std.specs.List.{AllByRecursion}
use Rattle.wire.proofs.CallerLemmas.{HasRead-then}
use Rattle.wire.specs.Runs.{HasRead}
use Rattle.column_segment.specs.Projected.{FitsColumnIn, ShareColumn}
use Rattle.column_segment.proofs.ProjectingLemmas.{ends_later, ends_word, err_later, one_more}
use Rattle.column_segment.proofs.Shared.{columns_there, numbers_there}
use Rattle.column_segment.proofs.projecting.read_columns.Goals as goal

pub returns-in_err-read_column-clause-run : goal.returns-in_err-read_column-clause-run
returns-in_err-read_column-clause-run g c =
    let join = g.met.S.Source.reads_on in
    let before : HasRead g.S.Source c.args.source.now c.loop-i.source =
    HasRead-then g.S.Source join _ _ _ c.in_ok-has_columns.ensures.run c.loop-i.invariant.read in
    ends_later g.S.Source join g.met.S.Source.fails_later c.args.source.now c.loop-i.source c.read_column.new.source
    before
    c.from_residual-in_err-read_column.result _ c.from_residual-in_err-read_column.ensures.1
    c.in_err-read_column.ensures.run

pub loop-i-preserved : goal.loop-i-preserved
loop-i-preserved g c =
    let before = c.loop-i.invariant in
    let next : HasRead g.S.Source c.loop-i.source c.read_column.new.source = c.in_ok-read_column.ensures.run in
    let rows = c.args.rows in record {
      holds = record { few = before.holds.few; room = omega (arith, before.holds.room, c.read_column.auto.bytes) };
      read = HasRead-then g.S.Source g.met.S.Source.reads_on _ _ _ before.read next;
      shared = λ keeps text at enough.
          let kept = next.stays.word keeps in
          let found = c.in_ok-read_column.ensures.found keeps text (before.read.stays.texts kept c.args.id ∙ at)
          enough in
          subst (λ n. AllByRecursion (ShareColumn rows c.read_column.new.bytes text) (take n c.args.columns.now))
          (sym (add-one c.loop-i.i))
          (one_more (ShareColumn rows c.loop-i.bytes text) (ShareColumn rows c.read_column.new.bytes text)
          c.args.columns.now c.loop-i.i _ c.loop-i-test.true found.2 (before.shared kept text at enough) found.0);
      fit = λ keeps text at enough.
          let kept = next.stays.word keeps in
          let found = c.in_ok-read_column.ensures.found keeps text (before.read.stays.texts kept c.args.id ∙ at)
          enough in
          subst (λ n. AllByRecursion (FitsColumnIn text rows) (take n c.args.columns.now)) (sym (add-one c.loop-i.i))
          (one_more (FitsColumnIn text rows) (FitsColumnIn text rows) c.args.columns.now c.loop-i.i _ c.loop-i-test.true
          (λ column own. own) (before.fit kept text at enough) found.1);
    }

pub returns-then-not-branch-clause-refused : goal.returns-then-not-branch-clause-refused
returns-then-not-branch-clause-refused g c = λ err keeps text rows at many is.
    c.in_ok-has_columns.ensures.none (λ yes. true≢false (sym yes ∙ c.if-not-branch.true)) keeps text at
    (columns_there text c.args.number c.args.rows rows is many)

pub returns-in_err-read_column-clause-refused : goal.returns-in_err-read_column-clause-refused
returns-in_err-read_column-clause-refused g c = λ err keeps text rows at many is.
    let before : HasRead g.S.Source c.args.source.now c.loop-i.source =
    HasRead-then g.S.Source g.met.S.Source.reads_on _ _ _ c.in_ok-has_columns.ensures.run c.loop-i.invariant.read in
    let kept = ends_word g.S.Source c.loop-i.source c.read_column.new.source _ c.in_err-read_column.ensures.run keeps in
    c.in_err-read_column.ensures.refused
    (err_later c.from_residual-in_err-read_column.result _ c.from_residual-in_err-read_column.ensures.1 err) keeps
    text
    (c.loop-i.invariant.read.stays.texts kept c.args.id
    ∙ c.in_ok-has_columns.ensures.run.stays.texts (c.loop-i.invariant.read.stays.word kept) c.args.id ∙ at)
    (numbers_there text c.args.number c.args.rows rows is many)
