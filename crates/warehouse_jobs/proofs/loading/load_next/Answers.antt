use Rattle.std.proofs.Common.{◌≡◌, ◌≤◌, length, refl, rules, arith}
use Rattle.std.proofs.lemmas.Result.{err_from_is_err_and}
use Rattle.warehouse_jobs.proofs.LoadingLemmas.{step-failed, step-unread}
use Rattle.warehouse_jobs.proofs.loading.load_next.Goals as goal

pub next_batch-requires : goal.next_batch-requires
next_batch-requires g c = record { few = c.requires.few; fault = c.requires.fault }

pub load_batch-requires : goal.load_batch-requires
load_batch-requires g c = record { batch = (c.in_ok-batch.ensures.ok.0, c.in_ok-batch.ensures.ok.2) }

pub returns-in_err-batch-clause-steps : goal.returns-in_err-batch-clause-steps
returns-in_err-batch-clause-steps g c w at k =
    step-unread g.D.Sectors c.args.size w c.args.number c.args.lines.now c.next_batch.new.lines c.args.session.now
    (g.W.Write.contents c.args.out.now) _ _ c.in_err-batch.ensures.refused
    (err_from_is_err_and _ c.from_residual.ensures.1)

pub returns-then-kept-eq0-clause-steps : goal.returns-then-kept-eq0-clause-steps
returns-then-kept-eq0-clause-steps g c w at k =
    let many = c.row_count-kept.ensures.count _ _ c.in_ok-batch.ensures.ok.0 c.in_ok-batch.ensures.ok.2 in
    let zero : c.row_count-kept.result ≡ 0 = search rules in
    record {
      rows = c.in_ok-batch.ensures.ok.0;
      none = omega (arith, zero, many);
      takes = c.in_ok-batch.ensures.ok.1;
      same = refl {a = c.args.session.now};
      nothing = refl {a = g.W.Write.contents c.args.out.now};
    }

pub returns-in_err-load_batch-clause-steps : goal.returns-in_err-load_batch-clause-steps
returns-in_err-load_batch-clause-steps g c w at k =
    let rows = c.in_ok-batch.ensures.ok.0 in
    let many = c.row_count-kept.ensures.count _ _ rows c.in_ok-batch.ensures.ok.2 in
    let any : 1 ≤ c.row_count-kept.result = search rules in
    let some : 1 ≤ length rows = omega (arith, any, many) in
    step-failed g.D.Sectors c.args.size w c.args.number c.args.lines.now c.next_batch.new.lines c.args.session.now
    c.load_batch.new.session (g.W.Write.contents c.args.out.now) (g.W.Write.contents c.load_batch.new.out)
    rows _ _ some c.in_ok-batch.ensures.ok.1 (c.in_err-load_batch.ensures.does w rows at c.in_ok-batch.ensures.ok.2 k)
    (err_from_is_err_and _ c.from_residual-in_err-load_batch.ensures.1)

pub returns-clause-steps : goal.returns-clause-steps
returns-clause-steps g c w at k =
    let rows = c.in_ok-batch.ensures.ok.0 in
    let many = c.row_count-kept.ensures.count _ _ rows c.in_ok-batch.ensures.ok.2 in
    let any : 1 ≤ c.row_count-kept.result = search rules in
    let some : 1 ≤ length rows = omega (arith, any, many) in
    let does = c.in_ok-load_batch.ensures.does w rows at c.in_ok-batch.ensures.ok.2 k in
    (rows, record { some = some; takes = c.in_ok-batch.ensures.ok.1 }, does.0, does.1)

pub returns-in_err-batch-clause-word : goal.returns-in_err-batch-clause-word
returns-in_err-batch-clause-word g c = λ k. k

pub returns-then-kept-eq0-clause-word : goal.returns-then-kept-eq0-clause-word
returns-then-kept-eq0-clause-word g c = λ k. k

pub returns-in_err-load_batch-clause-word : goal.returns-in_err-load_batch-clause-word
returns-in_err-load_batch-clause-word g c = c.load_batch.ensures.word

pub returns-clause-word : goal.returns-clause-word
returns-clause-word g c = c.load_batch.ensures.word

pub returns-then-kept-eq0-clause-fault : goal.returns-then-kept-eq0-clause-fault
returns-then-kept-eq0-clause-fault g c = c.in_ok-batch.ensures.ok.1.fault

pub returns-clause-fault : goal.returns-clause-fault
returns-clause-fault g c = c.in_ok-batch.ensures.ok.1.fault
