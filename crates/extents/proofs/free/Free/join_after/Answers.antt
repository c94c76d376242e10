use Rattle.std.proofs.Common.{◌≡◌, ℕ, ◌+◌, ◌<◌, ◌≤◌, ◌^◌, ◌↔◌, length, subst, sym, arith}
use Rattle.extents.specs.Extents.{SomeHolds}
use Rattle.extents.specs.Join.{joined_runs}
use Rattle.extents.specs.Runs.{FreeSectors}
use Rattle.extents.proofs.FreeLemmas.{run_ends, sectors-extended}
use Rattle.extents.proofs.free.Free.join_after.Goals as goal

-- both runs end within the count
pub overflow_add-result : goal.overflow_add-result
overflow_add-result c =
    let lt : c.args.join.after < length c.self.inside.runs.items =
    omega (arith, c.self.inside.runs.ok.0, c.if-join-len.true, c.len.ensures) in
    let end : c.index-run.result.now.first + c.index-run.result.now.len ≤ c.self.inside.count =
    run_ends c.self.inside.count c.self.inside.runs.items c.args.join.after c.index-run.result.now c.self.invariant
    lt c.index-run.ensures in
    let small : c.self.inside.count < 2 ^ 32 =
    subst (λ (free : FreeSectors). free.count < 2 ^ 32) (sym c.self.view_is) c.requires.small in
    omega (arith, c.end.ensures, c.from.ensures, c.if-end-from.true)

pub returns-then-end-from-clause-sectors : goal.returns-then-end-from-clause-sectors
returns-then-end-from-clause-sectors c =
    let lt : c.args.join.after < length c.self.inside.runs.items =
    omega (arith, c.self.inside.runs.ok.0, c.if-join-len.true, c.len.ensures) in
    let touch : c.args.join.joined.first + c.args.join.joined.len ≡ c.index-run.result.now.first =
    omega (arith, c.end.ensures, c.from.ensures, c.if-end-from.true) in
    subst (λ (free : FreeSectors). (s : ℕ)
    → SomeHolds
    (joined_runs free.runs
    (record {
      joined = record {
        first = c.args.join.joined.first;
        len = c.args.join.joined.len + c.index-run.result.now.len;
      };
      place = c.args.join.place;
      after = c.args.join.after + 1;
    })) s
    ↔ SomeHolds (joined_runs free.runs c.args.join) s) c.self.view_is
    (sectors-extended c.self.inside.runs.items c.args.join c.index-run.result.now lt c.index-run.ensures touch)
