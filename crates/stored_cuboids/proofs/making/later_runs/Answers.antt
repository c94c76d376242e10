use Rattle.std.proofs.Common.{◌≡◌, ◌+◌, ◌-◌, suc, ℕ, List, [], ◌∷◌, ◌++◌, sym, ◌∙◌, ap, arith}
use Rattle.std.specs.List.{range_with_len}
use Rattle.warehouse_root.specs.Objects.{run_id}
use Rattle.stored_cuboids.proofs.Made.{range_more}
use Rattle.stored_cuboids.proofs.making.later_runs.Goals as goal

pub loop-run-preserved : goal.loop-run-preserved
loop-run-preserved c =
    let first : ℕ = run_id c.args.cuboid.view 1 in
    let run : ℕ = c.loop-run.run in
    let id_is : c.run_id.result ≡ first + (run - 1) = omega (arith, c.run_id.ensures, c.loop-run.invariant.0) in
    let next : suc (run - 1) ≡ run + 1 - 1 = omega (arith, c.loop-run.invariant.0) in (
      omega (arith, c.loop-run.invariant.0),
      omega (arith, c.loop-run.invariant.0, c.loop-run-test.true),
      c.in_ok-push.ensures.items ∙ ap (λ (l : List ℕ). l ++ c.run_id.result ∷ []) c.loop-run.invariant.2
          ∙ ap (λ (n : ℕ). range_with_len first (run - 1) ++ n ∷ []) id_is
          ∙ sym (range_more first (run - 1)) ∙ ap (λ (n : ℕ). range_with_len first n) next,
    )

pub returns-clause-ok : goal.returns-clause-ok
returns-clause-ok c =
    let many : c.loop-run.run - 1 ≡ c.args.cuboid.runs - 1 =
    omega (arith, c.loop-run.invariant.0, c.loop-run.invariant.1, c.loop-run-test.false) in
    c.loop-run.invariant.2 ∙ ap (λ (n : ℕ). range_with_len (run_id c.args.cuboid.view 1) n) many
