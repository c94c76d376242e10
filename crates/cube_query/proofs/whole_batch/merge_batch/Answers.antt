use Rattle.std.proofs.Common.{◌≡◌, true, List, length, ap, ◌∙◌, arith}
use Rattle.std.specs.Prelude.{nat_abs}
use Rattle.std.proofs.lemmas.List.{length-map}
use Rattle.cube_model.specs.declared.rows.LineOrder.{LineOrder}
use Rattle.column_kernels.specs.Masks.{selected_by}
use Rattle.group_tallies.specs.Columns.{can_add, no_tally, aggregate_size, tally_at}
use Rattle.group_tallies.specs.Tallies.{aggregated}
use Rattle.group_tallies.specs.declared.tally.Tally.{Tally}
use Rattle.group_tallies.proofs.Refusals.{on_err}
use Rattle.group_tallies.proofs.Sums.{FitsSigned-small, nat_abs-+ℤ, nat_abs-total}
use Rattle.cube_query.proofs.WholeBatches.{can_add_parts, same_at}
use Rattle.cube_query.proofs.whole_batch.merge_batch.Goals as goal

pub returns-in_err-tally-clause-err : goal.returns-in_err-tally-clause-err
returns-in_err-tally-clause-err c =
    let rows : List LineOrder = selected_by c.args.mask.now c.args.batch.now in
    let refused : can_add (tally_at c.args.column.now c.args.slot) (length rows) (aggregate_size c.args.agg rows) ≡ true
    → ⊥ = λ can.
    c.in_err-tally.ensures.err
    (omega (
      arith,
      (can_add_parts (tally_at c.args.column.now c.args.slot) (length rows) (aggregate_size c.args.agg rows) can).1,
    )) in
    on_err _ _ refused

pub returns-in_err-column-clause-err : goal.returns-in_err-column-clause-err
returns-in_err-column-clause-err c =
    let rows : List LineOrder = selected_by c.args.mask.now c.args.batch.now in
    let agg = c.args.agg in
    let before : Tally = tally_at c.args.column.now c.args.slot in
    let here : c.index-column-slot.result ≡ before = c.index-column-slot.is
    ∙ same_at c.args.column.now c.args.slot c.index-column-slot.result no_tally c.requires.within in
    let count = ap (λ (t : Tally). t.count) c.in_ok-tally.ensures.ok in
    let sum = ap (λ (t : Tally). t.sum) c.in_ok-tally.ensures.ok in
    let refused : can_add before (length rows) (aggregate_size agg rows) ≡ true → ⊥ = λ can.
    c.in_err-column.ensures.err
    (omega (
      arith,
      (can_add_parts before (length rows) (aggregate_size agg rows) can).0,
      count,
      ap (λ (t : Tally). t.count) here,
      length-map rows (aggregated agg),
    ))
    (FitsSigned-small _
    (omega (
      arith,
      (can_add_parts before (length rows) (aggregate_size agg rows) can).1,
      ap nat_abs sum,
      ap (λ (t : Tally). nat_abs t.sum) here,
      nat_abs-+ℤ c.index-column-slot.result.sum c.in_ok-tally.tally.sum,
      nat_abs-total (aggregated agg) rows,
    ))) in
    on_err _ _ refused
