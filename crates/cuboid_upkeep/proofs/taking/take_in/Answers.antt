use Rattle.std.proofs.Common.{◌≡◌, ◌∙◌, ap, arith, cond, nat_lt, subst, sym, true}
use Rattle.std.specs.Prelude.{slice_set}
use Rattle.std.proofs.lemmas.Bool.Decides.{nat_tests}
use Rattle.std.proofs.lemmas.List.{get_or_default}
use Rattle.std.proofs.lemmas.Result.{on_ok_weaker}
use Rattle.cuboid_cells.specs.declared.cell.Cell.{Cell}
use Rattle.cuboid_cells.specs.Cells.{CellFits}
use Rattle.cuboid_cells.specs.Merges.{merged}
use Rattle.cuboid_upkeep.proofs.taking.take_in.Goals as goal

pub returns-clause-ok : goal.returns-clause-ok
returns-clause-ok c =
    let cell : Cell = c.args.cell.now in
    let slot : Cell = c.index.result.now in
    let used : nat_lt 0 slot.count ≡ true = grind (arith, nat_tests, c.if-index-eq0.false) in
    on_ok_weaker c.merge_at.result (λ merges.
    let same : merges.before ≡ slot = merges.before_is
    ∙ get_or_default c.args.slots.now.items c.args.place merges.before slot c.requires ∙ sym c.index.ensures in
    record {
      slot = slot;
      slot_is = c.index.ensures;
      fits = λ own. subst (λ used. CellFits (cond used (merged slot cell) cell)) (sym used)
          (subst (λ (one : Cell). CellFits (merged one cell)) same merges.fits);
      is = merges.is
          ∙ ap (λ (one : Cell). slice_set c.args.slots.now.items c.args.place (merged one cell)) same
          ∙ ap (λ used. slice_set c.args.slots.now.items c.args.place (cond used (merged slot cell) cell)) (sym used);
    }) c.merge_at.ensures.ok
