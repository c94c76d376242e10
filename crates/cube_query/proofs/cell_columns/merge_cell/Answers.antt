use Rattle.std.proofs.Common.{◌≡◌, ◌∙◌, ◌<◌, ◌∷◌, [], length, Err, Some, ap, sym, subst, get_or, arith}
use Rattle.std.proofs.lemmas.List.{get_or_default}
use Rattle.std.proofs.lemmas.Result.{err_from_is_err_and}
use Rattle.std.specs.declared.alloc.Global.{Global}
use Rattle.std.specs.declared.vec.Vec.{Vec}
use Rattle.cube_model.specs.declared.fault.Fault.TheVariants.{BadLayout}
use Rattle.cube_model.specs.declared.measure.Agg.{Agg}
use Rattle.cube_model.specs.declared.measure.Agg.TheVariants.{Count}
use Rattle.cube_query.specs.CellTallies.{HasRoomForCells, MergesCells}
use Rattle.group_tallies.specs.Columns.{tally_at}
use Rattle.group_tallies.specs.declared.tally.Tally.{Tally}
use Rattle.cube_query.proofs.CellMerges.{AreMergedBelow-set, all_columns_merged, room_in}
use Rattle.cube_query.proofs.CellParts.{tallies-set}
use Rattle.cube_query.proofs.cell_columns.merge_cell.Goals as goal

pub returns-in_err-merge_in_column-clause-refused : goal.returns-in_err-merge_in_column-clause-refused
returns-in_err-merge_in_column-clause-refused c =
    let p = err_from_is_err_and c.from_residual.result c.from_residual.ensures.1 in
    rw (p.1, p.2) (λ bad room.
    let i = c.loop-i.i in
    let aggs = c.args.aggs.now in
    let cells = c.args.cell.now ∷ [] in
    let column = c.index-columns-i.result in
    let here = room_in c.args.slot cells aggs c.args.columns.now c.requires room i c.loop-i-test.true Count column in
    let is : c.in_err-merge_in_column.field-0.0 ≡ BadLayout = cc bad in
    c.in_err-merge_in_column.ensures.refused (ap (λ fault. Err fault) is)
    (subst (λ (own : Vec Tally Global). HasRoomForCells (get_or aggs i Count) cells (tally_at own.items c.args.slot))
    (sym (c.loop-i.invariant.below.kept i (omega arith) column)) here))

pub loop-i-preserved : goal.loop-i-preserved
loop-i-preserved c =
    let i = c.loop-i.i in
    let aggs = c.args.aggs.now in
    let cells = c.args.cell.now ∷ [] in
    let slots = Some c.args.slot ∷ [] in
    let now = c.loop-i.columns in
    let new = c.merge_in_column.new.column in
    let h : i < length aggs = c.loop-i-test.true in
    let in_columns : i < length now = omega (arith, h, c.loop-i.invariant.below.same_length, c.requires) in
    record {
      below = AreMergedBelow-set cells slots aggs c.args.columns.now now i new c.requires h c.loop-i.invariant.below
          (λ agg first.
          subst (λ (a : Agg). MergesCells a cells slots (get_or now i first).items new.items)
          (get_or_default aggs i Count agg h)
          (subst (λ (old : Vec Tally Global). MergesCells (get_or aggs i Count) cells slots old.items new.items)
          (get_or_default now i c.index-columns-i.result first in_columns) c.in_ok-merge_in_column.ensures.merged));
      others = λ other apart.
          tallies-set now i new other (λ first. c.merge_in_column.ensures.others other apart
          ∙ ap (λ (own : Vec Tally Global). tally_at own.items other)
          (get_or_default now i c.index-columns-i.result first in_columns))
          ∙ c.loop-i.invariant.others other apart;
    }

pub returns-in_err-merge_in_column-clause-others : goal.returns-in_err-merge_in_column-clause-others
returns-in_err-merge_in_column-clause-others c = λ other apart.
    let i = c.loop-i.i in
    let now = c.loop-i.columns in
    let new = c.merge_in_column.new.column in
    let h : i < length c.args.aggs.now = c.loop-i-test.true in
    let in_columns : i < length now = omega (arith, h, c.loop-i.invariant.below.same_length, c.requires) in
    tallies-set now i new other (λ first. c.merge_in_column.ensures.others other apart
    ∙ ap (λ (own : Vec Tally Global). tally_at own.items other)
    (get_or_default now i c.index-columns-i.result first in_columns))
    ∙ c.loop-i.invariant.others other apart

pub returns-clause-merged : goal.returns-clause-merged
returns-clause-merged c =
    all_columns_merged (c.args.cell.now ∷ []) (Some c.args.slot ∷ []) c.args.aggs.now c.args.columns.now
    c.loop-i.columns c.loop-i.i c.requires (omega (arith, c.loop-i-test.false)) c.loop-i.invariant.below
