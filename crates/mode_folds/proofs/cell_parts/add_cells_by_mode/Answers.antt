use Rattle.std.proofs.Common.{◌≡◌, ◌∙◌, ◌<◌, ◌==◌, ◌++◌, List, [], sym, ap, subst, rules, arith, length, get_or}
use Rattle.std.proofs.lemmas.Grind.{common_steps}
use Rattle.std.proofs.lemmas.Iterator.Adapters.{YieldsList-from_vec}
use Rattle.std.proofs.lemmas.Iterator.Consumers.{YieldsList-end, YieldsList-turn}
use Rattle.std.proofs.lemmas.List.{length_push}
use Rattle.std.proofs.lemmas.Option.{get_or_from_slice_get}
use Rattle.std.proofs.lemmas.Result.{err_from_is_err_and}
use Rattle.std.specs.Str.{bytes_eq}
use Rattle.cube_model.specs.declared.rows.LineOrder.{LineOrder}
use Rattle.cuboid_cells.specs.Cells.{AreProperCells}
use Rattle.cuboid_cells.specs.Steps.{cells_of}
use Rattle.dimensions.proofs.Keys.{place_of_some}
use Rattle.mode_folds.specs.Celling.{AreCellParts, cells_at}
use Rattle.mode_folds.specs.Parts.{RepresentByMode}
use Rattle.mode_folds.proofs.CellPartsLemmas.{all_represented, all_taken, one_place_more, own_part, part_represents}
use Rattle.mode_folds.proofs.CellPartsLemmas.{place_foldable, rows_at, rows_before}
use Rattle.mode_folds.proofs.OneCellMore.{part_at}
use Rattle.mode_folds.proofs.Chosen.{kept_proper}
use Rattle.mode_folds.proofs.cell_parts.add_cells_by_mode.Goals as goal

pub of-part-requires : goal.of-part-requires
of-part-requires c =
    let gives = c.into_iter-part-iterator.ensures.into_iter_gives in
    let parts = c.in_ok-part-items.part-items.items in
    let turn = YieldsList-turn
    (YieldsList-from_vec {s = c.into_iter-part-iterator.result} parts gives.0
    (first_of (omega (arith, gives.1), cc, search rules, grind (arith, common_steps)))) c.loop-part.yielded
    c.loop-part.part-iterator c.loop-part.yielded_by c.next.result c.next.new.self c.in-Some.part c.in-Some.is
    c.next.ensures.steps in
    let code = c.loop-part.code in
    let cells = c.args.cells.now in
    let divided : AreCellParts c.len.result cells.cells parts =
    subst (λ l. AreCellParts c.len.result l parts) c.as_slice.ensures.cells c.in_ok-part-items.ensures in
    let part_is : c.in-Some.part.items ≡ cells_at code cells.cells =
    part_at c.len.result cells.cells parts divided code c.in-Some.part
    (omega (arith, turn.0, c.loop-part.invariant.count))
    (turn.1 ∙ ap (λ n. get_or parts n c.in-Some.part) (sym c.loop-part.invariant.count)) in
    subst (λ l. AreProperCells (cells_of c.view-view.result l)) (sym part_is)
    (subst (λ view. AreProperCells (cells_of view (cells_at code cells.cells))) (sym c.view-view.ensures.value)
    (kept_proper cells.view (λ other. other == code) cells.cells c.view-view.ensures.proper))

pub returns-in_err-add_cells_of_mode-clause-refused :
    goal.returns-in_err-add_cells_of_mode-clause-refused
returns-in_err-add_cells_of_mode-clause-refused c =
    let gives = c.into_iter-part-iterator.ensures.into_iter_gives in
    let parts = c.in_ok-part-items.part-items.items in
    let turn = YieldsList-turn
    (YieldsList-from_vec {s = c.into_iter-part-iterator.result} parts gives.0
    (first_of (omega (arith, gives.1), cc, search rules, grind (arith, common_steps)))) c.loop-part.yielded
    c.loop-part.part-iterator c.loop-part.yielded_by c.next.result c.next.new.self c.in-Some.part c.in-Some.is
    c.next.ensures.steps in
    let code = c.loop-part.code in
    let cells = c.args.cells.now in
    let divided : AreCellParts c.len.result cells.cells parts =
    subst (λ l. AreCellParts c.len.result l parts) c.as_slice.ensures.cells c.in_ok-part-items.ensures in
    let part_is : c.in-Some.part.items ≡ cells_at code cells.cells =
    part_at c.len.result cells.cells parts divided code c.in-Some.part
    (omega (arith, turn.0, c.loop-part.invariant.count))
    (turn.1 ∙ ap (λ n. get_or parts n c.in-Some.part) (sym c.loop-part.invariant.count)) in
    let texts = c.args.modes.now.texts in
    let within : code < length texts =
    omega (arith, turn.0, c.loop-part.invariant.count, divided.counted, c.len.ensures.count) in
    let mode_is : c.in-Some-text.mode.now ≡ get_or texts code [] =
    sym (get_or_from_slice_get texts code c.in-Some-text.mode.now [] (sym c.in-Some-text.ensures.text)) in
    let own = λ (rows : List LineOrder). own_part texts rows code c.in-Some-text.mode.now within mode_is in
    let cells_are : c.of-part.result ≡ cells_of cells.view (cells_at code cells.cells) =
    c.of-part.ensures ∙ (λ i. cells_of (c.view-view.ensures.value i) (part_is i)) in
    let p = err_from_is_err_and c.from_residual-in_err-add_cells_of_mode.result
    c.from_residual-in_err-add_cells_of_mode.ensures.1 in
    rw (p.1, p.2) (λ is rows so_far represent before can.
    c.in_err-add_cells_of_mode.ensures.refused is (rows_at texts code rows) (so_far ++ rows_before texts code rows)
    (part_represents c.args.dims.now texts cells c.requires.grouped c.view-view.ensures.proper rows represent code
    c.of-part.result cells_are) (own rows) (c.loop-part.invariant.represent rows so_far represent before)
    (place_foldable texts rows c.args.dims.now c.in-Some-text.mode.now code so_far
    (place_of_some (bytes_eq c.in-Some-text.mode.now) texts code c.in-Some-text.ensures.again) (own rows) can))

pub loop-part-preserved : goal.loop-part-preserved
loop-part-preserved c =
    let gives = c.into_iter-part-iterator.ensures.into_iter_gives in
    let parts = c.in_ok-part-items.part-items.items in
    let turn = YieldsList-turn
    (YieldsList-from_vec {s = c.into_iter-part-iterator.result} parts gives.0
    (first_of (omega (arith, gives.1), cc, search rules, grind (arith, common_steps)))) c.loop-part.yielded
    c.loop-part.part-iterator c.loop-part.yielded_by c.next.result c.next.new.self c.in-Some.part c.in-Some.is
    c.next.ensures.steps in
    let code = c.loop-part.code in
    let cells = c.args.cells.now in
    let divided : AreCellParts c.len.result cells.cells parts =
    subst (λ l. AreCellParts c.len.result l parts) c.as_slice.ensures.cells c.in_ok-part-items.ensures in
    let part_is : c.in-Some.part.items ≡ cells_at code cells.cells =
    part_at c.len.result cells.cells parts divided code c.in-Some.part
    (omega (arith, turn.0, c.loop-part.invariant.count))
    (turn.1 ∙ ap (λ n. get_or parts n c.in-Some.part) (sym c.loop-part.invariant.count)) in
    let texts = c.args.modes.now.texts in
    let within : code < length texts =
    omega (arith, turn.0, c.loop-part.invariant.count, divided.counted, c.len.ensures.count) in
    let mode_is : c.in-Some-text.mode.now ≡ get_or texts code [] =
    sym (get_or_from_slice_get texts code c.in-Some-text.mode.now [] (sym c.in-Some-text.ensures.text)) in
    let own = λ (rows : List LineOrder). own_part texts rows code c.in-Some-text.mode.now within mode_is in
    let cells_are : c.of-part.result ≡ cells_of cells.view (cells_at code cells.cells) =
    c.of-part.ensures ∙ (λ i. cells_of (c.view-view.ensures.value i) (part_is i)) in
    record {
      count = omega (arith, c.loop-part.invariant.count, length_push c.loop-part.yielded c.in-Some.part);
      over = c.in_ok-add_cells_of_mode.ensures.over;
      queries = c.in_ok-add_cells_of_mode.ensures.queries;
      represent = λ rows so_far represent before.
          one_place_more c.args.dims.now c.args.query.now texts c.loop-part.own.texts
          c.add_cells_of_mode.new.own.texts c.loop-part.folds.items c.add_cells_of_mode.new.folds.items so_far rows code
          (c.in_ok-add_cells_of_mode.ensures.ok (rows_at texts code rows)
          (part_represents c.args.dims.now texts cells c.requires.grouped c.view-view.ensures.proper rows represent code
          c.of-part.result cells_are) (own rows)) (c.loop-part.invariant.represent rows so_far represent before);
    }

pub returns-clause-ok : goal.returns-clause-ok
returns-clause-ok c = λ rows represent so_far before.
    let gives = c.into_iter-part-iterator.ensures.into_iter_gives in
    let parts = c.in_ok-part-items.part-items.items in
    let texts = c.args.modes.now.texts in
    let ends = YieldsList-end
    (YieldsList-from_vec {s = c.into_iter-part-iterator.result} parts gives.0
    (first_of (omega (arith, gives.1), cc, search rules, grind (arith, common_steps)))) c.loop-part.yielded
    c.loop-part.part-iterator c.loop-part.yielded_by c.next.result c.next.new.self c.in-None.is c.next.ensures.steps in
    let all : c.loop-part.code ≡ length texts =
    omega (arith, c.loop-part.invariant.count, ends.1, c.in_ok-part-items.ensures.counted, c.len.ensures.count) in
    all_taken c.args.dims.now c.args.query.now texts c.loop-part.own.texts c.loop-part.folds.items so_far rows
    (all_represented c.args.dims.now texts c.args.cells.now c.requires.grouped c.view-view.ensures.proper rows
    represent)
    (subst (λ n. RepresentByMode c.args.dims.now c.args.query.now (so_far ++ rows_before texts n rows)
    c.loop-part.own.texts c.loop-part.folds.items) all (c.loop-part.invariant.represent rows so_far represent before))
