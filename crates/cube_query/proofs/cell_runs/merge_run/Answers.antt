use Rattle.std.proofs.Common.{◌≡◌, ◌∙◌, ◌⊎◌, ℕ, ◌+◌, ◌*◌, List, [], Err, Option, Some, ap, sym, refl, subst, All, arith}
use Rattle.std.proofs.lemmas.Result.{err_from_is_err_and}
use Rattle.cube_model.specs.declared.fault.Fault.TheVariants.{BadLayout}
use Rattle.wire.specs.Runs.{HasRead}
use Rattle.wire.proofs.CallerLemmas.{HasRead-none, HasRead-then}
use Rattle.cuboid_cells.specs.Cells.{IsCellOf}
use Rattle.cuboid_cells.specs.Pieces.{AreLeft}
use Rattle.cuboid_cells.specs.Spelled.{cell_bytes}
use Rattle.cuboid_cells.specs.declared.cell.Cell.{Cell}
use Rattle.cuboid_cells.specs.declared.head.RunHead.{RunHead}
use Rattle.lattice.specs.declared.view.View.{View}
use Rattle.group_numbers.specs.Numbers.{group_count}
use Rattle.cube_query.specs.CellSlots.{AreMergedIn, HaveNoRepresentative}
use Rattle.cube_query.specs.CellTallies.{GroupsHaveRoomFor}
use Rattle.group_tallies.specs.Slots.{entries_of, Grow}
use Rattle.cube_query.proofs.CellSlotsLemmas.{none_yet}
use Rattle.group_tallies.proofs.Placing.{Grow-same}
use Rattle.cube_query.proofs.CellRunsLemmas.{ran_later, ran_own, ran_stays, run_done, run_more, run_refused}
use Rattle.cube_query.proofs.cell_runs.merge_run.Goals as goal

pub loop-source-init : goal.loop-source-init
loop-source-init g c =
    let bound = group_count c.args.numbers.now.dimensions c.args.numbers.now.query.columns in record {
      read = HasRead-none g.S.Source g.met.S.Source.none_read c.args.source.now;
      id = refl;
      head = refl;
      cover = c.requires.cover;
      grow = Grow-same bound (entries_of c.args.slots.now) c.requires.numbers;
      fresh = λ slot h. refl;
      merged = λ keeps cells left. record {
        part = [];
        rest = cells;
        parts = refl;
        left = left;
        wanted = [];
        out = refl;
        merged = none_yet c.args.numbers.now c.args.aggs.now (entries_of c.args.slots.now) c.args.columns.now
            c.requires.columns;
      };
    }

pub read_wanted-requires-clause-total : goal.read_wanted-requires-clause-total
read_wanted-requires-clause-total g c =
    let so_far = c.loop-source.invariant in
    ap (λ (n : ℕ). g.S.Source.totals c.loop-source.source n) so_far.id ∙ so_far.read.stays.totals c.args.run.now.id
    ∙ c.requires.total
    ∙ ap (λ (h : RunHead). Some (20 + cell_bytes h.view.ship_mode * h.count)) (sym so_far.head)

pub merge_cells-requires-clause-cells : goal.merge_cells-requires-clause-cells
merge_cells-requires-clause-cells g c =
    let view = ap (λ (h : RunHead). h.view) c.loop-source.invariant.head ∙ sym c.requires.view in
    subst (λ (cells : List Cell). All (IsCellOf c.args.numbers.now.view) cells) (sym c.as_slice.ensures.value)
    (subst (λ (v : View). All (IsCellOf v) c.read_wanted.new.cells.items) view c.in_ok-read_wanted.ensures.each)

pub loop-source-preserved : goal.loop-source-preserved
loop-source-preserved g c =
    let asked = c.args.numbers.now in
    let aggs = c.args.aggs.now in
    let bound = group_count asked.dimensions asked.query.columns in
    let text = g.S.Source.texts c.args.source.now c.args.run.now.id in
    let so_far = c.loop-source.invariant in
    let was = entries_of c.loop-source.slots in
    let now = entries_of c.merge_cells.new.slots in
    let step : HasRead g.S.Source c.loop-source.source c.read_wanted.new.source = c.in_ok-read_wanted.ensures.run in
    let more : Grow bound was now = c.merge_cells.ensures.grow was (Grow-same bound was so_far.grow.slots) in
    let piece = c.read_wanted.new.cells.items in
    let merged = subst (λ (cells : List Cell). AreMergedIn asked aggs now cells c.loop-source.columns
    c.merge_cells.new.columns) c.as_slice.ensures.value c.in_ok-merge_cells.ensures.merged in record {
      read = HasRead-then g.S.Source g.met.S.Source.reads_on c.args.source.now c.loop-source.source
          c.read_wanted.new.source so_far.read step;
      id = c.read_wanted.ensures.id ∙ so_far.id;
      head = c.read_wanted.ensures.head ∙ so_far.head;
      cover = c.merge_cells.ensures.cover;
      grow = c.merge_cells.ensures.grow (entries_of c.args.slots.now) so_far.grow;
      fresh = λ slot h. c.merge_cells.ensures.fresh (entries_of c.args.slots.now) so_far.grow slot h
          ∙ so_far.fresh slot (omega (arith, h, more.longer));
      merged = λ keeps cells left.
          let kept = step.stays.word keeps in
          let same = ap (λ (n : ℕ). g.S.Source.texts c.loop-source.source n) so_far.id
          ∙ so_far.read.stays.texts kept c.args.run.now.id in
          run_more asked aggs text _ same was now c.loop-source.run c.read_wanted.new.run piece
          (c.in_ok-read_wanted.ensures.ok keeps) cells c.args.columns.now c.loop-source.columns
          (so_far.merged kept cells left) more.keep
          c.merge_cells.new.columns merged;
    }

pub returns-in_err-read_wanted-clause-refused : goal.returns-in_err-read_wanted-clause-refused
returns-in_err-read_wanted-clause-refused g c =
    let p = err_from_is_err_and c.from_residual.result c.from_residual.ensures.1 in
    rw (p.1, p.2) (λ bad keeps cells left.
    let so_far = c.loop-source.invariant in
    let word = (ran_stays g.S.Source c.loop-source.source c.read_wanted.new.source c.in_err-read_wanted.field-0.0
    c.in_err-read_wanted.ensures.run).word keeps in
    let same = ap (λ (n : ℕ). g.S.Source.texts c.loop-source.source n) so_far.id
    ∙ so_far.read.stays.texts word c.args.run.now.id in
    let so = so_far.merged word cells left in
    let fault : c.in_err-read_wanted.field-0.0 ≡ BadLayout = cc bad in
    absurd (c.in_err-read_wanted.ensures.refused (ap (λ fault. Err fault) fault) keeps so.rest
    (subst (λ (t : Option (List ℕ)). AreLeft t c.loop-source.run so.rest) (sym same) so.left)))

pub returns-in_err-read_wanted-clause-fresh : goal.returns-in_err-read_wanted-clause-fresh
returns-in_err-read_wanted-clause-fresh g c = c.loop-source.invariant.fresh

pub returns-in_err-read_wanted-clause-run : goal.returns-in_err-read_wanted-clause-run
returns-in_err-read_wanted-clause-run g c =
    ran_later g.S.Source c.args.source.now c.loop-source.source c.read_wanted.new.source c.loop-source.invariant.read
    g.met.S.Source.reads_on g.met.S.Source.fails_later c.from_residual.result _ c.from_residual.ensures.1
    c.in_err-read_wanted.ensures.run

pub returns-in_err-merge_cells-clause-refused : goal.returns-in_err-merge_cells-clause-refused
returns-in_err-merge_cells-clause-refused g c =
    let p = err_from_is_err_and c.from_residual-in_err-merge_cells.result
    c.from_residual-in_err-merge_cells.ensures.1 in
    rw (p.1, p.2) (λ bad keeps cells left.
    let asked = c.args.numbers.now in
    let aggs = c.args.aggs.now in
    let text = g.S.Source.texts c.args.source.now c.args.run.now.id in
    let so_far = c.loop-source.invariant in
    let now = entries_of c.merge_cells.new.slots in
    let step : HasRead g.S.Source c.loop-source.source c.read_wanted.new.source = c.in_ok-read_wanted.ensures.run in
    let kept = step.stays.word keeps in
    let same = ap (λ (n : ℕ). g.S.Source.texts c.loop-source.source n) so_far.id
    ∙ so_far.read.stays.texts kept c.args.run.now.id in
    let fault : c.in_err-merge_cells.field-0.0 ≡ BadLayout = cc bad in
    let refused = subst (λ (cells : List Cell). HaveNoRepresentative asked cells
    ⊎ (GroupsHaveRoomFor now aggs cells c.loop-source.columns → ⊥)) c.as_slice.ensures.value
    (c.in_err-merge_cells.ensures.refused (ap (λ fault. Err fault) fault)) in
    run_refused asked aggs text _ same (entries_of c.loop-source.slots) now c.loop-source.run c.read_wanted.new.run
    c.read_wanted.new.cells.items (c.in_ok-read_wanted.ensures.ok keeps) cells c.args.columns.now
    c.loop-source.columns (so_far.merged kept cells left)
    refused)

pub returns-in_err-merge_cells-clause-fresh : goal.returns-in_err-merge_cells-clause-fresh
returns-in_err-merge_cells-clause-fresh g c = λ slot h.
    let bound = group_count c.args.numbers.now.dimensions c.args.numbers.now.query.columns in
    let so_far = c.loop-source.invariant in
    let was = entries_of c.loop-source.slots in
    let more : Grow bound was (entries_of c.merge_cells.new.slots) =
    c.merge_cells.ensures.grow was (Grow-same bound was so_far.grow.slots) in
    c.merge_cells.ensures.fresh (entries_of c.args.slots.now) so_far.grow slot h
    ∙ so_far.fresh slot (omega (arith, h, more.longer))

pub returns-in_err-merge_cells-clause-grow : goal.returns-in_err-merge_cells-clause-grow
returns-in_err-merge_cells-clause-grow g c =
    c.merge_cells.ensures.grow (entries_of c.args.slots.now) c.loop-source.invariant.grow

pub returns-in_err-merge_cells-clause-run : goal.returns-in_err-merge_cells-clause-run
returns-in_err-merge_cells-clause-run g c =
    ran_own g.S.Source c.args.source.now c.read_wanted.new.source
    (HasRead-then g.S.Source g.met.S.Source.reads_on c.args.source.now c.loop-source.source c.read_wanted.new.source
    c.loop-source.invariant.read c.in_ok-read_wanted.ensures.run)
    c.from_residual-in_err-merge_cells.result _ c.from_residual-in_err-merge_cells.ensures.1
    c.in_err-merge_cells.ensures.only

pub returns-clause-merged : goal.returns-clause-merged
returns-clause-merged g c = λ keeps cells left.
    run_done c.args.numbers.now c.args.aggs.now (entries_of c.loop-source.slots)
    (g.S.Source.texts c.args.source.now c.args.run.now.id) cells c.loop-source.run c.args.columns.now
    c.loop-source.columns
    (c.loop-source-test.ensures.done.0 refl) (c.loop-source.invariant.merged keeps cells left)
