use Rattle.std.proofs.Common.{◌≤◌, ◌<◌, ◌++◌, ◌^◌, ℕ, List, length, take, Err, ap, subst, arith, rules}
use Rattle.std.proofs.lemmas.Result.{IfOk-weaker}
use Rattle.cube_model.specs.declared.fault.Fault.{Fault}
use Rattle.warehouse_objects.proofs.Folded.{err_fault}
use Rattle.cube_model.specs.Admission.{AreInRange, all_rows}
use Rattle.cube_model.specs.declared.rows.LineOrder.{LineOrder}
use Rattle.cuboid_upkeep.specs.Grouping.{RepresentRows}
use Rattle.cuboid_upkeep.specs.Steps.{HaveTooMany}
use Rattle.warehouse_objects.specs.Warehouse.{ship_modes_of}
use Rattle.warehouse_objects.specs.Represents.{rows_in}
use Rattle.stored_cuboids.proofs.Made.{next_weaker}
use Rattle.stored_cuboids.proofs.NextsLemmas.{count_of, whole_few, whole_in_range, whole_rows}
use Rattle.warehouse_objects.proofs.OneMoreRead.{reads_nothing}
use Rattle.stored_cuboids.proofs.nexts.next_run.Goals as goal

pub returns-in-Ok-clause-ok : goal.returns-in-Ok-clause-ok
returns-in-Ok-clause-ok g c =
    let span = c.args.span in
    let some : span.from ≤ span.to = omega (arith, c.requires.some) in
    IfOk-weaker c.replaced.result _ _
    (λ next is. next_weaker _ _ c.args.root.now c.args.cuboid span.to next
    (λ w old has less. whole_rows (λ (rows : List LineOrder). RepresentRows w.rows (ship_modes_of w) rows c.in-Ok.cells)
    w.batches span c.args.cuboid.mark c.requires.from some
    (c.in-Ok.ensures.ok less.0 w old (rows_in w.batches span) less.1 has.found has.said_is less.2)) is)
    c.replaced.ensures.ok

pub returns-in-Err-clause-large : goal.returns-in-Err-clause-large
returns-in-Err-clause-large g c is k w stored represents has represent =
    let span = c.args.span in
    let some : span.from ≤ span.to = omega (arith, c.requires.some) in
    whole_rows (λ (rows : List LineOrder). HaveTooMany w.rows (ship_modes_of w) c.args.tail.now.view rows) w.batches
    span
    c.args.cuboid.mark c.requires.from some
    (c.in-Err.ensures.large (ap (λ (f : Fault). Err f) (err_fault c.in-Err.fault _ is)) k w stored
    (rows_in w.batches span) represents has.found has.said_is represent)

pub returns-in-Err-clause-refused : goal.returns-in-Err-clause-refused
returns-in-Err-clause-refused g c is k w stored represents has represent =
    let span = c.args.span in
    let some : span.from ≤ span.to = omega (arith, c.requires.some) in
    let within : span.to ≤ length w.batches =
    omega (arith, c.requires.to, count_of c.args.root.now c.args.cuboid w stored has) in
    c.in-Err.ensures.refused (ap (λ (f : Fault). Err f) (err_fault c.in-Err.fault _ is)) k w stored
    (rows_in w.batches span) represents has.found has.said_is represent
    (subst (λ (n : ℕ). AreInRange (all_rows (take n w.batches) ++ rows_in w.batches span)) c.requires.from
    (whole_in_range w represents.batches span some within))
    (subst (λ (n : ℕ). length (all_rows (take n w.batches) ++ rows_in w.batches span) < 2 ^ 63) c.requires.from
    (whole_few w represents.batches span some within))

pub returns-then-has_room-clause-reads : goal.returns-then-has_room-clause-reads
returns-then-has_room-clause-reads g c =
    reads_nothing g.D.Sectors g.met.D.Sectors.only_now c.args.store.now c.requires.fine _ (λ is. search rules)
