use Rattle.std.proofs.Common.{◌≡◌, ℕ, None, Option, Err, ap, inl, subst, arith}
use Rattle.std.proofs.lemmas.Result.{err_from_is_err_and}
use Rattle.cube_model.specs.declared.fault.Fault.TheVariants.{BadLayout}
use Rattle.cube_query.specs.CellSlots.{IsCellSlot}
use Rattle.group_tallies.specs.Slots.{entries_of}
use Rattle.cube_query.proofs.CellMerges.{columns_without_it}
use Rattle.cube_query.proofs.cell_slots.merge_one.Goals as goal

pub returns-in_err-slot-clause-refused : goal.returns-in_err-slot-clause-refused
returns-in_err-slot-clause-refused c =
    let p = err_from_is_err_and c.from_residual.result c.from_residual.ensures.1 in
    rw (p.1, p.2) (λ bad.
    let is : c.in_err-slot.field-0.0 ≡ BadLayout = cc bad in
    inl (c.in_err-slot.ensures.refused (ap (λ fault. Err fault) is)))

pub returns-in-None-clause-merged : goal.returns-in-None-clause-merged
returns-in-None-clause-merged c = record {
  group_slot = None;
  own = subst
      (λ (slot : Option ℕ). IsCellSlot c.args.numbers.now (entries_of c.cell_slot_of.new.slots) c.args.cell.now slot)
      c.in-None.is c.in_ok-slot.ensures.group_slot;
  merged = columns_without_it c.args.cell.now c.args.aggs.now c.args.columns.now c.requires.columns;
}

pub returns-in-Some-clause-fresh : goal.returns-in-Some-clause-fresh
returns-in-Some-clause-fresh c = λ first grown other h.
    let own = subst
    (λ (slot : Option ℕ). IsCellSlot c.args.numbers.now (entries_of c.cell_slot_of.new.slots) c.args.cell.now slot)
    c.in-Some.is c.in_ok-slot.ensures.group_slot in
    let within = (c.cell_slot_of.ensures.grow first grown).slots.within own.slot.0 c.in-Some.slot own.slot.2 in
    c.merge_cell.ensures.others other (omega (arith, within, h))
