use Rattle.std.proofs.Common.{◌≡◌, ◌⊎◌, ◌<◌, ◌∙◌, ap, inr, arith, rules, ℕ, List, length, nat_eq}
use Rattle.std.specs.List.{IsDistinct, position_or_len}
use Rattle.std.proofs.lemmas.List.{length-map}
use Rattle.cube_model.specs.declared.fault.Fault.{Fault}
use Rattle.cuboid_cells.specs.declared.cell.Cell.{Cell}
use Rattle.cuboid_cells.specs.Cells.{key_as_number}
use Rattle.cuboid_upkeep.specs.Steps.{AreKeyed, MergesAt, Overflows, OverflowsAt, TakesIn}
use Rattle.cuboid_upkeep.proofs.Added.{err_through, ok_through}
use Rattle.cuboid_upkeep.proofs.GroupingLemmas.{keys_stay, merge_overflows, merged_keyed, merged_taken, taken_after}
use Rattle.cuboid_upkeep.proofs.grouping.take_in.Goals as goal

pub returns-then-place-len-clause-ok : goal.returns-then-place-len-clause-ok
returns-then-place-len-clause-ok c =
    taken_after c.args.cells.now.items c.args.cell c.in-Ok.place
    (c.in-Ok.ensures.index ∙ (λ i. position_or_len (nat_eq (c.number.ensures.number i)) (c.requires.keys_are i)))
    (omega (arith, c.if-place-len.true, c.len.ensures)) c.push.new.self.items c.in_ok-push.ensures.items

pub returns-clause-keyed : goal.returns-clause-keyed
returns-clause-keyed c =
    let cells : List Cell = c.args.cells.now.items in
    let new : List Cell = c.merge_at.new.slots.items in
    let within : c.in-Ok.place < length cells = omega (arith, c.if-place-len.false, c.len.ensures) in
    let keys : List ℕ = c.args.numbers.now.keys in
    let in_keys : c.in-Ok.place < length keys =
    omega (
      arith,
      c.if-place-len.false,
      c.len.ensures,
      ap length c.requires.keys_are,
      length-map cells (λ (cell : Cell). key_as_number cell.key),
    ) in
    let once : IsDistinct nat_eq c.insert_full.new.self.keys = search rules in
    ok_through c.merge_at.result (MergesAt cells c.in-Ok.place c.args.cell new)
    (AreKeyed c.insert_full.new.self.keys new)
    (λ m.
    merged_keyed cells c.args.cell c.in-Ok.place
    (c.in-Ok.ensures.index ∙ (λ i. position_or_len (nat_eq (c.number.ensures.number i)) (c.requires.keys_are i))) within
    new m
    keys c.insert_full.new.self.keys c.requires.keys_are
    (c.in-Ok.ensures.keys ∙ keys_stay keys c.number.result c.in-Ok.place c.in-Ok.ensures.index in_keys) once)
    c.merge_at.ensures.ok

pub returns-clause-ok : goal.returns-clause-ok
returns-clause-ok c =
    let cells : List Cell = c.args.cells.now.items in
    let new : List Cell = c.merge_at.new.slots.items in
    let within : c.in-Ok.place < length cells = omega (arith, c.if-place-len.false, c.len.ensures) in
    ok_through c.merge_at.result (MergesAt cells c.in-Ok.place c.args.cell new) (TakesIn cells c.args.cell new)
    (λ m.
    merged_taken cells c.args.cell c.in-Ok.place
    (c.in-Ok.ensures.index ∙ (λ i. position_or_len (nat_eq (c.number.ensures.number i)) (c.requires.keys_are i))) within
    new m)
    c.merge_at.ensures.ok

pub returns-clause-refused : goal.returns-clause-refused
returns-clause-refused c =
    let cells : List Cell = c.args.cells.now.items in
    let within : c.in-Ok.place < length cells = omega (arith, c.if-place-len.false, c.len.ensures) in
    err_through c.merge_at.result (λ fault. (fault ≡ Fault.BadLayout) × OverflowsAt cells c.in-Ok.place c.args.cell)
    (λ fault. (fault ≡ Fault.Memory) ⊎ ((fault ≡ Fault.BadLayout) × Overflows cells c.args.cell))
    (λ fault why. inr (
      why.0,
      merge_overflows cells c.args.cell c.in-Ok.place
          (c.in-Ok.ensures.index ∙ (λ i. position_or_len (nat_eq (c.number.ensures.number i)) (c.requires.keys_are i)))
          within
          why.1,
    ))
    c.merge_at.ensures.refused
