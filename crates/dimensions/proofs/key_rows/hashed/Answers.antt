use Rattle.std.proofs.Common.{◌∙◌, sym, nat_eq}
use Rattle.std.specs.HashMap.{get}
use Rattle.dimensions.proofs.KeyLaws.{new_row, old_row}
use Rattle.dimensions.proofs.key_rows.hashed.Goals as goal
use Rattle.dimensions.proofs.key_rows.hashed.Goals.{then-not-contains_key+in_ok-insert, else-not-contains_key}

pub loop-row-preserved : goal.loop-row-preserved
loop-row-preserved c = elim c.if-not-contains_key.branch [
  | then-not-contains_key+in_ok-insert w ↦
      rw w.rows-is (new_row c.args.keys.now c.loop-row.row c.loop-row-test.true (get nat_eq c.loop-row.rows)
      c.loop-row.invariant (get nat_eq w.insert.new.self) (sym c.contains_key.ensures ∙ w.if-not-contains_key.true)
      w.in_ok-insert.ensures.updates.0)
  | else-not-contains_key w ↦
      rw w.rows-is (old_row c.args.keys.now c.loop-row.row c.loop-row-test.true (get nat_eq c.loop-row.rows)
      c.loop-row.invariant (sym c.contains_key.ensures ∙ w.if-not-contains_key.false))
]
