use Rattle.std.proofs.Common.{inl, inr}
use Rattle.std.specs.Option.{option_map}
use Rattle.std.proofs.lemmas.Result.{IfErr-weaker, on_ok_weaker}
use Rattle.cuboid_upkeep.specs.Codes.{modes_of}
use Rattle.cuboid_upkeep.proofs.growing.GrowingCells.add_rows.Goals as goal

pub returns-in-ByNumber-clause-ok : goal.returns-in-ByNumber-clause-ok
returns-in-ByNumber-clause-ok g c =
    let modes = modes_of (option_map (λ modes. modes.now) c.args.modes) in
    rw c.in-ByNumber.is (on_ok_weaker c.add_rows.result (λ holds. holds modes) c.add_rows.ensures.ok)

pub returns-in-ByNumber-clause-refused : goal.returns-in-ByNumber-clause-refused
returns-in-ByNumber-clause-refused g c =
    let modes = modes_of (option_map (λ modes. modes.now) c.args.modes) in
    rw c.in-ByNumber.is
    (IfErr-weaker c.add_rows.result _ _ (λ fault why so_far represent. elim (why modes so_far represent) [
      | inl memory ↦ inl memory
      | inr bad ↦ inr (inl bad)
    ]) c.add_rows.ensures.refused)

pub returns-in-Merged-clause-ok : goal.returns-in-Merged-clause-ok
returns-in-Merged-clause-ok g c = rw c.in-Merged.is c.merge_rows.ensures.ok

pub returns-in-Merged-clause-refused : goal.returns-in-Merged-clause-refused
returns-in-Merged-clause-refused g c = rw c.in-Merged.is c.merge_rows.ensures.refused
