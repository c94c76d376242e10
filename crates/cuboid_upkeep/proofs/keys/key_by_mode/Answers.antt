use Rattle.std.proofs.lemmas.Option.{IfSome_then}
use Rattle.cuboid_upkeep.proofs.keys.key_by_mode.Goals as goal

pub returns-clause-some : goal.returns-clause-some
returns-clause-some g c =
    IfSome_then c.row_key.result c.row_key.ensures.some
    (λ key keyed modes codes. keyed modes (c.in_ok-mode.ensures.some modes codes))
