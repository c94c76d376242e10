use Rattle.std.proofs.Common.{◌==◌, ◌∙◌, rules, tests}
use Rattle.std.proofs.lemmas.Iterator.{YieldsList-from_slice}
use Rattle.std.proofs.lemmas.Iterator.Search.{find_from_yields_List}
use Rattle.warehouse_root.specs.declared.cuboid.StoredCuboid.{StoredCuboid}
use Rattle.planned_queries.proofs.following.cuboid_of.Goals as goal

pub returns : goal.returns
returns c =
    c.copied.ensures ∙ find_from_yields_List (λ (cuboid : StoredCuboid). cuboid.view == c.args.number) _ _ c.find.result
    c.find.ensures.ran (YieldsList-from_slice c.args.cuboids.now c.iter.ensures.rest)
    (λ x b q k. search (rules, tests))
