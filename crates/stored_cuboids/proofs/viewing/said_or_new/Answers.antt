use Rattle.std.proofs.Common.{◌==◌, sym, ap, ◌∙◌, rules, tests, option_map, Bor}
use Rattle.std.proofs.lemmas.Iterator.{YieldsList-from_slice}
use Rattle.std.proofs.lemmas.Iterator.Search.{find_from_yields_List}
use Rattle.warehouse_root.specs.declared.cuboid.StoredCuboid.{StoredCuboid}
use Rattle.warehouse_objects.specs.Represents.{said_or_new}
use Rattle.stored_cuboids.proofs.viewing.said_or_new.Goals as goal

pub returns-in-Some : goal.returns-in-Some
returns-in-Some c =
    let found = find_from_yields_List (λ (cuboid : StoredCuboid). cuboid.view == c.args.number) _ _ c.find.result
    c.find.ensures.ran (YieldsList-from_slice c.args.cuboids.now c.iter.ensures.rest)
    (λ x b q k. search (rules, tests)) in
    ap (said_or_new c.args.number) (sym (ap (option_map (λ (r : Bor StoredCuboid). r.now)) c.in-Some.is) ∙ found)

pub returns-in-None : goal.returns-in-None
returns-in-None c =
    let found = find_from_yields_List (λ (cuboid : StoredCuboid). cuboid.view == c.args.number) _ _ c.find.result
    c.find.ensures.ran (YieldsList-from_slice c.args.cuboids.now c.iter.ensures.rest)
    (λ x b q k. search (rules, tests)) in
    ap (said_or_new c.args.number) (sym (ap (option_map (λ (r : Bor StoredCuboid). r.now)) c.in-None.is) ∙ found)
