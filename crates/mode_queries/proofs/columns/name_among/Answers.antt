use Rattle.std.proofs.Common.{◌≡◌, ◌∙◌, sym, ap, ◌+◌, ◌-◌, [], length, ◌≤◌, map, get_or, arith}
use Rattle.std.specs.List.{insert}
use Rattle.std.proofs.lemmas.List.{get_or-map, length-map}
use Rattle.std.proofs.lemmas.List.Edits.{get_or-insert_above}
use Rattle.cube_model.specs.Names.{attr_name}
use Rattle.mode_queries.specs.Names.{ship_mode_name}
use Rattle.mode_queries.proofs.columns.name_among.Goals as goal

pub returns-else-column-place-2 : goal.returns-else-column-place-2
returns-else-column-place-2 c =
    let names = map attr_name c.args.columns.now in
    let many : length names ≡ length c.args.columns.now = length-map c.args.columns.now attr_name in
    let place : c.min-place.result ≡ c.args.place = grind (
      arith,
      c.requires,
      c.min-place.ensures,
      c.if-column-place.false,
      c.if-column-place-2.false,
    ) in
    let after : c.args.place + 1 ≤ c.args.column = grind (
      arith,
      place,
      c.if-column-place.false,
      c.if-column-place-2.false,
    ) in
    let whole : (c.args.column - 1) + 1 ≡ c.args.column = omega (arith, after) in
    c.name-else-column-place-2.ensures
    ∙ sym (get_or-map attr_name c.args.columns.now (c.args.column - 1) _ [] (omega (arith, c.requires, after)))
    ∙ sym (get_or-insert_above names c.args.place ship_mode_name [] (c.args.column - 1) (omega (arith, after))
    (omega (arith, after, many, c.requires)))
    ∙ ap (λ k. get_or (insert names c.args.place ship_mode_name) k []) whole
