use Rattle.std.proofs.Common.{◌≡◌, ◌∙◌, sym, arith, None, get_or}
use Rattle.cuboid_upkeep.proofs.MemberKeysLemmas.{nothing_at, one_found}
use Rattle.cuboid_upkeep.proofs.member_keys.put_first.Goals as goal

pub overflow_sub-result : goal.overflow_sub-result
overflow_sub-result c =
    let keys = c.args.keys.now in
    let place = c.from-place.result in
    let none : get_or keys place None ≡ None =
    nothing_at (get_or keys place None) (sym c.is_some.ensures ∙ c.if-is_some.false) in
    let found = one_found keys place c.args.key (omega (arith, c.requires.code, c.from-place.ensures)) none in
    omega (arith, found, c.requires.missing)

pub returns-clause-missing : goal.returns-clause-missing
returns-clause-missing c =
    let keys = c.args.keys.now in
    let place = c.from-place.result in
    let none : get_or keys place None ≡ None =
    nothing_at (get_or keys place None) (sym c.is_some.ensures ∙ c.if-is_some.false) in
    let found = one_found keys place c.args.key (omega (arith, c.requires.code, c.from-place.ensures)) none in
    omega (arith, found, c.requires.missing)
