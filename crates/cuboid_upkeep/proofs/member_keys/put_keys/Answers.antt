use Rattle.std.proofs.Common.{◌∙◌, ◌+◌, ◌<◌, sym, ap, subst, arith, get_or}
use Rattle.cube_model.specs.Places.{row_count_of}
use Rattle.cuboid_upkeep.specs.Codes.{member_code}
use Rattle.cuboid_upkeep.specs.Representatives.{missing_in}
use Rattle.cuboid_upkeep.proofs.MemberKeysLemmas.{AreSoFar, at_first, none_left, one_more, row_total}
use Rattle.cuboid_upkeep.proofs.member_keys.put_keys.Goals as goal

pub loop-place-init : goal.loop-place-init
loop-place-init c = at_first c.args.dims.now c.args.axis c.args.grouped c.args.keys.now c.requires.none

pub returns-then-missing-eq0-clause-whole : goal.returns-then-missing-eq0-clause-whole
returns-then-missing-eq0-clause-whole c =
    none_left c.args.dims.now c.args.axis c.keys-all.result.now c.keys-all.ensures.keys c.args.grouped c.args.keys.now
    c.loop-place.place c.loop-place.missing c.loop-place.keys c.requires.room
    c.loop-place.invariant c.if-missing-eq0.true

pub read-code-requires : goal.read-code-requires
read-code-requires c =
    let dims = c.args.dims.now in
    let place = c.loop-place.place in
    let total = row_total dims c.args.axis c.keys-all.result.now c.keys-all.ensures.keys in
    let within : place < row_count_of dims c.args.axis = omega (arith, total, c.loop-place-test.true) in
    let lead = c.of-codes.ensures c.requires.grouped in
    let below = lead.below place within in
    (member_code dims c.args.axis c.args.grouped place, lead.leads place within, omega (arith, below))

pub put_first-missing-requires-clause-code : goal.put_first-missing-requires-clause-code
put_first-missing-requires-clause-code c =
    let dims = c.args.dims.now in
    let place = c.loop-place.place in
    let total = row_total dims c.args.axis c.keys-all.result.now c.keys-all.ensures.keys in
    let within : place < row_count_of dims c.args.axis = omega (arith, total, c.loop-place-test.true) in
    let room = c.requires.room place within in
    let value =
    c.read-code.ensures (member_code dims c.args.axis c.args.grouped place)
    ((c.of-codes.ensures c.requires.grouped).leads place within) in
    omega (arith, room, value, c.loop-place.invariant.long)

pub loop-place-preserved : goal.loop-place-preserved
loop-place-preserved c =
    let dims = c.args.dims.now in
    let all = c.keys-all.result.now in
    let place = c.loop-place.place in
    let keys = c.loop-place.keys in
    let code = c.read-code.result in
    let key = get_or all place 0 in
    let left = c.put_first-missing.result in
    let total = row_total dims c.args.axis all c.keys-all.ensures.keys in
    let within : place < row_count_of dims c.args.axis = omega (arith, total, c.loop-place-test.true) in
    let room = c.requires.room place within in
    let value =
    c.read-code.ensures (member_code dims c.args.axis c.args.grouped place)
    ((c.of-codes.ensures c.requires.grouped).leads place within) in
    subst (AreSoFar dims c.args.axis c.args.grouped c.args.keys.now (place + 1) left)
    (sym c.put_first-missing.ensures.puts)
    (one_more dims c.args.axis all c.keys-all.ensures.keys c.args.grouped c.requires.good c.args.keys.now place
    c.loop-place.missing keys c.loop-place.invariant c.loop-place-test.true
    code key left value (λ i. key) (omega (arith, room, value))
    (c.put_first-missing.ensures.missing ∙ ap missing_in c.put_first-missing.ensures.puts))
