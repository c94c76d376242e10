use Rattle.std.proofs.Common.{◌∙◌, ◌<◌, ◌+◌, ℕ, List, Option, Some, None, not, true, length, set, sym, ap, subst, arith}
use Rattle.dictionary.specs.Columns.{text_of_code}
use Rattle.dictionary.specs.Dictionary.{Adds}
use Rattle.batch_admission.specs.ShipModes.{row_number_at}
use Rattle.batch_admission.proofs.ShipModesLemmas.{Adding, adding_again, adding_more, adding_none, code_below, mark_is}
use Rattle.batch_admission.proofs.ShipModesLemmas.{no_text, some_text}
use Rattle.batch_admission.proofs.ship_modes.add_modes.Goals as goal

pub index-requires : goal.index-requires
index-requires c =
    let below = code_below c.args.modes.now.texts c.args.codes.now c.loop-place.place c.loop-place-test.true
    c.requires.below in
    omega (arith, below, c.from.ensures, c.from_le_bytes-code.ensures, c.loop-place.invariant.many)

pub loop-place-preserved-then-index : goal.loop-place-preserved-then-index
loop-place-preserved-then-index c =
    let place = c.loop-place.place in
    let within = c.loop-place-test.true in
    let below = code_below c.args.modes.now.texts c.args.codes.now place within c.requires.below in
    let marked : c.from.result < length c.loop-place.met.items =
    omega (arith, below, c.from.ensures, c.from_le_bytes-code.ensures, c.loop-place.invariant.many) in
    adding_again c.args.known.now c.loop-place.known c.args.modes.now.texts c.args.codes.now c.loop-place.met.items
    place c.loop-place.invariant within
    (mark_is c.loop-place.met.items c.from.result _ c.index.result.now (c.from.ensures ∙ c.from_le_bytes-code.ensures)
    marked c.index.ensures c.if-index.true)

pub text_of-requires : goal.text_of-requires
text_of-requires c = subst (λ (n : ℕ). n < length c.args.modes.now.texts) (sym c.from_le_bytes-code.ensures)
    (code_below c.args.modes.now.texts c.args.codes.now c.loop-place.place c.loop-place-test.true c.requires.below)

pub returns-then-is_none-clause-crowded : goal.returns-then-is_none-clause-crowded
returns-then-is_none-clause-crowded c = λ earlier are.
    let known = c.loop-place.known in
    let texts = c.args.modes.now.texts in
    let none = no_text c.in_ok-add.field-0 (c.is_none.ensures ∙ ap not c.if-is_none.true) in
    let adds = subst (λ (t : List ℕ). Adds known t None c.add.new.self)
    (c.text_of.ensures ∙ ap (text_of_code texts) c.from_le_bytes-code.ensures)
    (subst (λ (code : Option ℕ). Adds known c.text_of.result.now code c.add.new.self) none c.in_ok-add.ensures.ok) in
    sym (ap row_number_at
    (adding_none c.args.known.now known texts c.args.codes.now c.loop-place.met.items c.loop-place.place
    c.loop-place.invariant c.loop-place-test.true c.add.new.self adds earlier are))

pub index_mut-requires : goal.index_mut-requires
index_mut-requires c =
    let below = code_below c.args.modes.now.texts c.args.codes.now c.loop-place.place c.loop-place-test.true
    c.requires.below in
    omega (arith, below, c.from-in-loop-place.ensures, c.from_le_bytes-code.ensures, c.loop-place.invariant.many)

pub loop-place-preserved : goal.loop-place-preserved
loop-place-preserved c =
    let known = c.loop-place.known in
    let texts = c.args.modes.now.texts in
    let code = some_text c.in_ok-add.field-0 (c.is_none.ensures ∙ ap not c.if-is_none.false) in
    let adds = subst (λ (t : List ℕ). Adds known t (Some code.0) c.add.new.self)
    (c.text_of.ensures ∙ ap (text_of_code texts) c.from_le_bytes-code.ensures)
    (subst (λ (found : Option ℕ). Adds known c.text_of.result.now found c.add.new.self) code.1
    c.in_ok-add.ensures.ok) in
    subst (λ (n : ℕ). Adding c.args.known.now c.add.new.self texts c.args.codes.now
    (set c.loop-place.met.items n true) (c.loop-place.place + 1))
    (sym (c.from-in-loop-place.ensures ∙ c.from_le_bytes-code.ensures))
    (adding_more c.args.known.now known texts c.args.codes.now c.loop-place.met.items c.loop-place.place
    c.loop-place.invariant c.loop-place-test.true code.0 c.add.new.self adds c.in_ok-add.ensures.few)
