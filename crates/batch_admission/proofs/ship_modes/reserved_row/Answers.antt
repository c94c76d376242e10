use Rattle.std.proofs.Common.{◌∙◌, ◌<◌, ℕ, codes, not, length, sym, ap, subst, arith, below_more}
use Rattle.std.specs.Str.{bytes_eq}
use Rattle.batch_admission.specs.ShipModes.{row_number_at, texts_by}
use Rattle.batch_admission.proofs.ShipModesLemmas.{code_below, length-texts_by, no_text, none_reserved, nowhere}
use Rattle.batch_admission.proofs.ShipModesLemmas.{position_at, text_matches}
use Rattle.batch_admission.proofs.ship_modes.reserved_row.Goals as goal

pub returns-then-is_none : goal.returns-then-is_none
returns-then-is_none c =
    let none = no_text c.code.result (c.is_none.ensures ∙ ap not c.if-is_none.true) in
    sym (ap row_number_at (none_reserved c.args.modes.now.texts c.args.codes.now (codes "ALL")
    (sym c.code.ensures.value ∙ none) c.requires.below))

pub text_of-requires : goal.text_of-requires
text_of-requires c = subst (λ (n : ℕ). n < length c.args.modes.now.texts) (sym c.from_le_bytes.ensures)
    (code_below c.args.modes.now.texts c.args.codes.now c.loop-place.place c.loop-place-test.true c.requires.below)

pub returns-then-eq : goal.returns-then-eq
returns-then-eq c =
    let texts = c.args.modes.now.texts in
    let rows = c.args.codes.now in
    let place = c.loop-place.place in
    let within : place < length (texts_by texts rows) =
    omega (arith, c.loop-place-test.true, length-texts_by texts rows) in
    let here = text_matches texts rows place c.loop-place-test.true (codes "ALL") c.text_of.result.now
    c.from_le_bytes.result c.eq.result c.from_le_bytes.ensures c.text_of.ensures c.eq.ensures in
    sym (ap row_number_at
    (position_at (bytes_eq (codes "ALL")) (texts_by texts rows) place within c.loop-place.invariant
    (here ∙ c.if-eq.true)))

pub loop-place-preserved : goal.loop-place-preserved
loop-place-preserved c =
    let here = text_matches c.args.modes.now.texts c.args.codes.now c.loop-place.place c.loop-place-test.true
    (codes "ALL") c.text_of.result.now c.from_le_bytes.result c.eq.result c.from_le_bytes.ensures c.text_of.ensures
    c.eq.ensures in
    below_more _ _ c.loop-place.invariant (here ∙ c.if-eq.false)

pub returns : goal.returns
returns c = sym (ap row_number_at (nowhere (bytes_eq (codes "ALL")) (texts_by c.args.modes.now.texts c.args.codes.now)
    (λ k lt. c.loop-place.invariant k
    (omega (arith, lt, c.loop-place-test.false, length-texts_by c.args.modes.now.texts c.args.codes.now)))))
