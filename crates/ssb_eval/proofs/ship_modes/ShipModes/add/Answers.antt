use Rattle.std.proofs.Common.{◌≡◌, ◌∙◌, ap, false, is_some, Option, not, refl, rules, subst, sym, true, ℕ}
use Rattle.dictionary.specs.Dictionary.{Adds}
use Rattle.ssb_eval.specs.ShipModes.{HasMet, Met}
use Rattle.ssb_eval.proofs.Modes.{HasMet-crowded, HasMet-full, HasMet-more, code_in, not_some}
use Rattle.ssb_eval.proofs.ship_modes.ShipModes.add.Goals as goal

pub returns-then-is_some-clause-ok : goal.returns-then-is_some-clause-ok
returns-then-is_some-clause-ok c = λ earlier modes row_is has.
    let some : is_some c.self.inside.crowded ≡ true = search rules in
    let inside = subst (λ (m : Met). HasMet m earlier modes) (sym c.self.view_is) has in
    HasMet-crowded _ _ earlier modes c.args.mode.now inside
    (c.first_reserved-self-inside.ensures modes row_is inside.reserved) refl refl some

pub returns-then-is_none-clause-ok : goal.returns-then-is_none-clause-ok
returns-then-is_none-clause-ok c = λ earlier modes row_is has.
    let none : is_some c.self.inside.crowded ≡ false = search rules in
    let inside = subst (λ (m : Met). HasMet m earlier modes) (sym c.self.view_is) has in
    let full = not_some c.in_ok-code.code (c.is_none.ensures ∙ ap not c.if-is_none.true) in
    HasMet-full _ _ earlier modes c.args.mode.now inside
    (c.first_reserved-self-inside.ensures modes row_is inside.reserved) c.args.row row_is none refl
    (subst (λ (code : Option ℕ). Adds c.self.inside.known c.args.mode.now code c.add.new.self) full
    c.in_ok-code.ensures.ok)

pub returns-else-is_none-clause-ok : goal.returns-else-is_none-clause-ok
returns-else-is_none-clause-ok c = λ earlier modes row_is has.
    let none : is_some c.self.inside.crowded ≡ false = search rules in
    let inside = subst (λ (m : Met). HasMet m earlier modes) (sym c.self.view_is) has in
    let code = code_in c.in_ok-code.code (c.is_none.ensures ∙ ap not c.if-is_none.false) in
    HasMet-more _ _ earlier modes c.args.mode.now inside
    (c.first_reserved-self-inside.ensures modes row_is inside.reserved) code.0 none refl
    (subst (λ (found : Option ℕ). Adds c.self.inside.known c.args.mode.now found c.add.new.self) code.1
    c.in_ok-code.ensures.ok)
