use Rattle.std.proofs.Common.{◌≡◌, ◌∙◌, codes, false, is_some, rules, sym, true}
use Rattle.dictionary.proofs.CallerLemmas.{bytes_eq-symm}
use Rattle.ssb_eval.proofs.Modes.{reserved_before, reserved_here, reserved_nowhere}
use Rattle.ssb_eval.proofs.ship_modes.first_reserved.Goals as goal

pub returns-then-is_some : goal.returns-then-is_some
returns-then-is_some c = λ modes row_is first_is.
    let some : is_some c.args.first ≡ true = search rules in
    reserved_before modes c.args.mode.now c.args.first first_is some

pub returns-then-eq : goal.returns-then-eq
returns-then-eq c = λ modes row_is first_is.
    let none : is_some c.args.first ≡ false = search rules in
    reserved_here modes c.args.mode.now c.args.first first_is c.args.row none row_is
    (bytes_eq-symm (codes "ALL") c.args.mode.now ∙ sym c.eq.ensures ∙ c.if-eq.true)

pub returns : goal.returns
returns c = λ modes row_is first_is.
    let none : is_some c.args.first ≡ false = search rules in
    reserved_nowhere modes c.args.mode.now c.args.first first_is none
    (bytes_eq-symm (codes "ALL") c.args.mode.now ∙ sym c.eq.ensures ∙ c.if-eq.false)
