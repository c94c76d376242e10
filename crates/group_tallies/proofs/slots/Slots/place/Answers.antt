use Rattle.std.proofs.Common.{◌≡◌, ◌<◌, ap, sym, subst, refl, arith, Some}
use Rattle.std.proofs.lemmas.Result.{IfOk-weaker}
use Rattle.group_tallies.specs.Numbered.{entries_in}
use Rattle.group_tallies.specs.Slots.{entries_of, numbers_from, slot_of, CanPlace, Places}
use Rattle.group_tallies.proofs.Numbering.{Places-taken}
use Rattle.group_tallies.proofs.Placing.{slot_of-same}
use Rattle.group_tallies.proofs.slots.Slots.place.Goals as goal

pub returns-in-Direct-clause-ok : goal.returns-in-Direct-clause-ok
returns-in-Direct-clause-ok c =
    let number = c.args.number in
    let same = numbers_from 0 c.in-Direct.count in
    let below : number < c.in-Direct.count = subst (λ slots. CanPlace slots number) c.in-Direct.is c.requires in
    let found : slot_of same number ≡ Some number =
    slot_of-same 0 c.in-Direct.count number (omega arith) (omega (arith, below)) in
    let old : entries_of c.args.self.now ≡ same = ap entries_of c.in-Direct.is in
    rw (old, found) (refl, refl)

pub returns-in-Below-clause-ok : goal.returns-in-Below-clause-ok
returns-in-Below-clause-ok c =
    IfOk-weaker c.place.result _ _
    (λ slot takes.
    subst (λ slots. Places (entries_of slots) c.args.number slot (entries_in c.place.new.self.numbers))
    (sym c.in-Below.is)
    (Places-taken c.in-Below.table.numbers c.args.number slot c.place.new.self.numbers c.place.ensures.once
    c.place.ensures.still takes))
    c.place.ensures.ok

pub returns-in-Seen-clause-ok : goal.returns-in-Seen-clause-ok
returns-in-Seen-clause-ok c =
    IfOk-weaker c.place-in-Seen.result _ _
    (λ slot takes.
    subst (λ slots. Places (entries_of slots) c.args.number slot (entries_in c.place-in-Seen.new.self))
    (sym c.in-Seen.is)
    (Places-taken c.in-Seen.numbers c.args.number slot c.place-in-Seen.new.self c.place-in-Seen.ensures.once
    c.place-in-Seen.ensures.still takes))
    c.place-in-Seen.ensures.ok
