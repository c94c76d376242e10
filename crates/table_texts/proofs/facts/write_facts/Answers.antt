use Rattle.std.proofs.Common.{◌≡◌, refl, true, false}
use Rattle.std.specs.List.{list_all}
use Rattle.std.proofs.KnownBytes.{Keeps-refl}
use Rattle.table_texts.specs.Spellable.{is_spellable}
use Rattle.table_texts.proofs.facts.write_facts.Goals as goal

pub returns-then-not-are_spellable : goal.returns-then-not-are_spellable
returns-then-not-are_spellable g c =
    let is : list_all is_spellable c.args.rows.now ≡ false = cc in
    rw is (refl, Keeps-refl _)

pub returns : goal.returns
returns g c =
    let is : list_all is_spellable c.args.rows.now ≡ true = cc in
    rw is c.write_rows.ensures
