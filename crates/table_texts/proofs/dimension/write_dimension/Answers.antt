use Rattle.std.proofs.Common.{◌≡◌, refl, true, false}
use Rattle.std.proofs.KnownBytes.{Keeps-refl}
use Rattle.table_texts.specs.Spellable.{is_spellable_dimension}
use Rattle.table_texts.proofs.dimension.write_dimension.Goals as goal

pub returns-then-not-is_spellable : goal.returns-then-not-is_spellable
returns-then-not-is_spellable g c =
    let is : is_spellable_dimension c.args.dims.now c.args.axis ≡ false = cc in
    rw is (refl, Keeps-refl _)

pub returns : goal.returns
returns g c =
    let is : is_spellable_dimension c.args.dims.now c.args.axis ≡ true = cc in
    rw is c.write_rows.ensures
