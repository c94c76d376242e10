use Rattle.std.proofs.Common.{◌≡◌, true, nat_le, sym, ap, ◌∙◌, arith}
use Rattle.std.specs.Prelude.{slice_get}
use Rattle.std.proofs.lemmas.Option.{slice_get_past}
use Rattle.std.proofs.lemmas.Grind.{common_steps}
use Rattle.lattice.specs.declared.view.View.{View}
use Rattle.lattice.specs.Views.{index_of, lattice}
use Rattle.lattice.proofs.Places.{place_of}
use Rattle.lattice.proofs.view.View.new.Goals as goal

pub returns-then-index-ge-VIEWS_OF_FIVE_AXES-clause-place :
    goal.returns-then-index-ge-VIEWS_OF_FIVE_AXES-clause-place
returns-then-index-ge-VIEWS_OF_FIVE_AXES-clause-place c =
    sym (slice_get_past (lattice true) c.args.index c.if-index-ge-VIEWS_OF_FIVE_AXES.true)

pub returns-clause-place : goal.returns-clause-place
returns-clause-place c =
    let view : View = record {
      customer = c.of_height.result;
      supplier = c.of_height-2.result;
      part = c.of_height-3.result;
      date = c.of_height-4.result;
      ship_mode = nat_le 256 c.args.index;
    } in
    let same : index_of view ≡ c.args.index = grind (arith, common_steps) in
    sym (place_of view) ∙ ap (slice_get (lattice true)) same
