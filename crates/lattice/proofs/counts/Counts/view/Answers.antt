use Rattle.std.proofs.Common.{◌<◌, ◌≤◌, length, sym, ◌∙◌, arith}
use Rattle.std.specs.Option.{is_some}
use Rattle.std.proofs.lemmas.Option.{slice_get_past}
use Rattle.lattice.specs.Sizes.{lattice_of}
use Rattle.lattice.proofs.Places.{in_lattice}
use Rattle.lattice.proofs.counts.Counts.view.Goals as goal

pub returns-then-index-view_count : goal.returns-then-index-view_count
returns-then-index-view_count c =
    let below : c.args.index < length (lattice_of c.args.self.now) =
    omega (arith, c.if-index-view_count.true, c.view_count.ensures) in
    c.new.ensures.place ∙ in_lattice (is_some c.args.self.now.ship_modes) c.args.index below

pub returns-else-index-view_count : goal.returns-else-index-view_count
returns-else-index-view_count c =
    let past : length (lattice_of c.args.self.now) ≤ c.args.index =
    omega (arith, c.if-index-view_count.false, c.view_count.ensures) in
    sym (slice_get_past (lattice_of c.args.self.now) c.args.index past)
