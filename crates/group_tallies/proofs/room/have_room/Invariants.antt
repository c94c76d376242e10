use Rattle.std.proofs.Common.{ℕ, ◌<◌, slice_index_or}
use Rattle.std.specs.declared.alloc.Global.{Global}
use Rattle.std.specs.declared.vec.Vec.{Vec}
use Rattle.cube_model.specs.declared.measure.Agg.{Agg}
use Rattle.group_tallies.specs.Columns.{HasRoom}
use Rattle.group_tallies.specs.declared.tally.Tally.{Tally}
use Rattle.group_tallies.proofs.room.have_room.Given as goal

abbrev pub invariant-loop-i : goal.invariant-loop-i
invariant-loop-i g l = (k : ℕ) → k < l.i → (agg : Agg) (column : Vec Tally Global)
    → HasRoom (slice_index_or l.aggs k agg) (slice_index_or l.columns k column).items (g.F.FactRows.rows l.rows)
    l.group_slots
