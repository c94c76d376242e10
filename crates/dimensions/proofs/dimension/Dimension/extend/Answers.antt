use Rattle.std.proofs.Common.{◌≡◌, ◌≤◌, ◌<◌, ◌+◌, ◌∙◌, inr, List, ap, sym, map, arith, length, get_or}
use Rattle.std.proofs.lemmas.List.{length-map, get_or-map}
use Rattle.dimensions.specs.TextRows.{TextRow}
use Rattle.dimensions.specs.Shapes.{row_limit_of, text_rules}
use Rattle.dimensions.proofs.DimensionLemmas.{goes_on_after, done_after, few_texts, holds_count, ranks_made}
use Rattle.dimensions.proofs.DimensionLemmas.{so_far_first, stops_after, too_many}
use Rattle.dimensions.proofs.dimension.Dimension.extend.Goals as goal

pub returns-then-not-has_room : goal.returns-then-not-has_room
returns-then-not-has_room g c = λ old holds.
    let new : List TextRow = map g.R.DimensionRow.shown c.args.rows.now in
    let count = length-map c.args.rows.now g.R.DimensionRow.shown in
    let own = holds_count c.args.axis old c.args.self.now holds.0 in
    let above : row_limit_of c.args.axis < length old + length new =
    omega (arith, count, own, c.len-before.ensures, c.if-not-has_room.ensures.full) in
    inr (too_many (text_rules c.args.axis) old new above)

pub loop-row-init : goal.loop-row-init
loop-row-init g c = λ old holds. so_far_first c.args.axis old (map g.R.DimensionRow.shown c.args.rows.now)
    c.args.self.now
    holds

pub loop-row-preserved : goal.loop-row-preserved
loop-row-preserved g c = λ old holds.
    let new : List TextRow = map g.R.DimensionRow.shown c.args.rows.now in
    let row : TextRow = g.R.DimensionRow.shown c.row-item.result in
    let count = length-map c.args.rows.now g.R.DimensionRow.shown in
    let own = holds_count c.args.axis old c.args.self.now holds.0 in
    let few : length old + length new ≤ row_limit_of c.args.axis =
    omega (arith, count, own, c.len-before.ensures, c.if-not-has_room.ensures.room) in
    let lt : c.loop-row.row-index < length new = omega (arith, count, c.loop-row-test.true) in
    let at : get_or new c.loop-row.row-index row ≡ row =
    get_or-map g.R.DimensionRow.shown c.args.rows.now c.loop-row.row-index c.row-item.result row c.loop-row-test.true
    ∙ ap g.R.DimensionRow.shown (sym c.row-item.is) in
    goes_on_after c.args.axis old new few c.loop-row.row-index c.loop-row.self (c.loop-row.invariant old holds) row lt
    at c.add.new.self (c.in_default.ensures _ (c.loop-row.invariant old holds).0)

pub returns-in-Err : goal.returns-in-Err
returns-in-Err g c = λ old holds.
    let new : List TextRow = map g.R.DimensionRow.shown c.args.rows.now in
    let row : TextRow = g.R.DimensionRow.shown c.row-item.result in
    let count = length-map c.args.rows.now g.R.DimensionRow.shown in
    let own = holds_count c.args.axis old c.args.self.now holds.0 in
    let few : length old + length new ≤ row_limit_of c.args.axis =
    omega (arith, count, own, c.len-before.ensures, c.if-not-has_room.ensures.room) in
    let lt : c.loop-row.row-index < length new = omega (arith, count, c.loop-row-test.true) in
    let at : get_or new c.loop-row.row-index row ≡ row =
    get_or-map g.R.DimensionRow.shown c.args.rows.now c.loop-row.row-index c.row-item.result row c.loop-row-test.true
    ∙ ap g.R.DimensionRow.shown (sym c.row-item.is) in
    rw c.counted_after.ensures
    (stops_after c.args.axis old new few c.loop-row.row-index c.loop-row.self (c.loop-row.invariant old holds) row
    lt at c.add.new.self c.len-before.result c.in-Err.fault (omega (arith, own, c.len-before.ensures))
    (c.in-Err.ensures _ (c.loop-row.invariant old holds).0))

pub rank_members-requires : goal.rank_members-requires
rank_members-requires g c =
    record {
      few = λ i lt. few_texts c.args.axis _ c.loop-row.self
          (c.loop-row.invariant c.requires.sound.0 c.requires.sound.1).0 i
          (omega (arith, lt, c.loop-row.self.columns.ok.0));
    }

pub returns : goal.returns
returns g c = λ old holds.
    let new : List TextRow = map g.R.DimensionRow.shown c.args.rows.now in
    let count = length-map c.args.rows.now g.R.DimensionRow.shown in
    let own = holds_count c.args.axis old c.args.self.now holds.0 in
    let few : length old + length new ≤ row_limit_of c.args.axis =
    omega (arith, count, own, c.len-before.ensures, c.if-not-has_room.ensures.room) in
    let last : c.loop-row.row-index ≡ length new =
    omega (arith, count, c.loop-row.auto.row-index-end, c.loop-row-test.false) in
    ranks_made c.args.axis old new c.loop-row.self c.rank_members.new.self c.rank_members.result
    (done_after c.args.axis old new c.loop-row.row-index c.loop-row.self few last (c.loop-row.invariant old holds))
    (c.rank_members.ensures.keys ∙ c.densify.ensures.keys) c.rank_members.ensures.count c.rank_members.ensures.ok
    c.rank_members.ensures.memory
