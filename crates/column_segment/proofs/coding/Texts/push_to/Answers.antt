use Rattle.column_segment.specs.declared.columns.TextColumn.TheVariants.{OrderPriority, ShipPriority, CommitDate}
use Rattle.column_segment.specs.declared.columns.TextColumn.TheVariants.{ShipMode}
use Rattle.column_segment.proofs.Coded.{texts_short}
use Rattle.column_segment.proofs.coding.Texts.push_to.Goals as goal

pub push_to-requires : goal.push_to-requires
push_to-requires c = let b = c.requires.batch in
    record { short = texts_short OrderPriority b.0 _ _ b.1.orderpriority (b.2.short OrderPriority) b.2.few }

pub push_to-requires-2 : goal.push_to-requires-2
push_to-requires-2 c = let b = c.requires.batch in
    record { short = texts_short ShipPriority b.0 _ _ b.1.shippriority (b.2.short ShipPriority) b.2.few }

pub push_to-requires-3 : goal.push_to-requires-3
push_to-requires-3 c = let b = c.requires.batch in
    record { short = texts_short CommitDate b.0 _ _ b.1.commitdate (b.2.short CommitDate) b.2.few }

pub push_to-requires-4 : goal.push_to-requires-4
push_to-requires-4 c = let b = c.requires.batch in
    record { short = texts_short ShipMode b.0 _ _ b.1.shipmode (b.2.short ShipMode) b.2.few }
