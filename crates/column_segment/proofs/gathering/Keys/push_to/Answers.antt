use Rattle.std.proofs.Common.{[], ◌∷◌}
use Rattle.std.proofs.lemmas.Result.{on_ok_weaker}
use Rattle.column_segment.specs.Segment.{number_column}
use Rattle.column_segment.specs.declared.columns.FactColumn.TheVariants.{OrderKey, LineNumber, CustKey, PartKey}
use Rattle.column_segment.specs.declared.columns.FactColumn.TheVariants.{SuppKey, OrderDate}
use Rattle.column_segment.proofs.After.{no_part, parts_more}
use Rattle.column_segment.proofs.Gathered.{column_after}
use Rattle.column_segment.proofs.gathering.Keys.push_to.Goals as goal

pub returns-clause-ok : goal.returns-clause-ok
returns-clause-ok c =
    let s0 = c.args.out.now.items in
    let now = c.args.self.now in
    on_ok_weaker c.push_column-6.result
    (λ put rows have.
    let part = number_column rows in
    let one = parts_more part [] OrderKey s0 s0 c.push_column.new.out.items (no_part part s0)
    (column_after OrderKey rows now.orderkey.items c.deref.result.now s0 c.push_column.new.out.items
    have.orderkey c.deref.ensures.value c.in_ok-push_column.ensures.ok) in
    let two = parts_more part (OrderKey ∷ []) LineNumber s0 c.push_column.new.out.items
    c.push_column-2.new.out.items one
    (column_after LineNumber rows now.linenumber.items c.deref-2.result.now c.push_column.new.out.items
    c.push_column-2.new.out.items have.linenumber c.deref-2.ensures.value c.in_ok-push_column-2.ensures.ok) in
    let three = parts_more part (OrderKey ∷ LineNumber ∷ []) CustKey s0
    c.push_column-2.new.out.items c.push_column-3.new.out.items two
    (column_after CustKey rows now.custkey.items c.deref-3.result.now c.push_column-2.new.out.items
    c.push_column-3.new.out.items have.custkey c.deref-3.ensures.value c.in_ok-push_column-3.ensures.ok) in
    let four = parts_more part (OrderKey ∷ LineNumber ∷ CustKey ∷ []) PartKey s0
    c.push_column-3.new.out.items c.push_column-4.new.out.items three
    (column_after PartKey rows now.partkey.items c.deref-4.result.now c.push_column-3.new.out.items
    c.push_column-4.new.out.items have.partkey c.deref-4.ensures.value c.in_ok-push_column-4.ensures.ok) in
    let five = parts_more part (OrderKey ∷ LineNumber ∷ CustKey ∷ PartKey ∷ [])
    SuppKey s0 c.push_column-4.new.out.items c.push_column-5.new.out.items four
    (column_after SuppKey rows now.suppkey.items c.deref-5.result.now c.push_column-4.new.out.items
    c.push_column-5.new.out.items have.suppkey c.deref-5.ensures.value c.in_ok-push_column-5.ensures.ok) in
    parts_more part (OrderKey ∷ LineNumber ∷ CustKey ∷ PartKey ∷ SuppKey ∷ [])
    OrderDate s0 c.push_column-5.new.out.items c.push_column-6.new.out.items five
    (column_after OrderDate rows now.orderdate.items c.deref-6.result.now c.push_column-5.new.out.items
    c.push_column-6.new.out.items have.orderdate c.deref-6.ensures.value put))
    c.push_column-6.ensures.ok
