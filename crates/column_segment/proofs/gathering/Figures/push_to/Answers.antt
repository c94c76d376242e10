use Rattle.std.proofs.Common.{[], ◌∷◌}
use Rattle.std.proofs.lemmas.Result.{on_ok_weaker}
use Rattle.column_segment.specs.Segment.{number_column}
use Rattle.column_segment.specs.declared.columns.FactColumn.TheVariants.{Quantity, ExtendedPrice, OrdTotalPrice}
use Rattle.column_segment.specs.declared.columns.FactColumn.TheVariants.{Discount, Revenue, SupplyCost, Tax}
use Rattle.column_segment.proofs.After.{no_part, parts_more}
use Rattle.column_segment.proofs.Gathered.{column_after}
use Rattle.column_segment.proofs.gathering.Figures.push_to.Goals as goal

pub returns-clause-ok : goal.returns-clause-ok
returns-clause-ok c =
    let s0 = c.args.out.now.items in
    let now = c.args.self.now in
    on_ok_weaker c.push_column-7.result
    (λ put rows have.
    let part = number_column rows in
    let one = parts_more part [] Quantity s0 s0 c.push_column.new.out.items (no_part part s0)
    (column_after Quantity rows now.quantity.items c.deref.result.now s0 c.push_column.new.out.items
    have.quantity c.deref.ensures.value c.in_ok-push_column.ensures.ok) in
    let two = parts_more part (Quantity ∷ []) ExtendedPrice s0 c.push_column.new.out.items
    c.push_column-2.new.out.items one
    (column_after ExtendedPrice rows now.extendedprice.items c.deref-2.result.now
    c.push_column.new.out.items c.push_column-2.new.out.items have.extendedprice c.deref-2.ensures.value
    c.in_ok-push_column-2.ensures.ok) in
    let three = parts_more part (Quantity ∷ ExtendedPrice ∷ []) OrdTotalPrice s0
    c.push_column-2.new.out.items c.push_column-3.new.out.items two
    (column_after OrdTotalPrice rows now.ordtotalprice.items c.deref-3.result.now
    c.push_column-2.new.out.items c.push_column-3.new.out.items have.ordtotalprice c.deref-3.ensures.value
    c.in_ok-push_column-3.ensures.ok) in
    let four = parts_more part (Quantity ∷ ExtendedPrice ∷ OrdTotalPrice ∷ []) Discount s0
    c.push_column-3.new.out.items c.push_column-4.new.out.items three
    (column_after Discount rows now.discount.items c.deref-4.result.now c.push_column-3.new.out.items
    c.push_column-4.new.out.items have.discount c.deref-4.ensures.value c.in_ok-push_column-4.ensures.ok) in
    let five = parts_more part (Quantity ∷ ExtendedPrice ∷ OrdTotalPrice ∷ Discount ∷ [])
    Revenue s0 c.push_column-4.new.out.items c.push_column-5.new.out.items four
    (column_after Revenue rows now.revenue.items c.deref-5.result.now c.push_column-4.new.out.items
    c.push_column-5.new.out.items have.revenue c.deref-5.ensures.value c.in_ok-push_column-5.ensures.ok) in
    let six = parts_more part (Quantity ∷ ExtendedPrice ∷ OrdTotalPrice ∷ Discount
    ∷ Revenue ∷ []) SupplyCost s0 c.push_column-5.new.out.items c.push_column-6.new.out.items five
    (column_after SupplyCost rows now.supplycost.items c.deref-6.result.now c.push_column-5.new.out.items
    c.push_column-6.new.out.items have.supplycost c.deref-6.ensures.value c.in_ok-push_column-6.ensures.ok) in
    parts_more part (Quantity ∷ ExtendedPrice ∷ OrdTotalPrice ∷ Discount ∷ Revenue
    ∷ SupplyCost ∷ []) Tax s0 c.push_column-6.new.out.items c.push_column-7.new.out.items six
    (column_after Tax rows now.tax.items c.deref-7.result.now c.push_column-6.new.out.items
    c.push_column-7.new.out.items have.tax c.deref-7.ensures.value put))
    c.push_column-7.ensures.ok
