use Rattle.std.proofs.lemmas.Result.{on_ok_weaker}
use Rattle.column_segment.specs.declared.columns.FactColumn.TheVariants.{Quantity, ExtendedPrice, OrdTotalPrice}
use Rattle.column_segment.specs.declared.columns.FactColumn.TheVariants.{Discount, Revenue, SupplyCost, Tax}
use Rattle.column_segment.proofs.Gathered.{chunks_after}
use Rattle.column_segment.proofs.gathering.Figures.push.Goals as goal

pub returns-clause-ok : goal.returns-clause-ok
returns-clause-ok c =
    let rows = c.args.rows.now in
    on_ok_weaker c.put-7.result
    (λ put before have. record {
      quantity = chunks_after Quantity before rows c.args.self.now.quantity.items c.put.new.to.items
          have.quantity c.in_ok-put.ensures.ok;
      extendedprice = chunks_after ExtendedPrice before rows c.args.self.now.extendedprice.items
          c.put-2.new.to.items have.extendedprice c.in_ok-put-2.ensures.ok;
      ordtotalprice = chunks_after OrdTotalPrice before rows c.args.self.now.ordtotalprice.items
          c.put-3.new.to.items have.ordtotalprice c.in_ok-put-3.ensures.ok;
      discount = chunks_after Discount before rows c.args.self.now.discount.items c.put-4.new.to.items
          have.discount c.in_ok-put-4.ensures.ok;
      revenue = chunks_after Revenue before rows c.args.self.now.revenue.items c.put-5.new.to.items
          have.revenue c.in_ok-put-5.ensures.ok;
      supplycost =
          chunks_after SupplyCost before rows c.args.self.now.supplycost.items c.put-6.new.to.items
          have.supplycost c.in_ok-put-6.ensures.ok;
      tax = chunks_after Tax before rows c.args.self.now.tax.items c.put-7.new.to.items have.tax put;
    })
    c.put-7.ensures.ok
