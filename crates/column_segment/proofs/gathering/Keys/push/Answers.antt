use Rattle.std.proofs.lemmas.Result.{on_ok_weaker}
use Rattle.column_segment.specs.declared.columns.FactColumn.TheVariants.{OrderKey, LineNumber, CustKey, PartKey}
use Rattle.column_segment.specs.declared.columns.FactColumn.TheVariants.{SuppKey, OrderDate}
use Rattle.column_segment.proofs.Gathered.{chunks_after}
use Rattle.column_segment.proofs.gathering.Keys.push.Goals as goal

pub returns-clause-ok : goal.returns-clause-ok
returns-clause-ok c =
    let rows = c.args.rows.now in
    on_ok_weaker c.put-6.result
    (λ put before have. record {
      orderkey = chunks_after OrderKey before rows c.args.self.now.orderkey.items c.put.new.to.items
          have.orderkey c.in_ok-put.ensures.ok;
      linenumber =
          chunks_after LineNumber before rows c.args.self.now.linenumber.items c.put-2.new.to.items
          have.linenumber c.in_ok-put-2.ensures.ok;
      custkey = chunks_after CustKey before rows c.args.self.now.custkey.items c.put-3.new.to.items
          have.custkey c.in_ok-put-3.ensures.ok;
      partkey = chunks_after PartKey before rows c.args.self.now.partkey.items c.put-4.new.to.items
          have.partkey c.in_ok-put-4.ensures.ok;
      suppkey = chunks_after SuppKey before rows c.args.self.now.suppkey.items c.put-5.new.to.items
          have.suppkey c.in_ok-put-5.ensures.ok;
      orderdate =
          chunks_after OrderDate before rows c.args.self.now.orderdate.items c.put-6.new.to.items
          have.orderdate put;
    })
    c.put-6.ensures.ok
