use Rattle.std.proofs.Common.{◌∙◌}
use Rattle.std.proofs.lemmas.Result.{IfErr-weaker, IfOk-weaker}
use Rattle.warehouse_jobs.proofs.CopiedTablesLemmas.{joined_empty, only_memory, short_none}
use Rattle.warehouse_jobs.proofs.copied_tables.copied.Goals as goal

pub with_rows-requires : goal.with_rows-requires
with_rows-requires c =
    record {
      short = short_none c.no_rows-none.result c.no_rows-none.ensures.customers c.no_rows-none.ensures.suppliers
          c.no_rows-none.ensures.parts c.no_rows-none.ensures.dates;
    }

pub returns-clause-same : goal.returns-clause-same
returns-clause-same c =
    let empty = c.no_rows-none.ensures in
    IfOk-weaker c.with_rows.result _ _
    (λ copy is. is ∙ joined_empty c.no_rows-none.result empty.customers empty.suppliers empty.parts empty.dates
    c.args.dims.now) c.with_rows.ensures.ok

pub returns-clause-memory : goal.returns-clause-memory
returns-clause-memory c =
    let empty = c.no_rows-none.ensures in
    IfErr-weaker c.with_rows.result _ _
    (λ fault why. only_memory c.no_rows-none.result empty.customers empty.suppliers empty.parts empty.dates
    c.args.dims.now fault c.with_rows.ensures.own.valid why) c.with_rows.ensures.err
