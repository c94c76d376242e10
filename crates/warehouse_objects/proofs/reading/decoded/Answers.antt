use Rattle.warehouse_objects.proofs.ReadingLemmas.{refused_objects}
use Rattle.warehouse_objects.proofs.reading.decoded.Goals as goal

pub returns-clause-refused : goal.returns-clause-refused
returns-clause-refused c =
    refused_objects c.args.customers.now c.args.suppliers.now c.args.parts.now c.args.dates.now c.decode.result
    c.decode.ensures.refused
