use Rattle.std.proofs.Common.{◌∙◌}
use Rattle.dimensions.specs.Added.{joined}
use Rattle.stored_rows.proofs.CallerLemmas.{puts_widened}
use Rattle.warehouse.proofs.Numbering.{valid_allows}
use Rattle.warehouse_objects.proofs.Contents.{dimensions_are_puts}
use Rattle.warehouse.proofs.widening.Widening.of.Goals as goal

pub returns-clause-ok : goal.returns-clause-ok
returns-clause-ok c = λ old same storable. record {
  dims_are = c.in_ok-dims.ensures.ok ∙ same;
  storable = storable;
  allowed = valid_allows old c.args.rows.now storable.valid;
  root_is = c.in_ok-root.ensures.ok;
  spelled = c.in_ok-root_bytes.ensures.ok;
  objects_are = c.in_ok-objects.ensures.ok old same;
  puts = puts_widened old c.args.rows.now
      (dimensions_are_puts (joined old c.args.rows.now) storable);
}
