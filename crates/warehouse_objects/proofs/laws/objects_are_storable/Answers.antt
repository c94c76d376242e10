use Rattle.warehouse_objects.proofs.Contents.{beginning_is_put, dimensions_are_puts, loading_is_put}
use Rattle.warehouse_objects.proofs.laws.objects_are_storable.Goals as goal

pub returns : goal.returns
returns c = (
  λ rows storable.
      let those = dimensions_are_puts rows storable in
      (those, beginning_is_put rows those),
  loading_is_put,
)
