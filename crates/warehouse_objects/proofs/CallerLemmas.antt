-- What the layers above need of contents and of what they represent.
pub use Rattle.warehouse_objects.proofs.Batches.{
  batch_at,
  batch_of,
  few_batches,
  foldable,
  is_batch,
  next_number,
  root_proper,
  segment_at,
}
pub use Rattle.warehouse_objects.proofs.Chosen.{
  dropped_are,
  find_said,
  found_said,
  root_viewed,
  said_ascend,
  said_each,
  said_few,
  said_more,
  said_none,
  said_same,
  represents_chosen,
}
pub use Rattle.warehouse_objects.proofs.Contents.{
  batch_is_put,
  beginning_is_put,
  dimensions_are_puts,
  groupings_moved,
  has_rows,
  loading_is_put,
  object_batch,
  root_loaded,
  rows_one,
  represents_aimed,
  represents_created,
  represents_loaded,
  segment_and_modes,
}
pub use Rattle.warehouse_objects.proofs.Lengths.{segment_least, segment_most}
pub use Rattle.warehouse_objects.proofs.ModesRead.{modes_one, modes_still}
pub use Rattle.warehouse_objects.proofs.OneWarehouse.{
  laid_of,
  laid_one,
  object_run,
  one_layout,
  one_warehouse,
  own_view,
  view_within,
  views_within,
}
pub use Rattle.warehouse_objects.proofs.Asked.{few_objects}
pub use Rattle.warehouse_objects.proofs.KeptModes.{admissible_in, admitted_in_order, no_modes}
