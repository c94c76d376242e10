-- What the layers above need of reads of batches, and of added rows.
pub use Rattle.stored_rows.proofs.Puts.{length_of_puts, puts_widened}
pub use Rattle.stored_rows.proofs.Rows.{only_memory}
pub use Rattle.stored_rows.proofs.Widened.{rows_widened, represents_widened}
