-- What the layers above need of cuboids that are brought on.
pub use Rattle.stored_cuboids.proofs.LaterReads.{leaves_if}
pub use Rattle.stored_cuboids.proofs.Turns.{batches_kept, done_or_large, kept_same, kept_then}
