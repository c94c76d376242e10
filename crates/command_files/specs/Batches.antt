-- Where the fact rows of a batch are. Lines of a file and batches count from 1; a batch has 65,536 lines. Our own.
use Rattle.std.specs.Prelude.{ℕ, ◌+◌, ◌-◌, ◌/◌, Option, Some, None}
use Rattle.cube_model.specs.declared.fault.Fault.{Fault}
use Rattle.cube_model.specs.declared.fault.Fault.TheVariants.{ReservedMember, TooManyMembers}
use Rattle.cube_model.specs.declared.fault.MemberPlace.TheVariants.{InBatch}
use Rattle.cube_model.specs.Limits.{most_batch_rows}

-- the batch of a line
abbrev pub batch_of : ℕ → ℕ
batch_of line = (line - 1) / most_batch_rows + 1

-- the row of a batch that is refused for its ship mode
abbrev pub refused_row : Fault → Option ℕ
refused_row (ReservedMember (InBatch row)) = Some row
refused_row (TooManyMembers (InBatch row)) = Some row
refused_row _ = None
