-- The numbers of the faults, which are in each printed line. Our own.
use Rattle.std.specs.Prelude.{ℕ}
use Rattle.cube_model.specs.declared.fault.Fault.{Fault}
use Rattle.cube_model.specs.declared.fault.Fault.TheVariants.{Memory, Device, Failed, Full, NotFormatted}
use Rattle.cube_model.specs.declared.fault.Fault.TheVariants.{AlreadyFormatted, BadLayout, DeviceSize, FieldCount}
use Rattle.cube_model.specs.declared.fault.Fault.TheVariants.{BadNumber, FieldTooLong, DuplicateKey, HierarchyBroken}
use Rattle.cube_model.specs.declared.fault.Fault.TheVariants.{ReservedMember, UnknownCustomer, UnknownSupplier}
use Rattle.cube_model.specs.declared.fault.Fault.TheVariants.{UnknownPart, UnknownDate, SumRange, TooManyRows}
use Rattle.cube_model.specs.declared.fault.Fault.TheVariants.{TooManyBatches, Repeated, Gap, BadQuery, NoSuchPrefix}
use Rattle.cube_model.specs.declared.fault.Fault.TheVariants.{TooManyCells, TooManyMembers, Worn, Input, Output}
use Rattle.cube_model.specs.declared.fault.Fault.TheVariants.{NotRunning, TooManyAdditions}

-- the number by which a fault is known
abbrev pub number_of : Fault → ℕ
number_of Memory = 1
number_of Device = 2
number_of Failed = 3
number_of Full = 4
number_of NotFormatted = 5
number_of AlreadyFormatted = 6
number_of BadLayout = 7
number_of DeviceSize = 8
number_of (FieldCount line) = 9
number_of (BadNumber line field) = 10
number_of (FieldTooLong place field) = 11
number_of (DuplicateKey axis row) = 12
number_of (HierarchyBroken axis row) = 13
number_of (ReservedMember place) = 14
number_of (UnknownCustomer row) = 15
number_of (UnknownSupplier row) = 16
number_of (UnknownPart row) = 17
number_of (UnknownDate row) = 18
number_of (SumRange measure) = 19
number_of TooManyRows = 20
number_of TooManyBatches = 21
number_of Repeated = 22
number_of Gap = 23
number_of BadQuery = 24
number_of NoSuchPrefix = 25
number_of (TooManyCells view) = 26
number_of (TooManyMembers place) = 27
number_of Worn = 28
number_of Input = 29
number_of Output = 30
number_of NotRunning = 31
number_of TooManyAdditions = 32
