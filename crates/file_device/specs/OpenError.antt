-- The fault of a refusal to open a file as a device.
use Rattle.cube_model.specs.declared.fault.Fault.{Fault}
use Rattle.cube_model.specs.declared.fault.Fault.TheVariants.{Device, DeviceSize, AlreadyFormatted}
use Rattle.file_device.specs.declared.open_error.OpenError.{OpenError}
use Rattle.file_device.specs.declared.open_error.OpenError.TheVariants.{System, Locked, NotRegular, Length, NotBlank}

abbrev pub fault_of : OpenError → Fault
fault_of (System error) = Device
fault_of Locked = Device
fault_of NotRegular = Device
fault_of Length = DeviceSize
fault_of NotBlank = AlreadyFormatted
