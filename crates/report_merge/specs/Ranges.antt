-- Why numbers of 128 bits are not written. Our own.
use Rattle.cube_model.specs.declared.fault.Fault.{Fault}
use Rattle.cube_model.specs.declared.fault.Fault.TheVariants.{Memory, SumRange, TooManyRows}

-- out of memory, or a number passes 64 bits
abbrev pub IsRangeOrMemory : Fault → Type 0
IsRangeOrMemory Memory = Unit {0}
IsRangeOrMemory TooManyRows = Unit {0}
IsRangeOrMemory (SumRange measure) = Unit {0}
IsRangeOrMemory _ = ⊥
