-- The faults of refusals. Our own.
use Rattle.cube_model.specs.declared.fault.Fault.{Fault}
use Rattle.cube_model.specs.declared.fault.Fault.TheVariants as faults
use Rattle.report_merge.specs.declared.refused.Refused.{Refused}
use Rattle.report_merge.specs.declared.refused.Refused.TheVariants.{Memory, Input, At, OtherWords, OtherParts}
use Rattle.report_merge.specs.declared.refused.Refused.TheVariants.{OtherDimensions, Twice}

-- a text that is no partial report is of a wrong layout, and parts that are not of one whole are a wrong query
abbrev pub merge_fault : Refused → Fault
merge_fault Memory = faults.Memory
merge_fault Input = faults.Input
merge_fault (At line wrong) = faults.BadLayout
merge_fault OtherWords = faults.BadQuery
merge_fault OtherParts = faults.BadQuery
merge_fault OtherDimensions = faults.BadQuery
merge_fault (Twice number) = faults.BadQuery
