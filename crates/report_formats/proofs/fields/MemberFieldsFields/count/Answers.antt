use Rattle.std.proofs.Common.{arith}
use Rattle.std.proofs.lemmas.Grind.{common_steps}
use Rattle.report_formats.proofs.FieldsLemmas.{length-paired}
use Rattle.report_formats.proofs.fields.MemberFieldsFields.count.Goals as goal

pub returns : goal.returns
returns g c = grind (arith, common_steps, length-paired)
