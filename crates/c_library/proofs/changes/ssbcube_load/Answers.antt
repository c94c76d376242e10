use Rattle.std.proofs.Common.{rules, w64, FitsSigned, to_z-of_z, inr, ◌∙◌, refl}
use Rattle.c_library.proofs.changes.ssbcube_load.Goals as goal

pub returns-in-Err : goal.returns-in-Err
returns-in-Err c =
    let fits : FitsSigned w64 c.refuse.result = search rules in
    inr (
      c.in-Err.fault,
      c.in-Err.ensures.refused,
      record {
        answer_is = to_z-of_z fits ∙ c.refuse.ensures.number;
        unchanged = refl;
      },
      c.refuse.ensures.said,
    )
