use Rattle.std.proofs.Common.{rules, w64, ℤ, FitsSigned, to_z, of_z, to_z-of_z, inr, ◌≡◌, ◌∙◌, refl, subst}
use Rattle.c_library.specs.Reports.{RefusesReport}
use Rattle.c_library.specs.Words.{cube_words}
use Rattle.c_library.proofs.reports.ssbcube_cube.Goals as goal

pub returns-in-Err : goal.returns-in-Err
returns-in-Err c =
    let fits : FitsSigned w64 c.number_of.result = search rules in
    let exact : to_z w64 (of_z w64 c.args.as_of) ≡ c.args.as_of = to_z-of_z c.ranges.as_of in
    inr (
      c.in-Err.fault,
      subst (λ (z : ℤ). RefusesReport c.args.image.now
          (cube_words c.args.set.now c.args.by.now c.args.agg.now c.args.conditions.now) c.args.format.now z
          c.in-Err.fault) exact c.in-Err.ensures.refused,
      record {
        answer_is = to_z-of_z fits ∙ c.number_of.ensures;
        unchanged = refl;
      },
    )
