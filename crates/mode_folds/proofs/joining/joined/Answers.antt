use Rattle.std.proofs.Common.{◌≡◌, ◌∙◌, ◌++◌, [], sym, ap, subst, true, false}
use Rattle.std.proofs.lemmas.Result.{err_from_is_err_and}
use Rattle.std.specs.BTreeMap.{is_at}
use Rattle.std.specs.Map.{lookup}
use Rattle.cube_model.specs.Answers.{answer}
use Rattle.cube_model.specs.Keys.{key_cmp}
use Rattle.mode_folds.specs.States.{rows_together}
use Rattle.group_tallies.specs.Limits.{AreFoldable}
use Rattle.cube_model.specs.declared.fault.Fault.TheVariants.{BadLayout}
use Rattle.mode_folds.proofs.Counted.{same_error}
use Rattle.mode_folds.specs.Joining.{HasValues}
use Rattle.mode_folds.proofs.Finish.{gathered, known_of, parts_of, passing_foldable, together-all, values_of}
use Rattle.mode_folds.proofs.Finish.{with_all, without_all}
use Rattle.mode_queries.proofs.CallerLemmas.{answers_join}
use Rattle.mode_queries.specs.Joining.{has_coarser, keys_by_mode, keys_of_all, passing}
use Rattle.mode_queries.specs.References.{asked_by}
use Rattle.mode_folds.proofs.joining.joined.Goals.{then-has_coarser+in_ok-found+in_ok-join, else-has_coarser}
use Rattle.mode_folds.proofs.joining.joined.Goals as goal

pub returns-in_err-join_modes-clause-refused : goal.returns-in_err-join_modes-clause-refused
returns-in_err-join_modes-clause-refused c =
    let asked = asked_by c.args.asked.now in
    let p = err_from_is_err_and c.from_residual.result c.from_residual.ensures.1 in
    rw (p.1, p.2) (λ is can.
    c.in_err-join_modes.ensures.refused (same_error c.in_err-join_modes.field-0.0 BadLayout is) asked.query
    (passing asked.conditions can.0)
    (parts_of c.args.dims.now asked c.args.place c.args.together.now c.args.modes.now.texts c.args.folds.now can.0
    c.requires.place c.requires.queries can.1.0)
    (passing_foldable c.args.dims.now asked can.0 can.1.1))

pub returns-in_err-found-clause-refused : goal.returns-in_err-found-clause-refused
returns-in_err-found-clause-refused c =
    let asked = asked_by c.args.asked.now in
    let p = err_from_is_err_and c.from_residual-in_err-found.result c.from_residual-in_err-found.ensures.1 in
    rw (p.1, p.2) (λ is can.
    c.in_err-found.ensures.refused is (
      rows_together asked can.0,
      (
        can.1.0.together,
        subst (AreFoldable c.args.dims.now) (sym (together-all asked can.0
            (ap (λ q. has_coarser q.kind) (sym c.query.ensures) ∙ sym c.has_coarser.ensures ∙ c.if-has_coarser.true)))
            (passing_foldable c.args.dims.now asked can.0 can.1.1),
      ),
    ))

pub returns-clause-answer : goal.returns-clause-answer
returns-clause-answer c = λ rows represents.
    let dims = c.args.dims.now in
    let asked = asked_by c.args.asked.now in
    let modes = c.args.modes.now.texts in
    let some = passing asked.conditions rows in
    let known = known_of dims asked c.args.place c.args.together.now modes c.args.folds.now rows c.requires.place
    represents in
    let join = answers_join dims asked c.args.place rows modes c.requires.proper c.requires.place known in
    let value = values_of dims asked rows in
    let modes_hold : HasValues value (keys_by_mode dims asked.query c.args.place some modes) c.join_modes.new.lines =
    c.in_ok-join_modes.ensures.ok asked.query some value [] (ap (λ q. q.kind) c.query.ensures)
    (parts_of dims asked c.args.place c.args.together.now modes c.args.folds.now rows c.requires.place
    c.requires.queries represents) join.by_mode
    (λ key. ap (lookup (is_at (key_cmp key))) c.new-lines.ensures.empty) in
    let holds : HasValues value (keys_by_mode dims asked.query c.args.place some modes
    ++ keys_of_all (has_coarser asked.query.kind) dims asked.query c.args.place some) c.if-has_coarser.lines =
    elim c.if-has_coarser.branch [
      | then-has_coarser+in_ok-found+in_ok-join w ↦
          let coarser : has_coarser asked.query.kind ≡ true =
          ap (λ q. has_coarser q.kind) (sym c.query.ensures) ∙ sym c.has_coarser.ensures ∙ w.if-has_coarser.true in
          let whole : w.in_ok-found.found ≡ answer asked.query dims some =
          w.in_ok-found.ensures.answer (rows_together asked rows) represents.together
          ∙ (λ i. answer (c.requires.query i) dims (together-all asked rows coarser i)) in
          subst (λ l. HasValues value (keys_by_mode dims asked.query c.args.place some modes
          ++ keys_of_all (has_coarser asked.query.kind) dims asked.query c.args.place some) l) (sym w.lines-is)
          (with_all dims asked.query c.args.place some value (keys_by_mode dims asked.query c.args.place some modes)
          c.join_modes.new.lines w.join.new.lines c.query.result.now.kind w.in_ok-found.found
          (ap (λ q. q.kind) c.query.ensures) whole coarser (join.of_all coarser)
          (w.in_ok-join.ensures.ok value (keys_by_mode dims asked.query c.args.place some modes)) modes_hold)
      | else-has_coarser w ↦
          let none : has_coarser asked.query.kind ≡ false =
          ap (λ q. has_coarser q.kind) (sym c.query.ensures) ∙ sym c.has_coarser.ensures ∙ w.if-has_coarser.false in
          subst (λ l. HasValues value (keys_by_mode dims asked.query c.args.place some modes
          ++ keys_of_all (has_coarser asked.query.kind) dims asked.query c.args.place some) l) (sym w.lines-is)
          (without_all dims asked.query c.args.place some value (keys_by_mode dims asked.query c.args.place some modes)
          c.join_modes.new.lines none modes_hold)
    ] in
    ap (λ l. record { lines = l }) c.in_ok-lines.ensures.lines
    ∙ gathered dims asked c.args.place rows modes c.if-has_coarser.lines c.requires.proper c.requires.place known
    c.in_ok-lines.ensures.ordered holds
