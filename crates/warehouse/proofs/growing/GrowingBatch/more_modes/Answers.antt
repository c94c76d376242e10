use Rattle.std.proofs.Common.{◌≡◌, ⊎_elim, inl, inr, Some, None, length, is_some, sym, ◌∙◌, ap, arith}
use Rattle.cube_model.specs.ShipModes.{modes_in}
use Rattle.batch_admission.specs.Found.{Found}
use Rattle.warehouse.specs.Refusing.{is_of_device}
use Rattle.warehouse.proofs.GrowingLemmas.{cause_with, few_codes, modes_with, short_codes, grown-batch}
use Rattle.warehouse.proofs.Refusing.{modes_apart}
use Rattle.warehouse.proofs.growing.GrowingBatch.more_modes.Goals as goal

pub with_batch-requires-clause-few : goal.with_batch-requires-clause-few
with_batch-requires-clause-few c =
    let grown = c.requires.grown.3 in
    let many = ap (λ (f : Found). f.row_count) grown.found in
    few_codes c.requires.grown.2 c.ship_modes.result.0.now.texts c.ship_modes.result.1.now
    (c.ship_modes.ensures c.requires.grown.2 (grown.columns c.requires.short))
    (omega (arith, many, c.requires.few))

pub with_batch-requires-clause-short : goal.with_batch-requires-clause-short
with_batch-requires-clause-short c =
    let grown = c.requires.grown.3 in
    short_codes c.requires.grown.2 c.ship_modes.result.0.now.texts c.ship_modes.result.1.now
    (c.ship_modes.ensures c.requires.grown.2 (grown.columns c.requires.short))
    (grown-batch c.requires.grown.0 c.requires.grown.1 c.requires.grown.2 c.args.self.now grown
    (ap is_some c.requires.short) c.requires.few)

pub returns-in-Err-clause-model : goal.returns-in-Err-clause-model
returns-in-Err-clause-model c = λ dimensions root earlier rows grown modes_are.
    let are = c.ship_modes.ensures rows (grown.columns c.requires.short) in
    ⊎_elim (λ memory. inl (c.cause_of.ensures.cause (ap is_of_device memory) ∙ memory))
    (λ cause.
    let refused = cause_with rows c.ship_modes.result.0.now.texts c.ship_modes.result.1.now are earlier
    (Some c.in-Err.fault) (cause (modes_in earlier) modes_are) in
    inr (refused ∙ ap (λ f. Some f)
    (sym (c.cause_of.ensures.cause (modes_apart (modes_in earlier) (modes_in rows) c.in-Err.fault refused)))))
    c.in-Err.ensures.cause

pub returns-then-len-clause-model : goal.returns-then-len-clause-model
returns-then-len-clause-model c = λ dimensions root earlier rows grown modes_are.
    let are = c.ship_modes.ensures rows (grown.columns c.requires.short) in
    let all_is = modes_with rows c.ship_modes.result.0.now.texts c.ship_modes.result.1.now are earlier c.in-Ok.all
    (c.in-Ok.ensures.ok (modes_in earlier) modes_are) in
    let as_many : length c.in-Ok.all ≡ length c.args.modes.now =
    omega (arith, c.len.ensures.many, c.len-2.ensures.many, c.if-len.true) in (
      cause_with rows c.ship_modes.result.0.now.texts c.ship_modes.result.1.now are earlier None
          (c.in-Ok.ensures.none (modes_in earlier) modes_are),
      sym (ap length all_is) ∙ as_many ∙ ap length modes_are,
    )

pub returns-clause-model : goal.returns-clause-model
returns-clause-model c = λ dimensions root earlier rows grown modes_are.
    let are = c.ship_modes.ensures rows (grown.columns c.requires.short) in
    let all_is = modes_with rows c.ship_modes.result.0.now.texts c.ship_modes.result.1.now are earlier c.in-Ok.all
    (c.in-Ok.ensures.ok (modes_in earlier) modes_are) in (
      cause_with rows c.ship_modes.result.0.now.texts c.ship_modes.result.1.now are earlier None
          (c.in-Ok.ensures.none (modes_in earlier) modes_are),
      λ same.
          let as_many = ap length all_is ∙ same ∙ sym (ap length modes_are) in
          omega (arith, as_many, c.len.ensures.many, c.len-2.ensures.many, c.if-len.false),
      all_is,
    )
