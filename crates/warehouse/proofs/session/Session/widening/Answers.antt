use Rattle.std.proofs.Common.{◌≡◌, None, ⊎_elim, inl, inr, sym, ◌∙◌, ap, subst}
use Rattle.std.proofs.lemmas.Result.{IfErr-weaker, IfOk-weaker}
use Rattle.cube_model.specs.declared.rows.DimRows.{DimRows}
use Rattle.dimensions.specs.Added.{addition_cause}
use Rattle.warehouse_objects.specs.Facts.{number_refusal}
use Rattle.warehouse.specs.Widening.{IsWidening}
use Rattle.warehouse.proofs.Numbering.{both_none, second_of}
use Rattle.warehouse.proofs.SessionLemmas.{number_agrees, refusal_agrees}
use Rattle.warehouse.proofs.session.Session.widening.Goals as goal

pub returns-clause-refused : goal.returns-clause-refused
returns-clause-refused g c =
    let s = c.args.self.now in
    let more = c.args.rows.now in
    let number = c.args.number in
    let none : number_refusal s.root.additions number ≡ None =
    ap (λ n. number_refusal n number) (sym c.additions.ensures) ∙ sym c.in_ok-check_number.ensures.cause in
    IfErr-weaker c.widen.result _ _
    (λ fault why w at k.
    let agree = c.can_put.ensures.agrees w at k in
    ⊎_elim (λ memory. inr (memory, number_agrees w s.dims.value s.root number agree ∙ none))
    (λ cause. inl (refusal_agrees w s.dims.value more s.root number agree
    ∙ second_of (number_refusal s.root.additions number) (addition_cause s.dims.value more) fault none
    (ap (λ (d : DimRows). addition_cause d more) (sym c.deref.ensures) ∙ cause))) why)
    c.widen.ensures.err

pub returns-clause-ready : goal.returns-clause-ready
returns-clause-ready g c =
    let s = c.args.self.now in
    let more = c.args.rows.now in
    let number = c.args.number in
    let none : number_refusal s.root.additions number ≡ None =
    ap (λ n. number_refusal n number) (sym c.additions.ensures) ∙ sym c.in_ok-check_number.ensures.cause in
    IfOk-weaker c.widen.result _ _
    (λ wider widens w at.
    let own = subst (λ (d : DimRows). IsWidening d s.root more wider) c.deref.ensures widens in record {
      at = at;
      widening_is = own;
      admissible = λ k.
          let agree = c.can_put.ensures.agrees w at k in (
            refusal_agrees w s.dims.value more s.root number agree
                ∙ both_none (number_refusal s.root.additions number) (addition_cause s.dims.value more) none
                own.allowed,
            agree,
          );
      still = c.can_put.ensures.leaves w at;
    })
    c.widen.ensures.ok
