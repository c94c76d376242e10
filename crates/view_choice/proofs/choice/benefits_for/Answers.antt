use Rattle.std.proofs.Common.{◌≡◌, ◌∙◌, ◌<◌, ◌^◌, ◌++◌, ◌∷◌, [], ℕ, List, length, map, take, get_or, ap, sym, subst}
use Rattle.std.proofs.Common.{arith}
use Rattle.std.proofs.lemmas.List.{length-map, take_more}
use Rattle.view_choice.specs.declared.costs.Costed.{Costed}
use Rattle.view_choice.specs.declared.ties.Ties.TheVariants.{ToGreatest}
use Rattle.view_choice.specs.Choice.{benefit, benefits_after}
use Rattle.view_choice.specs.Costs.{costed, benefit_among, costs_in_all, lowered}
use Rattle.view_choice.specs.Cuboids.{cuboids_for}
use Rattle.view_choice.proofs.ChoiceLemmas.{benefit_among-costed, costs_fit, lowered_costs}
use Rattle.view_choice.proofs.Steps.{no_view, whole_slice, benefits_more}
use Rattle.view_choice.proofs.choice.benefits_for.Goals as goal

pub benefit_among-requires : goal.benefit_among-requires
benefit_among-requires c =
    subst (λ (all : List Costed). costs_in_all all < 2 ^ 64)
    (sym (c.as_slice.ensures.value ∙ c.loop-view.invariant.kept))
    (costs_fit ToGreatest c.args.rows c.args.counts.now c.args.demanded.now
    (take c.loop-view.view-index c.args.views.now) c.requires.rows c.requires.few)

-- one view more
pub loop-view-preserved : goal.loop-view-preserved
loop-view-preserved c =
    let rows = c.args.rows in
    let counts = c.args.counts.now in
    let demanded = c.args.demanded.now in
    let views = c.args.views.now in
    let before = take c.loop-view.view-index views in
    let view = get_or views c.loop-view.view-index no_view in
    let all : c.as_mut_slice.result.now ≡ costed (cuboids_for rows counts demanded) before =
    c.as_mut_slice.ensures.value ∙ c.loop-view.invariant.kept in
    let lower : c.lower.new.all ≡ map (lowered view c.size-size.result) c.as_mut_slice.result.now = c.lower.ensures in
    let gained : c.benefit_among.result ≡ benefit (cuboids_for rows counts demanded) before view
    = c.benefit_among.ensures
    ∙ ap (λ items. benefit_among items view c.size-size.result) (c.as_slice.ensures.value ∙ c.loop-view.invariant.kept)
    ∙ ap (benefit_among (costed (cuboids_for rows counts demanded) before) view) c.size-size.ensures
    ∙ benefit_among-costed ToGreatest rows counts demanded before view in
    record {
      kept = whole_slice c.loop-view.all.len c.lower.new.all c.loop-view.all.items
          (omega (
            arith,
            ap length lower,
            length-map c.as_mut_slice.result.now (lowered view c.size-size.result),
            c.as_mut_slice.ensures.len,
          ))
          (omega (arith, c.as_mut_slice.ensures.len, ap length c.as_mut_slice.ensures.value))
          ∙ lower
          ∙ ap (map (lowered view c.size-size.result)) all
          ∙ ap (λ (n : ℕ). map (lowered view n) (costed (cuboids_for rows counts demanded) before)) c.size-size.ensures
          ∙ lowered_costs ToGreatest rows counts demanded before view
          ∙ ap (costed (cuboids_for rows counts demanded))
          (sym (take_more views c.loop-view.view-index no_view c.loop-view-test.true));
      found = c.in_ok-push.ensures.items
          ∙ ap (λ items. items ++ c.benefit_among.result ∷ []) c.loop-view.invariant.found
          ∙ ap (λ (n : ℕ). benefits_after (cuboids_for rows counts demanded) [] before ++ n ∷ []) gained
          ∙ benefits_more (cuboids_for rows counts demanded) views c.loop-view.view-index no_view c.loop-view-test.true;
    }
