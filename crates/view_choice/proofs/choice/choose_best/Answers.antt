use Rattle.std.proofs.Common.{◌≡◌, ◌∙◌, ◌<◌, ◌^◌, ◌++◌, ◌∷◌, [], ℕ, List, length, map, get_or, ap, sym, subst, arith}
use Rattle.std.specs.List.{All}
use Rattle.std.proofs.lemmas.List.{length-map, length_push}
use Rattle.lattice.specs.Sizes.{size_of}
use Rattle.lattice.specs.declared.view.View.{View}
use Rattle.view_choice.specs.declared.costs.Candidate.{Candidate}
use Rattle.view_choice.specs.declared.costs.Costed.{Costed}
use Rattle.view_choice.specs.Choice.{IsBest, Lattice}
use Rattle.view_choice.specs.Costs.{view_candidates, costed, gain_among, costs_in_all, lowered, sized}
use Rattle.view_choice.specs.Costs.{IsFirstGreatestAt}
use Rattle.view_choice.specs.Cuboids.{cuboids_by}
use Rattle.view_choice.proofs.ChoiceLemmas.{none_gains, is_best, costs_fit, lowered_costs}
use Rattle.view_choice.proofs.Steps.{whole_slice, best_more}
use Rattle.view_choice.proofs.choice.choose_best.Goals as goal

pub first_greatest-requires : goal.first_greatest-requires
first_greatest-requires c =
    subst (λ (all : List Costed). costs_in_all all < 2 ^ 64)
    (sym (c.as_slice-in-loop.ensures.value ∙ c.loop.invariant.kept))
    (costs_fit c.args.ties c.args.rows c.args.counts.now c.args.demanded.now c.loop.chosen.items c.requires.rows
    c.requires.few)

-- no view has a benefit any more
pub returns-in_default-clause-ok : goal.returns-in_default-clause-ok
returns-in_default-clause-ok c =
    let lattice : Lattice View = cuboids_by c.args.ties c.args.rows c.args.counts.now c.args.demanded.now in
    let listed : c.in_ok-candidates.candidates.items ≡ view_candidates lattice
    = c.in_ok-candidates.ensures
    ∙ ap (map (sized (size_of c.args.rows c.args.counts.now))) (c.as_slice.ensures.value ∙ c.in_ok-views.ensures) in
    record {
      at_most = omega (arith, c.loop.invariant.count, c.loop-test.true);
      each = c.loop.invariant.each;
      ends = λ short. none_gains c.args.ties c.args.rows c.args.counts.now c.args.demanded.now c.loop.chosen.items
          (subst (λ (found : List Candidate). All
          (λ candidate. gain_among (costed lattice c.loop.chosen.items) candidate ≡ 0) found)
          (c.as_slice-in-loop-2.ensures.value ∙ listed)
          (subst (λ (all : List Costed). All (λ candidate. gain_among all candidate ≡ 0)
          c.as_slice-in-loop-2.result.now) (c.as_slice-in-loop.ensures.value ∙ c.loop.invariant.kept)
          c.in_default.ensures));
    }

-- one member more
pub loop-preserved : goal.loop-preserved
loop-preserved c =
    let ties = c.args.ties in
    let rows = c.args.rows in
    let counts = c.args.counts.now in
    let demanded = c.args.demanded.now in
    let lattice : Lattice View = cuboids_by ties rows counts demanded in
    let chosen = c.loop.chosen.items in
    let best = c.index-best.result.now in
    let listed : c.in_ok-candidates.candidates.items ≡ view_candidates lattice
    = c.in_ok-candidates.ensures
    ∙ ap (map (sized (size_of rows counts))) (c.as_slice.ensures.value ∙ c.in_ok-views.ensures) in
    let first : IsFirstGreatestAt (gain_among (costed lattice chosen)) (view_candidates lattice) c.in-Some.place
    = subst (λ (found : List Candidate). IsFirstGreatestAt (gain_among (costed lattice chosen)) found c.in-Some.place)
    (c.as_slice-in-loop-2.ensures.value ∙ listed)
    (subst (λ (all : List Costed). IsFirstGreatestAt (gain_among all) c.as_slice-in-loop-2.result.now c.in-Some.place)
    (c.as_slice-in-loop.ensures.value ∙ c.loop.invariant.kept) c.in-Some.ensures) in
    let read : best ≡ get_or (view_candidates lattice) c.in-Some.place best
    = c.index-best.ensures ∙ ap (λ (found : List Candidate). get_or found c.in-Some.place best) listed in
    let has_size : best.size ≡ size_of rows counts best.view =
    (is_best ties rows counts demanded chosen c.in-Some.place best read first).0 in
    let member : IsBest lattice chosen best.view =
    (is_best ties rows counts demanded chosen c.in-Some.place best read first).1 in
    let pushed : c.push.new.self.items ≡ chosen ++ best.view ∷ [] = c.in_ok-push.ensures.items in
    let lower : c.lower.new.all ≡ map (lowered best.view best.size) c.as_mut_slice.result.now = c.lower.ensures in
    record {
      kept = whole_slice c.loop.all.len c.lower.new.all c.loop.all.items
          (omega (
            arith,
            ap length lower,
            length-map c.as_mut_slice.result.now (lowered best.view best.size),
            c.as_mut_slice.ensures.len,
          ))
          (omega (arith, c.as_mut_slice.ensures.len, ap length c.as_mut_slice.ensures.value))
          ∙ lower
          ∙ ap (map (lowered best.view best.size)) (c.as_mut_slice.ensures.value ∙ c.loop.invariant.kept)
          ∙ ap (λ (n : ℕ). map (lowered best.view n) (costed lattice chosen)) has_size
          ∙ lowered_costs ties rows counts demanded chosen best.view
          ∙ ap (costed lattice) (sym pushed);
      count = omega (arith, ap length pushed, length_push chosen best.view, c.loop.invariant.count);
      each = best_more lattice chosen c.push.new.self.items best.view pushed member c.loop.invariant.each;
    }
