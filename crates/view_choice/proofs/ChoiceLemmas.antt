-- That the kept costs are those of the definitions: under no choice, and when one more view is chosen.
use Rattle.std.proofs.Common.{◌≡◌, ◌∙◌, refl, ap, sym, ℕ, ◌+◌, ◌-◌, ◌*◌, ◌^◌, ◌<◌, ◌≤◌, Bool, true, false, cond, List}
use Rattle.std.proofs.Common.{[], ◌∷◌, ◌++◌, length, map, get_or, arith, subst, ⊎_elim}
use Rattle.std.specs.Prelude.{nat_le, reverse}
use Rattle.std.specs.List.{filter, sum_by, All, range_with_len}
use Rattle.std.specs.Option.{is_some}
use Rattle.std.proofs.lemmas.Bool.{cases_lt, le-leb}
use Rattle.std.proofs.lemmas.List.{get_or-map, length-map}
use Rattle.std.proofs.lemmas.List.Folds.{fold-map}
use Rattle.std.proofs.lemmas.List.FromFn.{get_or-range_with_len}
use Rattle.std.proofs.lemmas.List.Sums.{sum_by-cons, sum_by-le}
use Rattle.std.proofs.lemmas.Nat.{mul-le}
use Rattle.lattice.specs.declared.counts.Counts.{Counts}
use Rattle.lattice.specs.declared.view.View.{View}
use Rattle.lattice.specs.Sizes.{size_of}
use Rattle.lattice.specs.Views.{answers, lattice}
use Rattle.view_choice.specs.declared.costs.Candidate.{Candidate}
use Rattle.view_choice.specs.declared.costs.Costed.{Costed}
use Rattle.view_choice.specs.declared.ties.Ties.{Ties}
use Rattle.view_choice.specs.declared.ties.Ties.TheVariants.{ToGreatest, ToLeast}
use Rattle.view_choice.specs.Choice.{cost, benefit, benefits_after, IsBest, NoneGains}
use Rattle.view_choice.specs.Costs.{view_candidates, costed, costed_view, saved_by, sized, benefit_among, gain_among}
use Rattle.view_choice.specs.Costs.{costs_in_all, lowered, IsFirstGreatestAt}
use Rattle.view_choice.specs.Cuboids.{cuboids_by, most_demanded, most_fact_rows, most_stored_cells, number_by, views_by}
use Rattle.view_choice.proofs.CostLaws.{cost-push, cost-le}

-- a sum over what passes a test is a sum over all, with nothing for what fails
sum_by-filter : {X : Type 0} (f : X → ℕ) (p : X → Bool) (xs : List X)
    → sum_by f (filter p xs) ≡ sum_by (λ x. cond (p x) (f x) 0) xs
sum_by-filter f p [] = refl
sum_by-filter f p (x ∷ xs) =
    (elim (p x) as
    (λ b. p x ≡ b → sum_by f (cond b (x ∷ filter p xs) (filter p xs)) ≡ sum_by (λ y. cond (p y) (f y) 0) (x ∷ xs)) [
      | true ↦ λ e. omega (
        arith,
        sum_by-cons f x (filter p xs),
        sum_by-cons (λ y. cond (p y) (f y) 0) x xs,
        ap (λ b. cond b (f x) 0) e,
        sum_by-filter f p xs,
      )
      | false ↦ λ e. omega
          (arith, sum_by-cons (λ y. cond (p y) (f y) 0) x xs, ap (λ b. cond b (f x) 0) e, sum_by-filter f p xs)
    ]) refl

-- the least number of the order in which views are taken at a tie
abbrev pub first_number : Ties → Bool → ℕ
first_number ToLeast modes = 0
first_number ToGreatest true = 0
first_number ToGreatest false = 256

abbrev pub ordered : Ties → Bool → List View
ordered ToLeast modes = lattice modes
ordered ToGreatest modes = reverse (lattice modes)

-- in that order the numbers ascend one by one
numbers_ascend : (ties : Ties) (modes : Bool)
    → map (number_by ties) (ordered ties modes) ≡ range_with_len (first_number ties modes) (length (ordered ties modes))
numbers_ascend ToLeast true = refl
numbers_ascend ToLeast false = refl
numbers_ascend ToGreatest true = refl
numbers_ascend ToGreatest false = refl

ordered-views : (ties : Ties) (counts : Counts) → ordered ties (is_some counts.ship_modes) ≡ views_by ties counts
ordered-views ToLeast counts = refl
ordered-views ToGreatest counts = refl

number_at : (ties : Ties) (modes : Bool) (views : List View) (i : ℕ) (default : View) → ordered ties modes ≡ views
    → i < length views → number_by ties (get_or views i default) ≡ first_number ties modes + i
number_at ties modes views i default is inside =
    sym (get_or-map (number_by ties) views i default 0 inside)
    ∙ ap (λ numbers. get_or numbers i 0)
    (subst (λ (vs : List View). map (number_by ties) vs ≡ range_with_len (first_number ties modes) (length vs)) is
    (numbers_ascend ties modes))
    ∙ get_or-range_with_len (first_number ties modes) (length views) i 0 inside

-- the benefits of views are the same whichever is taken at a tie
pub benefits-ties : (ties other : Ties) (rows : ℕ) (counts : Counts) (demanded before views : List View)
    → benefits_after (cuboids_by ties rows counts demanded) before views
    ≡ benefits_after (cuboids_by other rows counts demanded) before views
benefits-ties ties other rows counts demanded before [] = refl
benefits-ties ties other rows counts demanded before (view ∷ views) =
    ap (λ rest. benefit (cuboids_by ties rows counts demanded) before view ∷ rest)
    (benefits-ties ties other rows counts demanded (before ++ view ∷ []) views)

module _ (ties : Ties) (rows : ℕ) (counts : Counts) (demanded : List View) where
  -- the benefit by the kept costs
  pub benefit_among-costed : (chosen : List View) (view : View)
      → benefit_among (costed (cuboids_by ties rows counts demanded) chosen) view (size_of rows counts view)
      ≡ benefit (cuboids_by ties rows counts demanded) chosen view
  benefit_among-costed chosen view =
      fold-map (λ (so_far : ℕ) (other : Costed). so_far + saved_by view (size_of rows counts view) other)
      (costed_view (cuboids_by ties rows counts demanded) chosen) 0 demanded
      ∙ sym (sum_by-filter
      (λ other. cost (cuboids_by ties rows counts demanded) chosen other - size_of rows counts view) (answers view)
      demanded)

  lowered-costed : (chosen : List View) (view : View) (views : List View)
      → map (lowered view (size_of rows counts view))
      (map (costed_view (cuboids_by ties rows counts demanded) chosen) views)
      ≡ map (costed_view (cuboids_by ties rows counts demanded) (chosen ++ view ∷ [])) views
  lowered-costed chosen view [] = refl
  lowered-costed chosen view (other ∷ views) =
      ap (λ n. record { view = other; cost = n }
      ∷ map (lowered view (size_of rows counts view))
      (map (costed_view (cuboids_by ties rows counts demanded) chosen) views))
      (sym (cost-push (cuboids_by ties rows counts demanded) chosen view other))
      ∙ ap (λ others. costed_view (cuboids_by ties rows counts demanded) (chosen ++ view ∷ []) other ∷ others)
      (lowered-costed chosen view views)

  -- the kept costs when one more view is chosen
  pub lowered_costs : (chosen : List View) (view : View)
      → map (lowered view (size_of rows counts view)) (costed (cuboids_by ties rows counts demanded) chosen)
      ≡ costed (cuboids_by ties rows counts demanded) (chosen ++ view ∷ [])
  lowered_costs chosen view = lowered-costed chosen view demanded

  -- the kept costs add up to a number of 64 bits
  pub costs_fit : (chosen : List View) → rows ≤ most_fact_rows → length demanded ≤ most_demanded
      → costs_in_all (costed (cuboids_by ties rows counts demanded) chosen) < 2 ^ 64
  costs_fit chosen few short =
      let total : costs_in_all (costed (cuboids_by ties rows counts demanded) chosen)
      ≡ sum_by (λ view. cost (cuboids_by ties rows counts demanded) chosen view) demanded
      = fold-map (λ (so_far : ℕ) (other : Costed). so_far + other.cost)
      (costed_view (cuboids_by ties rows counts demanded) chosen) 0 demanded in
      let bound : sum_by (λ view. cost (cuboids_by ties rows counts demanded) chosen view) demanded ≤ length demanded *
      rows
      = sum_by-le (λ view. cost (cuboids_by ties rows counts demanded) chosen view) rows demanded
      (λ i d lt. cost-le (cuboids_by ties rows counts demanded) chosen (get_or demanded i d)) in
      let limit : length demanded * rows ≤ most_demanded * most_fact_rows =
      mul-le (length demanded) rows most_demanded most_fact_rows short few in
      omega (arith, total, bound, limit)

  -- the gain of a view that may be stored is its benefit
  gain-small : (chosen : List View) (view : View) → size_of rows counts view ≤ most_stored_cells
      → gain_among (costed (cuboids_by ties rows counts demanded) chosen) (sized (size_of rows counts) view)
      ≡ benefit (cuboids_by ties rows counts demanded) chosen view
  gain-small chosen view small =
      ap (λ b. cond b
      (benefit_among (costed (cuboids_by ties rows counts demanded) chosen) view (size_of rows counts view)) 0)
      (le-leb (size_of rows counts view) most_stored_cells small)
      ∙ benefit_among-costed chosen view

  -- only such a view gains
  small_from_gain : (n benefit : ℕ) → 0 < cond (nat_le n most_stored_cells) benefit 0 → n ≤ most_stored_cells
  small_from_gain n benefit gains = grind (arith, gains)

  -- what is kept of the view at a place
  gain_at : (chosen : List View) (i : ℕ) (default : View) (other : Candidate) → i < length (views_by ties counts)
      → gain_among (costed (cuboids_by ties rows counts demanded) chosen)
      (get_or (view_candidates (cuboids_by ties rows counts demanded)) i other)
      ≡ gain_among (costed (cuboids_by ties rows counts demanded) chosen)
      (sized (size_of rows counts) (get_or (views_by ties counts) i default))
  gain_at chosen i default other inside =
      ap (gain_among (costed (cuboids_by ties rows counts demanded) chosen))
      (get_or-map (sized (size_of rows counts)) (views_by ties counts) i default other inside)

  -- the gain of a candidate at its place is its benefit
  gain-candidate : (chosen : List View) (i : ℕ) (other : Candidate) (view : View) → i < length (views_by ties counts)
      → get_or (views_by ties counts) i view ≡ view
      → size_of rows counts view ≤ most_stored_cells
      → gain_among (costed (cuboids_by ties rows counts demanded) chosen)
      (get_or (view_candidates (cuboids_by ties rows counts demanded)) i other)
      ≡ benefit (cuboids_by ties rows counts demanded) chosen view
  gain-candidate chosen i other view inside here small =
      gain_at chosen i view other inside
      ∙ ap (λ v. gain_among (costed (cuboids_by ties rows counts demanded) chosen) (sized (size_of rows counts) v)) here
      ∙ gain-small chosen view small

  -- where no kept view gains, no candidate does
  pub none_gains : (chosen : List View)
      → All (λ candidate. gain_among (costed (cuboids_by ties rows counts demanded) chosen) candidate ≡ 0)
      (view_candidates (cuboids_by ties rows counts demanded))
      → NoneGains (cuboids_by ties rows counts demanded) chosen
  none_gains chosen none view candidate =
      let inside : candidate.known.0 < length (view_candidates (cuboids_by ties rows counts demanded)) =
      omega (arith, length-map (views_by ties counts) (sized (size_of rows counts)), candidate.known.1) in
      sym (gain-candidate chosen candidate.known.0 (sized (size_of rows counts) view) view candidate.known.1
      candidate.known.2 candidate.small)
      ∙ none candidate.known.0 (sized (size_of rows counts) view) inside

  -- the first kept view of greatest gain is the best candidate
  pub is_best : (chosen : List View) (place : ℕ) (best : Candidate)
      → best ≡ get_or (view_candidates (cuboids_by ties rows counts demanded)) place best
      → IsFirstGreatestAt (gain_among (costed (cuboids_by ties rows counts demanded) chosen))
      (view_candidates (cuboids_by ties rows counts demanded)) place
      → (best.size ≡ size_of rows counts best.view) × IsBest (cuboids_by ties rows counts demanded) chosen best.view
  is_best chosen place best read first =
      let inside : place < length (views_by ties counts) =
      omega (arith, length-map (views_by ties counts) (sized (size_of rows counts)), first.inside) in
      let entry : best ≡ sized (size_of rows counts) (get_or (views_by ties counts) place best.view)
      = read ∙ get_or-map (sized (size_of rows counts)) (views_by ties counts) place best.view best inside in
      let here : get_or (views_by ties counts) place best.view ≡ best.view =
      sym (ap (λ (e : Candidate). e.view) entry) in
      let has_size : best.size ≡ size_of rows counts best.view = ap (λ (e : Candidate). e.size) entry
      ∙ ap (size_of rows counts) here in
      let small : size_of rows counts best.view ≤ most_stored_cells
      = small_from_gain (size_of rows counts best.view)
      (benefit_among (costed (cuboids_by ties rows counts demanded) chosen) best.view
      (size_of rows counts best.view))
      (subst (λ (n : ℕ). 0 < n) (gain_at chosen place best.view best inside
      ∙ ap (λ v. gain_among (costed (cuboids_by ties rows counts demanded) chosen) (sized (size_of rows counts) v))
      here) (first.gains best)) in
      let gained : gain_among (costed (cuboids_by ties rows counts demanded) chosen)
      (get_or (view_candidates (cuboids_by ties rows counts demanded)) place best)
      ≡ benefit (cuboids_by ties rows counts demanded) chosen best.view
      = gain-candidate chosen place best best.view inside here small in (
        has_size,
        record {
          candidate = record { known = (place, inside, here); small = small };
          gains = omega (arith, first.gains best, gained);
          greatest = λ other candidate.
              omega (
                arith,
                gained,
                first.greatest candidate.known.0 best
                    (omega (arith, length-map (views_by ties counts) (sized (size_of rows counts)), candidate.known.1)),
                gain-candidate chosen candidate.known.0 best other candidate.known.1 candidate.known.2 candidate.small,
              );
          least = λ other candidate equal.
              ⊎_elim (λ (before : candidate.known.0 < place). absurd (omega (
                arith,
                gained,
                equal,
                first.first candidate.known.0 best before,
                gain-candidate chosen candidate.known.0 best other candidate.known.1 candidate.known.2 candidate.small,
              )))
              (λ (after : place ≤ candidate.known.0). omega (
                arith,
                after,
                number_at ties (is_some counts.ship_modes) (views_by ties counts) place best.view
                    (ordered-views ties counts) inside,
                ap (number_by ties) here,
                number_at ties (is_some counts.ship_modes) (views_by ties counts) candidate.known.0 other
                    (ordered-views ties counts) candidate.known.1,
                ap (number_by ties) candidate.known.2,
              ))
              (cases_lt candidate.known.0 place);
        },
      )
