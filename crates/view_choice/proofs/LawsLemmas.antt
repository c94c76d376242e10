-- That there is a greedy list for each k: under each choice either no candidate has a benefit, or one is the best.
use Rattle.std.proofs.Common.{◌≡◌, ◌⊎◌, inl, inr, refl, subst, ℕ, zero, suc, ◌<◌, ◌≤◌, List, [], ◌∷◌, ◌++◌, length}
use Rattle.std.proofs.Common.{get_or, arith, ⊎_elim}
use Rattle.std.specs.List.{Contains}
use Rattle.std.proofs.lemmas.Bool.{cases_lt}
use Rattle.std.proofs.lemmas.List.{length_push}
use Rattle.view_choice.specs.Choice.{Lattice, benefit, IsBest, NoneGains, IsGreedy}
use Rattle.view_choice.proofs.Steps.{best_more}

-- what a list contains is its first item or is in the rest
first_or_rest : {V : Type 0} (x other : V) (views : List V) (k : ℕ) → k < length (x ∷ views)
    → get_or (x ∷ views) k other ≡ other
    → (x ≡ other) ⊎ Contains views other
first_or_rest x other views zero inside here = inl here
first_or_rest x other views (suc k) inside here = inr (k, omega (arith, inside), here)

in_rest : {V : Type 0} (x other : V) (views : List V) → Contains views other → Contains (x ∷ views) other
in_rest x other views has = (suc has.0, omega (arith, has.1), has.2)

module _ {V : Type 0} (lattice : Lattice V) (chosen : List V) where
  -- a view is no better than another: it is too large, or has less benefit, or as much and no lesser number
  pub record IsNoBetter (view other : V) : Type 0 where
    pub gain : lattice.size other ≤ lattice.most_cells → benefit lattice chosen other ≤ benefit lattice chosen view
    pub tie : lattice.size other ≤ lattice.most_cells → benefit lattice chosen other ≡ benefit lattice chosen view
        → lattice.index view ≤ lattice.index other

  -- a view that may be stored, has a benefit, and no view of the list is better
  pub record IsBestOf (views : List V) (view : V) : Type 0 where
    pub has : Contains views view
    pub small : lattice.size view ≤ lattice.most_cells
    pub gains : 0 < benefit lattice chosen view
    pub others : (other : V) → Contains views other → IsNoBetter view other

  -- no view of the list that may be stored has a benefit
  abbrev pub NoneOf : List V → Type 0
  NoneOf views = (other : V) → Contains views other → lattice.size other ≤ lattice.most_cells
      → benefit lattice chosen other ≡ 0

  same_no_better : (view : V) → IsNoBetter view view
  same_no_better view = record { gain = λ small. omega arith; tie = λ small same. omega arith }

  -- the first view of a list, where it is the best
  takes_first : (x : V) (views : List V) → lattice.size x ≤ lattice.most_cells → 0 < benefit lattice chosen x
      → ((other : V) → Contains views other → IsNoBetter x other) → IsBestOf (x ∷ views) x
  takes_first x views small gains others = record {
    has = (0, omega arith, refl);
    small = small;
    gains = gains;
    others = λ other has. ⊎_elim (λ (same : x ≡ other). subst (IsNoBetter x) same (same_no_better x))
        (λ rest. others other rest)
        (first_or_rest x other views has.0 has.1 has.2);
  }

  -- the best of the rest, where the first is no better
  keeps_rest : (x view : V) (views : List V) → IsBestOf views view → IsNoBetter view x → IsBestOf (x ∷ views) view
  keeps_rest x view views best no_better = record {
    has = in_rest x view views best.has;
    small = best.small;
    gains = best.gains;
    others = λ other has. ⊎_elim (λ (same : x ≡ other). subst (IsNoBetter view) same no_better)
        (λ rest. best.others other rest)
        (first_or_rest x other views has.0 has.1 has.2);
  }

  -- a first view that gains, against the best of the rest
  first_against : (x view : V) (views : List V) → lattice.size x ≤ lattice.most_cells → 0 < benefit lattice chosen x
      → IsBestOf views view
      → (v : V) × IsBestOf (x ∷ views) v
  first_against x view views small gains best = ⊎_elim
      (λ (less : benefit lattice chosen x < benefit lattice chosen view). (
        view,
        keeps_rest x view views best
            (record { gain = λ s. omega (arith, less); tie = λ s same. absurd (omega (arith, less, same)) }),
      ))
      (λ (more : benefit lattice chosen view ≤ benefit lattice chosen x). ⊎_elim
      (λ (truly : benefit lattice chosen view < benefit lattice chosen x). (
        x,
        takes_first x views small gains (λ other has. record {
          gain = λ s. omega (arith, truly, (best.others other has).gain s);
          tie = λ s same. absurd (omega (arith, truly, same, (best.others other has).gain s));
        }),
      ))
      (λ (no_more : benefit lattice chosen x ≤ benefit lattice chosen view). ⊎_elim
      (λ (later : lattice.index view < lattice.index x).
      (view, keeps_rest x view views best (record { gain = λ s. no_more; tie = λ s same. omega (arith, later) })))
      (λ (earlier : lattice.index x ≤ lattice.index view). (
        x,
        takes_first x views small gains (λ other has. record {
          gain = λ s. omega (arith, more, (best.others other has).gain s);
          tie = λ s same.
              let ties : benefit lattice chosen other ≡ benefit lattice chosen view =
              omega (arith, more, no_more, same) in
              omega (arith, earlier, (best.others other has).tie s ties);
        }),
      ))
      (cases_lt (lattice.index view) (lattice.index x)))
      (cases_lt (benefit lattice chosen view) (benefit lattice chosen x)))
      (cases_lt (benefit lattice chosen x) (benefit lattice chosen view))

  -- a first view that does not count
  passes_over : (x : V) (views : List V) → (lattice.size x ≤ lattice.most_cells → benefit lattice chosen x ≡ 0)
      → (NoneOf views ⊎ ((v : V) × IsBestOf views v)) → NoneOf (x ∷ views) ⊎ ((v : V) × IsBestOf (x ∷ views) v)
  passes_over x views nothing rest = ⊎_elim
      (λ (none : NoneOf views). inl (λ other has small. ⊎_elim
      (λ (same : x ≡ other). subst (λ v. lattice.size v ≤ lattice.most_cells → benefit lattice chosen v ≡ 0) same
      nothing small)
      (λ inside. none other inside small)
      (first_or_rest x other views has.0 has.1 has.2)))
      (λ (best : (v : V) × IsBestOf views v). inr (
        best.0,
        keeps_rest x best.0 views best.1 (record {
          gain = λ small. omega (arith, nothing small);
          tie = λ small same. absurd (omega (arith, nothing small, same, best.1.gains));
        }),
      ))
      rest

  -- a first view that gains
  counts_in : (x : V) (views : List V) → lattice.size x ≤ lattice.most_cells → 0 < benefit lattice chosen x
      → (NoneOf views ⊎ ((v : V) × IsBestOf views v)) → NoneOf (x ∷ views) ⊎ ((v : V) × IsBestOf (x ∷ views) v)
  counts_in x views small gains rest = inr (⊎_elim
      (λ (none : NoneOf views). (
        x,
        takes_first x views small gains (λ other has. record {
          gain = λ s. omega (arith, none other has s);
          tie = λ s same. absurd (omega (arith, none other has s, same, gains));
        }),
      ))
      (λ (best : (v : V) × IsBestOf views v). first_against x best.0 views small gains best.1)
      rest)

  best_or_none : (views : List V) → NoneOf views ⊎ ((v : V) × IsBestOf views v)
  best_or_none [] = inl (λ other has small. absurd (omega (arith, has.1)))
  best_or_none (x ∷ views) = ⊎_elim
      (λ (large : lattice.most_cells < lattice.size x). passes_over x views
      (λ small. absurd (omega (arith, large, small))) (best_or_none views))
      (λ (small : lattice.size x ≤ lattice.most_cells). ⊎_elim
      (λ (gains : 0 < benefit lattice chosen x). counts_in x views small gains (best_or_none views))
      (λ (none : benefit lattice chosen x ≤ 0). passes_over x views (λ s. omega (arith, none)) (best_or_none views))
      (cases_lt 0 (benefit lattice chosen x)))
      (cases_lt lattice.most_cells (lattice.size x))

  -- the best of all views is the best candidate
  is_best : (view : V) → IsBestOf lattice.views view → IsBest lattice chosen view
  is_best view best = record {
    candidate = record { known = best.has; small = best.small };
    gains = best.gains;
    greatest = λ other candidate. (best.others other candidate.known).gain candidate.small;
    least = λ other candidate same. (best.others other candidate.known).tie candidate.small same;
  }

  pub none_or_best : NoneGains lattice chosen ⊎ ((view : V) × IsBest lattice chosen view)
  none_or_best =
      ⊎_elim (λ (none : NoneOf lattice.views). inl (λ other candidate. none other candidate.known candidate.small))
      (λ (best : (v : V) × IsBestOf lattice.views v). inr (best.0, is_best best.0 best.1)) (best_or_none lattice.views)

-- a full list goes on, or has come to its end
one_more : {V : Type 0} (lattice : Lattice V) (k : ℕ) (chosen : List V) → IsGreedy lattice k chosen → k ≤ length chosen
    → (more : List V) × IsGreedy lattice (suc k) more
one_more {V} lattice k chosen greedy full = ⊎_elim
    (λ (none : NoneGains lattice chosen).
    (chosen, record { at_most = omega (arith, greedy.at_most); each = greedy.each; ends = λ short. none }))
    (λ (best : (view : V) × IsBest lattice chosen view). (
      chosen ++ best.0 ∷ [],
      record {
        at_most = omega (arith, length_push chosen best.0, greedy.at_most);
        each = best_more lattice chosen (chosen ++ best.0 ∷ []) best.0 refl best.1 greedy.each;
        ends = λ short. absurd (omega (arith, length_push chosen best.0, full, short));
      },
    ))
    (none_or_best lattice chosen)

-- there is a greedy list for each k
pub greedy_list : {V : Type 0} (lattice : Lattice V) (k : ℕ) → (chosen : List V) × IsGreedy lattice k chosen
greedy_list lattice zero = (
  [],
  record {
    at_most = omega arith;
    each = λ i inside. absurd (omega (arith, inside));
    ends = λ short. absurd (omega (arith, short));
  },
)
greedy_list {V} lattice (suc k) =
    let before = greedy_list lattice k in
    ⊎_elim
    (λ (short : length before.0 < k). (
      before.0,
      record {
        at_most = omega (arith, short);
        each = before.1.each;
        ends = λ shorter. before.1.ends short;
      },
    ))
    (λ (full : k ≤ length before.0). one_more lattice k before.0 before.1 full)
    (cases_lt (length before.0) k)
