-- One step of each loop of the choice.
use Rattle.std.proofs.Common.{◌≡◌, ◌∙◌, ap, sym, subst, ℕ, ◌+◌, ◌-◌, ◌<◌, ◌≤◌, Bool, true, false, cond, List, [], ◌∷◌}
use Rattle.std.proofs.Common.{◌++◌, length, map, take, drop, get_or, set, Some, None, arith, ⊎_elim}
use Rattle.std.specs.Prelude.{slice_get}
use Rattle.std.specs.List.{sum_by}
use Rattle.std.proofs.lemmas.Bool.{cases_lt}
use Rattle.std.proofs.lemmas.List.{append-nil, append_assoc, drop_all, take_all, take_at, take_more, take-append-le}
use Rattle.std.proofs.lemmas.List.{get_or_append_left, get_or_push, get_or_default, length_push, map_more}
use Rattle.std.proofs.lemmas.List.Edits.{map_over_more}
use Rattle.std.proofs.lemmas.List.Sums.{sum_by_more_le_part}
use Rattle.std.proofs.lemmas.Option.{get_or_from_slice_get, slice_get-get_or, slice_get_within}
use Rattle.lattice.specs.declared.counts.Counts.{Counts}
use Rattle.lattice.specs.declared.level.Level.TheVariants.{Lowest}
use Rattle.lattice.specs.declared.view.View.{View}
use Rattle.lattice.specs.Sizes.{size_of, lattice_of}
use Rattle.lattice.specs.Views.{answers}
use Rattle.view_choice.specs.declared.costs.Costed.{Costed}
use Rattle.view_choice.specs.Choice.{Lattice, benefit, benefits_after, IsBest}
use Rattle.view_choice.specs.Costs.{costed_view, saved_by, lowered}
use Rattle.view_choice.specs.Cuboids.{cuboids}

-- what is past the end of a list
abbrev pub no_view : View
no_view = record { customer = Lowest; supplier = Lowest; part = Lowest; date = Lowest; ship_mode = false }

abbrev pub no_costed : Costed
no_costed = record { view = no_view; cost = 0 }

-- a slice that is written as a whole
pub whole_slice : {X : Type 0} (n : ℕ) (new old : List X) → length new ≡ n → length old ≡ n
    → take n (new ++ drop (length new) old) ≡ new
whole_slice n new old long short =
    ap (λ rest. take n (new ++ rest)) (drop_all (length new) old (omega (arith, long, short)))
    ∙ ap (take n) (append-nil new)
    ∙ take_all n new (omega (arith, long))

-- the next view of the lattice is kept too
pub push_view : (counts : Counts) (i : ℕ) (view : View) (views : List View)
    → slice_get (lattice_of counts) i ≡ Some view
    → views ≡ take i (lattice_of counts) → views ++ view ∷ [] ≡ take (i + 1) (lattice_of counts)
push_view counts i view views here so_far =
    ap (λ items. items ++ view ∷ []) so_far
    ∙ ap (λ v. take i (lattice_of counts) ++ v ∷ []) (sym (get_or_from_slice_get (lattice_of counts) i view view here))
    ∙ sym (take_more (lattice_of counts) i view (slice_get_within (lattice_of counts) i view here))

-- there is a view at each place of the lattice
pub some_view : (counts : Counts) (i : ℕ) → i < length (lattice_of counts) → slice_get (lattice_of counts) i ≡ None → ⊥
some_view counts i inside none =
    let some : slice_get (lattice_of counts) i ≡ Some (get_or (lattice_of counts) i no_view) =
    slice_get-get_or (lattice_of counts) i no_view inside in
    cc

-- no more is saved than the cost
saved_le : (view : View) (size : ℕ) (other : Costed) → saved_by view size other ≤ other.cost
saved_le view size other = at (answers view other.view) where
  at : (b : Bool) → cond b (other.cost - size) 0 ≤ other.cost
  at true = omega arith
  at false = omega arith

-- what is saved so far and next is at most all costs
pub saved_within : (view : View) (size : ℕ) (all : List Costed) (i : ℕ) (default : Costed) → i < length all
    → sum_by (saved_by view size) (take i all) + saved_by view size (get_or all i default) ≤ sum_by
    (λ other. other.cost) all
saved_within view size all i default inside =
    let part : sum_by (saved_by view size) (take i all) + (get_or all i default).cost ≤ sum_by (λ other. other.cost) all
    = sum_by_more_le_part (saved_by view size) (λ other. other.cost) all i default inside (saved_le view size) in
    omega (arith, part, saved_le view size (get_or all i default))

-- the cost at the next place is lowered too
pub lower_next : (view : View) (size : ℕ) (all now : List Costed) (i : ℕ) (default new : Costed) → i < length all
    → length now ≡ length all
    → now ≡ map (lowered view size) (take i all) ++ drop i all → new ≡ lowered view size (get_or now i default)
    → set now i new ≡ map (lowered view size) (take (i + 1) all) ++ drop (i + 1) all
lower_next view size all now i default new inside same so_far is =
    ap (set now i) is
    ∙ map_over_more (lowered view size) all now i (get_or now i default) inside so_far
    (get_or_default now i default (get_or now i default) (omega (arith, inside, same)))

-- one more member that is the best
pub best_more : {V : Type 0} (lattice : Lattice V) (chosen more : List V) (view : V) → more ≡ chosen ++ view ∷ []
    → IsBest lattice chosen view
    → ((i : ℕ) → i < length chosen → (default : V) → IsBest lattice (take i chosen) (get_or chosen i default))
    → (i : ℕ) → i < length more → (default : V) → IsBest lattice (take i more) (get_or more i default)
best_more {V} lattice chosen more view is best each =
    subst (λ (xs : List V). (i : ℕ) → i < length xs → (default : V) → IsBest lattice (take i xs) (get_or xs i default))
    (sym is)
    (λ i inside default. ⊎_elim
    (λ (before : i < length chosen).
    subst (λ front. IsBest lattice front (get_or (chosen ++ view ∷ []) i default))
    (sym (take-append-le i chosen (view ∷ []) (omega (arith, before))))
    (subst (IsBest lattice (take i chosen)) (sym (get_or_append_left chosen (view ∷ []) default i before))
    (each i before default)))
    (λ (after : length chosen ≤ i).
    let last : length chosen ≡ i = omega (arith, after, inside, length_push chosen view) in
    subst (λ front. IsBest lattice front (get_or (chosen ++ view ∷ []) i default))
    (sym (take_at chosen (view ∷ []) i last))
    (subst (IsBest lattice chosen) (sym (get_or_push chosen view default i last)) best))
    (cases_lt i (length chosen)))

-- the benefit of one more view
benefits_after-push : {V : Type 0} (lattice : Lattice V) (before views : List V) (view : V)
    → benefits_after lattice before (views ++ view ∷ []) ≡ benefits_after lattice before views
    ++ benefit lattice (before ++ views) view ∷ []
benefits_after-push lattice before [] view = ap (λ front. benefit lattice front view ∷ []) (sym (append-nil before))
benefits_after-push lattice before (first ∷ views) view =
    ap (λ rest. benefit lattice before first ∷ rest) (benefits_after-push lattice (before ++ first ∷ []) views view
    ∙ ap (λ front. benefits_after lattice (before ++ first ∷ []) views ++ benefit lattice front view ∷ [])
    (append_assoc before (first ∷ []) views))

pub benefits_more : {V : Type 0} (lattice : Lattice V) (views : List V) (i : ℕ) (default : V) → i < length views
    → benefits_after lattice [] (take i views) ++ benefit lattice (take i views) (get_or views i default)
    ∷ [] ≡ benefits_after lattice [] (take (i + 1) views)
benefits_more lattice views i default inside =
    sym (benefits_after-push lattice [] (take i views) (get_or views i default))
    ∙ ap (benefits_after lattice []) (sym (take_more views i default inside))
