-- The list of all plans that answer a query.
use Rattle.std.proofs.Common.{◌≡◌, ◌∙◌, ◌<◌, ◌⊎◌, ◌↔◌, ℕ, zero, suc, inl, inr, ⊎_elim, List, [], ◌∷◌, ◌++◌, ◌+◌, get_or}
use Rattle.std.proofs.Common.{length, take, slice_index_or, refl, sym, subst, arith}
use Rattle.std.specs.List.{Contains}
use Rattle.std.proofs.lemmas.List.{take_more}
use Rattle.std.proofs.lemmas.List.Elements.{Contains-push}
use Rattle.cube_model.specs.declared.query.Query.{Query}
use Rattle.planner.specs.declared.price.AccessPath.{AccessPath}
use Rattle.planner.specs.declared.price.AccessPath.TheVariants.{Cells}
use Rattle.planner.specs.declared.price.Priced.{Priced}
use Rattle.planner.specs.declared.stored.Stored.{Stored}
use Rattle.planner.specs.Listed.{HasBetterFirst}
use Rattle.planner.specs.Plans.{AnswersAt, ComesFirst, ServesAsOf, cells_cost}
use Rattle.planner.proofs.Taken.{cases, more}

itself : (one : Priced) → ComesFirst one one
itself one = inr (refl, omega arith)

-- a plan before others
pub put_before : (plans : List Priced) (other one : Priced) → Contains (other ∷ plans) one
    ↔ (Contains plans one ⊎ (one ≡ other))
put_before plans other one = (
  λ has. from has.0 has.1 has.2,
  ⊎_elim (λ has. (suc has.0, omega (arith, has.1), has.2))
      (λ same. (0, omega arith, sym same)),
)
  where
    from : (k : ℕ) → k < length (other ∷ plans) → slice_index_or (other ∷ plans) k one ≡ one → Contains plans one
        ⊎ (one ≡ other)
    from zero below at = inr (sym at)
    from (suc k) below at = inl (k, omega (arith, below), at)

pub first_put : (plans : List Priced) (other d : Priced) → ComesFirst other (slice_index_or plans 0 d)
    → HasBetterFirst plans other (other ∷ plans)
first_put [] other d comes first at = absurd cc
first_put (plan ∷ plans) other d comes first at = let same : plan ≡ first = cc at in
    (other, refl, inr refl, subst (λ (p : Priced). ComesFirst other p) same comes, itself other)

same_plan : (one : Priced) (plan : AccessPath) (cost : ℕ) → one.plan ≡ plan → one.cost ≡ cost
    → one ≡ record { plan = plan; cost = cost }
same_plan one plan cost p c = λ i. record { plan = p i; cost = c i }

module _ (query : Query) (rows : List ℕ) (as_of : ℕ) where
  abbrev pub IsListed : List Stored → Priced → Type 0
  IsListed stored one = AnswersAt query stored rows as_of one.plan one.cost

  module _ (stored : List Stored) (next : Stored) (one : Priced) where
    -- a cuboid that does not serve changes nothing
    pub listed_passed : (ServesAsOf query as_of next → ⊥) → IsListed stored one ↔ IsListed (stored ++ next ∷ []) one
    listed_passed unable = (
      λ h. more query rows as_of stored next one.plan one.cost h,
      λ h. ⊎_elim (λ before. before) (λ it. absurd (unable it.0))
          (cases query rows as_of stored next one.plan one.cost h),
    )

    -- one that serves is one plan more
    pub listed_more : ServesAsOf query as_of next → (other : Priced)
        → other ≡ record { plan = Cells next.view next.mark; cost = cells_cost rows as_of next }
        → (IsListed stored one ⊎ (one ≡ other)) ↔ IsListed (stored ++ next ∷ []) one
    listed_more able other is = (
      ⊎_elim (λ h. more query rows as_of stored next one.plan one.cost h)
          (λ same. subst (IsListed (stored ++ next ∷ [])) (sym (same ∙ is))
          (next, Contains-push stored next, able, refl, refl, refl)),
      λ h. ⊎_elim (λ before. inl before)
          (λ it. inr (same_plan one (Cells next.view next.mark) (cells_cost rows as_of next) it.1 it.2 ∙ sym is))
          (cases query rows as_of stored next one.plan one.cost h),
    )

-- one test is as another, through a third
pub iff_through : {A B C : Type 0} → A ↔ B → B ↔ C → A ↔ C
iff_through one two = (λ a. two.0 (one.0 a), λ c. one.1 (two.1 c))

pub or_through : {A B C : Type 0} → A ↔ B → (A ⊎ C) ↔ (B ⊎ C)
or_through one = (⊎_elim (λ a. inl (one.0 a)) (λ c. inr c), ⊎_elim (λ b. inl (one.1 b)) (λ c. inr c))

-- the same for a list of cuboids and one of its places
module _ (query : Query) (rows : List ℕ) (as_of : ℕ) (stored : List Stored) (i : ℕ) (d : Stored)
    (below : i < length stored) (one : Priced) where
  pub listed_passed_at : (ServesAsOf query as_of (get_or stored i d) → ⊥)
      → AnswersAt query (take i stored) rows as_of one.plan one.cost
      ↔ AnswersAt query (take (i + 1) stored) rows as_of one.plan one.cost
  listed_passed_at unable =
      subst (λ xs. AnswersAt query (take i stored) rows as_of one.plan one.cost
      ↔ AnswersAt query xs rows as_of one.plan one.cost) (sym (take_more stored i d below))
      (listed_passed query rows as_of (take i stored) (get_or stored i d) one unable)

  pub listed_more_at : ServesAsOf query as_of (get_or stored i d) → (other : Priced)
      → other ≡ record {
        plan = Cells (get_or stored i d).view (get_or stored i d).mark;
        cost = cells_cost rows as_of (get_or stored i d);
      }
      → (AnswersAt query (take i stored) rows as_of one.plan one.cost ⊎ (one ≡ other))
      ↔ AnswersAt query (take (i + 1) stored) rows as_of one.plan one.cost
  listed_more_at able other is =
      subst (λ xs. (AnswersAt query (take i stored) rows as_of one.plan one.cost ⊎ (one ≡ other))
      ↔ AnswersAt query xs rows as_of one.plan one.cost) (sym (take_more stored i d below))
      (listed_more query rows as_of (take i stored) (get_or stored i d) one able other is)
