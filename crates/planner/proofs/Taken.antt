-- What one more stored cuboid changes of the plan to take.
use Rattle.std.proofs.Common.{◌≡◌, ℕ, zero, suc, ◌+◌, ◌<◌, ◌≤◌, ◌⊎◌, inl, inr, Bool, true, false, List, [], ◌∷◌, ◌++◌}
use Rattle.std.proofs.Common.{length, refl, slice_index_or, get_or, take, sym, ap, subst, ◌∙◌, arith}
use Rattle.std.proofs.lemmas.List.{take_more}
use Rattle.std.proofs.lemmas.List.Elements.{Contains-append_left, Contains-append_cases, Contains-push}
use Rattle.cube_model.specs.declared.query.Query.{Query}
use Rattle.lattice.specs.Views.{index_of}
use Rattle.planner.specs.declared.price.AccessPath.{AccessPath}
use Rattle.planner.specs.declared.price.AccessPath.TheVariants.{Scan, Cells}
use Rattle.planner.specs.declared.price.Priced.{Priced}
use Rattle.planner.specs.declared.stored.Stored.{Stored}
use Rattle.planner.specs.Plans.{ServesAsOf, AnswersAt, IsCheapest, ComesFirst, rank, cells_cost, rows_between}

-- no test tells both
pub untrue : (b : Bool) → b ≡ true → b ≡ false → ⊥
untrue true fact denied = grind (arith, denied)
untrue false fact denied = grind (arith, fact)

-- an element of a list of one
only_at : {X : Type 0} (x y : X) (k : ℕ) → k < 1 → slice_index_or (x ∷ []) k y ≡ y → x ≡ y
only_at x y zero below is = is
only_at x y (suc k) below is = absurd (omega arith)

module _ (query : Query) (rows : List ℕ) (as_of : ℕ) (stored : List Stored) (one : Stored) where
  pub more : (plan : AccessPath) (cost : ℕ) → AnswersAt query stored rows as_of plan cost
      → AnswersAt query (stored ++ one ∷ []) rows as_of plan cost
  more Scan cost h = h
  more (Cells view mark) cost h = (h.0, Contains-append_left stored (one ∷ []) h.0 h.1, h.2, h.3, h.4, h.5)

  -- a plan over one more cuboid is one over those before, or by the cuboid
  pub cases : (plan : AccessPath) (cost : ℕ) → AnswersAt query (stored ++ one ∷ []) rows as_of plan cost
      → AnswersAt query stored rows as_of plan cost
      ⊎ (ServesAsOf query as_of one × (plan ≡ Cells one.view one.mark) × (cost ≡ cells_cost rows as_of one))
  cases Scan cost h = inl h
  cases (Cells view mark) cost h = elim (Contains-append_cases stored (one ∷ []) h.0 h.1) [
    | inl before ↦ inl (h.0, before, h.2, h.3, h.4, h.5)
    | inr last ↦
        let same : one ≡ h.0 = only_at one h.0 last.0 last.1 last.2 in
        let same_view : one.view ≡ view = ap (λ (x : Stored). x.view) same ∙ h.3 in
        let same_mark : one.mark ≡ mark = ap (λ (x : Stored). x.mark) same ∙ h.4 in
        inr (
          subst (ServesAsOf query as_of) (sym same) h.2,
          sym (ap (λ v. Cells v mark) same_view) ∙ sym (ap (λ m. Cells one.view m) same_mark),
          h.5 ∙ ap (cells_cost rows as_of) (sym same),
        )
  ]

  -- one that does not serve changes nothing
  pub passed : (best : Priced) → IsCheapest query stored rows as_of best.plan best.cost
      → (ServesAsOf query as_of one → ⊥)
      → IsCheapest query (stored ++ one ∷ []) rows as_of best.plan best.cost
  passed best least unable = record {
    answers = more best.plan best.cost least.answers;
    none_cheaper = λ other its h. elim (cases other its h) [
      | inl before ↦ least.none_cheaper other its before
      | inr it ↦ absurd (unable it.0)
    ];
    tie = λ other h. elim (cases other best.cost h) [
      | inl before ↦ least.tie other before
      | inr it ↦ absurd (unable it.0)
    ];
  }

  -- one that serves and does not come first changes nothing either
  keep : (plan : AccessPath) (cost its : ℕ) → its ≡ cells_cost rows as_of one
      → IsCheapest query stored rows as_of plan cost
      → (cost < its) ⊎ ((cost ≡ its) × (rank plan ≤ index_of one.view + 1))
      → IsCheapest query (stored ++ one ∷ []) rows as_of plan cost
  keep plan cost its priced least order = record {
    answers = more plan cost least.answers;
    none_cheaper = λ other price h. elim (cases other price h) [
      | inl before ↦ least.none_cheaper other price before
      | inr it ↦ elim order [
        | inl less ↦ omega (arith, it.2, priced, less)
        | inr same ↦ omega (arith, it.2, priced, same.0)
      ]
    ];
    tie = λ other h. elim (cases other cost h) [
      | inl before ↦ least.tie other before
      | inr it ↦ elim order [
        | inl less ↦ absurd (omega (arith, it.2, priced, less))
        | inr same ↦ subst (λ p. rank plan ≤ rank p) (sym it.1) same.1
      ]
    ];
  }

  -- one that comes first is taken
  turn : (plan : AccessPath) (cost its : ℕ) → its ≡ cells_cost rows as_of one → ServesAsOf query as_of one
      → IsCheapest query stored rows as_of plan cost
      → (its < cost) ⊎ ((its ≡ cost) × (index_of one.view + 1 ≤ rank plan))
      → IsCheapest query (stored ++ one ∷ []) rows as_of (Cells one.view one.mark) its
  turn plan cost its priced able least order = record {
    answers = (one, Contains-push stored one, able, refl, refl, priced);
    none_cheaper = λ other price h. elim (cases other price h) [
      | inl before ↦
          let bound : cost ≤ price = least.none_cheaper other price before in
          elim order [ inl less ↦ omega (arith, bound, less) | inr same ↦ omega (arith, bound, same.0) ]
      | inr it ↦ omega (arith, it.2, priced)
    ];
    tie = λ other h. elim (cases other its h) [
      | inl before ↦ elim order [
        | inl less ↦ let bound : cost ≤ its = least.none_cheaper other its before in absurd (omega (arith, bound, less))
        | inr same ↦
            let first : rank plan ≤ rank other =
            least.tie other (subst (AnswersAt query stored rows as_of other) same.0 before) in
            omega (arith, same.1, first)
      ]
      | inr it ↦ subst (λ p. index_of one.view + 1 ≤ rank p) (sym it.1) (omega arith)
    ];
  }

  -- so the one of the two that comes first is taken
  pub taken : (best result : Priced) (its : ℕ) → its ≡ cells_cost rows as_of one → ServesAsOf query as_of one
      → IsCheapest query stored rows as_of best.plan best.cost
      → (result ≡ best) ⊎ (result ≡ record { plan = Cells one.view one.mark; cost = its })
      → ComesFirst result best → ComesFirst result (record { plan = Cells one.view one.mark; cost = its })
      → IsCheapest query (stored ++ one ∷ []) rows as_of result.plan result.cost
  taken best result its priced able least which before_best before_one = elim which [
    | inl is ↦
        let order : ComesFirst best (record { plan = Cells one.view one.mark; cost = its })
        = subst (λ r. ComesFirst r (record { plan = Cells one.view one.mark; cost = its })) is before_one in
        subst (λ (r : Priced). IsCheapest query (stored ++ one ∷ []) rows as_of r.plan r.cost) (sym is)
        (keep best.plan best.cost its priced least order)
    | inr is ↦
        let order : ComesFirst (record { plan = Cells one.view one.mark; cost = its }) best
        = subst (λ r. ComesFirst r best) is before_best in
        subst (λ (r : Priced). IsCheapest query (stored ++ one ∷ []) rows as_of r.plan r.cost) (sym is)
        (turn best.plan best.cost its priced able least order)
  ]

-- before any cuboid the scan is taken
pub scan_alone : (query : Query) (rows : List ℕ) (as_of : ℕ)
    → IsCheapest query [] rows as_of Scan (rows_between rows 0 as_of)
scan_alone query rows as_of = record {
  answers = refl;
  none_cheaper = only_scan;
  tie = first;
}
  where
    only_scan : (other : AccessPath) (price : ℕ) → AnswersAt query [] rows as_of other price
        → rows_between rows 0 as_of ≤ price
    only_scan Scan price h = omega (arith, h)
    only_scan (Cells view mark) price h = absurd (omega (arith, h.1.1))

    first : (other : AccessPath) → AnswersAt query [] rows as_of other (rows_between rows 0 as_of)
        → rank Scan ≤ rank other
    first Scan h = omega arith
    first (Cells view mark) h = omega arith

-- the same for a list of cuboids and one of its places
module _ (query : Query) (rows : List ℕ) (as_of : ℕ) (stored : List Stored) (i : ℕ) (d : Stored) where
  pub passed_at : i < length stored → (best : Priced) → IsCheapest query (take i stored) rows as_of best.plan best.cost
      → (ServesAsOf query as_of (get_or stored i d) → ⊥)
      → IsCheapest query (take (i + 1) stored) rows as_of best.plan best.cost
  passed_at below best least unable =
      subst (λ xs. IsCheapest query xs rows as_of best.plan best.cost) (sym (take_more stored i d below))
      (passed query rows as_of (take i stored) (get_or stored i d) best least unable)

  pub taken_at : i < length stored → (best result : Priced) (its : ℕ) → its ≡ cells_cost rows as_of (get_or stored i d)
      → ServesAsOf query as_of (get_or stored i d)
      → IsCheapest query (take i stored) rows as_of best.plan best.cost
      → (result ≡ best)
      ⊎ (result ≡ record { plan = Cells (get_or stored i d).view (get_or stored i d).mark; cost = its })
      → ComesFirst result best
      → ComesFirst result (record { plan = Cells (get_or stored i d).view (get_or stored i d).mark; cost = its })
      → IsCheapest query (take (i + 1) stored) rows as_of result.plan result.cost
  taken_at below best result its priced able least which before_best before_one =
      subst (λ xs. IsCheapest query xs rows as_of result.plan result.cost) (sym (take_more stored i d below))
      (taken query rows as_of (take i stored) (get_or stored i d) best result its priced able least which before_best
      before_one)
