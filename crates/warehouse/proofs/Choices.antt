-- What a choice of cuboids looks at.
use Rattle.std.proofs.Common.{◌≡◌, ◌⊎◌, ◌<◌, ◌≤◌, ◌+◌, ◌*◌, ℕ, suc, List, [], ◌∷◌, ◌++◌, length, All, Some, refl, ap}
use Rattle.std.proofs.Common.{subst, inl, inr, ⊎_elim, arith}
use Rattle.std.specs.List.{sum_by}
use Rattle.std.proofs.lemmas.Bool.{cases_lt}
use Rattle.std.proofs.lemmas.List.Elements.{All-head, All-tail}
use Rattle.std.proofs.lemmas.List.Sums.{sum_by-cons}
use Rattle.lattice.specs.declared.view.View.{View}
use Rattle.view_choice.specs.Choice.{Lattice, benefits_after}
use Rattle.view_choice.specs.Cuboids.{most_demanded}
use Rattle.object_store.specs.Content.{Content}
use Rattle.object_store.specs.Disk.{Disk, Leaves}
use Rattle.object_store.proofs.Moments.{leaves_weaker}
use Rattle.warehouse_objects.specs.Warehouse.{Warehouse, with_views}
use Rattle.warehouse_objects.specs.Represents.{Represents}
use Rattle.warehouse.specs.declared.chosen.Chosen.{Chosen}
use Rattle.warehouse.specs.Choosing.{AreTooMany, views_of}

-- batches of at most 65,536 rows
pub rows_at_most : (batches : List ℕ) → All (λ rows. rows ≤ 65536) batches
    → sum_by (λ rows. rows) batches ≤ length batches * 65536
rows_at_most [] all = omega arith
rows_at_most (rows ∷ batches) all =
    let first : rows ≤ 65536 = All-head (λ (n : ℕ). n ≤ 65536) rows batches all in
    let others : sum_by (λ rows. rows) batches ≤ length batches * 65536 =
    rows_at_most batches (All-tail (λ (n : ℕ). n ≤ 65536) rows batches all) in
    let sum : sum_by (λ rows. rows) (rows ∷ batches) ≡ rows + sum_by (λ rows. rows) batches =
    sum_by-cons (λ rows. rows) rows batches in
    omega (arith, first, others, sum)

-- there is a benefit for each view
pub many_benefits : {V : Type 0} (lattice : Lattice V) (before views : List V)
    → length (benefits_after lattice before views) ≡ length views
many_benefits lattice before [] = refl
many_benefits lattice before (view ∷ views) = ap suc (many_benefits lattice (before ++ view ∷ []) views)

-- where a choice of views is stored, a stop leaves the warehouse as it was, or with the views of the choice
pub leaves_chosen : (w : Warehouse) (old new : Disk) (Is : List Chosen → Type 0) (chosen : List Chosen)
    (views : List View) → (old.keeps_word → Is chosen) → views ≡ views_of chosen
    → Leaves old new (λ x. Represents x w ⊎ Represents x (with_views w views))
    → Leaves old new
    (λ x. Represents x w ⊎ ((some : List Chosen) × Is some × Represents x (with_views w (views_of some))))
leaves_chosen w old new Is chosen views is are =
    leaves_weaker (λ (x : Content). Represents x w ⊎ Represents x (with_views w views))
    (λ (x : Content). Represents x w ⊎ ((some : List Chosen) × Is some × Represents x (with_views w (views_of some))))
    old new
    (λ k x. ⊎_elim (λ before. inl before)
    (λ after. inr (chosen, is k, subst (λ (vs : List View). Represents x (with_views w vs)) are after)))

-- where neither too many are chosen nor asked for, few enough are asked for
pub few_asked : (k : ℕ) (demanded : List View) → (AreTooMany k (Some demanded) → ⊥) → length demanded ≤ most_demanded
few_asked k demanded not_many = ⊎_elim (λ (more : most_demanded < length demanded). absurd (not_many (inr more)))
    (λ le. le) (cases_lt most_demanded (length demanded))
