-- What one more chosen view, or more of them, does to the cost of a view.
use Rattle.std.proofs.Common.{◌≡◌, ◌∙◌, refl, ap, ℕ, ◌≤◌, Bool, true, false, List, [], ◌∷◌, ◌++◌, map, arith, subst}
use Rattle.std.proofs.Common.{sym}
use Rattle.std.specs.Prelude.{min, cond}
use Rattle.std.specs.List.{fold, filter}
use Rattle.std.proofs.lemmas.List.{map-append}
use Rattle.std.proofs.lemmas.List.Elements.{filter-append}
use Rattle.std.proofs.lemmas.List.Sums.{fold-append}
use Rattle.view_choice.specs.Choice.{Lattice, cost}

-- the least of a number and a list is at most the number
fold_min-le : (a : ℕ) (xs : List ℕ) → fold min a xs ≤ a
fold_min-le a [] = omega arith
fold_min-le a (x ∷ xs) = omega (arith, fold_min-le (min a x) xs)

-- it is no greater where the number is no greater
fold_min-mono : (a b : ℕ) (xs : List ℕ) → a ≤ b → fold min a xs ≤ fold min b xs
fold_min-mono a b [] le = le
fold_min-mono a b (x ∷ xs) le = fold_min-mono (min a x) (min b x) xs (omega arith)

-- the cost under two choices put end to end goes on from the cost under the first
cost-append : {V : Type 0} (lattice : Lattice V) (chosen more : List V) (view : V)
    → cost lattice (chosen ++ more) view
    ≡ fold min (cost lattice chosen view) (map lattice.size (filter (λ other. lattice.answers other view) more))
cost-append lattice chosen more view =
    ap (λ views. fold min lattice.rows (map lattice.size views))
    (filter-append (λ other. lattice.answers other view) chosen more)
    ∙ ap (fold min lattice.rows)
    (map-append lattice.size (filter (λ other. lattice.answers other view) chosen)
    (filter (λ other. lattice.answers other view) more))
    ∙ fold-append min lattice.rows (map lattice.size (filter (λ other. lattice.answers other view) chosen))
    (map lattice.size (filter (λ other. lattice.answers other view) more))

-- a chosen view that answers lowers the cost to its size
pub cost-push : {V : Type 0} (lattice : Lattice V) (chosen : List V) (view other : V)
    → cost lattice (chosen ++ view ∷ []) other
    ≡ cond (lattice.answers view other) (min (cost lattice chosen other) (lattice.size view))
    (cost lattice chosen other)
cost-push lattice chosen view other = cost-append lattice chosen (view ∷ []) other
    ∙ one (lattice.answers view other) where
      one : (b : Bool) → fold min (cost lattice chosen other) (map lattice.size (cond b (view ∷ []) []))
          ≡ cond b (min (cost lattice chosen other) (lattice.size view)) (cost lattice chosen other)
      one true = refl
      one false = refl

-- no cost is above the fact rows
pub cost-le : {V : Type 0} (lattice : Lattice V) (chosen : List V) (view : V) → cost lattice chosen view ≤ lattice.rows
cost-le lattice chosen view =
    fold_min-le lattice.rows (map lattice.size (filter (λ other. lattice.answers other view) chosen))

-- costs fall as more is chosen, before or after
pub cost-append_le_left : {V : Type 0} (lattice : Lattice V) (chosen more : List V) (view : V)
    → cost lattice (chosen ++ more) view ≤ cost lattice chosen view
cost-append_le_left lattice chosen more view =
    subst (λ (n : ℕ). n ≤ cost lattice chosen view) (sym (cost-append lattice chosen more view))
    (fold_min-le (cost lattice chosen view) (map lattice.size (filter (λ other. lattice.answers other view) more)))

pub cost-append_le_right : {V : Type 0} (lattice : Lattice V) (chosen more : List V) (view : V)
    → cost lattice (chosen ++ more) view ≤ cost lattice more view
cost-append_le_right lattice chosen more view =
    subst (λ (n : ℕ). n ≤ cost lattice more view) (sym (cost-append lattice chosen more view))
    (fold_min-mono (cost lattice chosen view) lattice.rows
    (map lattice.size (filter (λ other. lattice.answers other view) more)) (cost-le lattice chosen view))
