-- The view that a query needs.
use Rattle.std.proofs.Common.{◌≡◌, ◌↔◌, ◌<◌, false, List, ◌∷◌, Option, None, Some, IfSome, IfNone, subst, sym, arith}
use Rattle.std.specs.List.{AllByRecursion}
use Rattle.cube_model.specs.declared.attr.Attr.{Attr}
use Rattle.cube_model.specs.declared.query.Cond.{Cond}
use Rattle.cube_model.specs.declared.query.Query.{Query}
use Rattle.lattice.specs.declared.level.Level.TheVariants.{All}
use Rattle.lattice.specs.declared.view.View.{View}
use Rattle.lattice.specs.Determined.{Determines, Decides, Serves}
use Rattle.lattice.specs.Levels.{height}
use Rattle.lattice.specs.Needed.{HasNoView, IsNeededBy}
use Rattle.lattice.specs.Views.{Answers}
use Rattle.lattice.proofs.Places.{height_below}

-- the view that groups by nothing, which each view answers
abbrev pub coarsest : View
coarsest = record { customer = All; supplier = All; part = All; date = All; ship_mode = false }

pub answers_coarsest : (other : View) → Answers other coarsest
answers_coarsest other =
    let c : height other.customer < 4 = height_below other.customer in
    let s : height other.supplier < 4 = height_below other.supplier in
    let p : height other.part < 4 = height_below other.part in
    let d : height other.date < 4 = height_below other.date in record {
      customer = omega (arith, c);
      supplier = omega (arith, s);
      part = omega (arith, p);
      date = omega (arith, d);
      ship_mode = λ e. absurd (grind (arith, e));
    }

-- where a view cannot say where the first condition holds, or the others, it cannot for all
pub none_first : (first : Cond) (others conditions : List Cond) → conditions ≡ first ∷ others
    → ((other : View) → Decides other first → ⊥)
    → (other : View) → AllByRecursion (Decides other) conditions → ⊥
none_first first others conditions whole none other all =
    none other (subst (AllByRecursion (Decides other)) whole all).0

pub none_others : (first : Cond) (others conditions : List Cond) (found : Option View) → conditions ≡ first ∷ others
    → IfNone found ((other : View) → AllByRecursion (Decides other) others → ⊥)
    → IfNone found ((other : View) → AllByRecursion (Decides other) conditions → ⊥)
none_others first others conditions (Some view) whole none = none
none_others first others conditions None whole none =
    λ other all. none other (subst (AllByRecursion (Decides other)) whole all).1

module _ (query : Query) (view : View) (by_columns : (other : View) → Answers other view
    ↔ (Answers other coarsest × AllByRecursion (Determines other) query.columns)) where
  pub needed_some : (found : Option View)
      → IfSome found (λ one. (other : View) → Answers other one
      ↔ (Answers other view × AllByRecursion (Decides other) query.conditions))
      → IfSome found (IsNeededBy query)
  needed_some None some = some
  needed_some (Some one) some = λ other. (
    λ (serves : Serves other query). (some other).1
        ((by_columns other).1 (answers_coarsest other, serves.columns), serves.conditions),
    λ (answers : Answers other one). record {
      columns = ((by_columns other).0 ((some other).0 answers).0).1;
      conditions = ((some other).0 answers).1;
    },
  )

  pub needed_none : (found : Option View)
      → IfNone found ((other : View) → AllByRecursion (Decides other) query.conditions → ⊥)
      → IfNone found (HasNoView query)
  needed_none (Some one) none = none
  needed_none None none = λ other serves. none other serves.conditions
