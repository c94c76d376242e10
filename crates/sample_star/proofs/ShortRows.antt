-- Rows that are put one after the other.
use Rattle.std.proofs.Common.{List, [], ◌∷◌, ◌++◌}
use Rattle.std.specs.List.{AllByRecursion}

pub all_with_one_more : {X : Type 0} (P : X → Type 0) (xs : List X) (x : X) → AllByRecursion P xs → P x
    → AllByRecursion P (xs ++ x ∷ [])
all_with_one_more P [] x all last = (last, tt)
all_with_one_more P (y ∷ ys) x all last = (all.0, all_with_one_more P ys x all.1 last)
