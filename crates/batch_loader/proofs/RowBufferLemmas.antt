-- Rows that are put over others and after them.
use Rattle.std.proofs.Common.{◌≡◌, ◌∙◌, sym, ap, ℕ, ◌+◌, ◌<◌, ◌≤◌, List, [], ◌∷◌, ◌++◌, length, take, set, arith}
use Rattle.std.proofs.lemmas.List.{length_push, take_all, take_more_set}

pub put_over : {X : Type 0} (rows : List X) (place : ℕ) (row : X) → place < length rows
    → take (place + 1) (set rows place row) ≡ take place rows ++ row ∷ []
put_over rows place row within = take_more_set rows place row within

pub put_after : {X : Type 0} (rows : List X) (place : ℕ) (row : X) → length rows ≤ place
    → take (place + 1) (rows ++ row ∷ []) ≡ take place rows ++ row ∷ []
put_after rows place row after =
    take_all (place + 1) (rows ++ row ∷ []) (omega (arith, length_push rows row))
    ∙ ap (λ front. front ++ row ∷ []) (sym (take_all place rows after))
