-- What a store holds. Our own.
use Rattle.std.specs.Prelude.{ℕ, ◌==◌, if◌then◌else◌, Option, Some, None, List, [], ◌∷◌}

pub record Content : Type 0 where
  -- how many commits made it
  pub generation : ℕ
  -- the layout of the objects, 1 or 2
  pub layout : ℕ
  -- each with its id and its bytes, by ascending id
  pub objects : List (ℕ × List ℕ)
  pub root : List ℕ

-- the bytes of an object
abbrev pub look_up : ℕ → List (ℕ × List ℕ) → Option (List ℕ)
look_up id [] = None
look_up id (object ∷ rest) = if object.0 == id then Some object.1 else look_up id rest

abbrev pub bytes_of : Content → ℕ → Option (List ℕ)
bytes_of c id = look_up id c.objects
