-- Fact rows by their ship modes. Our own.
use Rattle.std.specs.Prelude.{◌≡◌, ℕ, true, List, ◌++◌, map}
use Rattle.std.specs.declared.alloc.Global.{Global}
use Rattle.std.specs.declared.vec.Vec.{Vec}
use Rattle.cube_model.specs.declared.rows.LineOrder.{LineOrder}
use Rattle.dictionary.specs.Dictionary.{EachOnce}
use Rattle.mode_queries.specs.Joining.{have_modes, of_mode}

-- ship modes that were known with those of further rows after them, each once
pub record AreWithMore (old new : List (List ℕ)) (rows : List LineOrder) : Type 0 where
  pub more : List (List ℕ)
  pub after : new ≡ old ++ more
  pub once : EachOnce new
  pub known : have_modes new rows ≡ true

-- these, and the rows of each
pub record AreDivided (old new : List (List ℕ)) (rows : List LineOrder) (parts : List (Vec LineOrder Global)) : Type 0
  where
    pub modes : AreWithMore old new rows
    pub parts_are : map (λ part. part.items) parts ≡ map (λ mode. of_mode mode rows) new
