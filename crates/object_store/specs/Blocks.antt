-- The last sector of an object. Our layout.
use Rattle.std.specs.Prelude.{ℕ, ◌-◌, List, ◌++◌, length, replicate}

-- these bytes and then zeros, 512 in all
abbrev pub padded : List ℕ → List ℕ
padded rest = rest ++ replicate (512 - length rest) 0
