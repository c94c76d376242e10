-- Which batch has a number. Our own.
use Rattle.std.specs.Prelude.{ℕ, zero, suc, Option, None, List, slice_get}

-- the element of a number, of some that are numbered from 1
abbrev pub numbered : {A : Type 0} → List A → ℕ → Option A
numbered items zero = None
numbered items (suc before) = slice_get items before
