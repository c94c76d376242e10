-- What a write does to the bytes that are there. Our own.
use Rattle.std.specs.Prelude.{ℕ, ◌+◌, List, ◌++◌, length, take, drop}

-- the bytes with a field from a place on, in place of what was there
abbrev pub with_field : ℕ → List ℕ → List ℕ → List ℕ
with_field at field bytes = take at bytes ++ (field ++ drop (at + length field) bytes)
