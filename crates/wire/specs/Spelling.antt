-- How a number is stored on disk. It is the only definition, for reads and for writes. Our layout.
use Rattle.std.specs.Prelude.{ℕ, ℤ, List}
use Rattle.std.specs.Int.{w64, cast_unsigned}
use Rattle.byteorder.specs.Endian.{little_bytes}

-- the n bytes of a number, the lowest first
unfoldable pub spelling : ℕ → ℕ → List ℕ
spelling n x = little_bytes n x

-- the eight bytes of a signed number, in two's complement
abbrev pub signed_spelling : ℤ → List ℕ
signed_spelling z = spelling 8 (cast_unsigned w64 z)
