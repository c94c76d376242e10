-- Bytes in memory as a source. Our own.
use Rattle.std.specs.Prelude.{ℕ, List}
use Rattle.wire.specs.declared.source.SliceSource.{SliceSource}

-- the bytes that are at every id
abbrev pub slice_bytes : SliceSource → List ℕ
slice_bytes source = source.bytes.now
