-- A read of a field, from the bytes that were taken for it.
use Rattle.std.proofs.Common.{◌≡◌, ℕ, ◌^◌, ◌<◌, ℤ, List, ◌++◌, length, slice_index, FitsSigned, sym, ap, ◌∙◌, arith}
use Rattle.std.proofs.Common.{w64, to_z, of_z}
use Rattle.std.proofs.lemmas.Int.{of_z-to_z, to_z-of_z, ints}
use Rattle.byteorder.specs.Endian.{little_number}
use Rattle.byteorder.specs.Numbers.{little_from-lt}
use Rattle.wire.specs.Spelling.{spelling, signed_spelling}
use Rattle.wire.specs.Reading.{ReadsNumber, ReadsSigned, TakesBytes}
use Rattle.wire.proofs.CallerLemmas.{spelling-number, spelling-one}

-- the number in one byte is that byte
pub number-byte : (field : List ℕ) → slice_index field 0 ≡ little_number 1 field
number-byte field = omega arith

-- the signed number in eight bytes, as a program passes it on, has these bytes as its spelling
pub signed_number : (field : List ℕ) (z : ℤ) → length field ≡ 8 → ((k : ℕ) → slice_index field k < 256)
    → z ≡ to_z w64 (little_number 8 field) → signed_spelling (to_z w64 (of_z w64 z)) ≡ field
signed_number field z many are_bytes is =
    let fits : little_number 8 field < 2 ^ 64 = little_from-lt 0 8 field are_bytes in
    let bits_of : of_z w64 (to_z w64 (little_number 8 field)) ≡ little_number 8 field =
    of_z-to_z w64 (little_number 8 field) fits in
    rw (is, bits_of, bits_of) (spelling-number 8 field many are_bytes)

-- the bytes that a read took are the spelling of the number
pub reads_number : (n x : ℕ) (old new field : List ℕ) → TakesBytes n old new field
    → x < 256 ^ n → spelling n x ≡ field → ReadsNumber n old new x
reads_number n x old new field taken fits spells =
    let spelled : old ≡ spelling n x ++ new = taken.spelled ∙ ap (λ (part : List ℕ). part ++ new) (sym spells) in
    record {
      fits = fits;
      spelled = spelled;
      left = taken.left;
      reads_back = λ y rest y_fits is_y. spelling-one n x y new rest fits y_fits (sym spelled ∙ is_y);
    }

-- a signed number is one of its bits
bits-one : (y z : ℤ) → FitsSigned w64 y → FitsSigned w64 z → of_z w64 z ≡ of_z w64 y → z ≡ y
bits-one y z y_fits z_fits same = sym (to_z-of_z w64 z z_fits) ∙ ap (to_z w64) same ∙ to_z-of_z w64 y y_fits

bits-fit : (z : ℤ) → FitsSigned w64 z → of_z w64 z < 2 ^ 64
bits-fit z fits = omega (arith, ints)

signed_of : (z : ℤ) (old new field : List ℕ) → TakesBytes 8 old new field
    → FitsSigned w64 z → signed_spelling z ≡ field → ReadsSigned old new z
signed_of z old new field taken fits spells =
    let number = reads_number 8 (of_z w64 z) old new field taken (bits-fit z fits) spells in
    record {
      fits = fits;
      spelled = number.spelled;
      left = taken.left;
      reads_back = λ y rest y_fits is_y.
          let back = number.reads_back (of_z w64 y) rest (bits-fit y y_fits) is_y in
          (bits-one y z y_fits fits back.0, back.1);
    }

-- the bytes that a read took are the spelling of the signed number, as a program passes it on
pub reads_signed : (z : ℤ) (old new field : List ℕ) → TakesBytes 8 old new field
    → FitsSigned w64 z → signed_spelling z ≡ field → ReadsSigned old new (to_z w64 (of_z w64 z))
reads_signed z old new field taken fits spells = rw (to_z-of_z w64 z fits) (signed_of z old new field taken fits spells)
