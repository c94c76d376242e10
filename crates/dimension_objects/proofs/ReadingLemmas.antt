-- Lemmas of `reading`, by subject.
use Rattle.std.proofs.Common.{◌≡◌, ℕ, Bool, true, false, not, ◌<◌, ◌^◌, List, ◌++◌, length, take, codes, refl, sym, ap}
use Rattle.std.proofs.Common.{◌∙◌, arith, length-append, zero, suc, ◌+◌, ◌*◌, subst, [], ◌∷◌, drop, slice_index}
use Rattle.std.proofs.Common.{append-nil}
use Rattle.std.proofs.Math.Seq.{take-append_seam}
use Rattle.std.proofs.lemmas.List.{append_cancel_left, drop-drop, get_or-drop, length-drop, length-take-le}
use Rattle.std.proofs.lemmas.List.{take-append-drop}
use Rattle.std.proofs.lemmas.Slice.Eq.{bytes_eq-Decides}
use Rattle.std.specs.Str.{bytes_eq}
use Rattle.cube_model.specs.declared.attr.Axis.{Axis}
use Rattle.cube_model.specs.declared.attr.Axis.TheVariants.{Customer, Supplier, Part, Date}
use Rattle.wire.specs.Spelling.{spelling}
use Rattle.wire.specs.Reading.{ReadsNumber, TakesBytes}
use Rattle.wire.proofs.CallerLemmas.{length-spelling, spelling-number}
use Rattle.dimension_objects.specs.Spelled.{axis_number, dimension_header, keys_spelling}
use Rattle.dimension_objects.specs.Columns.{BeginsWithNoHeader, ReadsDimensionHeader, ReadsCodes, ReadsKeys}
use Rattle.dimension_objects.proofs.Front.{header_parts, header_whole}
use Rattle.std.specs.List.{AllByRecursion, flat_map}
use Rattle.byteorder.specs.Endian.{IsRead, little_number}
use Rattle.byteorder.specs.Numbers.{little_from-lt, little_from-take}
use Rattle.dictionary.specs.Columns.{codes_spelling}

-- ==== What the parts of a header that were read say of the bytes.

-- bytes that a comparison fact apart, or found to be the same
pub name_differs : (a b : List ℕ) (r : Bool) → r ≡ not (bytes_eq a b) → r ≡ true → a ≡ b → ⊥
name_differs a b r is differs same = let found : bytes_eq a b ≡ true = (bytes_eq-Decides a b).1 same in
    let no : r ≡ false = is ∙ ap not found in cc

pub name_is_same : (a b : List ℕ) (r : Bool) → r ≡ not (bytes_eq a b) → r ≡ false → a ≡ b
name_is_same a b r is alike =
    (bytes_eq-Decides a b).0
    ((elim (bytes_eq a b) as (λ (t : Bool). false ≡ not t → t ≡ true) [ true ↦ λ e. refl | false ↦ λ e. e ])
    (sym alike ∙ is))

axis_fits : (axis : Axis) → axis_number axis < 256 ^ 4
axis_fits Customer = omega arith
axis_fits Supplier = omega arith
axis_fits Part = omega arith
axis_fits Date = omega arith

module _ (axis : Axis) (old r0 part : List ℕ) (taken : TakesBytes 4 old r0 part) where
  -- the first four bytes of a header, and those after them
  name_is : (rows : ℕ) (rest : List ℕ) → old ≡ dimension_header axis rows ++ rest → part ≡ codes "DIM1"
  name_is rows rest is =
      sym (take-append_seam part r0) ∙ ap (λ (n : ℕ). take n (part ++ r0)) taken.many
      ∙ ap (take 4) (sym taken.spelled ∙ header_parts axis rows old rest is)

  after_name : (rows : ℕ) (rest : List ℕ) → old ≡ dimension_header axis rows ++ rest
      → r0 ≡ spelling 4 (axis_number axis) ++ (spelling 4 rows ++ rest)
  after_name rows rest is =
      append_cancel_left (codes "DIM1") r0 (spelling 4 (axis_number axis) ++ (spelling 4 rows ++ rest))
      (ap (λ (front : List ℕ). front ++ r0) (sym (name_is rows rest is)) ∙ sym taken.spelled
      ∙ header_parts axis rows old rest is)

  pub none_name : (part ≡ codes "DIM1" → ⊥) → BeginsWithNoHeader axis old
  none_name differs = λ rows rest is. differs (name_is rows rest is)

  pub none_number : length r0 < 4 → BeginsWithNoHeader axis old
  none_number short = λ rows rest is.
      let long = ap length (after_name rows rest is)
      ∙ length-append (spelling 4 (axis_number axis)) (spelling 4 rows ++ rest) in
      absurd (omega (arith, long, length-spelling 4 (axis_number axis), short))

  module _ (r1 : List ℕ) (n : ℕ) (number : ReadsNumber 4 r0 r1 n) where
    back : (rows : ℕ) (rest : List ℕ) → old ≡ dimension_header axis rows ++ rest → (n ≡ axis_number axis)
        × (r1 ≡ spelling 4 rows ++ rest)
    back rows rest is =
        number.reads_back (axis_number axis) (spelling 4 rows ++ rest) (axis_fits axis) (after_name rows rest is)

    pub none_axis : (n ≡ axis_number axis → ⊥) → BeginsWithNoHeader axis old
    none_axis differs = λ rows rest is. differs (back rows rest is).0

    pub none_rows_left : length r1 < 4 → BeginsWithNoHeader axis old
    none_rows_left short = λ rows rest is.
        let long = ap length (back rows rest is).1 ∙ length-append (spelling 4 rows) rest in
        absurd (omega (arith, long, length-spelling 4 rows, short))

    pub header_is : (new : List ℕ) (rows : ℕ) → part ≡ codes "DIM1" → n ≡ axis_number axis → ReadsNumber 4 r1 new rows
        → ReadsDimensionHeader axis old new rows
    header_is new rows name own read = record {
      fits = read.fits;
      spelled = header_whole axis rows old new (
          taken.spelled ∙ ap (λ (front : List ℕ). front ++ r0) name
          ∙ ap (λ (rest : List ℕ). codes "DIM1" ++ rest) (
          number.spelled ∙ ap (λ (k : ℕ). spelling 4 k ++ r1) own
          ∙ ap (λ (rest : List ℕ). spelling 4 (axis_number axis) ++ rest) read.spelled
          )
          );
    }

-- ==== Numbers of the same width that were read one after the other.

abbrev AreBytes : List ℕ → Type 0
AreBytes bytes = (k : ℕ) → slice_index bytes k < 256

front_bytes : (n : ℕ) (bytes : List ℕ) → AreBytes bytes → AreBytes (take n bytes)
front_bytes zero bytes small k = omega arith
front_bytes (suc n) [] small k = omega arith
front_bytes (suc n) (byte ∷ bytes) small zero = small 0
front_bytes (suc n) (byte ∷ bytes) small (suc k) = front_bytes n bytes (λ j. small (suc j)) k

bytes_after : (n : ℕ) (bytes : List ℕ) → AreBytes bytes → AreBytes (drop n bytes)
bytes_after n bytes small k = subst (λ (byte : ℕ). byte < 256) (sym (get_or-drop n bytes k 0)) (small (n + k))

none : (bytes : List ℕ) → length bytes ≡ 0 → [] ≡ bytes
none [] e = λ i. []
none (byte ∷ bytes) e = absurd (omega (arith, e))

-- numbers spell the bytes that they were read from
pub read_spelled : (width : ℕ) (numbers bytes : List ℕ) → length bytes ≡ width * length numbers → AreBytes bytes
    → IsRead little_number width bytes numbers → flat_map (spelling width) numbers ≡ bytes
read_spelled width [] bytes many small read = let no : width * 0 ≡ 0 = omega arith in none bytes (many ∙ no)
read_spelled width (number ∷ numbers) bytes many small read =
    let more : width * suc (length numbers) ≡ width + width * length numbers = omega arith in
    let start : width * 0 ≡ 0 = omega arith in
    let front : number ≡ little_number width (take width bytes) =
    read 0 (omega arith) ∙ ap (λ n. little_number width (drop n bytes)) start
    ∙ sym (little_from-take 0 width width bytes (omega arith)) in
    let here : spelling width number ≡ take width bytes =
    ap (spelling width) front
    ∙ spelling-number width (take width bytes) (length-take-le width bytes (omega (arith, many, more)))
    (front_bytes width bytes small) in
    let rest : flat_map (spelling width) numbers ≡ drop width bytes =
    read_spelled width numbers (drop width bytes) (omega (arith, length-drop width bytes, many, more))
    (bytes_after width bytes small)
    (λ k lt.
    let next : width * suc k ≡ width + width * k = omega arith in
    read (suc k) (omega (arith, lt)) ∙ ap (λ n. little_number width (drop n bytes)) next
    ∙ ap (little_number width) (sym (drop-drop (width * k) width bytes))) in
    (λ i. here i ++ rest i) ∙ take-append-drop width bytes

all_below : (bound : ℕ) (numbers : List ℕ) → ((k : ℕ) → k < length numbers → slice_index numbers k < bound)
    → AllByRecursion (λ number. number < bound) numbers
all_below bound [] below = tt
all_below bound (number ∷ numbers) below =
    (below 0 (omega arith), all_below bound numbers (λ k lt. below (suc k) (omega (arith, lt))))

-- and each fits its width
pub read_fit : (width : ℕ) (numbers bytes : List ℕ) → AreBytes bytes → IsRead little_number width bytes numbers
    → AllByRecursion (λ number. number < 256 ^ width) numbers
read_fit width numbers bytes small read =
    all_below (256 ^ width) numbers
    (λ k lt. subst (λ (n : ℕ). n < 256 ^ width) (sym (read k lt))
    (little_from-lt 0 width (drop (width * k) bytes) (bytes_after (width * k) bytes small)))

-- what was written over all of a list
pub written : (n : ℕ) (new rest : List ℕ) → length new ≡ n → take n (new ++ rest) ≡ new
written n new rest many = ap (λ k. take k (new ++ rest)) (sym many) ∙ take-append_seam new rest

-- ---- what is read of the bytes in front is read of the whole

pub codes_in_front : (count n : ℕ) (old new part codes : List ℕ) → TakesBytes n old new part
    → ReadsCodes count part [] codes → ReadsCodes count old new codes
codes_in_front count n old new part codes taken read = record {
  many = read.many;
  fit = read.fit;
  spelled = taken.spelled ∙ ap (λ (front : List ℕ). front ++ new) (read.spelled ∙ append-nil (codes_spelling codes));
}

pub keys_in_front : (count n : ℕ) (old new part keys : List ℕ) → TakesBytes n old new part
    → ReadsKeys count part [] keys → ReadsKeys count old new keys
keys_in_front count n old new part keys taken read = record {
  many = read.many;
  fit = read.fit;
  spelled = taken.spelled ∙ ap (λ (front : List ℕ). front ++ new) (read.spelled ∙ append-nil (keys_spelling keys));
}
