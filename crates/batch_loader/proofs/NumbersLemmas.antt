-- Lemmas of `numbers`, by subject.
use Rattle.std.proofs.Common.{◌≡◌, ◌∙◌, sym, ap, refl, ℕ, ◌+◌, ◌-◌, ◌*◌, ◌<◌, ◌≤◌, Bool, true, false, cond, List, []}
use Rattle.std.proofs.Common.{◌∷◌, length, arith, Some, None, get_or, drop, subst, ◌/◌, ◌%◌, ◌^◌, ◌++◌, take}
use Rattle.std.proofs.Common.{slice_range, shr-shr}
use Rattle.std.proofs.Math.ListN.{drop_of_length-le}
use Rattle.std.specs.Prelude.{◌==◌, ◌&&◌, nat_le, nat_lt, suc, zero, Option, fold, min, max, replicate, slice_index}
use Rattle.std.specs.List.{list_all}
use Rattle.std.proofs.lemmas.Bool.Decides.{nat_tests}
use Rattle.batch_loader.specs.Numbers.{number_spelled, is_digit, digits_value}
use Rattle.std.specs.Int.RustNames.{bit_and, bit_or}
use Rattle.std.proofs.lemmas.Nat.Bits.{bit_at_and, bit_at_or, bit_at-lt}
use Rattle.std.specs.Int.{bit_at}
use Rattle.std.specs.Simd.Lanes.{number_l, Each1}
use Rattle.std.proofs.lemmas.Nat.{mod-pow-add, field_of, shl-shr, shr_le}
use Rattle.batch_loader.specs.ShortNumbers.{AreDigits, IsSpread, decimal_of, raised}

-- ==== Numbers by their digits.

-- the number that digits spell after a number so far, digit by digit
abbrev pub number_from : ℕ → ℕ → List ℕ → Option ℕ
number_from limit so_far [] = cond (nat_le so_far limit) (Some so_far) None
number_from limit so_far (byte ∷ bytes) =
    cond (is_digit byte) (number_from limit (so_far * 10 + (byte - 48)) bytes) None

above : (limit n : ℕ) → limit < n → nat_le n limit ≡ false
above limit n large = grind (arith, nat_tests)

within : (limit n : ℕ) → n ≤ limit → nat_le n limit ≡ true
within limit n small = grind (arith, nat_tests)

-- a number past the limit does not come back
pub number_from-large : (limit so_far : ℕ) (bytes : List ℕ) → limit < so_far → number_from limit so_far bytes ≡ None
number_from-large limit so_far [] large = ap (λ b. cond b (Some so_far) None) (above limit so_far large)
number_from-large limit so_far (byte ∷ bytes) large =
    (elim (is_digit byte) as (λ b. cond b (number_from limit (so_far * 10 + (byte - 48)) bytes) None ≡ None) [
      | true ↦ number_from-large limit (so_far * 10 + (byte - 48)) bytes (omega (arith, large))
      | false ↦ refl
    ])

-- what is left begins with its first byte
pub drop_next : (text : List ℕ) (i : ℕ) → i < length text → drop i text ≡ get_or text i 0 ∷ drop (suc i) text
drop_next [] i below = absurd (omega arith)
drop_next (byte ∷ text) zero below = refl
drop_next (byte ∷ text) (suc i) below = drop_next text i (omega arith)

digit : (byte : ℕ) → 48 ≤ byte → byte ≤ 57 → is_digit byte ≡ true
digit byte low high = grind (arith, nat_tests)

-- read digit by digit, digits give their value
number_from-value : (limit so_far : ℕ) (bytes : List ℕ)
    → number_from limit so_far bytes
    ≡ cond (list_all is_digit bytes && nat_le (fold (λ n byte. n * 10 + (byte - 48)) so_far bytes) limit)
    (Some (fold (λ n byte. n * 10 + (byte - 48)) so_far bytes)) None
number_from-value limit so_far [] = refl
number_from-value limit so_far (byte ∷ bytes) =
    elim (is_digit byte) as (λ b. cond b (number_from limit (so_far * 10 + (byte - 48)) bytes) None
    ≡ cond ((b && list_all is_digit bytes) && nat_le (fold (λ n d. n * 10 + (d - 48)) (so_far * 10 + (byte - 48)) bytes)
    limit) (Some (fold (λ n d. n * 10 + (d - 48)) (so_far * 10 + (byte - 48)) bytes)) None) [
      | true ↦ number_from-value limit (so_far * 10 + (byte - 48)) bytes
      | false ↦ refl
    ]

below : (a b : ℕ) → a < b → nat_lt a b ≡ true
below a b less = grind (arith, nat_tests)

not_zero : (n : ℕ) → (n == 0) ≡ false → 0 < n
not_zero n other = grind (arith, nat_tests)

pub number_of-start : (limit : ℕ) (text : List ℕ) (empty : Bool) → empty ≡ (length text == 0) → empty ≡ false
    → number_spelled limit text ≡ number_from limit 0 text
number_of-start limit text empty is some =
    ap (λ b. cond (b && (list_all is_digit text && nat_le (digits_value text) limit)) (Some (digits_value text)) None)
    (below 0 (length text) (not_zero (length text) (sym is ∙ some)))
    ∙ sym (number_from-value limit 0 text)

-- one digit more
pub number_from-digit : (limit so_far i : ℕ) (text : List ℕ) → i < length text → 48 ≤ get_or text i 0
    → get_or text i 0 ≤ 57
    → number_from limit so_far (drop i text) ≡ number_from limit (so_far * 10 + (get_or text i 0 - 48))
    (drop (i + 1) text)
number_from-digit limit so_far i text below low high =
    ap (number_from limit so_far) (drop_next text i below)
    ∙ ap (λ b. cond b (number_from limit (so_far * 10 + (get_or text i 0 - 48)) (drop (suc i) text)) None)
    (digit (get_or text i 0) low high)
    ∙ ap (λ n. number_from limit (so_far * 10 + (get_or text i 0 - 48)) (drop n text)) (next_is i)
  where
    next_is : (i : ℕ) → suc i ≡ i + 1
    next_is i = omega arith

-- all digits are read
pub number_from-stop : (limit so_far i : ℕ) (text : List ℕ) → length text ≤ i → so_far ≤ limit
    → number_from limit so_far (drop i text) ≡ Some so_far
number_from-stop limit so_far i text past small = ap (number_from limit so_far) (drop_of_length-le text past)
    ∙ ap (λ b. cond b (Some so_far) None) (within limit so_far small)

-- the value is past the limit
pub number_from-past : (limit so_far i : ℕ) (text : List ℕ) → length text ≤ i → limit < so_far
    → number_from limit so_far (drop i text) ≡ None
number_from-past limit so_far i text past large = ap (number_from limit so_far) (drop_of_length-le text past)
    ∙ ap (λ b. cond b (Some so_far) None) (above limit so_far large)

-- ==== Numbers of at most eight digits, by the bytes of a number.

-- the value of eight digits

abbrev pub pairs_of : ℕ → ℕ
pairs_of number = (number * 10 % 18446744073709551616 + number / 256) % 18446744073709551616

low_byte : (a q : ℕ) → a < 256 → (a + 256 * q) / 1 % 256 ≡ a
low_byte a q small = omega arith

byte_after : (a b c q : ℕ) → a < 256 → b < 256 → c < 256 → (a + 256 * (b + 256 * (c + 256 * q))) / 65536 % 256 ≡ c
byte_after a b c q one two three = omega arith

skipped : (a b q : ℕ) → a < 256 → b < 256 → (a + 256 * (b + 256 * q)) / 65536 ≡ q
skipped a b q one two = omega arith

further : (n : ℕ) → n / 4294967296 ≡ n / 65536 / 65536
further n = omega arith

furthest : (n : ℕ) → n / 281474976710656 ≡ n / 65536 / 65536 / 65536
furthest n = omega arith

pairs-are : (a b c d e f g h : ℕ) → a ≤ 9 → b ≤ 9 → c ≤ 9 → d ≤ 9 → e ≤ 9 → f ≤ 9 → g ≤ 9 → h ≤ 9
    → pairs_of (a + 256 * (b + 256 * (c + 256 * (d + 256 * (e + 256 * (f + 256 * (g + 256 * (h + 256 * 0))))))))
    ≡ (a * 10 + b)
    + 256 * ((b * 10 + c)
    + 256 * ((c * 10 + d)
    + 256 * ((d * 10 + e) + 256 * ((e * 10 + f) + 256 * ((f * 10 + g) + 256 * ((g * 10 + h) + 256 * (h * 10)))))))
pairs-are a b c d e f g h sa sb sc sd se sf sg sh = omega arith

-- four numbers below 100 in two products, and the sum of these

abbrev pub halved : ℕ → ℕ → ℕ → ℕ → ℕ
halved a b c d =
    ((a + c * 4294967296) * 4294967296000100 % 18446744073709551616 + (b + d * 4294967296) * 42949672960001 %
    18446744073709551616) % 18446744073709551616 / 4294967296

halved-is : (a b c d : ℕ) → a ≤ 99 → b ≤ 99 → c ≤ 99 → d ≤ 99 → halved a b c d ≡ a * 1000000 + b * 10000 + c * 100 + d
halved-is a b c d sa sb sc sd =
    ap (λ n. n / 4294967296)
    (ap (λ n. n % 18446744073709551616)
    (ap (λ n. n + (b + d * 4294967296) * 42949672960001 % 18446744073709551616) (first a c sa sc)
    ∙ ap (λ n. a * 100 + 4294967296 * (a * 1000000 + c * 100) + n) (second b d sb sd)))
    ∙ sum a b c d sa sb sc sd
  where
    first : (a c : ℕ) → a ≤ 99 → c ≤ 99 → (a + c * 4294967296) * 4294967296000100 % 18446744073709551616
        ≡ a * 100 + 4294967296 * (a * 1000000 + c * 100)
    first a c sa sc = omega arith

    second : (b d : ℕ) → b ≤ 99 → d ≤ 99 → (b + d * 4294967296) * 42949672960001 % 18446744073709551616
        ≡ b + 4294967296 * (b * 10000 + d)
    second b d sb sd = omega arith

    sum : (a b c d : ℕ) → a ≤ 99 → b ≤ 99 → c ≤ 99 → d ≤ 99
        → ((a * 100 + 4294967296 * (a * 1000000 + c * 100)) + (b + 4294967296 * (b * 10000 + d))) % 18446744073709551616
        / 4294967296 ≡ a * 1000000 + b * 10000 + c * 100 + d
    sum a b c d sa sb sc sd = omega arith

decimal-pairs : (pairs a b c d e f g h : ℕ) → a ≤ 9 → b ≤ 9 → c ≤ 9 → d ≤ 9 → e ≤ 9 → f ≤ 9 → g ≤ 9 → h ≤ 9
    → pairs ≡ (a * 10 + b)
    + 256 * ((b * 10 + c)
    + 256 * ((c * 10 + d)
    + 256 * ((d * 10 + e) + 256 * ((e * 10 + f) + 256 * ((f * 10 + g) + 256 * ((g * 10 + h) + 256 * (h * 10)))))))
    → halved (pairs / 1 % 256) (pairs / 65536 % 256) (pairs / 4294967296 % 256) (pairs / 281474976710656 % 256)
    ≡ decimal_of (a ∷ b ∷ c ∷ d ∷ e ∷ f ∷ g ∷ h ∷ [])
decimal-pairs pairs a b c d e f g h sa sb sc sd se sf sg sh is =
    let q1 : ℕ =
    (c * 10 + d)
    + 256 * ((d * 10 + e) + 256 * ((e * 10 + f) + 256 * ((f * 10 + g) + 256 * ((g * 10 + h) + 256 * (h * 10))))) in
    let q2 : ℕ = (e * 10 + f) + 256 * ((f * 10 + g) + 256 * ((g * 10 + h) + 256 * (h * 10))) in
    let q3 : ℕ = (g * 10 + h) + 256 * (h * 10) in
    let one : pairs / 65536 ≡ q1 = ap (λ n. n / 65536) is
    ∙ skipped (a * 10 + b) (b * 10 + c) q1 (omega arith) (omega arith) in
    let two : pairs / 4294967296 ≡ q2 = further pairs ∙ ap (λ n. n / 65536) one
    ∙ skipped (c * 10 + d) (d * 10 + e) q2 (omega arith) (omega arith) in
    let three : pairs / 281474976710656 ≡ q3 = furthest pairs ∙ ap (λ n. n / 65536 / 65536) one
    ∙ ap (λ n. n / 65536) (skipped (c * 10 + d) (d * 10 + e) q2 (omega arith) (omega arith))
    ∙ skipped (e * 10 + f) (f * 10 + g) q3 (omega arith) (omega arith) in
    let byte0 : pairs / 1 % 256 ≡ a * 10 + b = ap (λ n. n / 1 % 256) is
    ∙ low_byte (a * 10 + b) ((b * 10 + c) + 256 * q1) (omega arith) in
    let byte1 : pairs / 65536 % 256 ≡ c * 10 + d = ap (λ n. n % 256) one
    ∙ low (c * 10 + d) ((d * 10 + e) + 256 * q2) (omega arith) in
    let byte2 : pairs / 4294967296 % 256 ≡ e * 10 + f = ap (λ n. n % 256) two
    ∙ low (e * 10 + f) ((f * 10 + g) + 256 * q3) (omega arith) in
    let byte3 : pairs / 281474976710656 % 256 ≡ g * 10 + h = ap (λ n. n % 256) three
    ∙ low (g * 10 + h) (h * 10) (omega arith) in
    rw (byte0, byte1, byte2, byte3)
    (halved-is (a * 10 + b) (c * 10 + d) (e * 10 + f) (g * 10 + h) (omega arith) (omega arith) (omega arith)
    (omega arith) ∙ sums a b c d e f g h)
  where
    low : (a q : ℕ) → a < 256 → (a + 256 * q) % 256 ≡ a
    low a q small = omega arith

    sums : (a b c d e f g h : ℕ) → (a * 10 + b) * 1000000 + (c * 10 + d) * 10000 + (e * 10 + f) * 100 + (g * 10 + h)
        ≡ decimal_of (a ∷ b ∷ c ∷ d ∷ e ∷ f ∷ g ∷ h ∷ [])
    sums a b c d e f g h = omega arith

pub decimal-spread : (number : ℕ) (digits : List ℕ) → IsSpread number digits
    → halved (pairs_of number / 1 % 256) (pairs_of number / 65536 % 256) (pairs_of number / 4294967296 % 256)
    (pairs_of number / 281474976710656 % 256) ≡ decimal_of digits
decimal-spread number (a ∷ b ∷ c ∷ d ∷ e ∷ f ∷ g ∷ h ∷ []) spread =
    decimal-pairs (pairs_of number) a b c d e f g h spread.small.0 spread.small.1.0 spread.small.1.1.0
    spread.small.1.1.1.0 spread.small.1.1.1.1.0 spread.small.1.1.1.1.1.0 spread.small.1.1.1.1.1.1.0
    spread.small.1.1.1.1.1.1.1.0
    (ap pairs_of spread.bytes
    ∙ pairs-are a b c d e f g h spread.small.0 spread.small.1.0 spread.small.1.1.0 spread.small.1.1.1.0
    spread.small.1.1.1.1.0 spread.small.1.1.1.1.1.0 spread.small.1.1.1.1.1.1.0 spread.small.1.1.1.1.1.1.1.0)
decimal-spread number ([]) spread = absurd (omega (arith, spread.eight))
decimal-spread number (a ∷ []) spread = absurd (omega (arith, spread.eight))
decimal-spread number (a ∷ b ∷ []) spread = absurd (omega (arith, spread.eight))
decimal-spread number (a ∷ b ∷ c ∷ []) spread = absurd (omega (arith, spread.eight))
decimal-spread number (a ∷ b ∷ c ∷ d ∷ []) spread = absurd (omega (arith, spread.eight))
decimal-spread number (a ∷ b ∷ c ∷ d ∷ e ∷ []) spread = absurd (omega (arith, spread.eight))
decimal-spread number (a ∷ b ∷ c ∷ d ∷ e ∷ f ∷ []) spread = absurd (omega (arith, spread.eight))
decimal-spread number (a ∷ b ∷ c ∷ d ∷ e ∷ f ∷ g ∷ []) spread = absurd (omega (arith, spread.eight))
decimal-spread number (a ∷ b ∷ c ∷ d ∷ e ∷ f ∷ g ∷ h ∷ i ∷ more) spread = absurd (omega (arith, spread.eight))

-- the bytes of a text from a place on

abbrev bytes_from : ℕ → ℕ → (ℕ → ℕ) → List ℕ
bytes_from zero k b = []
bytes_from (suc n) k b = b k ∷ bytes_from n (suc k) b

abbrev digits_from : ℕ → ℕ → (ℕ → ℕ) → List ℕ
digits_from zero k b = []
digits_from (suc n) k b = (b k - 48) ∷ digits_from n (suc k) b

abbrev spread : ℕ → (ℕ → ℕ) → List ℕ
spread n b = replicate (8 - n) 0 ++ digits_from n 0 b

abbrev shifted : ℕ → ℕ → ℕ
shifted word count = (word + (18446744073709551616 - 3472328296227680304)) % 18446744073709551616 * 2 ^ (64 - 8 * count)
    % 18446744073709551616

abbrev word_of : (ℕ → ℕ) → ℕ
word_of b = b 0 + b 1 * 256 + b 2 * 65536 + b 3 * 16777216 + b 4 * 4294967296 + b 5 * 1099511627776
    + b 6 * 281474976710656 + b 7 * 72057594037927936

module _ (b : ℕ → ℕ) (byte : (k : ℕ) → b k < 256) where
  shifted-1 : 48 ≤ b 0 → b 0 ≤ 57 → shifted (word_of b) 1 ≡ number_l 256 (spread 1 b)
  shifted-1 l0 h0 = omega (arith, byte 0, byte 1, byte 2, byte 3, byte 4, byte 5, byte 6, byte 7)

  shifted-2 : 48 ≤ b 0 → b 0 ≤ 57 → 48 ≤ b 1 → b 1 ≤ 57 → shifted (word_of b) 2 ≡ number_l 256 (spread 2 b)
  shifted-2 l0 h0 l1 h1 = omega (arith, byte 0, byte 1, byte 2, byte 3, byte 4, byte 5, byte 6, byte 7)

  shifted-3 : 48 ≤ b 0 → b 0 ≤ 57 → 48 ≤ b 1 → b 1 ≤ 57 → 48 ≤ b 2 → b 2 ≤ 57
      → shifted (word_of b) 3 ≡ number_l 256 (spread 3 b)
  shifted-3 l0 h0 l1 h1 l2 h2 = omega (arith, byte 0, byte 1, byte 2, byte 3, byte 4, byte 5, byte 6, byte 7)

  shifted-4 : 48 ≤ b 0 → b 0 ≤ 57 → 48 ≤ b 1 → b 1 ≤ 57 → 48 ≤ b 2 → b 2 ≤ 57 → 48 ≤ b 3 → b 3 ≤ 57
      → shifted (word_of b) 4 ≡ number_l 256 (spread 4 b)
  shifted-4 l0 h0 l1 h1 l2 h2 l3 h3 = omega (arith, byte 0, byte 1, byte 2, byte 3, byte 4, byte 5, byte 6, byte 7)

  shifted-5 : 48 ≤ b 0 → b 0 ≤ 57 → 48 ≤ b 1 → b 1 ≤ 57 → 48 ≤ b 2 → b 2 ≤ 57 → 48 ≤ b 3 → b 3 ≤ 57 → 48 ≤ b 4
      → b 4 ≤ 57 → shifted (word_of b) 5 ≡ number_l 256 (spread 5 b)
  shifted-5 l0 h0 l1 h1 l2 h2 l3 h3 l4 h4 =
      omega (arith, byte 0, byte 1, byte 2, byte 3, byte 4, byte 5, byte 6, byte 7)

  shifted-6 : 48 ≤ b 0 → b 0 ≤ 57 → 48 ≤ b 1 → b 1 ≤ 57 → 48 ≤ b 2 → b 2 ≤ 57 → 48 ≤ b 3 → b 3 ≤ 57 → 48 ≤ b 4
      → b 4 ≤ 57 → 48 ≤ b 5 → b 5 ≤ 57 → shifted (word_of b) 6 ≡ number_l 256 (spread 6 b)
  shifted-6 l0 h0 l1 h1 l2 h2 l3 h3 l4 h4 l5 h5 =
      omega (arith, byte 0, byte 1, byte 2, byte 3, byte 4, byte 5, byte 6, byte 7)

  shifted-7 : 48 ≤ b 0 → b 0 ≤ 57 → 48 ≤ b 1 → b 1 ≤ 57 → 48 ≤ b 2 → b 2 ≤ 57 → 48 ≤ b 3 → b 3 ≤ 57 → 48 ≤ b 4
      → b 4 ≤ 57 → 48 ≤ b 5 → b 5 ≤ 57 → 48 ≤ b 6 → b 6 ≤ 57 → shifted (word_of b) 7 ≡ number_l 256 (spread 7 b)
  shifted-7 l0 h0 l1 h1 l2 h2 l3 h3 l4 h4 l5 h5 l6 h6 =
      omega (arith, byte 0, byte 1, byte 2, byte 3, byte 4, byte 5, byte 6, byte 7)

  all-up : (d0 d1 d2 d3 d4 d5 d6 d7 : ℕ) → b 0 ≡ 48 + d0 → d0 ≤ 9 → b 1 ≡ 48 + d1 → d1 ≤ 9 → b 2 ≡ 48 + d2 → d2 ≤ 9
      → b 3 ≡ 48 + d3 → d3 ≤ 9 → b 4 ≡ 48 + d4 → d4 ≤ 9 → b 5 ≡ 48 + d5 → d5 ≤ 9 → b 6 ≡ 48 + d6 → d6 ≤ 9
      → b 7 ≡ 48 + d7 → d7 ≤ 9 → shifted (word_of b) 8 ≡ number_l 256 (d0 ∷ d1 ∷ d2 ∷ d3 ∷ d4 ∷ d5 ∷ d6 ∷ d7 ∷ [])
  all-up d0 d1 d2 d3 d4 d5 d6 d7 e0 s0 e1 s1 e2 s2 e3 s3 e4 s4 e5 s5 e6 s6 e7 s7 = omega arith

  shifted-8 : 48 ≤ b 0 → b 0 ≤ 57 → 48 ≤ b 1 → b 1 ≤ 57 → 48 ≤ b 2 → b 2 ≤ 57 → 48 ≤ b 3 → b 3 ≤ 57 → 48 ≤ b 4
      → b 4 ≤ 57 → 48 ≤ b 5 → b 5 ≤ 57 → 48 ≤ b 6 → b 6 ≤ 57 → 48 ≤ b 7 → b 7 ≤ 57
      → shifted (word_of b) 8 ≡ number_l 256 (spread 8 b)
  shifted-8 l0 h0 l1 h1 l2 h2 l3 h3 l4 h4 l5 h5 l6 h6 l7 h7 =
      all-up (b 0 - 48) (b 1 - 48) (b 2 - 48) (b 3 - 48) (b 4 - 48) (b 5 - 48) (b 6 - 48) (b 7 - 48) (omega arith)
      (omega arith) (omega arith) (omega arith) (omega arith) (omega arith) (omega arith) (omega arith) (omega arith)
      (omega arith) (omega arith) (omega arith) (omega arith) (omega arith) (omega arith) (omega arith)

  holds : (n : ℕ) → 0 < n → n ≤ 8 → ((k : ℕ) → k < n → (48 ≤ b k) × (b k ≤ 57))
      → IsSpread (shifted (word_of b) n) (spread n b)
  holds zero some few digits = absurd (omega arith)
  holds (suc zero) some few digits =
      record {
        eight = refl;
        small = (
          omega arith,
          (
            omega arith,
            (
              omega arith,
              (
                omega arith,
                (omega arith, (omega arith, (omega arith, (omega (arith, (digits 0 (omega arith)).1), tt)))),
              ),
            ),
          ),
        );
        bytes = shifted-1 (digits 0 (omega arith)).0 (digits 0 (omega arith)).1;
      }
  holds (suc (suc zero)) some few digits =
      record {
        eight = refl;
        small = (
          omega arith,
          (
            omega arith,
            (
              omega arith,
              (
                omega arith,
                (
                  omega arith,
                  (
                    omega arith,
                    (omega (arith, (digits 0 (omega arith)).1), (omega (arith, (digits 1 (omega arith)).1), tt)),
                  ),
                ),
              ),
            ),
          ),
        );
        bytes = shifted-2 (digits 0 (omega arith)).0 (digits 0 (omega arith)).1 (digits 1 (omega arith)).0
            (digits 1 (omega arith)).1;
      }
  holds (suc (suc (suc zero))) some few digits =
      record {
        eight = refl;
        small = (
          omega arith,
          (
            omega arith,
            (
              omega arith,
              (
                omega arith,
                (
                  omega arith,
                  (
                    omega (arith, (digits 0 (omega arith)).1),
                    (omega (arith, (digits 1 (omega arith)).1), (omega (arith, (digits 2 (omega arith)).1), tt)),
                  ),
                ),
              ),
            ),
          ),
        );
        bytes = shifted-3 (digits 0 (omega arith)).0 (digits 0 (omega arith)).1 (digits 1 (omega arith)).0
            (digits 1 (omega arith)).1 (digits 2 (omega arith)).0 (digits 2 (omega arith)).1;
      }
  holds (suc (suc (suc (suc zero)))) some few digits =
      record {
        eight = refl;
        small = (
          omega arith,
          (
            omega arith,
            (
              omega arith,
              (
                omega arith,
                (
                  omega (arith, (digits 0 (omega arith)).1),
                  (
                    omega (arith, (digits 1 (omega arith)).1),
                    (omega (arith, (digits 2 (omega arith)).1), (omega (arith, (digits 3 (omega arith)).1), tt)),
                  ),
                ),
              ),
            ),
          ),
        );
        bytes = shifted-4 (digits 0 (omega arith)).0 (digits 0 (omega arith)).1 (digits 1 (omega arith)).0
            (digits 1 (omega arith)).1 (digits 2 (omega arith)).0 (digits 2 (omega arith)).1 (digits 3 (omega arith)).0
            (digits 3 (omega arith)).1;
      }
  holds (suc (suc (suc (suc (suc zero))))) some few digits =
      record {
        eight = refl;
        small = (
          omega arith,
          (
            omega arith,
            (
              omega arith,
              (
                omega (arith, (digits 0 (omega arith)).1),
                (
                  omega (arith, (digits 1 (omega arith)).1),
                  (
                    omega (arith, (digits 2 (omega arith)).1),
                    (omega (arith, (digits 3 (omega arith)).1), (omega (arith, (digits 4 (omega arith)).1), tt)),
                  ),
                ),
              ),
            ),
          ),
        );
        bytes = shifted-5 (digits 0 (omega arith)).0 (digits 0 (omega arith)).1 (digits 1 (omega arith)).0
            (digits 1 (omega arith)).1 (digits 2 (omega arith)).0 (digits 2 (omega arith)).1 (digits 3 (omega arith)).0
            (digits 3 (omega arith)).1 (digits 4 (omega arith)).0 (digits 4 (omega arith)).1;
      }
  holds (suc (suc (suc (suc (suc (suc zero)))))) some few digits =
      record {
        eight = refl;
        small = (
          omega arith,
          (
            omega arith,
            (
              omega (arith, (digits 0 (omega arith)).1),
              (
                omega (arith, (digits 1 (omega arith)).1),
                (
                  omega (arith, (digits 2 (omega arith)).1),
                  (
                    omega (arith, (digits 3 (omega arith)).1),
                    (omega (arith, (digits 4 (omega arith)).1), (omega (arith, (digits 5 (omega arith)).1), tt)),
                  ),
                ),
              ),
            ),
          ),
        );
        bytes = shifted-6 (digits 0 (omega arith)).0 (digits 0 (omega arith)).1 (digits 1 (omega arith)).0
            (digits 1 (omega arith)).1 (digits 2 (omega arith)).0 (digits 2 (omega arith)).1 (digits 3 (omega arith)).0
            (digits 3 (omega arith)).1 (digits 4 (omega arith)).0 (digits 4 (omega arith)).1 (digits 5 (omega arith)).0
            (digits 5 (omega arith)).1;
      }
  holds (suc (suc (suc (suc (suc (suc (suc zero))))))) some few digits =
      record {
        eight = refl;
        small = (
          omega arith,
          (
            omega (arith, (digits 0 (omega arith)).1),
            (
              omega (arith, (digits 1 (omega arith)).1),
              (
                omega (arith, (digits 2 (omega arith)).1),
                (
                  omega (arith, (digits 3 (omega arith)).1),
                  (
                    omega (arith, (digits 4 (omega arith)).1),
                    (omega (arith, (digits 5 (omega arith)).1), (omega (arith, (digits 6 (omega arith)).1), tt)),
                  ),
                ),
              ),
            ),
          ),
        );
        bytes = shifted-7 (digits 0 (omega arith)).0 (digits 0 (omega arith)).1 (digits 1 (omega arith)).0
            (digits 1 (omega arith)).1 (digits 2 (omega arith)).0 (digits 2 (omega arith)).1 (digits 3 (omega arith)).0
            (digits 3 (omega arith)).1 (digits 4 (omega arith)).0 (digits 4 (omega arith)).1 (digits 5 (omega arith)).0
            (digits 5 (omega arith)).1 (digits 6 (omega arith)).0 (digits 6 (omega arith)).1;
      }
  holds (suc (suc (suc (suc (suc (suc (suc (suc zero)))))))) some few digits =
      record {
        eight = refl;
        small = (
          omega (arith, (digits 0 (omega arith)).1),
          (
            omega (arith, (digits 1 (omega arith)).1),
            (
              omega (arith, (digits 2 (omega arith)).1),
              (
                omega (arith, (digits 3 (omega arith)).1),
                (
                  omega (arith, (digits 4 (omega arith)).1),
                  (
                    omega (arith, (digits 5 (omega arith)).1),
                    (omega (arith, (digits 6 (omega arith)).1), (omega (arith, (digits 7 (omega arith)).1), tt)),
                  ),
                ),
              ),
            ),
          ),
        );
        bytes = shifted-8 (digits 0 (omega arith)).0 (digits 0 (omega arith)).1 (digits 1 (omega arith)).0
            (digits 1 (omega arith)).1 (digits 2 (omega arith)).0 (digits 2 (omega arith)).1 (digits 3 (omega arith)).0
            (digits 3 (omega arith)).1 (digits 4 (omega arith)).0 (digits 4 (omega arith)).1 (digits 5 (omega arith)).0
            (digits 5 (omega arith)).1 (digits 6 (omega arith)).0 (digits 6 (omega arith)).1 (digits 7 (omega arith)).0
            (digits 7 (omega arith)).1;
      }
  holds (suc (suc (suc (suc (suc (suc (suc (suc (suc more))))))))) some few digits = absurd (omega arith)

  same_value : (n : ℕ) → n ≤ 8 → decimal_of (spread n b) ≡ digits_value (bytes_from n 0 b)
  same_value zero few = refl
  same_value (suc zero) few = refl
  same_value (suc (suc zero)) few = refl
  same_value (suc (suc (suc zero))) few = refl
  same_value (suc (suc (suc (suc zero)))) few = refl
  same_value (suc (suc (suc (suc (suc zero))))) few = refl
  same_value (suc (suc (suc (suc (suc (suc zero)))))) few = refl
  same_value (suc (suc (suc (suc (suc (suc (suc zero))))))) few = refl
  same_value (suc (suc (suc (suc (suc (suc (suc (suc zero)))))))) few = refl
  same_value (suc (suc (suc (suc (suc (suc (suc (suc (suc more))))))))) few = absurd (omega arith)

firsts : (n k start : ℕ) (text : List ℕ) → start + k + n ≤ length text
    → take n (drop (start + k) text) ≡ bytes_from n k (λ j. slice_index text (start + j))
firsts zero k start text room = refl
firsts (suc n) k start text room =
    ap (take (suc n)) (drop_next text (start + k) (omega arith))
    ∙ ap (λ m. slice_index text (start + k) ∷ take n (drop m text)) (moved start k)
    ∙ ap (λ rest. slice_index text (start + k) ∷ rest) (firsts n (suc k) start text (omega arith))
  where
    moved : (start k : ℕ) → suc (start + k) ≡ start + suc k
    moved start k = omega arith

-- a part of a text by its bytes
part-is : (text : List ℕ) (start end : ℕ) → start ≤ end → end ≤ length text
    → slice_range text start end ≡ bytes_from (end - start) 0 (λ j. slice_index text (start + j))
part-is text start end order within = ap (λ n. take (end - start) (drop n text)) (nothing start)
    ∙ firsts (end - start) 0 start text (omega arith)
  where
    nothing : (start : ℕ) → start ≡ start + 0
    nothing start = omega arith

abbrev pub little_word : List ℕ → ℕ → ℕ
little_word text start = slice_index text start + slice_index text (start + 1) * 256 + slice_index text (start + 2) *
    65536 + slice_index text (start + 3) * 16777216 + slice_index text (start + 4) * 4294967296
    + slice_index text (start + 5) * 1099511627776 + slice_index text (start + 6) * 281474976710656
    + slice_index text (start + 7) * 72057594037927936

-- the marks of a number's bytes are the highest bits of these bytes and of what they are raised to
pub marks_at : (number k : ℕ) → k < 8 → bit_at (bit_and (bit_or (raised number) number) 9259542123273814144) (8 * k + 7)
    ≡ max (bit_at number (8 * k + 7)) (bit_at (raised number) (8 * k + 7))
marks_at number k below =
    bit_at_and (bit_or (raised number) number) 9259542123273814144 (8 * k + 7)
    ∙ joined (bit_at (bit_or (raised number) number) (8 * k + 7)) (bit_at (raised number) (8 * k + 7))
    (bit_at number (8 * k + 7)) (bit_at 9259542123273814144 (8 * k + 7))
    (bit_at_or (raised number) number (8 * k + 7)) (bit_at-lt (raised number) (8 * k + 7))
    (bit_at-lt number (8 * k + 7)) (highest k below)
  where
    joined : (both a b mask : ℕ) → both ≡ max a b → a < 2 → b < 2 → mask ≡ 1 → min both mask ≡ max b a
    joined both a b mask is one two set = omega arith

    highest : (k : ℕ) → k < 8 → bit_at 9259542123273814144 (8 * k + 7) ≡ 1
    highest zero below = refl
    highest (suc zero) below = refl
    highest (suc (suc zero)) below = refl
    highest (suc (suc (suc zero))) below = refl
    highest (suc (suc (suc (suc zero)))) below = refl
    highest (suc (suc (suc (suc (suc zero))))) below = refl
    highest (suc (suc (suc (suc (suc (suc zero)))))) below = refl
    highest (suc (suc (suc (suc (suc (suc (suc zero))))))) below = refl
    highest (suc (suc (suc (suc (suc (suc (suc (suc more)))))))) below = absurd (omega arith)

-- digits by the marks of bytes that are none

-- a byte so many times over, as a number
abbrev repeated : ℕ → ℕ → ℕ
repeated byte zero = 0
repeated byte (suc n) = byte + 256 * repeated byte n

-- a number with so many bytes below it
abbrev up : ℕ → ℕ → ℕ
up zero number = number
up (suc n) number = 256 * up n number

-- what holds of the other bytes once the first one is taken off
record IsFirst (byte number sum others over lower round more : ℕ) : Type 0 where
  pub low : 48 ≤ byte
  pub high : byte ≤ 57
  pub others_are : number / 256 + lower ≡ others + over
  pub sum_is : sum / 256 + round ≡ number / 256 + more

first_digit : (byte number sum others over lower round more : ℕ) → byte < 256
    → number + (48 + 256 * lower) ≡ byte + 256 * others + 256 * over → sum + 256 * round ≡ number + (118 + 256 * more)
    → number / 128 % 2 ≡ 0 → sum / 128 % 2 ≡ 0 → IsFirst byte number sum others over lower round more
first_digit byte number sum others over lower round more small is total one two = record {
  low = omega arith;
  high = omega arith;
  others_are = omega arith;
  sum_is = omega arith;
}

next_mark : (number k : ℕ) → bit_at number (8 * suc k + 7) ≡ 0 → bit_at (number / 256) (8 * k + 7) ≡ 0
next_mark number k none =
    ap (λ n. n % 2) (shr-shr number 8 (8 * k + 7) ∙ ap (λ place. number / 2 ^ place) (eight_more k)) ∙ none
  where
    eight_more : (k : ℕ) → 8 + (8 * k + 7) ≡ 8 * suc k + 7
    eight_more k = omega arith

-- the lowest bytes are digits, as far as none has a mark
unmarked : (bytes : List ℕ) (number sum p q count : ℕ) → Each1 (λ byte. byte < 256) bytes
    → number + repeated 48 (length bytes) ≡ number_l 256 bytes + up (length bytes) p
    → sum + up (length bytes) q ≡ number + repeated 118 (length bytes)
    → ((k : ℕ) → k < count → (bit_at number (8 * k + 7) ≡ 0) × (bit_at sum (8 * k + 7) ≡ 0))
    → (k : ℕ) → k < count → k < length bytes → (48 ≤ get_or bytes k 0) × (get_or bytes k 0 ≤ 57)
unmarked [] number sum p q count small is total marks k below inside = absurd (omega arith)
unmarked (byte ∷ bytes) number sum p q count small is total marks zero below inside =
    let first = first_digit byte number sum (number_l 256 bytes) (up (length bytes) p) (repeated 48 (length bytes))
    (up (length bytes) q) (repeated 118 (length bytes))
    small.0 is total (marks 0 below).0 (marks 0 below).1 in
    (first.low, first.high)
unmarked (byte ∷ bytes) number sum p q count small is total marks (suc k) below inside =
    let first = first_digit byte number sum (number_l 256 bytes) (up (length bytes) p) (repeated 48 (length bytes))
    (up (length bytes) q) (repeated 118 (length bytes))
    small.0 is total (marks 0 (omega arith)).0 (marks 0 (omega arith)).1 in
    unmarked bytes (number / 256) (sum / 256) p q (count - 1) small.1 first.others_are first.sum_is
    (λ k less. (next_mark number k (marks (suc k) (omega arith)).0, next_mark sum k (marks (suc k) (omega arith)).1)) k
    (omega arith) (omega arith)

-- a number whose lowest bits are shifted out of 64 had none of them
low_bits : (number count k : ℕ) → 0 < count → count ≤ 8 → number * 2 ^ (64 - 8 * count) % 18446744073709551616 ≡ 0
    → k < count → bit_at number (8 * k + 7) ≡ 0
low_bits number count k some few none below =
    let whole : number % 2 ^ (8 * count) ≡ 0 =
    sym (field_of (number * 2 ^ (64 - 8 * count)) (8 * count) (64 - 8 * count)
    ∙ ap (λ n. n % 2 ^ (8 * count)) (shl-shr number (64 - 8 * count)))
    ∙ ap (λ place. number * 2 ^ (64 - 8 * count) % 2 ^ place / 2 ^ (64 - 8 * count)) (all count few)
    ∙ ap (λ n. n / 2 ^ (64 - 8 * count)) none ∙ nothing (64 - 8 * count) in
    let part : number / 2 ^ (8 * k + 7) % 2 ^ (8 * count - (8 * k + 7)) ≡ 0 =
    sym (field_of number (8 * count - (8 * k + 7)) (8 * k + 7))
    ∙ ap (λ place. number % 2 ^ place / 2 ^ (8 * k + 7)) (parts count k below) ∙ ap (λ n. n / 2 ^ (8 * k + 7)) whole
    ∙ nothing (8 * k + 7) in
    lowest (number / 2 ^ (8 * k + 7)) (8 * count - (8 * k + 7)) (omega arith) part
  where
    all : (count : ℕ) → count ≤ 8 → 8 * count + (64 - 8 * count) ≡ 64
    all count few = omega arith

    parts : (count k : ℕ) → k < count → 8 * count - (8 * k + 7) + (8 * k + 7) ≡ 8 * count
    parts count k below = omega arith

    nothing : (place : ℕ) → 0 / 2 ^ place ≡ 0
    nothing place = omega (arith, shr_le 0 place)

    one_more : (width : ℕ) → width + 1 ≡ suc width
    one_more width = omega arith

    lowest : (n width : ℕ) → 0 < width → n % 2 ^ width ≡ 0 → n % 2 ≡ 0
    lowest n zero some is = absurd (omega arith)
    lowest n (suc width) some is =
        omega (arith, sym (mod-pow-add n width 1) ∙ ap (λ place. n % 2 ^ place) (one_more width) ∙ is)

wrapped : (n : ℕ) → n % 18446744073709551616 + up 8 (n / 18446744073709551616) ≡ n
wrapped n = omega arith

module _ (b : ℕ → ℕ) (byte : (k : ℕ) → b k < 256) where
  bytes_are-small : (n k : ℕ) → Each1 (λ byte. byte < 256) (bytes_from n k b)
  bytes_are-small zero k = tt
  bytes_are-small (suc n) k = (byte k, bytes_are-small n (suc k))

  byte-at : (n k j : ℕ) → j < n → get_or (bytes_from n k b) j 0 ≡ b (k + j)
  byte-at zero k j below = absurd (omega arith)
  byte-at (suc n) k zero below = ap b (same k)
    where
      same : (k : ℕ) → k ≡ k + 0
      same k = omega arith
  byte-at (suc n) k (suc j) below = byte-at n (suc k) j (omega arith) ∙ ap b (next k j)
    where
      next : (k j : ℕ) → suc k + j ≡ k + suc j
      next k j = omega arith

  word-is : word_of b ≡ number_l 256 (bytes_from 8 0 b)
  word-is = omega arith

abbrev pub less_zeros : ℕ → ℕ
less_zeros word = (word + (18446744073709551616 - 3472328296227680304)) % 18446744073709551616

-- so many bytes of a text are digits where none of them has a mark
pub AreDigits-unmarked : (text : List ℕ) (start count word others : ℕ) → 0 < count → count ≤ 8 → start + 8 ≤ length text
    → ((i : ℕ) → get_or text i 0 < 256)
    → word ≡ little_word text start
    → ((k : ℕ) → k < 8
    → bit_at others (8 * k + 7) ≡ max (bit_at (less_zeros word) (8 * k + 7))
    (bit_at (raised (less_zeros word)) (8 * k + 7)))
    → others * 2 ^ (64 - 8 * count) % 18446744073709551616 ≡ 0 → AreDigits text start count
AreDigits-unmarked text start count word others some few room bytes word_is marks out = λ k below.
    subst (λ byte. (48 ≤ byte) × (byte ≤ 57)) (at k (omega arith))
    (unmarked (bytes_from 8 0 (λ j. slice_index text (start + j))) (less_zeros word) (raised (less_zeros word))
    (1 - (word + (18446744073709551616 - 3472328296227680304)) / 18446744073709551616)
    ((less_zeros word + 8536140394893047414) / 18446744073709551616) count
    (bytes_are-small (λ j. slice_index text (start + j)) (λ j. bytes (start + j)) 8 0)
    (number_is word (λ j. slice_index text (start + j)) (λ j. bytes (start + j)) same)
    (wrapped (less_zeros word + 8536140394893047414))
    (λ k less. both_zero _ _ (sym (marks k (omega arith)) ∙ low_bits others count k some few out less)) k below
    (omega arith))
  where
    nothing_more : (start : ℕ) → start ≡ start + 0
    nothing_more start = omega arith

    same : word ≡ word_of (λ j. slice_index text (start + j))
    same = word_is
        ∙ ap (λ n. slice_index text n + slice_index text (start + 1) * 256 + slice_index text (start + 2) * 65536
        + slice_index text (start + 3) * 16777216 + slice_index text (start + 4) * 4294967296
        + slice_index text (start + 5) * 1099511627776 + slice_index text (start + 6) * 281474976710656
        + slice_index text (start + 7) * 72057594037927936) (nothing_more start)

    from_nothing : (k : ℕ) → 0 + k ≡ k
    from_nothing k = omega arith

    at : (k : ℕ) → k < 8 → get_or (bytes_from 8 0 (λ j. slice_index text (start + j))) k 0
        ≡ slice_index text (start + k)
    at k below = byte-at (λ j. slice_index text (start + j)) (λ j. bytes (start + j)) 8 0 k below
        ∙ ap (λ j. slice_index text (start + j)) (from_nothing k)

    both_zero : (a b : ℕ) → max a b ≡ 0 → (a ≡ 0) × (b ≡ 0)
    both_zero a b none = (omega (arith, none), omega (arith, none))

    number_is : (word : ℕ) (b : ℕ → ℕ) → ((k : ℕ) → b k < 256) → word ≡ word_of b
        → less_zeros word + repeated 48 8 ≡ number_l 256 (bytes_from 8 0 b)
        + up 8 (1 - (word + (18446744073709551616 - 3472328296227680304)) / 18446744073709551616)
    number_is word b byte is = less word small
        ∙ ap (λ n. n + up 8 (1 - (word + (18446744073709551616 - 3472328296227680304)) / 18446744073709551616))
        (is ∙ word-is b byte)
      where
        small : word < 18446744073709551616
        small = omega (arith, is, byte 0, byte 1, byte 2, byte 3, byte 4, byte 5, byte 6, byte 7)

        less : (word : ℕ) → word < 18446744073709551616
            → less_zeros word + repeated 48 8
            ≡ word + up 8 (1 - (word + (18446744073709551616 - 3472328296227680304)) / 18446744073709551616)
        less word small = omega arith

-- the value of some digits of a text
pub short-value : (text : List ℕ) (start count word value : ℕ) → 0 < count → count ≤ 8 → start + 8 ≤ length text
    → ((i : ℕ) → get_or text i 0 < 256) → AreDigits text start count
    → word ≡ little_word text start
    → ((digits : List ℕ) → IsSpread (shifted word count) digits → value ≡ decimal_of digits)
    → value ≡ digits_value (slice_range text start (start + count))
short-value text start count word value some few room bytes digits word_is by_digits =
    let same : word ≡ word_of (λ j. slice_index text (start + j)) = word_is
    ∙ ap (λ n. slice_index text n + slice_index text (start + 1) * 256 + slice_index text (start + 2) * 65536
    + slice_index text (start + 3) * 16777216 + slice_index text (start + 4) * 4294967296
    + slice_index text (start + 5) * 1099511627776 + slice_index text (start + 6) * 281474976710656
    + slice_index text (start + 7) * 72057594037927936) (nothing start) in
    by_digits (spread count (λ j. slice_index text (start + j)))
    (rw same (holds (λ j. slice_index text (start + j)) (λ k. bytes (start + k)) count some few digits))
    ∙ same_value (λ j. slice_index text (start + j)) (λ k. bytes (start + k)) count few
    ∙ sym (ap digits_value (part-is text start (start + count) (omega arith) (omega arith)
    ∙ ap (λ n. bytes_from n 0 (λ j. slice_index text (start + j))) (counted start count)))
  where
    nothing : (start : ℕ) → start ≡ start + 0
    nothing start = omega arith

    counted : (start count : ℕ) → start + count - start ≡ count
    counted start count = omega arith

all_digits : (n k : ℕ) (b : ℕ → ℕ) → ((j : ℕ) → k ≤ j → j < k + n → (48 ≤ b j) × (b j ≤ 57))
    → list_all is_digit (bytes_from n k b) ≡ true
all_digits zero k b digits = refl
all_digits (suc n) k b digits =
    both (is_digit (b k)) (list_all is_digit (bytes_from n (suc k) b))
    (digit (b k) (digits k (omega arith) (omega arith)).0 (digits k (omega arith) (omega arith)).1)
    (all_digits n (suc k) b (λ j after below. digits j (omega arith) (omega arith)))
  where
    both : (a b : Bool) → a ≡ true → b ≡ true → (a && b) ≡ true
    both a b first second = rw (first, second) refl

    digit : (byte : ℕ) → 48 ≤ byte → byte ≤ 57 → is_digit byte ≡ true
    digit byte low high = grind (arith, nat_tests)

length-bytes : (n k : ℕ) (b : ℕ → ℕ) → length (bytes_from n k b) ≡ n
length-bytes zero k b = refl
length-bytes (suc n) k b = ap suc (length-bytes n (suc k) b)

-- a part of a text that is digits spells their value, where it is within the limit
pub number_of-digits : (limit : ℕ) (text : List ℕ) (start end : ℕ) → start < end → end ≤ length text
    → AreDigits text start (end - start)
    → number_spelled limit (slice_range text start end)
    ≡ cond (nat_le (digits_value (slice_range text start end)) limit)
    (Some (digits_value (slice_range text start end))) None
number_of-digits limit text start end some within digits =
    let part = part-is text start end (omega arith) within in
    let long : length (slice_range text start end) ≡ end - start = ap length part
    ∙ length-bytes (end - start) 0 (λ j. slice_index text (start + j)) in
    let all : list_all is_digit (slice_range text start end) ≡ true = ap (list_all is_digit) part
    ∙ all_digits (end - start) 0 (λ j. slice_index text (start + j)) (λ j after below. digits j (omega arith)) in
    rw (all, positive (length (slice_range text start end)) (omega arith)) refl
  where
    positive : (n : ℕ) → 0 < n → nat_lt 0 n ≡ true
    positive n some = grind (arith, nat_tests)

pub number_of-within : (limit : ℕ) (text : List ℕ) (start end value : ℕ) → start < end → end ≤ length text
    → AreDigits text start (end - start)
    → value ≡ digits_value (slice_range text start end) → value ≤ limit
    → Some value ≡ number_spelled limit (slice_range text start end)
number_of-within limit text start end value some within digits is small =
    ap Some is ∙ sym (number_of-digits limit text start end some within digits
    ∙ ap (λ b. cond b (Some (digits_value (slice_range text start end))) None)
    (fits (digits_value (slice_range text start end)) (omega arith)))
  where
    fits : (n : ℕ) → n ≤ limit → nat_le n limit ≡ true
    fits n below = grind (arith, nat_tests)

pub number_of-above : (limit : ℕ) (text : List ℕ) (start end value : ℕ) → start < end → end ≤ length text
    → AreDigits text start (end - start)
    → value ≡ digits_value (slice_range text start end) → limit < value
    → None ≡ number_spelled limit (slice_range text start end)
number_of-above limit text start end value some within digits is large =
    sym (number_of-digits limit text start end some within digits
    ∙ ap (λ b. cond b (Some (digits_value (slice_range text start end))) None)
    (misses (digits_value (slice_range text start end)) (omega arith)))
  where
    misses : (n : ℕ) → limit < n → nat_le n limit ≡ false
    misses n above = grind (arith, nat_tests)
