-- The bits of a word as truth values.
use Rattle.std.proofs.Common.{◌≡◌, ℕ, zero, suc, ◌+◌, ◌*◌, ◌/◌, ◌%◌, ◌^◌, ◌<◌, ◌≤◌, ◌==◌, Bool, true, false, cond, List}
use Rattle.std.proofs.Common.{[], ◌∷◌, ◌++◌, length, get_or, refl, sym, subst, ap, ◌∙◌, arith, add-one}
use Rattle.std.proofs.lemmas.List.{map-id}
use Rattle.std.proofs.lemmas.Nat.Bits.{bit_at-suc, bit_at_lowest}
use Rattle.std.proofs.lemmas.Simd.{ones-mask_l, mask_l-mod}
use Rattle.std.proofs.lemmas.List.Sums.{count_by-le-length}
use Rattle.std.specs.Int.{bit_at}
use Rattle.std.specs.Int.RustNames.{count_ones}
use Rattle.std.specs.List.{count_by}
use Rattle.std.specs.Simd.Lanes.{mask_l}
use Rattle.column_kernels.specs.Masks.{bits_of}

pub length-bits_of : (count word : ℕ) → length (bits_of count word) ≡ count
unfolding bits_of
length-bits_of zero word = refl
length-bits_of (suc count) word = ap (λ (n : ℕ). suc n) (length-bits_of count (word / 2))

lowest : (b : Bool) (rest : ℕ) → ((cond b 1 0 + 2 * rest) % 2 == 1) ≡ b
lowest true rest = grind arith
lowest false rest = grind arith

others : (b : Bool) (rest : ℕ) → (cond b 1 0 + 2 * rest) / 2 ≡ rest
others true rest = omega arith
others false rest = omega arith

-- the bits of a mask are its truth values
pub bits_of-mask_l : (marks : List Bool) → bits_of (length marks) (mask_l marks) ≡ marks
unfolding bits_of
bits_of-mask_l [] = refl
bits_of-mask_l (b ∷ marks) =
    ap (λ (n : ℕ). ((cond b 1 0 + 2 * mask_l marks) % 2 == 1) ∷ bits_of (length marks) n) (others b (mask_l marks))
    ∙ ap (λ (first : Bool). first ∷ bits_of (length marks) (mask_l marks)) (lowest b (mask_l marks))
    ∙ ap (λ (l : List Bool). b ∷ l) (bits_of-mask_l marks)

pub bits_of-mask_l_at : (marks : List Bool) (n : ℕ) → length marks ≡ n → bits_of n (mask_l marks) ≡ marks
bits_of-mask_l_at marks n long = subst (λ (m : ℕ). bits_of m (mask_l marks) ≡ marks) long (bits_of-mask_l marks)

first_bit : (word : ℕ) → cond (word % 2 == 1) 1 0 ≡ word % 2
first_bit word = grind arith

-- a word of few bits is the mask of these
pub mask_l-bits_of : (count word : ℕ) → word < 2 ^ count → mask_l (bits_of count word) ≡ word
unfolding bits_of
mask_l-bits_of zero word lt = omega (arith, lt)
mask_l-bits_of (suc count) word lt =
    let less : word / 2 < 2 ^ count = omega (arith, lt) in
    omega (arith, mask_l-bits_of count (word / 2) less, first_bit word)

-- how many bits are set
pub ones_of : (count word : ℕ) → word < 2 ^ count → count_ones word ≡ count_by (λ (b : Bool). b) (bits_of count word)
ones_of count word lt =
    ap count_ones (sym (mask_l-bits_of count word lt))
    ∙ ap (λ (l : List Bool). count_ones (mask_l l)) (sym (map-id (bits_of count word)))
    ∙ ones-mask_l (λ (b : Bool). b) (bits_of count word)

-- a bit by its place
pub bits_of-at : (count word i : ℕ) (d : Bool) → i < count → get_or (bits_of count word) i d ≡ (bit_at word i == 1)
unfolding bits_of
bits_of-at zero word i d lt = absurd (omega (arith, lt))
bits_of-at (suc count) word zero d lt = ap (λ (n : ℕ). n == 1) (sym (bit_at_lowest word))
bits_of-at (suc count) word (suc i) d lt = bits_of-at count (word / 2) i d (omega (arith, lt))
    ∙ ap (λ (n : ℕ). n == 1) (sym (bit_at-suc word i))

-- one bit more
pub bits_of-suc : (count word : ℕ) → bits_of (suc count) word ≡ bits_of count word ++ (bit_at word count == 1) ∷ []
unfolding bits_of
bits_of-suc zero word = ap (λ (n : ℕ). (n == 1) ∷ []) (sym (bit_at_lowest word))
bits_of-suc (suc count) word =
    ap (λ (l : List Bool). (word % 2 == 1) ∷ l)
    (bits_of-suc count (word / 2)
    ∙ ap (λ (n : ℕ). bits_of count (word / 2) ++ (n == 1) ∷ []) (sym (bit_at-suc word count)))

pub bits_of-next : (count word : ℕ) → bits_of (count + 1) word ≡ bits_of count word ++ (bit_at word count == 1) ∷ []
bits_of-next count word = ap (λ (n : ℕ). bits_of n word) (add-one count) ∙ bits_of-suc count word

-- a truth value more
pub mask_l-next : (marks : List Bool) (b : Bool)
    → mask_l (marks ++ b ∷ []) ≡ mask_l marks + cond b 1 0 * 2 ^ length marks
mask_l-next [] true = refl
mask_l-next [] false = refl
mask_l-next (m ∷ marks) true =
    let double : 2 ^ suc (length marks) ≡ 2 * 2 ^ length marks = omega arith in
    omega (arith, mask_l-next marks true, double)
mask_l-next (m ∷ marks) false = omega (arith, mask_l-next marks false)

-- a mask of few truth values is small
pub mask_l-small : (marks : List Bool) → length marks ≤ 32 → mask_l marks < 2 ^ 32
mask_l-small marks few = omega (arith, mask_l-mod marks 32 few)

pub ones_few : (word : ℕ) → word < 2 ^ 32 → count_ones word ≤ 32
ones_few word lt =
    omega (arith, ones_of 32 word lt, count_by-le-length (λ (b : Bool). b) (bits_of 32 word), length-bits_of 32 word)
