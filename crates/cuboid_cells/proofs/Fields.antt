-- Fields one after the other. Our own.
use Rattle.std.proofs.Common.{◌≡◌, ℕ, ℤ, ◌+◌, ◌^◌, ◌<◌, FitsSigned, List, ◌++◌, length, take, ap, sym, ◌∙◌}
use Rattle.std.proofs.Common.{append_assoc, length-append, arith, w64, to_z, of_z}
use Rattle.std.proofs.Math.Seq.{take-append_seam}
use Rattle.std.proofs.lemmas.Int.{to_z-of_z, ints}
use Rattle.std.proofs.lemmas.List.{append_cancel_left}
use Rattle.wire.specs.Spelling.{signed_spelling}
use Rattle.wire.proofs.CallerLemmas.{spelling-one}

pub three-append : (a b c rest : List ℕ) → (a ++ (b ++ c)) ++ rest ≡ a ++ (b ++ (c ++ rest))
three-append a b c rest = append_assoc a (b ++ c) rest ∙ ap (λ (part : List ℕ). a ++ part) (append_assoc b c rest)

pub five-append : (a b c d e rest : List ℕ) → (a ++ (b ++ (c ++ (d ++ e)))) ++ rest ≡ a
    ++ (b ++ (c ++ (d ++ (e ++ rest))))
five-append a b c d e rest =
    append_assoc a (b ++ (c ++ (d ++ e))) rest
    ∙ ap (λ (part : List ℕ). a ++ part)
    (append_assoc b (c ++ (d ++ e)) rest ∙ ap (λ (part : List ℕ). b ++ part) (three-append c d e rest))

pub six-append : (a b c d e f rest : List ℕ)
    → (a ++ (b ++ (c ++ (d ++ (e ++ f))))) ++ rest ≡ a ++ (b ++ (c ++ (d ++ (e ++ (f ++ rest)))))
six-append a b c d e f rest =
    append_assoc a (b ++ (c ++ (d ++ (e ++ f)))) rest ∙ ap (λ (part : List ℕ). a ++ part) (five-append b c d e f rest)

-- bytes begin with one part of a length
pub part-one : (a b xs ys : List ℕ) → length a ≡ length b → a ++ xs ≡ b ++ ys → (a ≡ b) × (xs ≡ ys)
part-one a b xs ys long same =
    let parts : a ≡ b =
    sym (take-append_seam a xs) ∙ ap (take (length a)) same ∙ ap (λ (n : ℕ). take n (b ++ ys)) long
    ∙ take-append_seam b ys in
    (parts, append_cancel_left a xs ys (same ∙ ap (λ (front : List ℕ). front ++ ys) (sym parts)))

-- bytes begin with one signed number
pub signed-one : (y z : ℤ) (xs ys : List ℕ) → FitsSigned w64 y → FitsSigned w64 z
    → signed_spelling y ++ xs ≡ signed_spelling z ++ ys → (y ≡ z) × (xs ≡ ys)
signed-one y z xs ys y_fits z_fits same =
    let y_bits : of_z w64 y < 256 ^ 8 = omega (arith, ints) in
    let z_bits : of_z w64 z < 256 ^ 8 = omega (arith, ints) in
    let one = spelling-one 8 (of_z w64 y) (of_z w64 z) xs ys y_bits z_bits same in
    (sym (to_z-of_z w64 y y_fits) ∙ ap (to_z w64) one.0 ∙ to_z-of_z w64 z z_fits, one.1)

-- the lengths of parts
pub length-three : (a b c : List ℕ) → length (a ++ (b ++ c)) ≡ length a + (length b + length c)
length-three a b c = omega (arith, length-append a (b ++ c), length-append b c)

pub length-five : (a b c d e : List ℕ)
    → length (a ++ (b ++ (c ++ (d ++ e)))) ≡ length a + (length b + (length c + (length d + length e)))
length-five a b c d e =
    omega (arith, length-append a (b ++ (c ++ (d ++ e))), length-append b (c ++ (d ++ e)), length-three c d e)

pub length-six : (a b c d e f : List ℕ)
    → length (a ++ (b ++ (c ++ (d ++ (e ++ f))))) ≡ length a
    + (length b + (length c + (length d + (length e + length f))))
length-six a b c d e f = omega (arith, length-append a (b ++ (c ++ (d ++ (e ++ f)))), length-five b c d e f)
