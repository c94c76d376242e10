-- Fields one after the other, over any fields. Our own.
use Rattle.std.proofs.Common.{◌≡◌, ℕ, ◌+◌, ◌^◌, ◌<◌, List, ◌++◌, length, ap, sym, ◌∙◌, append_assoc, length-append}
use Rattle.std.proofs.Common.{arith}
use Rattle.wire.specs.Spelling.{spelling}
use Rattle.wire.proofs.CallerLemmas.{spelling-one}

pub four-append : (a b c d rest : List ℕ) → (a ++ (b ++ (c ++ d))) ++ rest ≡ a ++ (b ++ (c ++ (d ++ rest)))
four-append a b c d rest =
    append_assoc a (b ++ (c ++ d)) rest
    ∙ ap (λ (part : List ℕ). a ++ part)
    (append_assoc b (c ++ d) rest ∙ ap (λ (part : List ℕ). b ++ part) (append_assoc c d rest))

pub six-append : (a b c d e f rest : List ℕ)
    → (a ++ (b ++ (c ++ (d ++ (e ++ f))))) ++ rest ≡ a ++ (b ++ (c ++ (d ++ (e ++ (f ++ rest)))))
six-append a b c d e f rest =
    append_assoc a (b ++ (c ++ (d ++ (e ++ f)))) rest
    ∙ ap (λ (part : List ℕ). a ++ part) (append_assoc b (c ++ (d ++ (e ++ f))) rest
    ∙ ap (λ (part : List ℕ). b ++ part) (four-append c d e f rest))

pub length-four : (a b c d : List ℕ) → length (a ++ (b ++ (c ++ d))) ≡ length a + (length b + (length c + length d))
length-four a b c d = omega (arith, length-append a (b ++ (c ++ d)), length-append b (c ++ d), length-append c d)

-- bytes begin with four numbers at most
pub four-one : (k l m n a b c d a' b' c' d' : ℕ) (xs ys : List ℕ)
    → a < 256 ^ k → b < 256 ^ l → c < 256 ^ m → d < 256 ^ n → a' < 256 ^ k → b' < 256 ^ l → c' < 256 ^ m → d' < 256 ^ n
    → (spelling k a ++ (spelling l b ++ (spelling m c ++ spelling n d)))
    ++ xs ≡ (spelling k a' ++ (spelling l b' ++ (spelling m c' ++ spelling n d'))) ++ ys
    → (a ≡ a') × (b ≡ b') × (c ≡ c') × (d ≡ d') × (xs ≡ ys)
four-one k l m n a b c d a' b' c' d' xs ys fa fb fc fd fa' fb' fc' fd' same =
    let parts = sym (four-append (spelling k a) (spelling l b) (spelling m c) (spelling n d) xs) ∙ same
    ∙ four-append (spelling k a') (spelling l b') (spelling m c') (spelling n d') ys in
    let one = spelling-one k a a' (spelling l b ++ (spelling m c ++ (spelling n d ++ xs)))
    (spelling l b' ++ (spelling m c' ++ (spelling n d' ++ ys))) fa fa' parts in
    let two = spelling-one l b b' (spelling m c ++ (spelling n d ++ xs)) (spelling m c' ++ (spelling n d' ++ ys)) fb fb'
    one.1 in
    let three = spelling-one m c c' (spelling n d ++ xs) (spelling n d' ++ ys) fc fc' two.1 in
    let four = spelling-one n d d' xs ys fd fd' three.1 in
    (one.0, two.0, three.0, four.0, four.1)
