-- Bytes that are added part by part.
use Rattle.std.proofs.Common.{◌≡◌, ℕ, List, [], ◌++◌, ap, ◌∙◌, append_assoc}

-- five parts added to no byte
pub five_parts : (o p q r s t a b c d e : List ℕ) → o ≡ [] → p ≡ o ++ a → q ≡ p ++ b → r ≡ q ++ c → s ≡ r ++ d
    → t ≡ s ++ e → t ≡ a ++ (b ++ (c ++ (d ++ e)))
five_parts o p q r s t a b c d e none first second third fourth fifth =
    fifth ∙ ap (λ l. l ++ e)
    (fourth ∙ ap (λ l. l ++ d)
    (third ∙ ap (λ l. l ++ c) (second ∙ ap (λ l. l ++ b) (first ∙ ap (λ l. l ++ a) none))))
    ∙ append_assoc ((a ++ b) ++ c) d e ∙ append_assoc (a ++ b) c (d ++ e) ∙ append_assoc a b (c ++ (d ++ e))
