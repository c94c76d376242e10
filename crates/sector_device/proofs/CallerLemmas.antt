-- The sectors that bytes are, end to end.
use Rattle.std.proofs.Common.{◌≡◌, ℕ, zero, suc, ◌+◌, ◌*◌, ◌<◌, List, [], length, take, drop, get_or, refl, ◌∙◌, ap}
use Rattle.std.proofs.Common.{arith}
use Rattle.std.proofs.lemmas.List.{drop-drop}
use Rattle.std.specs.Simd.{first_chunks}

pub length-chunks : (n : ℕ) (bytes : List ℕ) → length (first_chunks 512 n bytes) ≡ n
length-chunks zero bytes = refl
length-chunks (suc n) bytes = ap (λ (k : ℕ). suc k) (length-chunks n (drop 512 bytes))

-- one of the chunks that bytes are cut into
pub chunk_at : (n k : ℕ) (bytes : List ℕ) → k < n
    → get_or (first_chunks 512 n bytes) k [] ≡ take 512 (drop (k * 512) bytes)
chunk_at zero k bytes lt = absurd (omega (arith, lt))
chunk_at (suc n) zero bytes lt = refl
chunk_at (suc n) (suc k) bytes lt =
    let far : 512 + k * 512 ≡ suc k * 512 = omega arith in
    chunk_at n k (drop 512 bytes) (omega (arith, lt))
    ∙ ap (λ (l : List ℕ). take 512 l) (drop-drop (k * 512) 512 bytes ∙ ap (λ (i : ℕ). drop i bytes) far)
