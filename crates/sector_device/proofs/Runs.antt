-- Neighbouring sectors as bytes, end to end.
use Rattle.std.proofs.Common.{◌≡◌, ℕ, ◌+◌, ◌-◌, ◌*◌, ◌/◌, ◌<◌, List, ◌++◌, length, take, drop, sym, ⊎_elim, ◌∙◌, ap}
use Rattle.std.proofs.Common.{arith, length-drop}
use Rattle.std.proofs.lemmas.List.{length-take-le, drop-append-le, take-append-le, take-take, drop-take, take_at}
use Rattle.std.proofs.Math.Seq.{drop-append-add}
use Rattle.std.proofs.lemmas.Bool.{cases_eq}
use Rattle.sector_device.specs.Device.{Image}
use borrow.Rule.Slice.PartMut.{put_mid, post_of}

-- the sector that was put
pub put_here : (k n : ℕ) (bytes sector : List ℕ) → length sector ≡ 512 → k < length bytes / 512
    → take 512 (drop (k * 512) (put_mid (k * 512) n bytes sector)) ≡ sector
put_here k n bytes sector long lt =
    let front : List ℕ = take (k * 512) bytes in
    let many : length front ≡ k * 512 = length-take-le (k * 512) bytes (omega (arith, lt)) in
    let at : k * 512 ≡ length front + 0 = omega (arith, many) in
    let rest : List ℕ = sector ++ post_of (k * 512) n bytes in
    ap (λ (i : ℕ). take 512 (drop i (front ++ rest))) at
    ∙ ap (λ (l : List ℕ). take 512 l) (drop-append-add front rest 0)
    ∙ take_at sector (post_of (k * 512) n bytes) 512 long

-- one before it
pub put_before : (j k n : ℕ) (bytes sector : List ℕ) → j < k → k < length bytes / 512
    → take 512 (drop (j * 512) (put_mid (k * 512) n bytes sector)) ≡ take 512 (drop (j * 512) bytes)
put_before j k n bytes sector before lt =
    let front : List ℕ = take (k * 512) bytes in
    let many : length front ≡ k * 512 = length-take-le (k * 512) bytes (omega (arith, lt)) in
    let rest : List ℕ = sector ++ post_of (k * 512) n bytes in
    let split : k * 512 ≡ j * 512 + (k - j) * 512 = omega (arith, before) in
    ap (λ (l : List ℕ). take 512 l) (drop-append-le (j * 512) front rest (omega (arith, before, many)))
    ∙ take-append-le 512 (drop (j * 512) front) rest (omega (arith, before, many, length-drop (j * 512) front))
    ∙ ap (λ (i : ℕ). take 512 (drop (j * 512) (take i bytes))) split
    ∙ ap (λ (l : List ℕ). take 512 l) (drop-take (j * 512) ((k - j) * 512) bytes)
    ∙ take-take 512 ((k - j) * 512) (drop (j * 512) bytes) (omega (arith, before))

-- one sector more that was read
pub run_grows : (first k : ℕ) (reads mid : Image) (old new sector : List ℕ) → ((i : ℕ) → mid i ≡ reads i)
    → sector ≡ mid (first + k)
    → take 512 (drop (k * 512) new) ≡ sector
    → ((j : ℕ) → j < k → take 512 (drop (j * 512) new) ≡ take 512 (drop (j * 512) old))
    → ((j : ℕ) → j < k → take 512 (drop (j * 512) old) ≡ reads (first + j)) → (j : ℕ) → j < k + 1
    → take 512 (drop (j * 512) new) ≡ reads (first + j)
run_grows first k reads mid old new sector same is here before so_far j lt = ⊎_elim
    (λ at. ap (λ (i : ℕ). take 512 (drop (i * 512) new)) at ∙ here ∙ is ∙ same (first + k)
    ∙ ap (λ (i : ℕ). reads (first + i)) (sym at))
    (λ other. let less : j < k = omega (arith, lt, other) in before j less ∙ so_far j less)
    (cases_eq j k)
