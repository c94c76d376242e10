-- The sectors that an image is cut into.
use Rattle.std.proofs.Common.{◌≡◌, ⊎_elim, ℕ, ◌*◌, ◌/◌, ◌<◌, ◌≤◌, List, [], ◌∷◌, length, take, drop, Contains, sym, ap}
use Rattle.std.proofs.Common.{◌∙◌, arith}
use Rattle.std.proofs.lemmas.List.{length-take-le, length-drop}
use Rattle.std.proofs.lemmas.List.Elements.{Contains-push_cases}
use Rattle.std.specs.Simd.{first_chunks}
use Rattle.sector_device.specs.Memory.{content, AreWhole}
use Rattle.sector_device.proofs.CallerLemmas.{chunk_at}

pub only : (x b : List ℕ) → Contains (x ∷ []) b → b ≡ x
only x b has = ⊎_elim (λ none. absurd (omega (arith, none.1))) (λ is. sym is) (Contains-push_cases [] x b has)

module _ (image : List ℕ) (sectors : List (List ℕ)) (cut : sectors ≡ first_chunks 512 (length image / 512) image)
    (count : length sectors ≡ length image / 512) where
  pub reads : (i : ℕ) → i < length sectors → content sectors i ≡ take 512 (drop (i * 512) image)
  reads i below = ap (λ (l : List (List ℕ)). content l i) cut
      ∙ chunk_at (length image / 512) i image (omega (arith, below, count))

  pub whole : AreWhole sectors []
  whole i b below may =
      let room : 512 ≤ length (drop (i * 512) image) = omega (arith, below, count, length-drop (i * 512) image) in
      ap length (only (content sectors i) b may ∙ reads i below) ∙ length-take-le 512 (drop (i * 512) image) room
