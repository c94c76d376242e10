-- What the sectors of an object hold once they are written.
use Rattle.std.proofs.Common.{◌≡◌, ◌≢◌, ℕ, ◌+◌, ◌-◌, ◌*◌, ◌/◌, ◌%◌, ◌<◌, List, ◌++◌, length, take, drop, replicate}
use Rattle.std.proofs.Common.{refl, sym, ◌∙◌, ap, arith, length-drop}
use Rattle.std.proofs.lemmas.List.{length-take-le, take_all, take_at, take-append-drop, append-nil}
use Rattle.std.proofs.Math.Seq.{take-append-add}
use Rattle.sector_device.specs.Device.{Image, HasRun}
use Rattle.superblock.specs.Superblock.{sectors_of}
use Rattle.object_store.specs.Blocks.{padded}
use Rattle.object_store.specs.Places.{sectors_bytes, bytes_at}
use Rattle.object_store.proofs.Pieces.{run-append, run_is}

module _ (bytes : List ℕ) (first : ℕ) where
  -- how many whole sectors it has, and their bytes
  abbrev n : ℕ
  n = length bytes / 512

  abbrev front : List ℕ
  front = take (n * 512) bytes

  front_long : length front ≡ n * 512
  front_long = length-take-le (n * 512) bytes (omega arith)

  front_is : (image : Image) → HasRun image first front → front ≡ sectors_bytes image first n
  front_is image run = run_is n front image first front_long (λ k lt. run k (omega (arith, lt, front_long)))

  -- an object of whole sectors
  pub written_whole : (image : Image) → length bytes % 512 ≡ 0 → HasRun image first front
      → bytes_at image first (length bytes) ≡ bytes
  written_whole image whole run =
      let many : sectors_of (length bytes) ≡ n = omega (arith, whole) in
      ap (λ (s : ℕ). take (length bytes) (sectors_bytes image first s)) many
      ∙ ap (λ (l : List ℕ). take (length bytes) l)
      (sym (front_is image run) ∙ take_all (n * 512) bytes (omega (arith, whole)))
      ∙ take_all (length bytes) bytes (omega arith)

  -- and one with a part of a sector
  pub written_rest : (mid image : Image) (at : ℕ) → 0 < length bytes % 512 → at ≡ first + n → HasRun mid first front
      → ((i : ℕ) → i ≢ at → image i ≡ mid i) → image at ≡ padded (drop (n * 512) bytes)
      → bytes_at image first (length bytes) ≡ bytes
  written_rest mid image at some place run others last =
      let rest : List ℕ = drop (n * 512) bytes in
      let zeros : List ℕ = replicate (512 - length rest) 0 in
      let many : sectors_of (length bytes) ≡ n + 1 = omega (arith, some) in
      let same : HasRun image first front = λ k lt. run k lt
      ∙ sym (others (first + k) (λ is. omega (arith, lt, front_long, is, place))) in
      let one : sectors_bytes image (first + n) 1 ≡ rest ++ zeros = append-nil (image (first + n))
      ∙ ap image (sym place)
      ∙ last in
      let all : length bytes ≡ length front + length rest = omega (arith, front_long, length-drop (n * 512) bytes) in
      ap (λ (s : ℕ). take (length bytes) (sectors_bytes image first s)) many
      ∙ ap (λ (l : List ℕ). take (length bytes) l)
      (run-append image first n 1
      ∙ ap (λ (l : List ℕ). l ++ sectors_bytes image (first + n) 1) (sym (front_is image same))
      ∙ ap (λ (l : List ℕ). front ++ l) one)
      ∙ ap (λ (i : ℕ). take i (front ++ (rest ++ zeros))) all
      ∙ take-append-add front (rest ++ zeros) (length rest)
      ∙ ap (λ (l : List ℕ). front ++ l) (take_at rest zeros (length rest) refl)
      ∙ take-append-drop (n * 512) bytes
