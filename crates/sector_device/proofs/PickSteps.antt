-- What undoing writes leaves.
use Rattle.std.proofs.Common.{◌≡◌, ◌⊎◌, ⊎_elim, inl, inr, ℕ, zero, suc, ◌+◌, ◌-◌, ◌%◌, ◌<◌, ◌≤◌, List, [], ◌∷◌, length}
use Rattle.std.proofs.Common.{reverse, get_or, slice_index, nat_lt, if◌then◌else◌, refl, sym, ◌∙◌, ap, subst, arith}
use Rattle.std.proofs.Math.Nat.{mod-lt}
use Rattle.std.proofs.lemmas.List.{length-reverse, get_or-reverse, get_or_past}
use Rattle.std.proofs.lemmas.List.Elements.{Contains-get_or}
use Rattle.std.proofs.lemmas.Bool.{cases_eq, cases_lt}
use Rattle.sector_device.specs.Memory.{content, replaced, candidates, MayHold, AreWhole}
use Rattle.sector_device.specs.Picks.{several_below, named}
use Rattle.sector_device.specs.declared.change.Change.{Change}
use Rattle.sector_device.specs.declared.change.Change.TheVariants.{Replaced, Synced}
use Rattle.sector_device.proofs.Lists.{only, first}
use Rattle.sector_device.proofs.MemorySteps.{replaced-here, replaced-there}

pub length-replaced : (log : List Change) (i : ℕ) → length (replaced log i) ≤ length log
length-replaced [] i = omega arith
length-replaced (Synced ∷ earlier) i = omega arith
length-replaced (Replaced at old ∷ earlier) i =
    let so_far = length-replaced earlier i in
    ⊎_elim
    (λ is. omega (arith, ap length (replaced-here earlier at i old is), so_far))
    (λ ne. omega (arith, ap length (replaced-there earlier at i old ne), so_far))
    (cases_eq i at)

-- a sector with one write more to look at has been counted at most so often before it
pub room_for_one : (log rest earlier : List Change) (at count : ℕ) (old : List ℕ)
    → reverse rest ≡ Replaced at old ∷ reverse earlier
    → count + length (replaced (reverse rest) at) ≡ length (replaced (reverse log) at) → count + 1 ≤ length log
room_for_one log rest earlier at count old is sum =
    let one : length (replaced (reverse rest) at) ≡ suc (length (replaced (reverse earlier) at)) =
    ap (λ (l : List Change). length (replaced l at)) is
    ∙ ap length (replaced-here (reverse earlier) at at old refl) in
    omega (arith, one, sum, length-replaced (reverse log) at, length-reverse log)

same_several : (f g : ℕ → ℕ) (i : ℕ) → ((k : ℕ) → k < i → f k ≡ g k) → several_below f i ≡ several_below g i
same_several f g zero same = refl
same_several f g (suc i) same =
    ap (λ (n : ℕ). n + (if nat_lt 1 (f i) then 1 else 0)) (same_several f g i (λ k lt. same k (omega (arith, lt))))
    ∙ ap (λ (n : ℕ). several_below g i + (if nat_lt 1 n then 1 else 0)) (same i (omega arith))

module _ (sectors : List (List ℕ)) (log : List Change) (counts : List ℕ) (bound : ℕ)
    (are : (k : ℕ) → k < bound → slice_index counts k ≡ length (replaced log k)) where
  -- undoing as many writes as the picks leave gives the candidate that they name
  pub names : (picks : List ℕ) (i : ℕ) → i < bound
      → get_or (candidates sectors log i)
      (slice_index counts i - slice_index picks (several_below (λ k. slice_index counts k + 1) i) %
      (slice_index counts i + 1)) [] ≡ named (λ k. reverse (candidates sectors log k)) picks i
  names picks i lt =
      let xs = candidates sectors log i in
      let number : ℕ → ℕ = λ k. length (reverse (candidates sectors log k)) in
      let each : (k : ℕ) → k < i → slice_index counts k + 1 ≡ number k =
      λ k below. omega (arith, are k (omega (arith, below, lt)), length-reverse (candidates sectors log k)) in
      let here : slice_index counts i + 1 ≡ length (reverse xs) = omega (arith, are i lt, length-reverse xs) in
      let q : ℕ = slice_index picks (several_below number i) % length (reverse xs) in
      let same : slice_index picks (several_below (λ k. slice_index counts k + 1) i) % (slice_index counts i + 1) ≡ q =
      ap (λ (j : ℕ). slice_index picks j % (slice_index counts i + 1))
      (same_several (λ k. slice_index counts k + 1) number i each)
      ∙ ap (λ (n : ℕ). slice_index picks (several_below number i) % n) here in
      let below : q < length xs =
      omega (
        arith,
        mod-lt (slice_index picks (several_below number i)) {m = length (reverse xs)}
            (omega (arith, here)),
        length-reverse xs,
      ) in
      ap (λ (k : ℕ). get_or xs k []) (omega (arith, same, here, length-reverse xs)) ∙ sym (get_or-reverse xs q [] below)

-- a place among the candidates, or one past the end
pub images : (old new : List (List ℕ)) (log : List Change) (left : List ℕ) → length new ≡ length old
    → ((i : ℕ) → i < length old → slice_index left i ≤ length (replaced log i))
    → ((i : ℕ) → i < length old → content new i ≡ get_or (candidates old log i) (slice_index left i) []) → (i : ℕ)
    → MayHold old log i (content new i)
images old new log left long enough are i = at_or_past (cases_lt i (length old))
  where
    at_or_past : (i < length old) ⊎ (length old ≤ i) → MayHold old log i (content new i)
    at_or_past (inl lt) =
        subst (MayHold old log i) (sym (are i lt))
        (Contains-get_or (candidates old log i) (slice_index left i) [] (omega (arith, enough i lt)))
    at_or_past (inr past) =
        let both : content old i ≡ content new i = get_or_past old i [] past
        ∙ sym (get_or_past new i [] (omega (arith, past, long))) in
        subst (MayHold old log i) both (first (content old i) (replaced log i))

-- a disk whose contents were candidates has whole sectors
pub restarted_whole : (old new : List (List ℕ)) (log : List Change) → length new ≡ length old → AreWhole old log
    → ((i : ℕ) → MayHold old log i (content new i)) → AreWhole new []
restarted_whole old new log long all held i b lt may =
    subst (λ (x : List ℕ). length x ≡ 512) (sym (only (content new i) b may))
    (all i (content new i) (omega (arith, lt, long)) (held i))
