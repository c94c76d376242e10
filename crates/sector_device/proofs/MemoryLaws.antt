-- A memory disk obeys the laws of a device.
use Rattle.std.specs.Prelude.{◌≡◌, ℕ, ◌-◌, List, [], length, drop}
use Rattle.std.proofs.Common.{subst, arith}
use Rattle.std.proofs.lemmas.List.Elements.{Contains-get_or}
use Rattle.sector_device.specs.Device.{Image}
use Rattle.sector_device.specs.Memory.{content, candidates, MayHold, LeftWithin, before_last}
use Rattle.sector_device.specs.declared.change.Change.{Change}

pub read_may_stay : (sectors : List (List ℕ)) (log : List Change) (i : ℕ) → MayHold sectors log i (content sectors i)
read_may_stay sectors log i = Contains-get_or (candidates sectors log i) 0 [] (omega arith)

pub counts_now : (sectors : List (List ℕ)) (log : List Change) (t : ℕ) (image : Image)
    → ((i : ℕ) → MayHold sectors log i (image i)) → LeftWithin (length log - t) sectors log image
counts_now sectors log t image now = record { ago = 0; within = omega arith; may = now }

pub only_now : (sectors : List (List ℕ)) (log : List Change) (image : Image)
    → LeftWithin (length log - length log) sectors log image → (i : ℕ) → MayHold sectors log i (image i)
only_now sectors log image left i =
    let none : left.ago ≡ 0 = omega (arith, left.within) in
    subst (λ (n : ℕ). MayHold (before_last n sectors log) (drop n log) i (image i)) none (left.may i)
