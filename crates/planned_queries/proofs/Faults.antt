-- Why a fold refuses what it is to count.
use Rattle.std.proofs.Common.{◌≡◌, ◌≢◌, ◌⊎◌, ⊎_elim, ◌∙◌, sym}
use Rattle.cube_model.specs.declared.fault.Fault.{Fault}
use Rattle.cube_model.specs.declared.fault.Fault.TheVariants.{BadLayout, Device, Memory}

-- a fold is refused for lack of memory, or for its rows
pub no_device : (fault : Fault) → (fault ≡ Memory) ⊎ (fault ≡ BadLayout) → fault ≢ Device
no_device fault cause is = ⊎_elim (λ memory. let no : Memory ≡ Device = sym memory ∙ is in cc)
    (λ bad. let no : BadLayout ≡ Device = sym bad ∙ is in cc) cause
