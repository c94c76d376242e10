-- What callers need of a fold's refusals.
use Rattle.std.proofs.Common.{◌≡◌, ◌⊎◌, ⊎_elim, Result, Ok, Err, IfErr, ap}
use Rattle.cube_model.specs.declared.fault.Fault.{Fault}
use Rattle.cube_model.specs.declared.fault.Fault.TheVariants.{BadLayout, Memory}

-- where the rows may be folded a fold is refused when out of memory alone
pub memory_alone : {T : Type 0} (result : Result T Fault) (P : Type 0) → P → (result ≡ Err BadLayout → P → ⊥)
    → IfErr result (λ fault. (fault ≡ Memory) ⊎ (fault ≡ BadLayout)) → IfErr result (λ fault. fault ≡ Memory)
memory_alone (Ok x) P holds refused only = tt
memory_alone (Err fault) P holds refused only =
    ⊎_elim (λ memory. memory) (λ is. absurd (refused (ap (λ f. Err f) is) holds)) only
