-- Refusals that are handed on.
use Rattle.std.proofs.Common.{◌≡◌, ◌⊎◌, inl, inr, Result, Ok, Err, IfOk, IfErr}
use Rattle.cube_model.specs.declared.fault.Fault.{Fault}
use Rattle.cube_model.specs.declared.fault.Fault.TheVariants.{BadLayout, Memory}

-- want of memory, or bytes of which something holds
pub refused_so : {A B : Type 0} (fault : Fault) → (A → B) → (fault ≡ Memory) ⊎ ((fault ≡ BadLayout) × A)
    → (fault ≡ Memory) ⊎ ((fault ≡ BadLayout) × B)
refused_so fault so (inl memory) = inl memory
refused_so fault so (inr bad) = inr (bad.0, so bad.1)

pub err_so : {X : Type 0} (P Q : Fault → Type 0) (result : Result X Fault) → ((fault : Fault) → P fault → Q fault)
    → IfErr result P → IfErr result Q
err_so P Q (Ok x) so held = held
err_so P Q (Err fault) so held = so fault held

pub ok_so : {X : Type 0} (A B C : X → Type 0) (result : Result X Fault) → ((x : X) → A x → B x → C x)
    → IfOk result A → IfOk result B → IfOk result C
ok_so A B C (Ok x) so a b = so x a b
ok_so A B C (Err fault) so a b = a
