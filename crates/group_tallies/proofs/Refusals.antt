-- What holds after a refusal.
use Rattle.std.proofs.Common.{◌≡◌, ◌∙◌, ◌⊎◌, ⊎_elim, Result, Ok, Err, IfErr, sym}
use Rattle.cube_model.specs.declared.fault.Fault.{Fault}
use Rattle.cube_model.specs.declared.fault.Fault.TheVariants.{BadLayout, BadQuery, Memory}
use Rattle.std.specs.Prelude.{OnErr}

-- what holds holds after a refusal
pub on_err : {T E : Type 0} (result : Result T E) (P : Type 0) → P → OnErr result P
on_err (Ok x) P holds = tt
on_err (Err e) P holds = holds

-- a fold that began is not refused for its query
pub never_improper : {T : Type 0} (result : Result T Fault)
    → IfErr result (λ fault. (fault ≡ Memory) ⊎ (fault ≡ BadLayout)) → result ≡ Err BadQuery → ⊥
never_improper (Ok x) only is = cc
never_improper (Err fault) only is =
    let improper : fault ≡ BadQuery = cc is in
    ⊎_elim (λ (memory : fault ≡ Memory). let both : Memory ≡ BadQuery = sym memory ∙ improper in absurd cc)
    (λ (bad : fault ≡ BadLayout). let both : BadLayout ≡ BadQuery = sym bad ∙ improper in absurd cc) only
