-- What callers need of one step after another.
use Rattle.std.proofs.Common.{◌≡◌, inl, inr, Result, Ok, Err, ap}
use Rattle.batch_loader.specs.Outcomes.{and_then}
use Rattle.cube_model.specs.declared.fault.Fault.{Fault}
use Rattle.dimension_tables.specs.Texts.{GivesUnlessFailed}

-- a step that was refused
pub gives-stop : {A B : Type 0} (first : Result A Fault) (next : A → Result B Fault) (fault : Fault)
    (result : Result B Fault) → (y : Fault) × (result ≡ Err y) × (y ≡ fault) → GivesUnlessFailed first (Err fault)
    → GivesUnlessFailed (and_then first next) result
gives-stop first next fault result stop (inl memory) = rw (stop.1, stop.2) (inl memory)
gives-stop first next fault result stop (inr (inl input)) = rw (stop.1, stop.2) (inr (inl input))
gives-stop first next fault result stop (inr (inr is)) =
    rw (stop.1, stop.2) (inr (inr (ap (λ one. and_then one next) is)))

-- a step that was not
pub gives-on : {A B : Type 0} (first : Result A Fault) (next : A → Result B Fault) (value : A) (result : Result B Fault)
    → first ≡ Ok value → GivesUnlessFailed (next value) result → GivesUnlessFailed (and_then first next) result
gives-on first next value result is gives = rw is gives
