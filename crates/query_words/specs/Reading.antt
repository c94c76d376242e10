-- What comes of reading a text that may spell a value. Our own.
use Rattle.std.specs.Prelude.{◌≡◌, ◌⊎◌, Option, None, Some, Result, Ok, Err}
use Rattle.query_words.specs.declared.refused.Refused.{Refused}
use Rattle.query_words.specs.declared.refused.Refused.TheVariants.{Memory}

-- a value that is spelled, or nothing where none is
abbrev pub Finds : {A : Type 0} → (A → Type 0) → Option A → Type 0
Finds {A} IsSpelled None = (value : A) → IsSpelled value → ⊥
Finds IsSpelled (Some value) = IsSpelled value

-- the same where memory may be refused, and else the mistake is said
abbrev pub Reads : {A : Type 0} → (A → Type 0) → (Refused → Type 0) → Result A Refused → Type 0
Reads IsSpelled IsMistake (Ok value) = IsSpelled value
Reads {A} IsSpelled IsMistake (Err refused) = (refused ≡ Memory)
    ⊎ (IsMistake refused × ((value : A) → IsSpelled value → ⊥))
