-- What reading a head answers.
use Rattle.std.specs.Prelude.{◌≡◌, ℕ, List, ◌++◌, ◌∷◌, length, Result, MatchResult, codes}
use Rattle.std.specs.Fmt.{decimal}
use Rattle.cube_model.specs.declared.fault.Fault.{Fault}
use Rattle.cube_model.specs.declared.fault.Fault.TheVariants as fault
use Rattle.partial_reports.specs.declared.head.Head.{Head}
use Rattle.partial_reports.specs.declared.refused.Refused.{Refused}
use Rattle.partial_reports.specs.declared.refused.Refused.TheVariants.{Memory}
use Rattle.partial_reports.specs.Head.{numbers_text}
use Rattle.hex.specs.Hex.{IsBytes}

-- what the digest of dimension rows is: 32 bytes
pub record IsDigest (digest : List ℕ) : Type 0 where
  pub size : length digest ≡ 32
  pub bytes : IsBytes digest

-- something holds of what was read, unless memory ran out
abbrev pub UnlessMemory : {T : Type 0} → Result T Refused → (T → Type 0) → Type 0
UnlessMemory result holds = MatchResult result holds (λ refused. refused ≡ Memory)

-- the line of the parts, without its line feed
abbrev pub part_line : Head → List ℕ
part_line head = codes "part " ++ (numbers_text head.numbers ++ 47 ∷ decimal head.parts)

-- memory ran out where it did before
abbrev pub IsSameCause : Fault → Refused → Type 0
IsSameCause was refused = was ≡ fault.Memory → refused ≡ Memory
