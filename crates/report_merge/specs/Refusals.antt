-- Why texts are not merged. Our own.
use Rattle.std.specs.Prelude.{◌≡◌, ◌≢◌, ◌≤◌, ℕ, true, List, ◌++◌, Result, MatchResult}
use Rattle.std.specs.List.{Contains}
use Rattle.cube_model.specs.declared.query.Query.{Query}
use Rattle.partial_reports.specs.declared.head.Head.{Head}
use Rattle.partial_reports.specs.declared.refused.Refused.{Refused as Unread}
use Rattle.partial_reports.specs.declared.refused.Refused.TheVariants.{Memory as NoMemory, At as WrongAt}
use Rattle.partial_reports.specs.declared.words.Word.{Word}
use Rattle.partial_reports.specs.Head.{head_text, is_proper}
use Rattle.partial_reports.specs.HeadReading.{IsDigest}
use Rattle.report_merge.specs.declared.refused.Refused.{Refused}
use Rattle.report_merge.specs.declared.refused.Refused.TheVariants.{Memory, Input, At, OtherWords, OtherParts}
use Rattle.report_merge.specs.declared.refused.Refused.TheVariants.{OtherDimensions, Twice}
use Rattle.report_merge.specs.Merging.{IsPartialReport, Part, SpellsWords}

-- something holds of what was merged, unless memory ran out
abbrev pub UnlessMemory : {T : Type 0} → Result T Refused → (T → Type 0) → Type 0
UnlessMemory result holds = MatchResult result holds (λ refused. refused ≡ Memory)

-- why a text is not read, as a reason why it is not merged
abbrev pub refused_of : Unread → Refused
refused_of NoMemory = Memory
refused_of (WrongAt line wrong) = At line wrong

-- words spell no query of the dimensions alone that may be asked, or memory ran out
abbrev pub WordsRefuse : List Word → Refused → Type 0
WordsRefuse words Memory = Unit {0}
WordsRefuse words (At line wrong) = (query : Query) → SpellsWords words query → ⊥
WordsRefuse words _ = ⊥

-- a text is the partial report of no part
abbrev pub IsNoPartialReport : List ℕ → Type 0
IsNoPartialReport text = (part : Part) → IsPartialReport text part → ⊥

-- Why a text is not the first that is merged: it is no partial report, or memory ran out.
abbrev pub NewRefuses : List ℕ → Refused → Type 0
NewRefuses text Memory = Unit {0}
NewRefuses text (At line wrong) = IsNoPartialReport text
NewRefuses text _ = ⊥

-- a text begins with a proper head and a digest
pub record BeginsWith (text : List ℕ) (head : Head) (digest : List ℕ) : Type 0 where
  pub proper : is_proper head ≡ true
  pub digest_is : IsDigest digest
  pub left : List ℕ
  pub spelled : text ≡ head_text head digest ++ left

-- and something holds of them
abbrev pub HasHead : List ℕ → (Head → List ℕ → Type 0) → Type 0
HasHead text holds = (head : Head) × (digest : List ℕ) × BeginsWith text head digest × holds head digest

-- A head over dimension rows with a digest is not alike: it has other words, or another number of parts, or another
-- digest. What is named is the first of these that differs
abbrev pub IsUnlike : Head → List ℕ → Head → List ℕ → Refused → Type 0
IsUnlike one digest head another OtherWords = head.words ≢ one.words
IsUnlike one digest head another OtherParts = (head.words ≡ one.words) × (head.parts ≢ one.parts)
IsUnlike one digest head another OtherDimensions = (head.words ≡ one.words) × (head.parts ≡ one.parts)
    × (another ≢ digest)
IsUnlike one digest head another _ = ⊥

-- no number is in both of two lists
abbrev pub AreDisjoint : List ℕ → List ℕ → Type 0
AreDisjoint ones others = (number : ℕ) → Contains ones number → Contains others number → ⊥

-- a number is the least that is in both
pub record IsLeastOfBoth (ones others : List ℕ) (number : ℕ) : Type 0 where
  pub one : Contains ones number
  pub other : Contains others number
  pub least : (another : ℕ) → Contains ones another → Contains others another → number ≤ another

-- numbers are not merged with others: one is in both, or memory ran out
abbrev pub NumbersRefuse : List ℕ → List ℕ → Refused → Type 0
NumbersRefuse ones others Memory = Unit {0}
NumbersRefuse ones others (Twice number) = IsLeastOfBoth ones others number
NumbersRefuse ones others _ = ⊥

-- two heads over dimension rows with the same digest are alike
pub record IsAlike (one : Head) (digest : List ℕ) (head : Head) (another : List ℕ) : Type 0 where
  pub words : head.words ≡ one.words
  pub parts : head.parts ≡ one.parts
  pub dimensions : another ≡ digest

-- Why a text is not merged into a part: it is no partial report, or memory ran out. Or its head is not that of one more
-- part of the whole: it is not alike, or has numbers that are in already, of which the least is named.
abbrev pub RefusesAdding : Part → List ℕ → Refused → Type 0
RefusesAdding part text Memory = Unit {0}
RefusesAdding part text Input = ⊥
RefusesAdding part text (At line wrong) = IsNoPartialReport text
RefusesAdding part text (Twice number) =
    HasHead text (λ head digest. IsAlike part.head part.digest head digest
    × IsLeastOfBoth part.head.numbers head.numbers number)
RefusesAdding part text refused = HasHead text (λ head digest. IsUnlike part.head part.digest head digest refused)
