-- Answers whose report can be read back. Our own.
use Rattle.std.specs.Prelude.{◌≡◌, ◌≢◌, ◌<◌, ◌^◌, ℕ, ◌==◌, false, List, length, codes}
use Rattle.std.specs.Int.Signed.{mag}
use Rattle.std.specs.List.{AllByRecursion}
use Rattle.cube_model.specs.declared.answer.Answer.{Answer}
use Rattle.cube_model.specs.declared.answer.Line.{Line}
use Rattle.cube_model.specs.declared.answer.Member.{Member}
use Rattle.cube_model.specs.declared.answer.Member.TheVariants.{All, Text}
use Rattle.cube_model.specs.declared.answer.Value.{Value}
use Rattle.cube_model.specs.declared.answer.Value.TheVariants.{Whole, Ratio}
use Rattle.cube_model.specs.declared.query.Query.{Query}

-- a text has no byte of a number
abbrev pub HasNoByte : ℕ → List ℕ → Type 0
HasNoByte sign text = AllByRecursion (λ byte. (byte == sign) ≡ false) text

-- a text that can be in a report: no bar (124) and no line feed (10) in it, and not the word for all members
pub record IsPlainText (text : List ℕ) : Type 0 where
  pub no_bar : HasNoByte 124 text
  pub no_lf : HasNoByte 10 text
  pub not_all : text ≢ codes "ALL"

abbrev pub IsPlainMember : Member → Type 0
IsPlainMember (Text text) = IsPlainText text
IsPlainMember All = Unit {0}

-- a whole number of 64 bits
abbrev pub IsWholeNumber : Value → Type 0
IsWholeNumber (Whole number) = mag number < 2 ^ 63
IsWholeNumber (Ratio fraction) = ⊥

-- a line of a query whose members are plain and whose values are whole
pub record IsReadableLine (query : Query) (line : Line) : Type 0 where
  pub members : length line.key ≡ length query.columns
  pub values : length line.values ≡ length query.aggregates
  pub plain : AllByRecursion IsPlainMember line.key
  pub whole : AllByRecursion IsWholeNumber line.values

-- an answer of such lines
pub record IsReadableAnswer (query : Query) (answer : Answer) : Type 0 where
  pub few : length answer.lines < 2 ^ 63
  pub each : AllByRecursion (IsReadableLine query) answer.lines
