-- Words as they were given, one after the other. Our own.
use Rattle.std.specs.Prelude.{◌≡◌, ◌≢◌, ℕ, Option, List, [], ◌∷◌, ◌++◌}
use Rattle.std.specs.List.{AllByRecursion}
use Rattle.std.specs.Str.{IsUtf8}
use Rattle.partial_reports.specs.declared.refused.Wrong.TheVariants as wrong
use Rattle.partial_reports.specs.declared.words.Word.{Word}
use Rattle.partial_reports.specs.declared.words.WordKind.{WordKind}
use Rattle.partial_reports.specs.declared.words.WordKind.TheVariants.{If}
use Rattle.partial_reports.specs.Head.{word_if_any}
use Rattle.query_words.specs.declared.refused.Refused.{Refused as Unspelled}
use Rattle.query_words.specs.declared.refused.Refused.TheVariants.{Memory as NoMemory}
use Rattle.report_merge.specs.declared.refused.Refused.{Refused}
use Rattle.report_merge.specs.declared.refused.Refused.TheVariants.{At, Memory}

-- words are UTF-8
abbrev pub AreUtf8 : List Word → Type 0
AreUtf8 words = AllByRecursion (λ word. IsUtf8 word.text) words

-- the first of some words is not of a kind
abbrev pub BeginsOtherwise : WordKind → List Word → Type 0
BeginsOtherwise kind [] = Unit {0}
BeginsOtherwise kind (word ∷ words) = word.kind ≢ kind

-- words begin with one of a kind, or it is missing, and others come after it
pub record IsNextGiven (kind : WordKind) (words : List Word) (text : Option (List ℕ)) (others : List Word) : Type 0
  where
    pub utf8 : AreUtf8 words
    pub are : words ≡ word_if_any kind text ++ others
    pub apart : BeginsOtherwise kind others

-- words are conditions
abbrev pub AreConditions : List Word → Type 0
AreConditions words = AllByRecursion (λ word. (word.kind ≡ If) × IsUtf8 word.text) words

-- the words are those of no query of the dimensions alone. They begin in the fourth line
abbrev pub no_query : Refused
no_query = At 4 wrong.Words

-- why words are not read, as a reason why a text is not merged
abbrev pub unspelled : Unspelled → Refused
unspelled NoMemory = Memory
unspelled _ = no_query
