-- Partial reports of one query over one set of dimension rows, merged. Our own.
use Rattle.std.specs.Prelude.{◌≡◌, ℕ, true, None, List, [], ◌∷◌, ◌++◌}
use Rattle.std.specs.List.{AllByRecursion, range_with_len}
use Rattle.std.specs.List.Sorted.{IsPermutation}
use Rattle.std.specs.Str.{IsUtf8}
use Rattle.cube_model.specs.declared.answer.Answer.{Answer}
use Rattle.cube_model.specs.declared.query.Query.{Query}
use Rattle.cube_model.specs.Ascending.{IsAscending}
use Rattle.cube_model.specs.Orders.{answer_cmp}
use Rattle.cube_model.specs.Proper.{IsProper}
use Rattle.partial_reports.specs.Merges.{merged_answer}
use Rattle.partial_reports.specs.Parts.{partial_query}
use Rattle.partial_reports.specs.Readable.{IsReadableAnswer}
use Rattle.mode_queries.specs.Lawful.{without_modes}
use Rattle.partial_reports.specs.declared.head.Head.{Head}
use Rattle.partial_reports.specs.declared.words.Word.{Word}
use Rattle.partial_reports.specs.Head.{head_text, is_proper, words_given}
use Rattle.partial_reports.specs.HeadReading.{IsDigest}
use Rattle.query_words.specs.Words.{SpellsQuery, Words}
use Rattle.ssb_reports.specs.Report.{report_of}

-- what a partial report has: the numbers of its parts and its words, the digest of the dimension rows, the query that
-- the words spell, and the partial answer to it
pub record Part : Type 0 where
  pub head : Head
  pub digest : List ℕ
  pub query : Query
  pub answer : Answer

-- words as they were given, which are UTF-8, spell a query that may be asked and does not look at ship modes
pub record SpellsWords (given : List Word) (query : Query) : Type 0 where
  pub words : Words
  pub utf8 : AllByRecursion (λ word. IsUtf8 word.text) given
  pub are : given ≡ words_given words.q words.set words.by words.agg words.conditions
  pub spelled : SpellsQuery words (without_modes query)
  pub asked : IsProper query

-- a text is the partial report of a part
pub record IsPartialReport (text : List ℕ) (part : Part) : Type 0 where
  pub proper : is_proper part.head ≡ true
  pub digest : IsDigest part.digest
  pub words : SpellsWords part.head.words part.query
  pub readable : IsReadableAnswer (partial_query part.query) part.answer
  pub rising : IsAscending (answer_cmp None) part.answer.lines
  pub spelled : text ≡ head_text part.head part.digest ++ report_of (partial_query part.query) part.answer

-- two parts are of one query in the same words, of one whole and over the same dimension rows
pub record AreOfOne (one other : Part) : Type 0 where
  pub words : other.head.words ≡ one.head.words
  pub parts : other.head.parts ≡ one.head.parts
  pub dimensions : other.digest ≡ one.digest
  pub query : other.query ≡ one.query

-- two parts as one: the numbers of both, of which none is in both since those of a proper head differ, and the merged
-- answers
pub record IsMergedPart (one other both : Part) : Type 0 where
  pub alike : AreOfOne one other
  pub same : AreOfOne one both
  pub proper : is_proper both.head ≡ true
  pub numbers : IsPermutation (one.head.numbers ++ other.head.numbers) both.head.numbers
  pub answer : both.answer ≡ merged_answer (partial_query one.query) one.answer other.answer

-- a part and the part of which a text is the partial report, as one
pub record AddsPart (start : Part) (text : List ℕ) (both : Part) : Type 0 where
  pub other : Part
  pub report : IsPartialReport text other
  pub merged : IsMergedPart start other both

-- texts are merged into a part, one after the other
abbrev pub MergesTexts : Part → List (List ℕ) → Part → Type 0
MergesTexts start [] whole = start ≡ whole
MergesTexts start (text ∷ texts) whole = (next : Part) × AddsPart start text next × MergesTexts next texts whole

-- a part is the merge of the partial reports that are the texts
abbrev pub IsMerged : List (List ℕ) → Part → Type 0
IsMerged [] whole = ⊥
IsMerged (text ∷ texts) whole = (first : Part) × IsPartialReport text first × MergesTexts first texts whole

-- each part of the whole is in
abbrev pub IsWhole : Head → Type 0
IsWhole head = head.numbers ≡ range_with_len 1 head.parts
