-- What is kept of partial reports while they are merged. Our own.
use Rattle.std.specs.Prelude.{◌≡◌, ℕ, true, None, List, ◌++◌}
use Rattle.std.specs.List.Sorted.{IsPermutation}
use Rattle.cube_model.specs.declared.answer.Answer.{Answer}
use Rattle.cube_model.specs.Ascending.{IsAscending}
use Rattle.cube_model.specs.Orders.{answer_cmp}
use Rattle.cube_model.specs.declared.query.Query.{Query}
use Rattle.partial_reports.specs.declared.wide.WideLine.{WideLine}
use Rattle.partial_reports.specs.Parts.{partial_query}
use Rattle.partial_reports.specs.Wide.{Rise, narrow_lines}
use Rattle.partial_reports.specs.declared.head.Head.{Head}
use Rattle.partial_reports.specs.Head.{is_proper}
use Rattle.partial_reports.specs.HeadReading.{IsDigest}
use Rattle.report_merge.specs.Merging.{AreOfOne, IsPartialReport, Part, SpellsWords}

-- a proper head, a digest, the query that its words spell with the one for its partial answers, and lines in the order
-- of their keys
pub record IsKeptPart (head : Head) (digest : List ℕ) (query partial : Query) (lines : List WideLine) : Type 0 where
  pub proper : is_proper head ≡ true
  pub digest_is : IsDigest digest
  pub words : SpellsWords head.words query
  pub partial_is : partial ≡ partial_query query
  pub rise : Rise lines

-- a part with other numbers and other lines
abbrev pub with_lines : Part → List ℕ → List WideLine → Part
with_lines part numbers lines = record {
  head = record { numbers = numbers; parts = part.head.parts; words = part.head.words };
  digest = part.digest;
  query = part.query;
  answer = record { lines = narrow_lines lines };
}

-- What is read of one more partial report: the numbers of a part with its own, and its partial answer.
pub record IsMore (start : Part) (text numbers : List ℕ) (answer : Answer) : Type 0 where
  pub other : Part
  pub report : IsPartialReport text other
  pub alike : AreOfOne start other
  pub moved : IsPermutation (start.head.numbers ++ other.head.numbers) numbers
  pub proper : is_proper (record { numbers = numbers; parts = start.head.parts; words = start.head.words }) ≡ true
  pub answer_is : answer ≡ other.answer
  pub rising : IsAscending (answer_cmp None) answer.lines
