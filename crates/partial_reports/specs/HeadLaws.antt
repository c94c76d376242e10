-- That the text of a partial report tells what it is of. Each is proved as the contract of a function of its name.
use Rattle.std.specs.Prelude.{◌≡◌, ℕ, true, List, ◌++◌}
use Rattle.cube_model.specs.declared.answer.Answer.{Answer}
use Rattle.cube_model.specs.declared.query.Query.{Query}
use Rattle.ssb_reports.specs.Report.{report_of}
use Rattle.partial_reports.specs.Parts.{partial_query}
use Rattle.partial_reports.specs.Readable.{IsReadableAnswer}
use Rattle.partial_reports.specs.declared.head.Head.{Head}
use Rattle.partial_reports.specs.Head.{head_text, is_proper}
use Rattle.partial_reports.specs.HeadReading.{IsDigest}

-- a text tells the head that it begins with, the digest, and what is after the head
abbrev pub HeadsReadBack : Type 0
HeadsReadBack = (one other : Head) (digest another left right : List ℕ)
    → is_proper one ≡ true → is_proper other ≡ true → IsDigest digest → IsDigest another
    → head_text one digest ++ left ≡ head_text other another ++ right
    → (one ≡ other) × (digest ≡ another) × (left ≡ right)

-- a partial report tells its head, the digest and its answer, where both answers can be read back
abbrev pub PartialReportsReadBack : Type 0
PartialReportsReadBack = (query : Query) (one other : Head) (digest another : List ℕ) (first second : Answer)
    → is_proper one ≡ true → is_proper other ≡ true → IsDigest digest → IsDigest another
    → IsReadableAnswer (partial_query query) first → IsReadableAnswer (partial_query query) second
    → head_text one digest ++ report_of (partial_query query) first ≡ head_text other another
    ++ report_of (partial_query query) second
    → (one ≡ other) × (digest ≡ another) × (first ≡ second)
