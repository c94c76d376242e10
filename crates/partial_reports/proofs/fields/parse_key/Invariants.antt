use Rattle.std.proofs.Common.{◌≡◌, ◌++◌, ℕ, List, length, map}
use Rattle.std.specs.List.{AllByRecursion}
use Rattle.std.specs.Option.{option_map}
use Rattle.cube_model.specs.declared.answer.Member.{Member}
use Rattle.partial_reports.specs.Readable.{IsPlainMember}
use Rattle.ssb_reports.specs.Report.{member_text}
use Rattle.partial_reports.specs.Reading.{FieldsAreLeft}
use Rattle.partial_reports.proofs.FieldsLemmas.{KeyLeft}
use Rattle.partial_reports.proofs.fields.parse_key.Given as goal

abbrev pub invariant-loop-column : goal.invariant-loop-column
invariant-loop-column l =
    (key : List Member) (others : List (List ℕ)) → length key ≡ l.columns → AllByRecursion IsPlainMember key
    → FieldsAreLeft (option_map (λ text. text.now) l.fn.fields.left) (map member_text key ++ others)
    → KeyLeft key l.key l.columns l._column (option_map (λ text. text.now) l.fields.left) others
