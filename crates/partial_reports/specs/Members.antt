-- Members that can be read back from a report. Our own.
use Rattle.std.specs.Prelude.{ℕ, ◌==◌, ◌&&◌, ◌||◌, not, Bool, true, List, codes, Option}
use Rattle.std.specs.List.{list_all}
use Rattle.std.specs.Str.{bytes_eq}
use Rattle.cube_model.specs.declared.answer.Answer.{Answer}
use Rattle.cube_model.specs.declared.answer.Line.{Line}
use Rattle.cube_model.specs.declared.answer.Member.{Member}
use Rattle.cube_model.specs.declared.answer.Member.TheVariants.{All, Text}
use Rattle.cube_model.specs.declared.fault.Fault.{Fault}
use Rattle.cube_model.specs.declared.fault.Fault.TheVariants.{BadLayout}
use Rattle.cube_model.specs.Causes.{cause_if}

-- a bar (124) or a line feed (10) would end a field
abbrev pub ends_field : ℕ → Bool
ends_field byte = (byte == 124) || (byte == 10)

-- a text has none, and is not the word for all members
abbrev pub is_plain_text : List ℕ → Bool
is_plain_text text = list_all (λ byte. not (ends_field byte)) text && not (bytes_eq (codes "ALL") text)

abbrev pub is_plain_member : Member → Bool
is_plain_member (Text text) = is_plain_text text
is_plain_member All = true

abbrev pub is_plain_line : Line → Bool
is_plain_line line = list_all is_plain_member line.key

abbrev pub are_plain_lines : List Line → Bool
are_plain_lines lines = list_all is_plain_line lines

-- why the report of an answer cannot be read back, if it cannot
abbrev pub member_cause : Answer → Option Fault
member_cause answer = cause_if (not (are_plain_lines answer.lines)) BadLayout
