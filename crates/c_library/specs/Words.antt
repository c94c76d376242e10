-- The words of a query in bytes, and the report of it. Our own.
use Rattle.std.specs.Prelude.{◌≡◌, ℕ, nat_eq, if◌then◌else◌, List, [], length, Option, None, Some}
use Rattle.mode_queries.specs.declared.query.ModeQuery.{ModeQuery}
use Rattle.query_words.specs.Words.{SpellsQuery, Words, parts_by}
use Rattle.report_formats.specs.declared.asked.Asked.{Asked}
use Rattle.report_formats.specs.declared.layout.Layout.{Layout}
use Rattle.report_formats.specs.Asked.{asked_for}

-- a word that is empty was left out
abbrev pub word_in : List ℕ → Option (List ℕ)
word_in bytes = if nat_eq (length bytes) 0 then None else Some bytes

-- the lines of a text, between line feeds (10), and none where it is empty
abbrev pub listed_lines : Option (List ℕ) → List (List ℕ)
listed_lines None = []
listed_lines (Some text) = parts_by 10 text

abbrev pub lines_between : List ℕ → List (List ℕ)
lines_between bytes = listed_lines (word_in bytes)

-- the number of a query of the benchmark
abbrev pub benchmark_words : List ℕ → Words
benchmark_words number = record { q = word_in number; set = None; by = None; agg = None; conditions = [] }

-- the words of a cube query
abbrev pub cube_words : List ℕ → List ℕ → List ℕ → List ℕ → Words
cube_words set by agg conditions =
    record { q = None; set = word_in set; by = word_in by; agg = word_in agg; conditions = lines_between conditions }

-- the report of the query that words spell
abbrev pub IsReportOf : Words → Layout → Asked → Type 0
IsReportOf words layout asked = (query : ModeQuery) × SpellsQuery words query × (asked ≡ asked_for layout query)
