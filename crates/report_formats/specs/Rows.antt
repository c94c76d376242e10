-- What separates the fields of a report. Our own.
use Rattle.std.specs.Prelude.{ℕ, ◌&&◌, if◌then◌else◌, Bool, false, true, Option, None, Some, List, [], ◌++◌, codes}
use Rattle.std.specs.Prelude.{bytes_eq}
use Rattle.std.specs.List.{join_with_byte}
use Rattle.std.specs.Option.{is_none}
use Rattle.report_formats.specs.declared.layout.Format.{Format}
use Rattle.report_formats.specs.declared.layout.Format.TheVariants.{Bars, Csv, Tsv, Json}
use Rattle.report_formats.specs.declared.layout.Layout.{Layout}

abbrev pub is_json : Format → Bool
is_json Json = true
is_json Bars = false
is_json Csv = false
is_json Tsv = false

abbrev pub has_bars : Format → Bool
has_bars Bars = true
has_bars Csv = false
has_bars Tsv = false
has_bars Json = false

-- the names of the formats
abbrev pub format_named : List ℕ → Option Format
format_named name =
    if bytes_eq name (codes "bars") then Some Bars else (if bytes_eq name (codes "csv") then Some Csv else
    (if bytes_eq name (codes "tsv") then Some Tsv else (if bytes_eq name (codes "json") then Some Json else None)))

-- what a line begins with
abbrev pub opening_of : Format → List ℕ
opening_of Json = codes "{"
opening_of Bars = []
opening_of Csv = []
opening_of Tsv = []

-- what is between two fields
abbrev pub separator_of : Format → ℕ
separator_of Bars = 124
separator_of Tsv = 9
separator_of Csv = 44
separator_of Json = 44

-- what a line ends with
abbrev pub ending_of : Format → List ℕ
ending_of Csv = codes "\r\n"
ending_of Json = codes "}\n"
ending_of Bars = codes "\n"
ending_of Tsv = codes "\n"

-- a line of some fields
abbrev pub formatted_row : Format → List (List ℕ) → List ℕ
formatted_row format fields = opening_of format ++ (join_with_byte (separator_of format) fields ++ ending_of format)

-- whether averages are written as their sum and their count
abbrev pub counts_averages : Layout → Bool
counts_averages layout = is_json layout.format && is_none layout.decimals

-- whether the report is one with bars and with averages as fractions
abbrev pub is_plain : Layout → Bool
is_plain layout = has_bars layout.format && is_none layout.decimals
