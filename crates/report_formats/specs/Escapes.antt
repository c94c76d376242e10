-- How the bytes of a text are written in csv, tsv and json. Our own, by RFC 4180 and RFC 8259.
use Rattle.std.specs.Prelude.{ℕ, ◌+◌, ◌/◌, ◌%◌, ◌==◌, ◌||◌, nat_lt, if◌then◌else◌, Bool, true, List, [], ◌∷◌, ◌++◌}
use Rattle.std.specs.Prelude.{codes}
use Rattle.std.specs.List.{flat_map, list_any}
use Rattle.std.specs.Str.{is_utf8}
use Rattle.report_formats.specs.declared.escapes.Escaping.{Escaping}
use Rattle.report_formats.specs.declared.escapes.Escaping.TheVariants.{Quoted, Tabbed, Json, JsonBytes}

-- csv: between quotation marks each of them is written twice
abbrev pub quoted_byte : ℕ → List ℕ
quoted_byte b = if b == 34 then 34 ∷ b ∷ [] else b ∷ []

-- tsv: a tab, a line feed, a carriage return and a backslash are \t, \n, \r and \\
abbrev pub tabbed_byte : ℕ → List ℕ
tabbed_byte b =
    if b == 9 then codes "\\t" else
    (if b == 10 then codes "\\n" else (if b == 13 then codes "\\r" else (if b == 92 then codes "\\\\" else b ∷ [])))

abbrev pub hex_digit : ℕ → ℕ
hex_digit d = if nat_lt d 10 then 48 + d else 87 + d

-- the two hexadecimal digits of a byte
abbrev pub hex : ℕ → List ℕ
hex b = hex_digit (b / 16) ∷ hex_digit (b % 16) ∷ []

-- json: a quotation mark and a backslash have a backslash in front, and a control character is \n, \r, \t or \u and
-- four digits
abbrev pub json_byte : ℕ → List ℕ
json_byte b =
    if b == 34 then codes
    "\\\"" else (if b == 92 then codes "\\\\" else (if b == 10 then codes "\\n" else (if b == 13 then codes "\\r" else
    (if b == 9 then codes "\\t" else (if nat_lt b 32 then codes "\\u00" ++ hex b else b ∷ [])))))

-- json, of a text that is not UTF-8: a byte above 127 is \udc and its two digits
abbrev pub odd_json_byte : ℕ → List ℕ
odd_json_byte b = if nat_lt b 128 then json_byte b else codes "\\udc" ++ hex b

abbrev pub byte_text : Escaping → ℕ → List ℕ
byte_text Quoted = quoted_byte
byte_text Tabbed = tabbed_byte
byte_text Json = json_byte
byte_text JsonBytes = odd_json_byte

-- a text, byte by byte
abbrev pub escaped : Escaping → List ℕ → List ℕ
escaped how text = flat_map (byte_text how) text

-- csv: a comma, a quotation mark or the end of a line has the field be between quotation marks
abbrev pub is_mark : ℕ → Bool
is_mark b = (b == 44) || (b == 34) || ((b == 13) || (b == 10))

-- and so has a text that is empty: an empty field without them is ALL
abbrev pub needs_marks : List ℕ → Bool
needs_marks [] = true
needs_marks (first ∷ others) = list_any is_mark (first ∷ others)

abbrev pub csv_text : List ℕ → List ℕ
csv_text text = if needs_marks text then 34 ∷ (escaped Quoted text ++ 34 ∷ []) else text

abbrev pub tsv_text : List ℕ → List ℕ
tsv_text text = escaped Tabbed text

abbrev pub json_text : List ℕ → List ℕ
json_text text = 34 ∷ (escaped (if is_utf8 text then Json else JsonBytes) text ++ 34 ∷ [])
