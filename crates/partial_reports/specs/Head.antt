-- The head of a partial report: of which parts of a whole it is, over which dimension rows, and the words of its query.
-- Our own.
use Rattle.std.specs.Prelude.{ℕ, ◌==◌, ◌&&◌, nat_lt, nat_le, Bool, true, false, if◌then◌else◌, Option, Some, None, List}
use Rattle.std.specs.Prelude.{[], ◌∷◌, ◌++◌, length, map, codes}
use Rattle.std.specs.Fmt.{decimal}
use Rattle.std.specs.List.{flat_map, list_all}
use Rattle.hex.specs.Hex.{encode_lower}
use Rattle.partial_reports.specs.declared.head.Head.{Head}
use Rattle.partial_reports.specs.declared.words.Word.{Word}
use Rattle.partial_reports.specs.declared.words.WordKind.{WordKind}
use Rattle.partial_reports.specs.declared.words.WordKind.TheVariants.{Q, Set, By, Agg, If}

-- how many parts a whole can have
abbrev pub most_parts : ℕ
most_parts = 1024

-- bytes of a word
abbrev pub longest_word : ℕ
longest_word = 8000

-- the words of a query as they were given
abbrev pub word_if_any : WordKind → Option (List ℕ) → List Word
word_if_any kind None = []
word_if_any kind (Some text) = record { kind = kind; text = text } ∷ []

abbrev pub words_given : (q set by agg : Option (List ℕ)) → (conditions : List (List ℕ)) → List Word
words_given q set by agg conditions =
    word_if_any Q q ++ (word_if_any Set set ++ (word_if_any By by ++ (word_if_any Agg agg
    ++ map (λ text. record { kind = If; text = text }) conditions)))

-- a word can be on a line of its own: it has no line feed (10), and is not too long
abbrev pub is_line_feed : ℕ → Bool
is_line_feed byte = byte == 10

abbrev pub is_short_word : Word → Bool
is_short_word word =
    nat_le (length word.text) longest_word && list_all (λ byte. if is_line_feed byte then false else true) word.text

-- numbers ascend from above one number up to another
abbrev pub ascend_between : ℕ → ℕ → List ℕ → Bool
ascend_between low high [] = true
ascend_between low high (number ∷ numbers) =
    nat_lt low number && (nat_le number high && ascend_between number high numbers)

-- numbers are those of some parts of a whole, in ascending order
abbrev pub are_parts : ℕ → List ℕ → Bool
are_parts parts numbers = nat_le parts most_parts && (nat_lt 0 (length numbers) && ascend_between 0 parts numbers)

-- a head names some parts of a whole, and each of its words can be on a line
abbrev pub is_proper : Head → Bool
is_proper head = are_parts head.parts head.numbers && list_all is_short_word head.words

-- the head of one part, with the words as they were given
abbrev pub head_of : ℕ → ℕ → List Word → Head
head_of number parts words = record { numbers = number ∷ []; parts = parts; words = words }

-- the name of a kind of words, and a blank
abbrev pub kind_text : WordKind → List ℕ
kind_text Q = codes "q "
kind_text Set = codes "set "
kind_text By = codes "by "
kind_text Agg = codes "agg "
kind_text If = codes "if "

-- the kind whose name begins with a letter (113 is `q`, 115 is `s`, 98 is `b`, 97 is `a`), and conditions at any other
abbrev pub kind_by : ℕ → WordKind
kind_by letter = if letter == 113 then Q else if letter == 115 then Set else if letter == 98 then By else if letter ==
    97 then Agg else If

abbrev pub word_text : Word → List ℕ
word_text word = kind_text word.kind ++ (word.text ++ codes "\n")

-- numbers with commas between
abbrev pub after_comma : ℕ → List ℕ
after_comma number = codes "," ++ decimal number

abbrev pub numbers_text : List ℕ → List ℕ
numbers_text [] = []
numbers_text (number ∷ numbers) = decimal number ++ flat_map after_comma numbers

abbrev pub part_text : Head → List ℕ
part_text head = codes "part " ++ (numbers_text head.numbers ++ (codes "/" ++ (decimal head.parts ++ codes "\n")))

abbrev pub dimensions_text : List ℕ → List ℕ
dimensions_text digest = codes "dimensions " ++ (encode_lower digest ++ codes "\n")

-- the text of a head over dimensions of some digest: an empty line ends it
abbrev pub head_text : Head → List ℕ → List ℕ
head_text head digest =
    codes "ssbcube partial report 1\n"
    ++ (part_text head ++ (dimensions_text digest ++ (flat_map word_text head.words ++ codes "\n")))
