use Rattle.std.proofs.Common.{◌≡◌, ◌++◌, ◌∷◌, ℕ, List, true, length}
use Rattle.std.specs.List.{flat_map, list_all}
use Rattle.partial_reports.specs.declared.words.Word.{Word}
use Rattle.partial_reports.specs.Head.{is_short_word, word_text}
use Rattle.partial_reports.proofs.WordLines.{WordsLeft}
use Rattle.partial_reports.proofs.head_reading.parse_words.Given as goal

abbrev pub invariant-loop-taken : goal.invariant-loop-taken
invariant-loop-taken l =
    (words : List Word) (left : List ℕ) → list_all is_short_word words ≡ true
    → l.fn.lines.left.now ≡ flat_map word_text words ++ 10 ∷ left
    → WordsLeft words l.words l.lines.left.now left l._taken (length l.fn.lines.left.now)
