-- What the bytes of ship modes determine, and how many there are, for the proofs of other crates too.
use Rattle.std.proofs.Common.{◌≡◌, ℕ, ◌*◌, ◌≤◌, List, [], ◌∷◌, codes, length, sym, ◌∙◌, arith, length-append}
use Rattle.std.specs.List.{flat_map}
use Rattle.std.proofs.lemmas.List.{append_cancel_left, append-nil}
use Rattle.std.proofs.lemmas.List.Elements.{All-head, All-tail}
use Rattle.cube_model.specs.Limits.{longest_text, most_members}
use Rattle.wire.specs.Limits.{most_object_bytes}
use Rattle.wire.specs.Spelling.{spelling}
use Rattle.wire.proofs.CallerLemmas.{length-spelling}
use Rattle.dictionary.specs.Spelling.{AreShort, text_spelling, texts_spelling}
use Rattle.dictionary.proofs.ColumnLaws.{texts_spelling-one}
use Rattle.warehouse_root.specs.Modes.{AreModes, SpellModes, modes_spelling}

-- bytes are one list of ship modes at most
pub SpellModes-one : (bytes : List ℕ) (a b : List (List ℕ)) → SpellModes bytes a → SpellModes bytes b → a ≡ b
SpellModes-one bytes a b one other =
    let same : texts_spelling a ≡ texts_spelling b =
    append_cancel_left (codes "SHP2") (texts_spelling a) (texts_spelling b) (sym one.spelled ∙ other.spelled) in
    (texts_spelling-one most_members a b [] [] (omega arith) one.are.proper other.are.proper
    (append-nil (texts_spelling a) ∙ same ∙ sym (append-nil (texts_spelling b)))).0

-- the texts one after another have at most so many bytes
pub each_text_most : (texts : List (List ℕ)) → AreShort texts
    → length (flat_map text_spelling texts) ≤ 256 * length texts
each_text_most [] short = omega arith
each_text_most (text ∷ texts) short =
    let here = All-head (λ t. length t ≤ longest_text) text texts short in
    let rest : length (flat_map text_spelling texts) ≤ 256 * length texts =
    each_text_most texts (All-tail (λ t. length t ≤ longest_text) text texts short) in
    omega (
      arith,
      length-append (text_spelling text) (flat_map text_spelling texts),
      length-append (spelling 1 (length text)) text,
      length-spelling 1 (length text),
      here,
      rest,
    )

-- the object has a byte at least
pub modes_spelling-least : (modes : List (List ℕ)) → 1 ≤ length (modes_spelling modes)
modes_spelling-least modes = omega (arith, length-append (codes "SHP2") (texts_spelling modes))

-- the object has no more bytes than a store takes
pub modes_spelling-most : (modes : List (List ℕ)) → AreModes modes → length (modes_spelling modes) ≤ most_object_bytes
modes_spelling-most modes are =
    omega (
      arith,
      length-append (codes "SHP2") (texts_spelling modes),
      length-append (spelling 4 (length modes)) (flat_map text_spelling modes),
      length-spelling 4 (length modes),
      each_text_most modes are.proper.short,
      are.proper.most,
    )
