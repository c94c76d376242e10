-- The codes of a column of texts that is being coded, read back. Our own.
use Rattle.std.proofs.Common.{◌≡◌, ◌<◌, ◌∙◌, suc, sym, ap, refl, subst, arith, ℕ, List, [], ◌∷◌, All, map, length}
use Rattle.std.proofs.Common.{take, drop, get_or, length-append}
use Rattle.std.specs.Int.{from_le_bytes, w16}
use Rattle.std.specs.List.{flat_map}
use Rattle.std.proofs.lemmas.List.{drop_at, take_at}
use Rattle.std.proofs.lemmas.List.Elements.{All-from_recursion}
use Rattle.wire.specs.Spelling.{spelling}
use Rattle.wire.proofs.CallerLemmas.{length-spelling}
use Rattle.dictionary.specs.Dictionary.{Texts, firsts}
use Rattle.dictionary.specs.Columns.{codes_of, text_of_code}
use Rattle.dictionary.proofs.ColumnLaws.{AreCodes-below, column_has_codes}
use Rattle.column_segment.specs.Coding.{AreCoded, AreCodesOf}
use Rattle.column_segment.proofs.Passes.{codes_back, weaker}

-- chunks of two bytes that are the spelling of codes are those of each code
chunks_are : (chunks : List (List ℕ)) (codes : List ℕ)
    → ((i : ℕ) → i < length chunks → length (get_or chunks i []) ≡ 2)
    → flat_map (λ chunk. chunk) chunks ≡ flat_map (spelling 2) codes → chunks ≡ map (spelling 2) codes
chunks_are [] [] long same = refl
chunks_are [] (code ∷ codes) long same =
    absurd (omega (
      arith,
      ap length same,
      length-append (spelling 2 code) (flat_map (spelling 2) codes),
      length-spelling 2 code,
    ))
chunks_are (chunk ∷ chunks) [] long same =
    absurd (omega (
      arith,
      ap length same,
      length-append chunk (flat_map (λ (c : List ℕ). c) chunks),
      long 0 (omega arith),
    ))
chunks_are (chunk ∷ chunks) (code ∷ codes) long same =
    let one : length chunk ≡ 2 = long 0 (omega arith) in
    let head : chunk ≡ spelling 2 code = sym (take_at chunk (flat_map (λ (c : List ℕ). c) chunks) 2 one)
    ∙ ap (take 2) same ∙ take_at (spelling 2 code) (flat_map (spelling 2) codes) 2 (length-spelling 2 code) in
    let left : flat_map (λ (c : List ℕ). c) chunks ≡ flat_map (spelling 2) codes =
    sym (drop_at chunk (flat_map (λ (c : List ℕ). c) chunks) 2 one) ∙ ap (drop 2) same
    ∙ drop_at (spelling 2 code) (flat_map (spelling 2) codes) 2 (length-spelling 2 code) in
    let tail = chunks_are chunks codes (λ i lt. long (suc i) (omega (arith, lt))) left in
    λ i. head i ∷ tail i

-- the codes of a column are its texts
pub codes_read : (column : List (List ℕ)) (texts : Texts) (chunks : List (List ℕ))
    → ((i : ℕ) → i < length chunks → length (get_or chunks i []) ≡ 2)
    → AreCoded column texts (flat_map (λ code. code) chunks) → AreCodesOf column texts.texts chunks
codes_read column texts chunks long are =
    let laws = column_has_codes column in
    let below = AreCodes-below (length (firsts column)) (codes_of column) laws.0 in
    let least = weaker (length (firsts column)) (codes_of column)
    (omega (arith, are.few, ap length are.texts_are)) below in
    let read : map (from_le_bytes w16) chunks ≡ codes_of column =
    ap (map (from_le_bytes w16)) (chunks_are chunks (codes_of column) long are.codes_are)
    ∙ codes_back (codes_of column) least in
    record {
      texts = (λ i. map (text_of_code (are.texts_are i)) (read i)) ∙ laws.1;
      below = subst (All (λ (code : ℕ). code < length texts.texts)) (sym read)
          (subst (λ (t : List (List ℕ)). All (λ (code : ℕ). code < length t) (codes_of column)) (sym are.texts_are)
          (All-from_recursion (λ (code : ℕ). code < length (firsts column)) (codes_of column) below));
    }
