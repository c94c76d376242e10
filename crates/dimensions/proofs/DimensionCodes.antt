-- The texts and the codes that the columns of a dimension have, by the rows.
use Rattle.std.proofs.Common.{◌≡◌, ◌<◌, ◌≤◌, ◌∙◌, zero, suc, sym, ap, refl, subst, arith, ℕ, true, List, [], ◌∷◌, map}
use Rattle.std.proofs.Common.{length, get_or, Some, None}
use Rattle.std.specs.List.{AllByRecursion, list_any, position_or_len}
use Rattle.std.specs.Option.{option_map}
use Rattle.std.specs.Str.{bytes_eq}
use Rattle.std.proofs.lemmas.List.{ext_get_or, length-map, get_or-map}
use Rattle.std.proofs.lemmas.List.Elements.{All-nil, All-cons}
use Rattle.cube_model.specs.declared.attr.Axis.{Axis}
use Rattle.cube_model.specs.Limits.{longest_text}
use Rattle.dictionary.specs.Dictionary.{firsts}
use Rattle.dictionary.specs.Spelling.{AreShort}
use Rattle.dictionary.specs.Columns.{codes_of, place_of}
use Rattle.dictionary.proofs.CallerLemmas.{bytes_eq-refl, list_any_here, list_any-firsts, place_within, text_at_place}
use Rattle.dictionary.proofs.CallerLemmas.{EachOnce-firsts}
use Rattle.dimensions.specs.declared.dimension.Dimension.{Dimension}
use Rattle.dimensions.specs.TextRows.{TextRow, text_in, column_of}
use Rattle.dimensions.specs.Shapes.{lowers_of, lower_of}
use Rattle.dimensions.specs.ShortTexts.{AreShortRows}
use Rattle.dimensions.specs.Columns.{code_at, IsColumn}
use Rattle.dimensions.specs.Coded.{place_texts, texts_below, texts_at_places}
use Rattle.dimensions.specs.Dimensions.{column_at, lower_texts, StoresRows}
use Rattle.dimensions.proofs.ColumnLaws.{code_at-within, code_at-text}
use Rattle.dimensions.proofs.ShortLaws.{all_map}
use Rattle.dimensions.proofs.CodedTexts.{own_place, all_firsts, determined_map, firsts_at_places, place_image}

-- a text of a short row is short
short_text : (texts : List (List ℕ)) (i : ℕ) → AllByRecursion (λ text. length text ≤ longest_text) texts
    → length (get_or texts i []) ≤ longest_text
short_text [] i all = omega arith
short_text (text ∷ texts) zero all = all.0
short_text (text ∷ texts) (suc i) all = short_text texts i all.1

pub short_column : (i : ℕ) (rows : List TextRow) → AreShortRows rows
    → AllByRecursion (λ row. length (text_in i row) ≤ longest_text) rows
short_column i [] all = tt
short_column i (row ∷ rows) all = (short_text row.texts i all.0, short_column i rows all.1)

pub short_of : (texts : List (List ℕ)) → AllByRecursion (λ text. length text ≤ longest_text) texts → AreShort texts
short_of [] all = All-nil (λ text. length text ≤ longest_text)
short_of (text ∷ texts) all = All-cons (λ t. length t ≤ longest_text) text texts all.0 (short_of texts all.1)

module _ (axis : Axis) (rows : List TextRow) (dimension : Dimension) (is : StoresRows axis rows dimension) (i : ℕ)
    (lt : i < length (lowers_of axis)) where
  abbrev numbers : List ℕ
  numbers = (column_at dimension i).codes

  abbrev texts : List (List ℕ)
  texts = column_of i rows

  own : IsColumn texts (lower_texts axis i rows) (column_at dimension i)
  own = is.columns i lt

  above_rows : IsColumn texts None (column_at dimension i) → numbers ≡ codes_of texts
  above_rows column =
      ext_get_or 0 numbers (codes_of texts) (column.count ∙ sym (length-map texts (place_of (firsts texts)))) (λ k k_lt.
      let k_texts : k < length texts = omega (arith, k_lt, column.count) in
      column.reads k k_texts ∙ sym (get_or-map (place_of (firsts texts)) texts k [] 0 k_texts))

  module _ (j : ℕ) (column : IsColumn texts (Some (column_of j rows)) (column_at dimension i)) where
    abbrev lowers : List (List ℕ)
    lowers = column_of j rows

    -- the text above a lower one
    abbrev image : List ℕ → List ℕ
    image text = get_or (firsts texts) (get_or numbers (position_or_len (bytes_eq text) (firsts lowers)) 0) []

    image_is : texts ≡ map image lowers
    image_is = ext_get_or [] texts (map image lowers)
        (length-map rows (text_in i) ∙ sym (length-map lowers image ∙ length-map rows (text_in j))) (λ k k_lt.
        let k_lowers : k < length lowers =
        omega (arith, k_lt, length-map rows (text_in i), length-map rows (text_in j)) in
        sym (code_at-text texts k k_lt) ∙ ap (λ c. get_or (firsts texts) c []) (sym (column.reads k k_lt))
        ∙ sym (get_or-map image lowers k [] [] k_lowers))

    code_within : (p : ℕ) → p < length (firsts lowers) → get_or numbers p 0 < length (firsts texts)
    code_within p p_lt =
        let text : List ℕ = get_or (firsts lowers) p [] in
        let seen : list_any (bytes_eq text) lowers ≡ true = sym (list_any-firsts text lowers)
        ∙ list_any_here (bytes_eq text) (firsts lowers) p [] p_lt (bytes_eq-refl text) in
        let k : ℕ = position_or_len (bytes_eq text) lowers in
        let k_lt : position_or_len (bytes_eq text) lowers < length lowers = place_within (bytes_eq text) lowers seen in
        let k_texts : position_or_len (bytes_eq text) lowers < length texts =
        omega (arith, k_lt, length-map rows (text_in i), length-map rows (text_in j)) in
        let at : code_at lowers k ≡ p =
        ap (λ t. position_or_len (bytes_eq t) (firsts lowers)) (text_at_place lowers text k_lt)
        ∙ own_place (firsts lowers) p (EachOnce-firsts lowers) p_lt in
        let read : get_or numbers p 0 ≡ code_at texts k = ap (λ n. get_or numbers n 0) (sym at)
        ∙ column.reads k k_texts in
        let within = code_at-within texts k k_texts in
        omega (arith, read, within)

    above : (firsts (place_texts (Some lowers) texts) ≡ firsts texts)
        × (numbers ≡ codes_of (place_texts (Some lowers) texts))
    above =
        let images : place_texts (Some lowers) texts ≡ map image (firsts lowers) =
        place_image image lowers texts image_is in
        let same : firsts (place_texts (Some lowers) texts) ≡ firsts texts =
        firsts_at_places lowers texts (determined_map image lowers texts image_is) in
        let all : firsts (map image (firsts lowers)) ≡ firsts texts = ap firsts (sym images) ∙ same in
        let count : length (map image (firsts lowers)) ≡ length (firsts lowers) = length-map (firsts lowers) image in (
          same,
          ext_get_or 0 numbers (codes_of (map image (firsts lowers)))
              (column.count
              ∙ sym (length-map (map image (firsts lowers)) (place_of (firsts (map image (firsts lowers)))) ∙ count))
              (λ p p_lt.
              let p_first : p < length (firsts lowers) = omega (arith, p_lt, column.count) in
              sym (get_or-map (place_of (firsts (map image (firsts lowers)))) (map image (firsts lowers)) p [] 0
              (omega (arith, p_first, count))
              ∙ ap (λ l. position_or_len (bytes_eq (get_or (map image (firsts lowers)) p [])) l) all
              ∙ ap (λ t. position_or_len (bytes_eq t) (firsts texts)) (get_or-map image (firsts lowers) p [] [] p_first
              ∙ ap (λ n. get_or (firsts texts) (get_or numbers n 0) [])
              (own_place (firsts lowers) p (EachOnce-firsts lowers) p_first))
              ∙ own_place (firsts texts) (get_or numbers p 0) (EachOnce-firsts texts) (code_within p p_first)))
              ∙ ap codes_of (sym images),
        )

  both : (firsts (texts_at_places axis i rows) ≡ firsts texts) × (numbers ≡ codes_of (texts_at_places axis i rows))
  both = elim (lower_of axis i) as
      (λ o. IsColumn texts (option_map (λ lower. column_of lower rows) o) (column_at dimension i)
      → (firsts (place_texts (texts_below o rows) texts) ≡ firsts texts)
      × (numbers ≡ codes_of (place_texts (texts_below o rows) texts))) [
        | None ↦ λ column. (refl, above_rows column)
        | Some j ↦ λ column. above j column
      ] own

  pub column_texts : (column_at dimension i).texts.texts ≡ firsts (texts_at_places axis i rows)
  column_texts = own.texts_are ∙ sym both.0

  pub column_codes : (column_at dimension i).codes ≡ codes_of (texts_at_places axis i rows)
  column_codes = both.1

  pub column_short : AreShortRows rows → AreShort (column_at dimension i).texts.texts
  column_short short = subst AreShort (sym own.texts_are)
      (short_of (firsts texts)
      (all_firsts (λ text. length text ≤ longest_text) texts
      (all_map (λ text. length text ≤ longest_text) (text_in i) rows (short_column i rows short))))
