-- What the codes of rows that keep the rules are like.
use Rattle.std.proofs.Common.{◌≡◌, ◌<◌, ◌≤◌, ◌^◌, ◌∙◌, sym, ap, arith, ℕ, List, [], map, length, get_or, Option, Some}
use Rattle.std.proofs.Common.{None}
use Rattle.std.specs.List.{AllByRecursion, position_or_len}
use Rattle.std.specs.Str.{bytes_eq}
use Rattle.std.proofs.lemmas.List.{length-map, get_or-map}
use Rattle.cube_model.specs.declared.attr.Axis.{Axis}
use Rattle.cube_model.specs.declared.attr.Axis.TheVariants.{Customer, Supplier, Part, Date}
use Rattle.cube_model.specs.Limits.{longest_text, most_dimension_rows, most_members}
use Rattle.cube_model.specs.Validity.{members_of}
use Rattle.dictionary.specs.Dictionary.{firsts}
use Rattle.dictionary.specs.Spelling.{AreProper}
use Rattle.dictionary.specs.Columns.{codes_of}
use Rattle.dictionary.proofs.CallerLemmas.{EachOnce-firsts}
use Rattle.dimensions.specs.TextRows.{TextRow, text_in, column_of}
use Rattle.dimensions.specs.Shapes.{lowers_of, lower_of, row_limit_of}
use Rattle.dimensions.specs.Coded.{AreGoodRows, place_texts, text_next_to, texts_below, texts_at_places}
use Rattle.dimensions.specs.Columns.{code_at}
use Rattle.dimensions.proofs.ColumnLaws.{code_at-within}
use Rattle.dimensions.proofs.MemberLaws.{length-members}
use Rattle.dimensions.proofs.CodedTexts.{all_from_get}
use Rattle.dimensions.proofs.CodedRules.{all_texts, firsts_placed, one_column}
use Rattle.dimensions.proofs.DimensionCodes.{short_column, short_of}

row_limit-few : (axis : Axis) → row_limit_of axis ≤ most_dimension_rows
row_limit-few Customer = omega arith
row_limit-few Supplier = omega arith
row_limit-few Part = omega arith
row_limit-few Date = omega arith

-- how many places a column of some rows has
abbrev pub places_of_rows : Axis → List TextRow → Option ℕ → ℕ
places_of_rows axis rows None = length rows
places_of_rows axis rows (Some lower) = length (firsts (texts_at_places axis lower rows))

module _ (axis : Axis) (rows : List TextRow) (good : AreGoodRows axis rows) where
  pub few_good_rows : length rows ≤ most_dimension_rows
  few_good_rows = omega (arith, good.keep.few_rows, row_limit-few axis)

  module _ (i : ℕ) (lt : i < length (lowers_of axis)) where
    few_texts : length (firsts (texts_at_places axis i rows)) ≤ most_members
    few_texts =
        let members = one_column (λ text. length (members_of (map text rows)) ≤ most_members) (lowers_of axis) i lt
        good.keep.few_members in
        omega (arith, members, length-members (column_of i rows), ap length (firsts_placed axis rows good.keep i))

    pub good_texts : AreProper most_members (firsts (texts_at_places axis i rows))
    good_texts = record {
      each_once = EachOnce-firsts (texts_at_places axis i rows);
      short = short_of (firsts (texts_at_places axis i rows))
          (all_texts axis rows good.keep (λ text. length text ≤ longest_text) i (short_column i rows good.short));
      most = few_texts;
    }

    pub good_codes : AllByRecursion (λ code. code < 2 ^ 16) (codes_of (texts_at_places axis i rows))
    good_codes = all_from_get (λ code. code < 2 ^ 16) (codes_of (texts_at_places axis i rows)) 0 (λ k k_lt.
        let texts : List (List ℕ) = texts_at_places axis i rows in
        let k_texts : k < length (texts_at_places axis i rows) =
        omega (
          arith,
          k_lt,
          length-map (texts_at_places axis i rows)
              (λ text. position_or_len (bytes_eq text) (firsts (texts_at_places axis i rows))),
        ) in
        let at : get_or (codes_of (texts_at_places axis i rows)) k 0 ≡ code_at (texts_at_places axis i rows) k =
        get_or-map (λ text. position_or_len (bytes_eq text) (firsts texts)) texts k [] 0 k_texts in
        let within = code_at-within (texts_at_places axis i rows) k k_texts in
        omega (arith, at, within, few_texts))

    pub good_places : length (codes_of (texts_at_places axis i rows)) ≡ places_of_rows axis rows (lower_of axis i)
    good_places =
        length-map (texts_at_places axis i rows) _
        ∙ elim (lower_of axis i) as
        (λ o. length (place_texts (texts_below o rows) (column_of i rows)) ≡ places_of_rows axis rows o) [
          | None ↦ length-map rows (text_in i)
          | Some j ↦ length-map (firsts (column_of j rows)) (text_next_to (column_of j rows) (column_of i rows))
              ∙ ap length (sym (firsts_placed axis rows good.keep j))
        ]
