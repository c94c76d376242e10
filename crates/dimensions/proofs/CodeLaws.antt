-- What codes in the order of first use represent.
use Rattle.std.proofs.Common.{◌≡◌, ℕ, List, map, length}
use Rattle.dictionary.specs.Dictionary.{EachOnce, firsts}
use Rattle.dictionary.specs.Columns.{AreCodes, codes_of, text_of_code}
use Rattle.dictionary.proofs.ColumnLaws.{one_column, column_has_codes}

pub decoded : (texts : List (List ℕ)) (codes : List ℕ) → EachOnce texts → AreCodes (length texts) codes
    → (firsts (map (text_of_code texts) codes) ≡ texts) × (codes_of (map (text_of_code texts) codes) ≡ codes)
decoded = one_column

pub coded : (column : List (List ℕ)) → AreCodes (length (firsts column)) (codes_of column)
coded column = (column_has_codes column).0
