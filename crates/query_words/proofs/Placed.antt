-- Columns in the order of their names, and the attributes among them with the place of the ship mode.
use Rattle.std.proofs.Common.{◌≡◌, ◌≤◌, ℕ, zero, suc, ◌+◌, List, [], ◌∷◌, length, map, Option, None, Some, refl}
use Rattle.std.proofs.Common.{sym, ap, subst, ◌∙◌, arith}
use Rattle.std.specs.Prelude.{Contains, IfSome}
use Rattle.std.specs.List.{flat_map, insert, position, position_from}
use Rattle.std.specs.Option.{option_map}
use Rattle.std.proofs.lemmas.Iterator.Adapters.{position_from-zero}
use Rattle.std.proofs.lemmas.List.{length-map}
use Rattle.std.proofs.lemmas.List.Edits.{length-insert}
use Rattle.cube_model.specs.declared.attr.Attr.{Attr}
use Rattle.cube_model.specs.Names.{attr_name}
use Rattle.cube_model.specs.Proper.{IsFreeOfRepeats}
use Rattle.mode_queries.specs.Names.{names_with, ship_mode_name}
use Rattle.query_words.specs.declared.known.Column.{Column}
use Rattle.query_words.specs.declared.known.Column.TheVariants.{Attribute, ShipMode}
use Rattle.query_words.specs.Known.{column_name}
use Rattle.query_words.specs.Limits.{AreDistinct}
use Rattle.query_words.specs.Parts.{attribute_in, is_ship_mode}
use Rattle.query_words.proofs.Limited.{further, here}

abbrev pub of_attributes : List Attr → List Column
of_attributes columns = map (λ attr. Attribute attr) columns

abbrev pub attributes_in : List Column → List Attr
attributes_in columns = flat_map attribute_in columns

-- columns with the ship mode at its place, if it is one of them
abbrev pub columns_with : List Attr → Option ℕ → List Column
columns_with columns None = of_attributes columns
columns_with columns (Some place) = insert (of_attributes columns) place ShipMode

-- ---- their names
names_of : (columns : List Attr) → map column_name (of_attributes columns) ≡ map attr_name columns
names_of [] = refl
names_of (column ∷ columns) = ap (λ (rest : List (List ℕ)). attr_name column ∷ rest) (names_of columns)

names_inserted : (columns : List Attr) (place : ℕ)
    → map column_name (insert (of_attributes columns) place ShipMode)
    ≡ insert (map attr_name columns) place ship_mode_name
names_inserted columns zero = ap (λ (rest : List (List ℕ)). ship_mode_name ∷ rest) (names_of columns)
names_inserted [] (suc place) = refl
names_inserted (column ∷ columns) (suc place) =
    ap (λ (rest : List (List ℕ)). attr_name column ∷ rest) (names_inserted columns place)

pub named_with : (columns : List Attr) (place : Option ℕ)
    → map column_name (columns_with columns place) ≡ names_with columns place
named_with columns None = names_of columns
named_with columns (Some place) = names_inserted columns place

-- ---- the attributes among them
attributes_all : (columns : List Attr) → attributes_in (of_attributes columns) ≡ columns
attributes_all [] = refl
attributes_all (column ∷ columns) = ap (λ (rest : List Attr). column ∷ rest) (attributes_all columns)

attributes_inserted : (columns : List Attr) (place : ℕ)
    → attributes_in (insert (of_attributes columns) place ShipMode) ≡ columns
attributes_inserted columns zero = attributes_all columns
attributes_inserted [] (suc place) = refl
attributes_inserted (column ∷ columns) (suc place) =
    ap (λ (rest : List Attr). column ∷ rest) (attributes_inserted columns place)

pub attributes_back : (columns : List Attr) (place : Option ℕ) → attributes_in (columns_with columns place) ≡ columns
attributes_back columns None = attributes_all columns
attributes_back columns (Some place) = attributes_inserted columns place

-- ---- the place of the ship mode
place_of : List Column → Option ℕ
place_of [] = None
place_of (Attribute attr ∷ columns) = option_map (λ place. suc place) (place_of columns)
place_of (ShipMode ∷ columns) = Some 0

raise : (i : ℕ) (place : Option ℕ) → option_map (λ k. suc i + k) place
    ≡ option_map (λ k. i + k) (option_map (λ k. suc k) place)
raise i None = refl
raise i (Some place) = ap (λ (k : ℕ). Some k) (omega arith)

place_from : (columns : List Column) (i : ℕ)
    → position_from is_ship_mode i columns ≡ option_map (λ k. i + k) (place_of columns)
unfolding place_of
place_from [] i = refl
place_from (Attribute attr ∷ columns) i =
    ap (λ (j : ℕ). position_from is_ship_mode j columns) (omega arith) ∙ place_from columns (suc i)
    ∙ raise i (place_of columns)
place_from (ShipMode ∷ columns) i = ap (λ (k : ℕ). Some k) (omega arith)

same_place : (place : Option ℕ) → option_map (λ k. 0 + k) place ≡ place
same_place None = refl
same_place (Some place) = ap (λ (k : ℕ). Some k) (omega arith)

place_is : (columns : List Column) → position is_ship_mode columns ≡ place_of columns
place_is columns = position_from-zero is_ship_mode columns ∙ place_from columns 0 ∙ same_place (place_of columns)

place_none : (columns : List Attr) → place_of (of_attributes columns) ≡ None
unfolding place_of
place_none [] = refl
place_none (column ∷ columns) = ap (option_map (λ k. suc k)) (place_none columns)

place_inserted : (columns : List Attr) (place : ℕ) → place ≤ length columns
    → place_of (insert (of_attributes columns) place ShipMode) ≡ Some place
unfolding place_of
place_inserted columns zero below = refl
place_inserted [] (suc place) below = absurd (omega arith)
place_inserted (column ∷ columns) (suc place) below =
    ap (option_map (λ k. suc k)) (place_inserted columns place (omega arith))

pub place_back : (columns : List Attr) (place : Option ℕ) → IfSome place (λ place. place ≤ length columns)
    → position is_ship_mode (columns_with columns place) ≡ place
place_back columns None within = place_is (of_attributes columns) ∙ place_none columns
place_back columns (Some place) within =
    place_is (insert (of_attributes columns) place ShipMode) ∙ place_inserted columns place within

-- ---- columns of which none occurs twice are their attributes with the ship mode at its place
no_modes : (columns : List Column) → (Contains columns ShipMode → ⊥) → of_attributes (attributes_in columns) ≡ columns
no_modes [] none = refl
no_modes (Attribute attr ∷ columns) none =
    ap (λ (rest : List Column). Attribute attr ∷ rest)
    (no_modes columns (λ has. none (further (Attribute attr) ShipMode columns has)))
no_modes (ShipMode ∷ columns) none = absurd (none (here ShipMode columns))

one_more : (attr : Attr) (columns : List Attr) (place : Option ℕ)
    → columns_with (attr ∷ columns) (option_map (λ k. suc k) place) ≡ Attribute attr ∷ columns_with columns place
one_more attr columns None = refl
one_more attr columns (Some place) = refl

whole_of : (columns : List Column) → AreDistinct columns
    → columns_with (attributes_in columns) (place_of columns) ≡ columns
unfolding place_of
whole_of [] distinct = refl
whole_of (Attribute attr ∷ columns) distinct =
    one_more attr (attributes_in columns) (place_of columns)
    ∙ ap (λ (rest : List Column). Attribute attr ∷ rest) (whole_of columns distinct.1)
whole_of (ShipMode ∷ columns) distinct = ap (λ (rest : List Column). ShipMode ∷ rest) (no_modes columns distinct.0)

raised : (place : Option ℕ) (n : ℕ) → IfSome place (λ k. k ≤ n)
    → IfSome (option_map (λ k. suc k) place) (λ k. k ≤ suc n)
raised None n within = tt
raised (Some place) n within = omega (arith, within)

within_of : (columns : List Column) → IfSome (place_of columns) (λ place. place ≤ length (attributes_in columns))
unfolding place_of
within_of [] = tt
within_of (Attribute attr ∷ columns) = raised (place_of columns) (length (attributes_in columns)) (within_of columns)
within_of (ShipMode ∷ columns) = omega arith

pub whole : (columns : List Column) → AreDistinct columns
    → columns_with (attributes_in columns) (position is_ship_mode columns) ≡ columns
whole columns distinct = ap (columns_with (attributes_in columns)) (place_is columns) ∙ whole_of columns distinct

pub at_place : (columns : List Column)
    → IfSome (position is_ship_mode columns) (λ place. place ≤ length (attributes_in columns))
at_place columns =
    subst (λ (at : Option ℕ). IfSome at (λ place. place ≤ length (attributes_in columns))) (sym (place_is columns))
    (within_of columns)

-- ---- how many there are
pub record AreCounted (columns : List Attr) (place : Option ℕ) (count : ℕ) : Type 0 where
  pub few : length columns ≤ count
  pub fewer : IfSome place (λ place. length columns + 1 ≤ count)

pub counted : (columns : List Attr) (place : Option ℕ) → IfSome place (λ place. place ≤ length columns)
    → AreCounted columns place (length (columns_with columns place))
counted columns None below =
    let long = length-map columns (λ attr. Attribute attr) in
    record { few = omega (arith, long); fewer = tt }
counted columns (Some place) below =
    let long = length-map columns (λ attr. Attribute attr) in
    let more = length-insert (of_attributes columns) place ShipMode (omega (arith, long, below)) in
    record { few = omega (arith, long, more); fewer = omega (arith, long, more) }

pub at_most : (columns : List Attr) (place : Option ℕ) (most : ℕ) → IfSome place (λ place. place ≤ length columns)
    → length columns ≤ most → IfSome place (λ place. length columns + 1 ≤ most)
    → length (columns_with columns place) ≤ most
at_most columns None most below few fewer =
    let long = length-map columns (λ attr. Attribute attr) in omega (arith, long, few)
at_most columns (Some place) most below few fewer =
    let long = length-map columns (λ attr. Attribute attr) in
    let more = length-insert (of_attributes columns) place ShipMode (omega (arith, long, below)) in
    omega (arith, long, more, fewer)

-- ---- none of them occurs twice where no attribute does
has_column : (columns : List Column) (attr : Attr) → Contains (attributes_in columns) attr
    → Contains columns (Attribute attr)
has_column [] attr (k, below, is) = absurd (omega arith)
has_column (Attribute other ∷ columns) attr (zero, below, is) = (0, omega arith, ap (λ (a : Attr). Attribute a) is)
has_column (Attribute other ∷ columns) attr (suc k, below, is) =
    further (Attribute other) (Attribute attr) columns (has_column columns attr (k, omega arith, is))
has_column (ShipMode ∷ columns) attr has = further ShipMode (Attribute attr) columns (has_column columns attr has)

has_attribute : (columns : List Column) (attr : Attr) → Contains columns (Attribute attr)
    → Contains (attributes_in columns) attr
has_attribute [] attr (k, below, is) = absurd (omega arith)
has_attribute (Attribute other ∷ columns) attr (zero, below, is) =
    let same : Attribute other ≡ Attribute attr = is in
    let one : other ≡ attr = cc in
    (0, omega arith, one)
has_attribute (Attribute other ∷ columns) attr (suc k, below, is) =
    further other attr (attributes_in columns) (has_attribute columns attr (k, omega arith, is))
has_attribute (ShipMode ∷ columns) attr (zero, below, is) =
    let same : ShipMode ≡ Attribute attr = is in
    absurd (cc)
has_attribute (ShipMode ∷ columns) attr (suc k, below, is) = has_attribute columns attr (k, omega arith, is)

pub free_attributes : (columns : List Column) → AreDistinct columns → IsFreeOfRepeats (attributes_in columns)
free_attributes [] distinct = tt
free_attributes (Attribute attr ∷ columns) distinct =
    (λ has. distinct.0 (has_column columns attr has), free_attributes columns distinct.1)
free_attributes (ShipMode ∷ columns) distinct = free_attributes columns distinct.1

no_mode_in : (columns : List Attr) → Contains (of_attributes columns) ShipMode → ⊥
no_mode_in [] (k, below, is) = absurd (omega arith)
no_mode_in (column ∷ columns) (zero, below, is) =
    let same : Attribute column ≡ ShipMode = is in
    cc
no_mode_in (column ∷ columns) (suc k, below, is) = no_mode_in columns (k, omega arith, is)

distinct_all : (columns : List Attr) → IsFreeOfRepeats columns → AreDistinct (of_attributes columns)
distinct_all [] free = tt
distinct_all (column ∷ columns) free = (
  λ has. free.0 (subst (λ (all : List Attr). Contains all column) (attributes_all columns)
      (has_attribute (of_attributes columns) column has)),
  distinct_all columns free.1,
)

distinct_inserted : (columns : List Attr) (place : ℕ) → IsFreeOfRepeats columns
    → AreDistinct (insert (of_attributes columns) place ShipMode)
distinct_inserted columns zero free = (no_mode_in columns, distinct_all columns free)
distinct_inserted [] (suc place) free = (λ (k, below, is). absurd (omega arith), tt)
distinct_inserted (column ∷ columns) (suc place) free = (
  λ has. free.0 (subst (λ (all : List Attr). Contains all column) (attributes_inserted columns place)
      (has_attribute (insert (of_attributes columns) place ShipMode) column has)),
  distinct_inserted columns place free.1,
)

pub distinct_with : (columns : List Attr) (place : Option ℕ) → IsFreeOfRepeats columns
    → AreDistinct (columns_with columns place)
distinct_with columns None free = distinct_all columns free
distinct_with columns (Some place) free = distinct_inserted columns place free
