-- The words of views. The grammar is our own; the names are those of the levels.
use Rattle.std.specs.Prelude.{◌≡◌, ◌⊎◌, ◌<◌, ◌==◌, ℕ, false, List, [], ◌∷◌, ◌++◌, length, slice_index_or}
use Rattle.std.specs.List.{AllPairs, AllZip, slice_split}
use Rattle.std.specs.Str.Parse.{IsNumeral, digits_value}
use Rattle.cube_model.specs.declared.attr.Axis.TheVariants.{Customer, Supplier, Part, Date}
use Rattle.lattice.specs.declared.view.View.{View}
use Rattle.lattice.specs.Levels.{level_name}
use Rattle.lattice.specs.Names.{mode_name}
use Rattle.lattice.specs.Views.{index_of}
use Rattle.query_words.specs.declared.view_refused.RefusedViews.{RefusedViews}
use Rattle.query_words.specs.declared.view_refused.RefusedViews.TheVariants.{Memory, TooMany, Unknown, Twice}

-- one digit or more, whose value is the number
pub record IsNumber (word : List ℕ) (number : ℕ) : Type 0 where
  pub digits : IsNumeral 10 word
  pub value : number ≡ digits_value 10 word

-- the names of the levels of a view on the four dimensions
abbrev pub level_names : View → List (List ℕ)
level_names view =
    level_name Customer view.customer ∷ level_name Supplier view.supplier ∷ level_name Part view.part
    ∷ level_name Date view.date ∷ []

-- parts name the levels of a view: these four and the name for ship mode, which may be left out where it is ALL
abbrev pub NameLevels : List (List ℕ) → View → Type 0
NameLevels parts view =
    (parts ≡ level_names view ++ mode_name view.ship_mode ∷ [])
    ⊎ ((view.ship_mode ≡ false) × (parts ≡ level_names view))

-- the parts of a word between commas (44)
abbrev pub comma_parts : List ℕ → List (List ℕ)
comma_parts word = slice_split (λ byte. byte == 44) word

-- a word names a view: by its number, or by the names of its levels, separated by commas
abbrev pub Names : List ℕ → View → Type 0
Names word view = IsNumber word (index_of view) ⊎ NameLevels (comma_parts word) view

-- words name views one by one, and each view once
pub record ViewsAreNamed (words : List (List ℕ)) (views : List View) : Type 0 where
  pub named : AllZip Names words views
  pub distinct : AllPairs (λ one other. one ≡ other → ⊥) views

-- the word at a place names no view
pub record IsUnknownAt (words : List (List ℕ)) (place : ℕ) : Type 0 where
  pub within : place < length words
  pub nameless : (view : View) → Names (slice_index_or words place []) view → ⊥

-- the word at a place names a view that a word before it names
pub record IsTwiceAt (words : List (List ℕ)) (place : ℕ) : Type 0 where
  pub within : place < length words
  pub before : ℕ
  pub order : before < place
  pub view : View
  pub named : Names (slice_index_or words place []) view
  pub earlier : Names (slice_index_or words before []) view

-- why words are refused
abbrev pub RefusesWords : List (List ℕ) → RefusedViews → Type 0
RefusesWords words Memory = Unit {0}
RefusesWords words TooMany = 16 < length words
RefusesWords words (Unknown place) = IsUnknownAt words place
RefusesWords words (Twice place) = IsTwiceAt words place
