-- What is read, and what is refused, in other words.
use Rattle.std.proofs.Common.{◌≡◌, ◌≢◌, ◌⊎◌, inl, inr, ℕ, ◌<◌, ◌++◌, ◌∷◌, cond, Bor, List, [], map, length, get_or}
use Rattle.std.proofs.Common.{Result, Ok, Err, codes, refl, sym, ap, subst, ◌∙◌, arith}
use Rattle.std.specs.Prelude.{Contains, MatchOption, Option, None, Some}
use Rattle.std.specs.List.{AllZip}
use Rattle.std.specs.Str.{bytes_eq}
use Rattle.std.proofs.lemmas.List.{append_cancel_right, get_or-map, length-map}
use Rattle.cube_model.specs.declared.attr.Attr.{Attr}
use Rattle.cube_model.specs.declared.attr.Attr.TheVariants.{CustomerCity, CustomerNation, CustomerRegion, SupplierCity}
use Rattle.cube_model.specs.declared.attr.Attr.TheVariants.{SupplierNation, SupplierRegion, PartBrand1, PartCategory}
use Rattle.cube_model.specs.declared.attr.Attr.TheVariants.{PartMfgr, DateKey, DateYearmonthnum, DateYear}
use Rattle.cube_model.specs.declared.attr.Attr.TheVariants.{DateYearmonth, DateWeeknuminyear}
use Rattle.cube_model.specs.declared.measure.Agg.{Agg}
use Rattle.cube_model.specs.declared.measure.Measure.{Measure}
use Rattle.cube_model.specs.Names.{attr_name, measure_name}
use Rattle.query_words.specs.declared.known.Column.{Column}
use Rattle.query_words.specs.declared.known.Column.TheVariants.{Attribute, ShipMode}
use Rattle.query_words.specs.declared.known.Subject.{Subject}
use Rattle.query_words.specs.declared.known.Subject.TheVariants.{Member, Quantity, Discount}
use Rattle.query_words.specs.declared.known.Taken.{Taken}
use Rattle.query_words.specs.declared.known.Taken.TheVariants.{Sum, Min, Max, Avg}
use Rattle.query_words.specs.declared.refused.Mistake.TheVariants.{NotClosed}
use Rattle.query_words.specs.declared.refused.Refused.{Refused}
use Rattle.query_words.specs.declared.refused.Refused.TheVariants.{Memory, Wrong}
use Rattle.query_words.specs.Cuts.{IsCut}
use Rattle.query_words.specs.Known.{agg_of, column_name, subject_name, taken_name}
use Rattle.query_words.specs.Mistakes.{IsAggregateMistake, IsAggregatesMistake, IsMeasureMistake, IsMistakeAmong}
use Rattle.query_words.specs.Reading.{Finds, Reads}
use Rattle.query_words.specs.Words.{SpellsAggregate, parts_by}
use Rattle.query_words.proofs.Shapes.{spells_brackets, taken_in}

-- the same values, and mistakes that mean the same or less
pub reads_as : {A : Type 0} (One Other : A → Type 0) (M N : Refused → Type 0) (result : Result A Refused)
    → ((value : A) → One value
    → Other value) → ((value : A) → Other value → One value) → ((refused : Refused) → M refused → N refused)
    → Reads One M result
    → Reads Other N result
reads_as One Other M N (Ok value) to from means read = to value read
reads_as One Other M N (Err refused) to from means (inl memory) = inl memory
reads_as One Other M N (Err refused) to from means (inr read) =
    inr (means refused read.0, λ value other. read.1 value (from value other))

-- the text at a place is one of the texts
pub has_text : {X : Type 0} (text : X → List ℕ) (parts : List X) (i : ℕ) (d : X) → i < length parts
    → Contains (map text parts) (text
    (get_or parts i d))
has_text text parts i d below = let long : length (map text parts) ≡ length parts = length-map parts text in
    (i, omega arith, get_or-map text parts i d (text (get_or parts i d)) below)

-- what is taken has one name
taken_back_of : List ℕ → Taken
taken_back_of text = cond (bytes_eq text (codes "sum")) Sum (cond (bytes_eq text (codes "min")) Min (cond (bytes_eq text
    (codes "max")) Max Avg))

taken_back : (taken : Taken) → taken_back_of (taken_name taken) ≡ taken
unfolding taken_back_of
taken_back Sum = refl
taken_back Min = refl
taken_back Max = refl
taken_back Avg = refl

pub taken_once : (one other : Taken) → taken_name one ≡ taken_name other → one ≡ other
taken_once one other same = sym (taken_back one) ∙ ap taken_back_of same ∙ taken_back other

-- the sign is a bracket where it is no colon
bracket : (sign : ℕ) → (sign ≡ 58) ⊎ (sign ≡ 40) → sign ≢ 58 → sign ≡ 40
bracket sign (inl is) unequal = absurd (unequal is)
bracket sign (inr is) unequal = is

at_bracket : (word name : List ℕ) (sign : ℕ) (rest : List ℕ) → IsCut 58 40 word name sign rest → sign ≢ 58
    → IsCut 58 40 word name 40 rest
at_bracket word name sign rest cut unequal =
    subst (λ (mark : ℕ). IsCut 58 40 word name mark rest) (bracket sign cut.is_sign unequal) cut

-- an aggregate whose bracket is not closed
its_end : (sign : ℕ) (rest : List ℕ) (measure : Measure) → ((sign ≡ 58) × (rest ≡ measure_name measure))
    ⊎ ((sign ≡ 40) ×
    (rest ≡ measure_name measure ++ 41 ∷ [])) → sign ≢ 58 → rest ≡ measure_name measure ++ 41 ∷ []
its_end sign rest measure (inl w) unequal = absurd (unequal w.0)
its_end sign rest measure (inr w) unequal = w.1

pub not_closed : (word : Bor (List ℕ)) (name : List ℕ) (sign : ℕ) (rest : List ℕ) (refused : Refused)
    → IsCut 58 40 word.now name sign rest → sign ≢ 58 → ((measure : List ℕ) → rest ≢ measure ++ 41 ∷ [])
    → refused ≡ Wrong word NotClosed
    → (refused ≡ Memory) ⊎ (IsAggregateMistake word.now refused × ((agg : Agg) → SpellsAggregate word.now agg → ⊥))
not_closed word name sign rest refused cut unequal open_end is =
    subst (λ (r : Refused). (r ≡ Memory) ⊎ (IsAggregateMistake word.now r ×
    ((agg : Agg) → SpellsAggregate word.now agg → ⊥))) (sym is) (inr (
      inl (refl, (name, rest, at_bracket word.now name sign rest cut unequal, open_end)),
      λ agg spelled. let parts = taken_in word.now name sign rest agg cut spelled in
          open_end (measure_name parts.measure)
          (its_end sign rest parts.measure parts.which unequal),
    ))

-- an aggregate of the measure between brackets
pub reads_brackets : (word name : List ℕ) (sign : ℕ) (rest : List ℕ) (taken : Taken) (measure : List ℕ)
    (result : Result Agg Refused)
    → IsCut 58 40 word name sign rest → name ≡ taken_name taken → sign ≢ 58 → rest ≡ measure ++ 41 ∷ []
    → Reads (λ agg. (one : Measure) × (agg ≡ agg_of taken one) × (measure ≡ measure_name one))
    (IsMeasureMistake word measure) result
    → Reads (SpellsAggregate word) (IsAggregateMistake word) result
reads_brackets word name sign rest taken measure result cut named unequal ends read =
    let at = at_bracket word name sign rest cut unequal in
    let whole : word ≡ taken_name taken ++ 40 ∷ (measure ++ 41 ∷ []) = at.whole
    ∙ ap (λ (n : List ℕ). n ++ 40 ∷ rest) named ∙ ap (λ
    (r : List ℕ). taken_name taken ++ 40 ∷ r) ends in
    let cut_so : IsCut 58 40 word (taken_name taken) 40 (measure ++ 41 ∷ []) =
    subst (λ (n : List ℕ). IsCut 58 40 word n 40
    (measure ++ 41 ∷ [])) named (subst (λ (r : List ℕ). IsCut 58 40 word name 40 r) ends at) in
    reads_as (λ agg. (one : Measure) × (agg ≡ agg_of taken one) × (measure ≡ measure_name one)) (SpellsAggregate word)
    (IsMeasureMistake word measure) (IsAggregateMistake word) result
    (λ agg spelled. subst (SpellsAggregate word) (sym spelled.1) (spells_brackets word taken spelled.0 (whole ∙ ap (λ
    (m : List ℕ). taken_name taken ++ 40 ∷ (m ++ 41 ∷ [])) spelled.2)))
    (λ agg spelled.
    let parts = taken_in word name sign rest agg cut spelled in
    let same : parts.taken ≡ taken = taken_once parts.taken taken (sym parts.name_is ∙ named) in (
      parts.measure,
      parts.agg_is ∙ ap (λ (t : Taken). agg_of t parts.measure) same,
      append_cancel_right measure
          (measure_name parts.measure) (41 ∷ []) (sym ends ∙ its_end sign rest parts.measure parts.which unequal),
    ))
    (λ refused means. inr (measure, (taken, inr cut_so), means))
    read

-- an empty text spells no columns
named : (attr : Attr) → attr_name attr ≡ [] → ⊥
named attr = elim attr as (λ a. attr_name a ≡ [] → ⊥) [
  | CustomerCity ↦ λ e. cc
  | CustomerNation ↦ λ e. cc
  | CustomerRegion ↦ λ e. cc
  | SupplierCity ↦ λ e. cc
  | SupplierNation ↦ λ e. cc
  | SupplierRegion ↦ λ e. cc
  | PartBrand1 ↦ λ e. cc
  | PartCategory ↦ λ e. cc
  | PartMfgr ↦ λ e. cc
  | DateKey ↦ λ e. cc
  | DateYearmonthnum ↦ λ e. cc
  | DateYear ↦ λ e. cc
  | DateYearmonth ↦ λ e. cc
  | DateWeeknuminyear ↦ λ e. cc
]

named_column : (column : Column) → column_name column ≡ [] → ⊥
named_column (Attribute attr) e = named attr e
named_column ShipMode e = cc

no_names : (columns : List Column) → map column_name columns ≡ [] ∷ [] → ⊥
no_names [] e = cc
no_names (column ∷ columns) e = let first : column_name column ≡ [] = cc in named_column column first

pub empty : (text : List ℕ) → length text ≡ 0 → text ≡ []
empty [] e = refl
empty (byte ∷ text) e = absurd (omega arith)

pub no_columns : (text : List ℕ) → length text ≡ 0 → (columns : List Column)
    → map column_name columns ≡ parts_by 44 text → ⊥
no_columns [] e columns same = no_names columns same
no_columns (byte ∷ text) e columns same = absurd (omega arith)

-- aggregates of the parts of a text
pub reads_aggregates : (text : List ℕ) (parts : List (List ℕ)) (result : Result (List Agg) Refused)
    → parts ≡ parts_by 44 text → Reads
    (AllZip SpellsAggregate parts) (IsMistakeAmong IsAggregateMistake parts) result
    → Reads (AllZip SpellsAggregate (parts_by 44 text))
    (IsAggregatesMistake text) result
reads_aggregates text parts result same read =
    reads_as (AllZip SpellsAggregate (parts_by 44 text)) (AllZip SpellsAggregate (parts_by 44 text))
    (IsMistakeAmong IsAggregateMistake
    (parts_by 44 text)) (IsAggregatesMistake text) result
    (λ value one. one) (λ value one. one) (λ refused means. inr (inl means))
    (subst (λ (texts : List (List ℕ)). Reads (AllZip SpellsAggregate texts) (IsMistakeAmong IsAggregateMistake texts)
    result) same read)

-- a name of nothing that can be a column is that of a number, or of nothing
pub no_subject : (name : List ℕ) (found : Option Subject) → ((column : Column) → name ≡ column_name column → ⊥)
    → MatchOption found ((name ≢ subject_name Quantity) × (name ≢ subject_name Discount))
    (λ subject. name ≡ subject_name subject) → Finds (λ subject. name ≡ subject_name subject) found
no_subject name None none other = λ subject. none_of subject
  where
    none_of : (subject : Subject) → name ≡ subject_name subject → ⊥
    none_of (Member column) = none column
    none_of Quantity = other.0
    none_of Discount = other.1
no_subject name (Some subject) none other = other
