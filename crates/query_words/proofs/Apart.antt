-- Names and words that tell values apart.
use Rattle.std.proofs.Common.{◌≡◌, inl, inr, ℕ, cond, List, [], ◌∷◌, take, drop, map, codes, refl, sym, ap, ◌∙◌}
use Rattle.std.specs.List.{AllZip}
use Rattle.std.specs.Str.{bytes_eq}
use Rattle.cube_model.specs.declared.attr.Attr.{Attr}
use Rattle.cube_model.specs.declared.attr.Attr.TheVariants.{CustomerCity, CustomerNation, CustomerRegion, SupplierCity}
use Rattle.cube_model.specs.declared.attr.Attr.TheVariants.{SupplierNation, SupplierRegion, PartBrand1, PartCategory}
use Rattle.cube_model.specs.declared.attr.Attr.TheVariants.{PartMfgr, DateKey, DateYearmonthnum, DateYear}
use Rattle.cube_model.specs.declared.attr.Attr.TheVariants.{DateYearmonth, DateWeeknuminyear}
use Rattle.cube_model.specs.declared.measure.Agg.{Agg}
use Rattle.cube_model.specs.declared.measure.Agg.TheVariants.{Count, Sum, Min, Max, Avg}
use Rattle.cube_model.specs.declared.measure.Measure.{Measure}
use Rattle.cube_model.specs.declared.measure.Measure.TheVariants.{Quantity, ExtendedPrice, Revenue, SupplyCost}
use Rattle.cube_model.specs.declared.measure.Measure.TheVariants.{Discounted, Profit}
use Rattle.cube_model.specs.declared.query.Kind.{Kind}
use Rattle.cube_model.specs.declared.query.Kind.TheVariants.{Plain, Rollup, Cube}
use Rattle.cube_model.specs.Names.{attr_name, agg_name}
use Rattle.mode_queries.specs.Names.{ship_mode_name}
use Rattle.ssb_reports.specs.declared.number.QNumber.{QNumber}
use Rattle.ssb_reports.specs.declared.number.QNumber.TheVariants.{Q11, Q12, Q13, Q21, Q22, Q23, Q31, Q32, Q33, Q34, Q41}
use Rattle.ssb_reports.specs.declared.number.QNumber.TheVariants.{Q42, Q43}
use Rattle.ssb_reports.specs.Benchmark.{query_number_text}
use Rattle.query_words.specs.declared.known.Column.{Column}
use Rattle.query_words.specs.declared.known.Column.TheVariants.{Attribute, ShipMode}
use Rattle.query_words.specs.Known.{column_name}
use Rattle.mode_queries.specs.Names.{agg_word}
use Rattle.query_words.specs.Words.{SpellsAggregate, kind_name}

attr_of : List ℕ → Attr
attr_of text =
    cond (bytes_eq text (codes "c_city")) CustomerCity (
    cond (bytes_eq text (codes "c_nation")) CustomerNation (
    cond (bytes_eq text (codes "c_region")) CustomerRegion (
    cond (bytes_eq text (codes "s_city")) SupplierCity (
    cond (bytes_eq text (codes "s_nation")) SupplierNation (
    cond (bytes_eq text (codes "s_region")) SupplierRegion (
    cond (bytes_eq text (codes "p_brand1")) PartBrand1 (
    cond (bytes_eq text (codes "p_category")) PartCategory (
    cond (bytes_eq text (codes "p_mfgr")) PartMfgr (
    cond (bytes_eq text (codes "d_datekey")) DateKey (
    cond (bytes_eq text (codes "d_yearmonthnum")) DateYearmonthnum (
    cond (bytes_eq text (codes "d_year")) DateYear (
    cond (bytes_eq text (codes "d_yearmonth")) DateYearmonth (
    DateWeeknuminyear)))))))))))))

attr_back : (value : Attr) → attr_of (attr_name value) ≡ value
unfolding attr_of
attr_back value = elim value as (λ one. attr_of (attr_name one) ≡ one) [
  | CustomerCity ↦ refl
  | CustomerNation ↦ refl
  | CustomerRegion ↦ refl
  | SupplierCity ↦ refl
  | SupplierNation ↦ refl
  | SupplierRegion ↦ refl
  | PartBrand1 ↦ refl
  | PartCategory ↦ refl
  | PartMfgr ↦ refl
  | DateKey ↦ refl
  | DateYearmonthnum ↦ refl
  | DateYear ↦ refl
  | DateYearmonth ↦ refl
  | DateWeeknuminyear ↦ refl
]

pub attr_once : (one other : Attr) → attr_name one ≡ attr_name other → one ≡ other
attr_once one other same = sym (attr_back one) ∙ ap attr_of same ∙ attr_back other

column_of : List ℕ → Column
column_of text = cond (bytes_eq text (codes "lo_shipmode")) ShipMode (Attribute (attr_of text))

attribute_back : (value : Attr) → column_of (attr_name value) ≡ Attribute value
unfolding column_of attr_of
attribute_back value = elim value as (λ one. column_of (attr_name one) ≡ Attribute one) [
  | CustomerCity ↦ refl
  | CustomerNation ↦ refl
  | CustomerRegion ↦ refl
  | SupplierCity ↦ refl
  | SupplierNation ↦ refl
  | SupplierRegion ↦ refl
  | PartBrand1 ↦ refl
  | PartCategory ↦ refl
  | PartMfgr ↦ refl
  | DateKey ↦ refl
  | DateYearmonthnum ↦ refl
  | DateYear ↦ refl
  | DateYearmonth ↦ refl
  | DateWeeknuminyear ↦ refl
]

column_back : (value : Column) → column_of (column_name value) ≡ value
unfolding column_of
column_back (Attribute attr) = attribute_back attr
column_back ShipMode = refl

pub column_once : (one other : Column) → column_name one ≡ column_name other → one ≡ other
column_once one other same = sym (column_back one) ∙ ap column_of same ∙ column_back other

-- no attribute has the name of the ship mode
pub no_ship_mode : (attr : Attr) → attr_name attr ≡ ship_mode_name → ⊥
no_ship_mode attr same =
    let one : Attribute attr ≡ ShipMode = column_once (Attribute attr) ShipMode same in
    cc

number_of : List ℕ → QNumber
number_of text =
    cond (bytes_eq text (codes "1.1")) Q11 (
    cond (bytes_eq text (codes "1.2")) Q12 (
    cond (bytes_eq text (codes "1.3")) Q13 (
    cond (bytes_eq text (codes "2.1")) Q21 (
    cond (bytes_eq text (codes "2.2")) Q22 (
    cond (bytes_eq text (codes "2.3")) Q23 (
    cond (bytes_eq text (codes "3.1")) Q31 (
    cond (bytes_eq text (codes "3.2")) Q32 (
    cond (bytes_eq text (codes "3.3")) Q33 (
    cond (bytes_eq text (codes "3.4")) Q34 (
    cond (bytes_eq text (codes "4.1")) Q41 (
    cond (bytes_eq text (codes "4.2")) Q42 (
    Q43))))))))))))

number_back : (value : QNumber) → number_of (query_number_text value) ≡ value
unfolding number_of
number_back value = elim value as (λ one. number_of (query_number_text one) ≡ one) [
  | Q11 ↦ refl
  | Q12 ↦ refl
  | Q13 ↦ refl
  | Q21 ↦ refl
  | Q22 ↦ refl
  | Q23 ↦ refl
  | Q31 ↦ refl
  | Q32 ↦ refl
  | Q33 ↦ refl
  | Q34 ↦ refl
  | Q41 ↦ refl
  | Q42 ↦ refl
  | Q43 ↦ refl
]

pub number_once : (one other : QNumber) → query_number_text one ≡ query_number_text other → one ≡ other
number_once one other same = sym (number_back one) ∙ ap number_of same ∙ number_back other

kind_of : List ℕ → Kind
kind_of text =
    cond (bytes_eq text (codes "plain")) Plain (
    cond (bytes_eq text (codes "rollup")) Rollup (
    Cube))

kind_back : (value : Kind) → kind_of (kind_name value) ≡ value
unfolding kind_of
kind_back value = elim value as (λ one. kind_of (kind_name one) ≡ one) [
  | Plain ↦ refl
  | Rollup ↦ refl
  | Cube ↦ refl
]

pub kind_once : (one other : Kind) → kind_name one ≡ kind_name other → one ≡ other
kind_once one other same = sym (kind_back one) ∙ ap kind_of same ∙ kind_back other

-- the measure whose name begins so
measure_of : List ℕ → Measure
measure_of front =
    cond (bytes_eq front (codes "qua")) Quantity (
    cond (bytes_eq front (codes "ext")) ExtendedPrice (
    cond (bytes_eq front (codes "rev")) Revenue (
    cond (bytes_eq front (codes "sup")) SupplyCost (
    cond (bytes_eq front (codes "dis")) Discounted (
    Profit)))))

taken_of : List ℕ → Measure → Agg
taken_of front measure =
    cond (bytes_eq front (codes "sum")) (Sum measure) (
    cond (bytes_eq front (codes "min")) (Min measure) (
    cond (bytes_eq front (codes "max")) (Max measure) (Avg measure)))

agg_of : List ℕ → Agg
agg_of text = cond (bytes_eq text (codes "count")) Count (taken_of (take 3 text) (measure_of (take 3 (drop 4 text))))

word_back : (value : Agg) → agg_of (agg_word value) ≡ value
unfolding agg_of taken_of measure_of
word_back Count = refl
word_back (Sum measure) = elim measure as (λ one. agg_of (agg_word (Sum one)) ≡ Sum one) [
  | Quantity ↦ refl
  | ExtendedPrice ↦ refl
  | Revenue ↦ refl
  | SupplyCost ↦ refl
  | Discounted ↦ refl
  | Profit ↦ refl
]
word_back (Min measure) = elim measure as (λ one. agg_of (agg_word (Min one)) ≡ Min one) [
  | Quantity ↦ refl
  | ExtendedPrice ↦ refl
  | Revenue ↦ refl
  | SupplyCost ↦ refl
  | Discounted ↦ refl
  | Profit ↦ refl
]
word_back (Max measure) = elim measure as (λ one. agg_of (agg_word (Max one)) ≡ Max one) [
  | Quantity ↦ refl
  | ExtendedPrice ↦ refl
  | Revenue ↦ refl
  | SupplyCost ↦ refl
  | Discounted ↦ refl
  | Profit ↦ refl
]
word_back (Avg measure) = elim measure as (λ one. agg_of (agg_word (Avg one)) ≡ Avg one) [
  | Quantity ↦ refl
  | ExtendedPrice ↦ refl
  | Revenue ↦ refl
  | SupplyCost ↦ refl
  | Discounted ↦ refl
  | Profit ↦ refl
]

name_back : (value : Agg) → agg_of (agg_name value) ≡ value
unfolding agg_of taken_of measure_of
name_back Count = refl
name_back (Sum measure) = elim measure as (λ one. agg_of (agg_name (Sum one)) ≡ Sum one) [
  | Quantity ↦ refl
  | ExtendedPrice ↦ refl
  | Revenue ↦ refl
  | SupplyCost ↦ refl
  | Discounted ↦ refl
  | Profit ↦ refl
]
name_back (Min measure) = elim measure as (λ one. agg_of (agg_name (Min one)) ≡ Min one) [
  | Quantity ↦ refl
  | ExtendedPrice ↦ refl
  | Revenue ↦ refl
  | SupplyCost ↦ refl
  | Discounted ↦ refl
  | Profit ↦ refl
]
name_back (Max measure) = elim measure as (λ one. agg_of (agg_name (Max one)) ≡ Max one) [
  | Quantity ↦ refl
  | ExtendedPrice ↦ refl
  | Revenue ↦ refl
  | SupplyCost ↦ refl
  | Discounted ↦ refl
  | Profit ↦ refl
]
name_back (Avg measure) = elim measure as (λ one. agg_of (agg_name (Avg one)) ≡ Avg one) [
  | Quantity ↦ refl
  | ExtendedPrice ↦ refl
  | Revenue ↦ refl
  | SupplyCost ↦ refl
  | Discounted ↦ refl
  | Profit ↦ refl
]

spelled_back : (word : List ℕ) (value : Agg) → SpellsAggregate word value → agg_of word ≡ value
spelled_back word value (inl same) = ap agg_of same ∙ word_back value
spelled_back word value (inr same) = ap agg_of same ∙ name_back value

pub agg_once : (word : List ℕ) (one other : Agg) → SpellsAggregate word one → SpellsAggregate word other → one ≡ other
agg_once word one other spells spelled = sym (spelled_back word one spells) ∙ spelled_back word other spelled

-- lists whose names are the same
pub map_once : {A : Type 0} (name : A → List ℕ) → ((one other : A) → name one ≡ name other → one ≡ other)
    → (values others : List A)
    → map name values ≡ map name others → values ≡ others
map_once name once [] [] same = refl
map_once name once [] (other ∷ others) same = cc
map_once name once (value ∷ values) [] same = cc
map_once name once (value ∷ values) (other ∷ others) same =
    let first : value ≡ other = once value other (cc) in
    let rest : values ≡ others = map_once name once values others (cc) in
    cc

-- lists that the same words spell
pub zip_once : {A : Type 0} (Spells : List ℕ → A → Type 0)
    → ((word : List ℕ) (one other : A) → Spells word one → Spells word other
    → one ≡ other) → (words : List (List ℕ)) (values others : List A) → AllZip Spells words values
    → AllZip Spells words others
    → values ≡ others
zip_once Spells once [] [] [] spells spelled = refl
zip_once Spells once [] [] (other ∷ others) spells spelled = absurd spelled
zip_once Spells once [] (value ∷ values) others spells spelled = absurd spells
zip_once Spells once (word ∷ words) [] others spells spelled = absurd spells
zip_once Spells once (word ∷ words) (value ∷ values) [] spells spelled = absurd spelled
zip_once Spells once (word ∷ words) (value ∷ values) (other ∷ others) spells spelled =
    let first : value ≡ other = once word value other spells.0 spelled.0 in
    let rest : values ≡ others = zip_once Spells once words values others spells.1 spelled.1 in
    cc (first, rest)
