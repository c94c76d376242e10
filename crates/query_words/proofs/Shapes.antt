-- What spelled words are made of.
use Rattle.std.proofs.Common.{◌≡◌, ◌⊎◌, inl, inr, ℕ, true, false, List, [], ◌∷◌, ◌++◌, codes, refl, sym, ap, subst, ◌∙◌}
use Rattle.std.proofs.lemmas.Bool.{false≢true}
use Rattle.std.proofs.lemmas.Slice.Eq.{bytes_eq-Decides}
use Rattle.std.specs.Str.{bytes_eq}
use Rattle.cube_model.specs.declared.attr.Attr.{Attr}
use Rattle.cube_model.specs.declared.attr.Attr.TheVariants.{CustomerCity, CustomerNation, CustomerRegion, SupplierCity}
use Rattle.cube_model.specs.declared.attr.Attr.TheVariants.{SupplierNation, SupplierRegion, PartBrand1, PartCategory}
use Rattle.cube_model.specs.declared.attr.Attr.TheVariants.{PartMfgr, DateKey, DateYearmonthnum, DateYear}
use Rattle.cube_model.specs.declared.attr.Attr.TheVariants.{DateYearmonth, DateWeeknuminyear}
use Rattle.cube_model.specs.declared.measure.Agg.{Agg}
use Rattle.cube_model.specs.declared.measure.Agg.TheVariants as aggs
use Rattle.cube_model.specs.declared.measure.Measure.{Measure}
use Rattle.cube_model.specs.declared.query.Cond.TheVariants.{OneOf, Between, Quantity, Discount}
use Rattle.cube_model.specs.Names.{attr_name, measure_name}
use Rattle.mode_queries.specs.declared.query.ModeCond.TheVariants as modes
use Rattle.query_words.specs.declared.cube_parts.Condition.{Condition}
use Rattle.query_words.specs.declared.cube_parts.Condition.TheVariants.{Dimension, Modes}
use Rattle.query_words.specs.declared.known.Column.TheVariants.{Attribute, ShipMode}
use Rattle.query_words.specs.declared.known.Subject.{Subject}
use Rattle.query_words.specs.declared.known.Subject.TheVariants as subjects
use Rattle.query_words.specs.declared.known.Taken.{Taken}
use Rattle.query_words.specs.declared.known.Taken.TheVariants.{Sum, Min, Max, Avg}
use Rattle.query_words.specs.Cuts.{HasNeither, IsCut}
use Rattle.query_words.specs.Known.{agg_of, subject_name, taken_name}
use Rattle.query_words.specs.Spelled.{SpellsAfter, SpellsFit}
use Rattle.query_words.specs.Words.{SpellsAggregate, SpellsMembers, condition_name, condition_sign}
use Rattle.query_words.proofs.Cutting.{has_neither, neither, same_cut, uncut}

-- texts that a test tells apart
pub apart : (left right : List ℕ) → bytes_eq left right ≡ false → left ≡ right → ⊥
apart left right differ same = false≢true (sym differ ∙ (bytes_eq-Decides left right).1 same)

-- what is taken has no sign in its name, and is not the count
plain_taken : (taken : Taken) → has_neither 58 40 (taken_name taken) ≡ true
plain_taken Sum = refl
plain_taken Min = refl
plain_taken Max = refl
plain_taken Avg = refl

pub no_count : (taken : Taken) → codes "count" ≡ taken_name taken → ⊥
no_count Sum = apart (codes "count") (codes "sum") refl
no_count Min = apart (codes "count") (codes "min") refl
no_count Max = apart (codes "count") (codes "max") refl
no_count Avg = apart (codes "count") (codes "avg") refl

-- an aggregate that is spelled by a word with a sign takes something of a measure
pub record TakesOf (word : List ℕ) (agg : Agg) (taken : Taken) (measure : Measure) (sign : ℕ) (rest : List ℕ) : Type 0
  where
    pub is : agg ≡ agg_of taken measure
    pub whole : word ≡ taken_name taken ++ sign ∷ rest
    pub which : ((sign ≡ 58) × (rest ≡ measure_name measure)) ⊎ ((sign ≡ 40) × (rest ≡ measure_name measure ++ 41 ∷ []))

abbrev pub IsShape : List ℕ → Agg → Type 0
IsShape word agg = ((agg ≡ aggs.Count) × (word ≡ codes "count")) ⊎ ((taken : Taken) × (measure : Measure) × (sign : ℕ) ×
    (rest : List ℕ) × TakesOf word agg taken measure sign rest)

with_colon : (word : List ℕ) (taken : Taken) (measure : Measure) → word ≡ taken_name taken ++ 58 ∷ measure_name measure
    → IsShape word
    (agg_of taken measure)
with_colon word taken measure e =
    inr (taken, measure, 58, measure_name measure, record { is = refl; whole = e; which = inl (refl, refl) })

in_brackets : (word : List ℕ) (taken : Taken) (measure : Measure)
    → word ≡ taken_name taken ++ 40 ∷ (measure_name measure ++ 41 ∷ [])
    → IsShape word (agg_of taken measure)
in_brackets word taken measure e = inr (
  taken,
  measure,
  40,
  measure_name measure ++ 41 ∷ [],
  record {
    is = refl;
    whole = e;
    which = inr
        (refl, refl);
  },
)

shape : (word : List ℕ) (agg : Agg) → SpellsAggregate word agg → IsShape word agg
shape word aggs.Count (inl e) = inl (refl, e)
shape word aggs.Count (inr e) = inl (refl, e)
shape word (aggs.Sum measure) (inl e) = with_colon word Sum measure e
shape word (aggs.Sum measure) (inr e) = in_brackets word Sum measure e
shape word (aggs.Min measure) (inl e) = with_colon word Min measure e
shape word (aggs.Min measure) (inr e) = in_brackets word Min measure e
shape word (aggs.Max measure) (inl e) = with_colon word Max measure e
shape word (aggs.Max measure) (inr e) = in_brackets word Max measure e
shape word (aggs.Avg measure) (inl e) = with_colon word Avg measure e
shape word (aggs.Avg measure) (inr e) = in_brackets word Avg measure e

its_sign : (sign : ℕ) (measure : Measure) (rest : List ℕ) → ((sign ≡ 58) × (rest ≡ measure_name measure))
    ⊎ ((sign ≡ 40) ×
    (rest ≡ measure_name measure ++ 41 ∷ [])) → (sign ≡ 58) ⊎ (sign ≡ 40)
its_sign sign measure rest (inl w) = inl w.0
its_sign sign measure rest (inr w) = inr w.0

-- a word without a sign spells the count alone
bare_of : (word : List ℕ) (agg : Agg) → HasNeither 58 40 word → IsShape word agg → word ≡ codes "count"
bare_of word agg plain (inl count) = count.1
bare_of word agg plain (inr (taken, measure, sign, rest, takes)) = absurd (uncut 58 40 word (taken_name taken) sign rest
    (its_sign sign measure rest takes.which) takes.whole plain)

pub bare_count : (word : List ℕ) (agg : Agg) → HasNeither 58 40 word → SpellsAggregate word agg → word ≡ codes "count"
bare_count word agg plain spelled = bare_of word agg plain (shape word agg spelled)

-- what a cut word spells
pub record IsTaken (name : List ℕ) (sign : ℕ) (rest : List ℕ) (agg : Agg) : Type 0 where
  pub taken : Taken
  pub measure : Measure
  pub name_is : name ≡ taken_name taken
  pub agg_is : agg ≡ agg_of taken measure
  pub which : ((sign ≡ 58) × (rest ≡ measure_name measure)) ⊎ ((sign ≡ 40) × (rest ≡ measure_name measure ++ 41 ∷ []))

count_free : HasNeither 58 40 (codes "count")
count_free = neither 58 40 (codes "count") refl

taken_of : (word name : List ℕ) (sign : ℕ) (rest : List ℕ) (agg : Agg) → IsCut 58 40 word name sign rest
    → IsShape word agg
    → IsTaken name sign rest agg
taken_of word name sign rest agg cut (inl count) = absurd (uncut 58 40 (codes "count") name sign rest cut.is_sign
    (sym count.1 ∙ cut.whole) count_free)
taken_of word name sign rest agg cut (inr (taken, measure, mark, tail, takes)) =
    let same = same_cut 58 40 name (taken_name taken) sign mark rest tail cut.first (neither 58 40 (taken_name taken)
    (plain_taken taken)) cut.is_sign (its_sign mark measure tail takes.which) (sym cut.whole ∙ takes.whole) in
    record {
      taken = taken;
      measure = measure;
      name_is = same.names;
      agg_is = takes.is;
      which = subst (λ (m : ℕ). ((m ≡ 58) × (rest ≡ measure_name measure))
          ⊎ ((m ≡ 40) × (rest ≡ measure_name measure ++ 41 ∷ [])))
          (sym same.signs)
          (subst (λ (t : List ℕ). ((mark ≡ 58) × (t ≡ measure_name measure))
          ⊎ ((mark ≡ 40) × (t ≡ measure_name measure ++ 41 ∷ [])))
          (sym same.rests) takes.which);
    }

pub taken_in : (word name : List ℕ) (sign : ℕ) (rest : List ℕ) (agg : Agg) → IsCut 58 40 word name sign rest
    → SpellsAggregate word agg
    → IsTaken name sign rest agg
taken_in word name sign rest agg cut spelled = taken_of word name sign rest agg cut (shape word agg spelled)

-- and what spells it
pub spells_colon : (word : List ℕ) (taken : Taken) (measure : Measure)
    → word ≡ taken_name taken ++ 58 ∷ measure_name measure
    → SpellsAggregate word (agg_of taken measure)
spells_colon word Sum measure e = inl e
spells_colon word Min measure e = inl e
spells_colon word Max measure e = inl e
spells_colon word Avg measure e = inl e

pub spells_brackets : (word : List ℕ) (taken : Taken) (measure : Measure) → word ≡ taken_name taken ++ 40 ∷
    (measure_name measure ++ 41 ∷ []) → SpellsAggregate word (agg_of taken measure)
spells_brackets word Sum measure e = inr e
spells_brackets word Min measure e = inr e
spells_brackets word Max measure e = inr e
spells_brackets word Avg measure e = inr e

-- the name of what a condition is on has no sign
plain_attr : (attr : Attr) → has_neither 61 58 (attr_name attr) ≡ true
plain_attr attr = elim attr as (λ a. has_neither 61 58 (attr_name a) ≡ true) [
  | CustomerCity ↦ refl
  | CustomerNation ↦ refl
  | CustomerRegion ↦ refl
  | SupplierCity ↦ refl
  | SupplierNation ↦ refl
  | SupplierRegion ↦ refl
  | PartBrand1 ↦ refl
  | PartCategory ↦ refl
  | PartMfgr ↦ refl
  | DateKey ↦ refl
  | DateYearmonthnum ↦ refl
  | DateYear ↦ refl
  | DateYearmonth ↦ refl
  | DateWeeknuminyear ↦ refl
]

pub plain_condition : (condition : Condition) → has_neither 61 58 (condition_name condition) ≡ true
plain_condition (Dimension (OneOf attr texts)) = plain_attr attr
plain_condition (Dimension (Between attr low high)) = plain_attr attr
plain_condition (Dimension (Quantity low high)) = refl
plain_condition (Dimension (Discount low high)) = refl
plain_condition (Modes condition) = refl

pub condition_mark : (condition : Condition) → (condition_sign condition ≡ 61) ⊎ (condition_sign condition ≡ 58)
condition_mark (Dimension (OneOf attr texts)) = inl refl
condition_mark (Dimension (Between attr low high)) = inr refl
condition_mark (Dimension (Quantity low high)) = inr refl
condition_mark (Dimension (Discount low high)) = inr refl
condition_mark (Modes (modes.OneOf texts)) = inl refl
condition_mark (Modes (modes.Between low high)) = inr refl

-- a word without a sign spells no condition
pub no_condition : (word : List ℕ) (condition : Condition) → HasNeither 61 58 word → SpellsFit word condition → ⊥
no_condition word condition plain spelled =
    uncut 61 58 word (condition_name condition) (condition_sign condition) spelled.0.members
    (condition_mark condition) spelled.0.whole plain

-- what a cut word spells, and what spells it
pub condition_in : (word name : List ℕ) (sign : ℕ) (rest : List ℕ) (condition : Condition)
    → IsCut 61 58 word name sign rest
    → SpellsFit word condition → (condition_name condition ≡ name) × (condition_sign condition ≡ sign)
    × SpellsMembers rest condition
condition_in word name sign rest condition cut spelled =
    let same = same_cut 61 58 name (condition_name condition) sign (condition_sign condition) rest spelled.0.members
    cut.first
    (neither 61 58 (condition_name condition) (plain_condition condition)) cut.is_sign (condition_mark condition)
    (sym cut.whole ∙ spelled.0.whole) in (
      sym same.names,
      sym same.signs,
      subst (λ (members : List ℕ). SpellsMembers members condition) (sym same.rests)
          spelled.0.spelled,
    )

pub after_sign : (word : List ℕ) (subject : Subject) (sign : ℕ) (rest : List ℕ) (condition : Condition)
    → IsCut 61 58 word (subject_name subject) sign rest → SpellsFit word condition
    → SpellsAfter subject sign rest condition
after_sign word subject sign rest condition cut spelled =
    let parts = condition_in word (subject_name subject) sign rest condition cut spelled in
    record { name_is = parts.0; sign_is = parts.1; spelled = parts.2; fit = spelled.1 }

pub before_sign : (word : List ℕ) (subject : Subject) (sign : ℕ) (rest : List ℕ) (condition : Condition)
    → IsCut 61 58 word (subject_name subject) sign rest → SpellsAfter subject sign rest condition
    → SpellsFit word condition
before_sign word subject sign rest condition cut after = (
  record {
    members = rest;
    whole = cut.whole ∙ ap (λ (name : List ℕ). name ++ sign ∷ rest) (sym after.name_is) ∙ ap (λ
        (mark : ℕ). condition_name condition ++ mark ∷ rest) (sym after.sign_is);
    spelled = after.spelled;
  },
  after.fit,
)

-- what a condition is on
pub subject_of : (condition : Condition) → (subject : Subject) × (condition_name condition ≡ subject_name subject)
subject_of (Dimension (OneOf attr texts)) = (subjects.Member (Attribute attr), refl)
subject_of (Dimension (Between attr low high)) = (subjects.Member (Attribute attr), refl)
subject_of (Dimension (Quantity low high)) = (subjects.Quantity, refl)
subject_of (Dimension (Discount low high)) = (subjects.Discount, refl)
subject_of (Modes condition) = (subjects.Member ShipMode, refl)

pub no_such_subject : (word name : List ℕ) (sign : ℕ) (rest : List ℕ) → IsCut 61 58 word name sign rest
    → ((subject : Subject)
    → name ≡ subject_name subject → ⊥) → (condition : Condition) → SpellsFit word condition → ⊥
no_such_subject word name sign rest cut none condition spelled =
    let parts = condition_in word name sign rest condition cut spelled in
    let on = subject_of condition in
    none on.0 (sym parts.0 ∙ on.1)
