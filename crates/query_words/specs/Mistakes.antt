-- The mistakes in words that spell no query that may be asked. Our own.
use Rattle.std.specs.Prelude.{◌≡◌, ◌≢◌, ◌<◌, ◌⊎◌, ℕ, List, [], ◌∷◌, ◌++◌, length, None, Some, Contains, codes}
use Rattle.std.specs.Option.{IsSomeAnd}
use Rattle.cube_model.specs.declared.fault.Fault.{Fault}
use Rattle.cube_model.specs.declared.fault.Fault.TheVariants as fault
use Rattle.cube_model.specs.Limits.{most_asked_aggregates, most_columns, most_conditions, most_listed_texts}
use Rattle.query_words.specs.declared.known.Known.{Known}
use Rattle.query_words.specs.declared.known.Known.TheVariants.{Set, Attribute, Aggregate, Measure, Ranged}
use Rattle.query_words.specs.declared.known.Known.TheVariants as known
use Rattle.query_words.specs.declared.known.Subject.{Subject}
use Rattle.query_words.specs.declared.known.Taken.{Taken}
use Rattle.query_words.specs.declared.refused.Counted.TheVariants.{Columns, Aggregates, Conditions, Texts}
use Rattle.query_words.specs.declared.refused.Mistake.TheVariants.{NoSign, NoList, NotTwoEnds, NoBar, NoNumber}
use Rattle.query_words.specs.declared.refused.Mistake.TheVariants.{NoMeasure, NotClosed, CountAlone, OnlyCondition}
use Rattle.query_words.specs.declared.refused.Refused.{Refused}
use Rattle.query_words.specs.declared.refused.Refused.TheVariants.{Memory, NothingAsked, NotAlone, NoAggregate}
use Rattle.query_words.specs.declared.refused.Refused.TheVariants.{NoColumn, Unknown, Wrong}
use Rattle.query_words.specs.Cuts.{IsCut}
use Rattle.query_words.specs.Given.{number_alone}
use Rattle.query_words.specs.Known.{IsName, subject_name, taken_name}
use Rattle.query_words.specs.Limits.{IsTooMany, IsTwice}
use Rattle.query_words.specs.Words.{Words, IsSmallNumber, parts_by}

-- what is asked: nothing, a query of the benchmark with other words, or one that there is not
abbrev pub IsAskedMistake : Words → Refused → Type 0
IsAskedMistake words NothingAsked = (words.q ≡ None) × (words.agg ≡ None)
IsAskedMistake words NotAlone = (words.q ≢ None) × (words ≢ number_alone words.q)
IsAskedMistake words (Unknown word known.Query) = (words.q ≡ Some word.now) × (IsName known.Query word.now → ⊥)
IsAskedMistake words refused = ⊥

-- a set that there is not
abbrev pub IsSetMistake : List ℕ → Refused → Type 0
IsSetMistake text (Unknown word Set) = (word.now ≡ text) × (IsName Set word.now → ⊥)
IsSetMistake text refused = ⊥

-- one of some words is no name
abbrev pub IsUnknownWord : Known → List (List ℕ) → Refused → Type 0
IsUnknownWord known words (Unknown word other) = (other ≡ known) × Contains words word.now × (IsName known word.now → ⊥)
IsUnknownWord known words refused = ⊥

-- columns: none, one that there is not, too many, or one twice
abbrev pub IsColumnMistake : List ℕ → Refused → Type 0
IsColumnMistake text refused = ((refused ≡ NoColumn) × (text ≡ []))
    ⊎ IsUnknownWord Attribute (parts_by 44 text) refused
    ⊎ IsTooMany Columns (length (parts_by 44 text)) most_columns refused
    ⊎ IsTwice (parts_by 44 text) refused

-- one of some words has a mistake
abbrev pub IsMistakeAmong : (List ℕ → Refused → Type 0) → List (List ℕ) → Refused → Type 0
IsMistakeAmong IsMistake words refused = (word : List ℕ) × Contains words word × IsMistake word refused

-- an aggregate: what is taken is before the first colon (58) or opening bracket (40), and a closing bracket (41) ends
-- its measure
abbrev pub IsMeasureMistake : List ℕ → List ℕ → Refused → Type 0
IsMeasureMistake word measure (Unknown part known.Measure) = (part.now ≡ measure) × (IsName known.Measure measure → ⊥)
IsMeasureMistake word measure (Wrong part OnlyCondition) = (part.now ≡ word) × (IsName known.Measure measure → ⊥)
IsMeasureMistake word measure refused = ⊥

abbrev pub IsNameMistake : List ℕ → Refused → Type 0
IsNameMistake word (Unknown part Aggregate) = (IsName Aggregate part.now → ⊥)
    × ((part.now ≡ word) ⊎ ((sign : ℕ) × (rest : List ℕ) × IsCut 58 40 word part.now sign rest))
IsNameMistake word (Wrong part NoMeasure) = (part.now ≡ word) × ((taken : Taken) × (word ≡ taken_name taken))
IsNameMistake word (Wrong part CountAlone) = (part.now ≡ word)
    × ((sign : ℕ) × (rest : List ℕ) × IsCut 58 40 word (codes "count") sign rest)
IsNameMistake word (Wrong part NotClosed) = (part.now ≡ word)
    × ((name : List ℕ) × (rest : List ℕ) × IsCut 58 40 word name 40 rest
    × ((measure : List ℕ) → rest ≢ measure ++ 41 ∷ []))
IsNameMistake word refused = ⊥

abbrev pub HasMeasure : List ℕ → List ℕ → Type 0
HasMeasure word measure = (taken : Taken) × (IsCut 58 40 word (taken_name taken) 58 measure
    ⊎ IsCut 58 40 word (taken_name taken) 40 (measure ++ 41 ∷ []))

abbrev pub IsAggregateMistake : List ℕ → Refused → Type 0
IsAggregateMistake word refused = IsNameMistake word refused
    ⊎ ((measure : List ℕ) × HasMeasure word measure × IsMeasureMistake word measure refused)

-- aggregates: none, one with a mistake, or too many
abbrev pub IsAggregatesMistake : List ℕ → Refused → Type 0
IsAggregatesMistake text refused = ((refused ≡ NoAggregate) × (text ≡ []))
    ⊎ IsMistakeAmong IsAggregateMistake (parts_by 44 text) refused
    ⊎ IsTooMany Aggregates (length (parts_by 44 text)) most_asked_aggregates refused

-- what is before the first equals sign (61) or colon (58) of a condition is nothing that a condition can be on
abbrev pub IsSubjectMistake : List ℕ → Refused → Type 0
IsSubjectMistake word (Unknown part Ranged) = (IsName Ranged part.now → ⊥)
    × ((sign : ℕ) × (rest : List ℕ) × IsCut 61 58 word part.now sign rest)
IsSubjectMistake word (Wrong part NoSign) = (part.now ≡ word)
    × ((subject : Subject) (sign : ℕ) (rest : List ℕ) → IsCut 61 58 word (subject_name subject) sign rest → ⊥)
IsSubjectMistake word refused = ⊥

-- a list of texts after a name
abbrev pub IsListMistake : List ℕ → List ℕ → Refused → Type 0
IsListMistake name list (Wrong part NoList) = (part.now ≡ name) × (IsName Attribute name → ⊥)
IsListMistake name list refused = IsTooMany Texts (length (parts_by 124 list)) most_listed_texts refused

-- the ends of a range
abbrev pub IsEndMistake : List ℕ → List ℕ → Refused → Type 0
IsEndMistake low high (Wrong part NoNumber) = ((part.now ≡ low) ⊎ (part.now ≡ high))
    × ((number : ℕ) → IsSmallNumber part.now number → ⊥)
IsEndMistake low high refused = ⊥

-- a range in a word
abbrev pub IsCountMistake : List ℕ → List ℕ → Refused → Type 0
IsCountMistake word range (Wrong part NoBar) = (part.now ≡ word) × (length (parts_by 124 range) ≡ 1)
IsCountMistake word range (Wrong part NotTwoEnds) = (part.now ≡ word) × (2 < length (parts_by 124 range))
IsCountMistake word range refused = ⊥

abbrev pub IsRangeMistake : List ℕ → List ℕ → Refused → Type 0
IsRangeMistake word range refused = IsCountMistake word range refused
    ⊎ ((low : List ℕ) × (high : List ℕ) × (parts_by 124 range ≡ low ∷ high ∷ []) × IsEndMistake low high refused)

abbrev pub IsConditionMistake : List ℕ → Refused → Type 0
IsConditionMistake word refused = IsSubjectMistake word refused
    ⊎ ((subject : Subject) × (list : List ℕ) × IsCut 61 58 word (subject_name subject) 61 list
    × IsListMistake (subject_name subject) list refused)
    ⊎ ((subject : Subject) × (range : List ℕ) × IsCut 61 58 word (subject_name subject) 58 range
    × IsRangeMistake word range refused)

-- conditions: one with a mistake, or too many
abbrev pub IsConditionsMistake : List (List ℕ) → Refused → Type 0
IsConditionsMistake words refused = IsMistakeAmong IsConditionMistake words refused
    ⊎ IsTooMany Conditions (length words) most_conditions refused

-- words have a mistake
abbrev pub IsPartMistake : Words → Refused → Type 0
IsPartMistake words refused = IsSomeAnd words.set (λ text. IsSetMistake text refused)
    ⊎ IsSomeAnd words.by (λ text. IsColumnMistake text refused)
    ⊎ IsConditionsMistake words.conditions refused
    ⊎ IsSomeAnd words.agg (λ text. IsAggregatesMistake text refused)

abbrev pub IsMistakeOf : Words → Refused → Type 0
IsMistakeOf words refused = IsAskedMistake words refused ⊎ IsPartMistake words refused

-- the fault of a refusal
abbrev pub mistake_fault : Refused → Fault
mistake_fault Memory = fault.Memory
mistake_fault refused = fault.BadQuery
