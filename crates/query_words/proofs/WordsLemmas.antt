-- Lemmas of `words`, by subject.
use Rattle.std.proofs.Common.{◌≡◌, ◌+◌, List, [], ◌∷◌, length, refl, arith, inl, inr, ℕ, ◌<◌, ◌≤◌, Bor, ◌++◌, map}
use Rattle.std.proofs.Common.{Option, None, Some, Result, Ok, Err, sym, ap, subst, ◌∙◌}
use Rattle.std.specs.List.{AllByRecursion, flat_map, AllZip, position}
use Rattle.cube_model.specs.Proper.{IsFitCondition}
use Rattle.mode_queries.specs.Proper.{IsFitModeCondition, IsProperByModes}
use Rattle.query_words.specs.declared.cube_parts.Condition.{Condition}
use Rattle.query_words.specs.declared.cube_parts.Condition.TheVariants.{Dimension, Modes}
use Rattle.query_words.specs.Parts.{dimensions_in, mode_conditions_in, attribute_in, is_ship_mode, query_of_parts}
use Rattle.query_words.specs.Spelled.{IsFit, AreNamed, SpellsFit}
use Rattle.std.specs.Prelude.{IfSome}
use Rattle.std.specs.Option.{IsSomeAnd}
use Rattle.std.specs.Result.{IsErrAnd}
use Rattle.std.proofs.lemmas.List.{length-map}
use Rattle.std.proofs.lemmas.Slice.Zip.{AllZip-long}
use Rattle.mode_queries.specs.declared.query.ModeQuery.{ModeQuery}
use Rattle.ssb_reports.specs.Benchmark.{query_number_text}
use Rattle.query_words.specs.declared.cube_parts.CubeParts.{CubeParts}
use Rattle.query_words.specs.declared.known.Column.{Column}
use Rattle.query_words.specs.declared.refused.Counted.TheVariants.{Columns, Aggregates, Conditions}
use Rattle.query_words.specs.declared.refused.Mistake.TheVariants.{Twice}
use Rattle.query_words.specs.declared.refused.Refused.{Refused}
use Rattle.query_words.specs.declared.refused.Refused.TheVariants.{Wrong}
use Rattle.query_words.specs.Known.{column_name}
use Rattle.query_words.specs.Limits.{AreDistinct, IsLimitMistake, IsTooMany, IsWithinLimits, OccursTwice}
use Rattle.query_words.specs.Mistakes.{IsColumnMistake, IsConditionMistake, IsMistakeAmong, IsMistakeOf, IsPartMistake}
use Rattle.query_words.specs.Reading.{Reads}
use Rattle.query_words.specs.Words.{SpellsAggregate, SpellsColumns, SpellsCondition, SpellsCube, SpellsKind}
use Rattle.query_words.specs.Words.{SpellsProper, SpellsQuery, Words, parts_by}
use Rattle.query_words.proofs.Ends.{some_part}
use Rattle.query_words.proofs.Limited.{names_twice, twice_not_free}
use Rattle.query_words.proofs.Once.{named_in, named_once}
use Rattle.query_words.proofs.Refusals.{reads_as}
use Rattle.query_words.proofs.Placed.{at_most, at_place, columns_with, counted, distinct_with, free_attributes}
use Rattle.query_words.proofs.Placed.{named_with, whole}

-- ==== Conditions in the order of their words, and those on the ship mode apart from the others.

pub both : (conditions : List Condition)
    → length (flat_map dimensions_in conditions) + length (flat_map mode_conditions_in conditions) ≡ length conditions
both [] = refl
both (Dimension condition ∷ conditions) = omega (arith, both conditions)
both (Modes condition ∷ conditions) = omega (arith, both conditions)

pub fit_dimensions : (conditions : List Condition) → AllByRecursion IsFit conditions
    → AllByRecursion IsFitCondition (flat_map dimensions_in conditions)
fit_dimensions [] fit = tt
fit_dimensions (Dimension condition ∷ conditions) fit = (fit.0, fit_dimensions conditions fit.1)
fit_dimensions (Modes condition ∷ conditions) fit = fit_dimensions conditions fit.1

pub fit_modes : (conditions : List Condition) → AllByRecursion IsFit conditions
    → AllByRecursion IsFitModeCondition (flat_map mode_conditions_in conditions)
fit_modes [] fit = tt
fit_modes (Dimension condition ∷ conditions) fit = fit_modes conditions fit.1
fit_modes (Modes condition ∷ conditions) fit = (fit.0, fit_modes conditions fit.1)

pub fit_both : (conditions : List Condition) → AllByRecursion IsFitCondition (flat_map dimensions_in conditions)
    → AllByRecursion IsFitModeCondition (flat_map mode_conditions_in conditions) → AllByRecursion IsFit conditions
fit_both [] dimensions modes = tt
fit_both (Dimension condition ∷ conditions) dimensions modes =
    (dimensions.0, fit_both conditions dimensions.1 modes)
fit_both (Modes condition ∷ conditions) dimensions modes = (modes.0, fit_both conditions dimensions modes.1)

-- ==== The parts of a cube query as one.

-- the words of a cube query
abbrev pub cube_words : Option (List ℕ) → Option (List ℕ) → List ℕ → List (List ℕ) → Words
cube_words set by agg conditions = record { q = None; set = set; by = by; agg = Some agg; conditions = conditions }

some_none : (text : List ℕ) → Some text ≡ None → ⊥
some_none text e = cc

-- words without a number spell a cube query alone
its_cube : (words : Words) (query : ModeQuery) → words.q ≡ None → SpellsQuery words query → SpellsCube words query
its_cube words query none (inl number) = absurd (some_none (query_number_text number.number) (sym number.named ∙ none))
its_cube words query none (inr cube) = cube

pub cube_in : (set by : Option (List ℕ)) (agg : List ℕ) (conditions : List (List ℕ)) (query : ModeQuery) → SpellsProper
    (cube_words set by agg conditions) query → SpellsCube (cube_words set by agg conditions) query
cube_in set by agg conditions query spelled = its_cube (cube_words set by agg conditions) query refl spelled.0

-- its columns in the order of their names, of which none occurs twice
named_of : (set by : Option (List ℕ)) (agg : List ℕ) (conditions : List (List ℕ)) (query : ModeQuery) → SpellsProper
    (cube_words set by agg conditions) query → AreNamed by (columns_with query.query.columns query.place)
named_of set by agg conditions query spelled =
    named_in by query.query.columns query.place (cube_in set by agg conditions query spelled).columns

-- conditions that may be asked
pub zip_fit : (words : List (List ℕ)) (conditions : List Condition) → AllZip SpellsCondition words conditions
    → AllByRecursion IsFit conditions → AllZip SpellsFit words conditions
zip_fit [] [] all fit = all
zip_fit [] (condition ∷ conditions) all fit = absurd all
zip_fit (word ∷ words) [] all fit = absurd all
zip_fit (word ∷ words) (condition ∷ conditions) all fit = ((all.0, fit.0), zip_fit words conditions all.1 fit.1)

zip_spelled : (words : List (List ℕ)) (conditions : List Condition) → AllZip SpellsFit words conditions
    → AllZip SpellsCondition words conditions
zip_spelled [] [] all = all
zip_spelled [] (condition ∷ conditions) all = absurd all
zip_spelled (word ∷ words) [] all = absurd all
zip_spelled (word ∷ words) (condition ∷ conditions) all = (all.0.0, zip_spelled words conditions all.1)

all_fit : (words : List (List ℕ)) (conditions : List Condition) → AllZip SpellsFit words conditions
    → AllByRecursion IsFit conditions
all_fit [] [] all = tt
all_fit [] (condition ∷ conditions) all = absurd all
all_fit (word ∷ words) [] all = absurd all
all_fit (word ∷ words) (condition ∷ conditions) all = (all.0.1, all_fit words conditions all.1)

-- a part that is refused
stops : {A : Type 0} (Spells : A → Type 0) (Whole : ModeQuery → Type 0) (M N : Refused → Type 0) (refused : Refused)
    (result : Result ModeQuery Refused) → IsErrAnd result (λ y. y ≡ refused)
    → ((query : ModeQuery) → Whole query → (value : A) × Spells value)
    → ((r : Refused) → M r → N r) → Reads Spells M (Err refused) → Reads Whole N result
stops Spells Whole M N refused (Ok query) stop part means read = absurd stop
stops Spells Whole M N refused (Err y) stop part means (inl memory) = inl (stop ∙ memory)
stops Spells Whole M N refused (Err y) stop part means (inr read) = inr (
  subst N (sym stop)
      (means refused read.0),
  λ query whole. let its = part query whole in read.1 its.0 its.1,
)

pub columns_stop : (set by : Option (List ℕ)) (agg : List ℕ) (conditions : List (List ℕ)) (refused : Refused)
    (result : Result ModeQuery Refused) → IsErrAnd result (λ y. y ≡ refused) → Reads (AreNamed by) (λ r. IsSomeAnd by
    (λ text. IsColumnMistake text r)) (Err refused)
    → Reads (SpellsProper (cube_words set by agg conditions)) (IsPartMistake
    (cube_words set by agg conditions)) result
columns_stop set by agg conditions refused result stop read =
    stops (AreNamed by) (SpellsProper (cube_words set by agg conditions))
    (λ r. IsSomeAnd by (λ text. IsColumnMistake text r)) (IsPartMistake (cube_words set by agg conditions)) refused
    result stop
    (λ query spelled. (
      columns_with query.query.columns query.place,
      named_of set by agg conditions query spelled,
    ))
    (λ r means. inr (inl means)) read

fit_of : (set by : Option (List ℕ)) (agg : List ℕ) (conditions : List (List ℕ)) (query : ModeQuery) → SpellsProper
    (cube_words set by agg conditions) query → (all : List Condition) × AllZip SpellsFit conditions all
fit_of set by agg conditions query spelled =
    let spell = (cube_in set by agg conditions query spelled).conditions in (
      spell.conditions,
      zip_fit conditions spell.conditions spell.spelled
          (fit_both spell.conditions (rw (spell.dimensions_are) spelled.1.without.fit_conditions)
          (rw (spell.modes_are) spelled.1.fit_conditions)),
    )

pub conditions_stop : (set by : Option (List ℕ)) (agg : List ℕ) (conditions : List (List ℕ)) (refused : Refused)
    (result : Result ModeQuery Refused) → IsErrAnd result (λ y. y ≡ refused) → Reads (AllZip SpellsFit conditions)
    (IsMistakeAmong IsConditionMistake conditions) (Err refused)
    → Reads (SpellsProper (cube_words set by agg conditions)) (IsPartMistake
    (cube_words set by agg conditions)) result
conditions_stop set by agg conditions refused result stop read = stops (AllZip SpellsFit conditions) (SpellsProper
    (cube_words set by agg conditions)) (IsMistakeAmong IsConditionMistake conditions) (IsPartMistake
    (cube_words set by agg conditions)) refused result stop
    (λ query spelled. fit_of set by agg conditions query spelled) (λ r means. inr (inr (inl (inl means)))) read

-- what the parts of words spell
pub record ArePartsOf (set by : Option (List ℕ)) (agg : List ℕ) (conditions : List (List ℕ)) (parts : CubeParts)
    : Type 0 where
  pub kind : SpellsKind set parts.kind
  pub columns : AreNamed by parts.columns
  pub fit : AllZip SpellsFit conditions parts.conditions
  pub aggregates : AllZip SpellsAggregate (parts_by 44 agg) parts.aggregates

-- the columns of the query of parts
spells_columns : (by : Option (List ℕ)) (columns : List Column) → AreDistinct columns → AreNamed by columns
    → SpellsColumns by (flat_map attribute_in columns) (position is_ship_mode columns)
spells_columns None columns distinct named = (ap (flat_map attribute_in) named, ap (position is_ship_mode) named)
spells_columns (Some text) columns distinct named = (
  sym (named_with (flat_map attribute_in columns) (position is_ship_mode columns))
      ∙ ap (map column_name) (whole columns distinct) ∙ named,
  at_place columns,
)

-- which may be asked
proper : (set by : Option (List ℕ)) (agg : List ℕ) (conditions : List (List ℕ)) (parts : CubeParts)
    → ArePartsOf set by agg conditions parts → IsWithinLimits parts → IsProperByModes (query_of_parts parts)
proper set by agg conditions parts are limits =
    let long : length parts.aggregates ≡ length (parts_by 44 agg) = AllZip-long SpellsAggregate
    (parts_by 44 agg) parts.aggregates are.aggregates in
    let some : 1 ≤ length (parts_by 44 agg) = some_part 44 agg in
    let few : length parts.aggregates ≤ 8 = limits.few_aggregates in
    let fit = all_fit conditions parts.conditions are.fit in
    let counts = counted (flat_map attribute_in parts.columns) (position is_ship_mode parts.columns)
    (at_place parts.columns) in
    let all : length (columns_with (flat_map attribute_in parts.columns) (position is_ship_mode parts.columns))
    ≡ length parts.columns = ap length (whole parts.columns limits.distinct_columns) in
    record {
      without = record {
        few_columns = omega (arith, counts.few, all, limits.few_columns);
        distinct_columns = free_attributes parts.columns limits.distinct_columns;
        some_aggregate = omega arith;
        few_aggregates = omega arith;
        few_conditions = omega (arith, both parts.conditions, limits.few_conditions);
        fit_conditions = fit_dimensions parts.conditions fit;
        fit_order = tt;
      };
      within = at_place parts.columns;
      few_columns = still (position is_ship_mode parts.columns) (length (flat_map attribute_in parts.columns) + 1)
          (length (columns_with (flat_map attribute_in parts.columns) (position is_ship_mode parts.columns))) 6
          (omega (arith, all, limits.few_columns)) counts.fewer;
      by_key = no_order (position is_ship_mode parts.columns);
      few_conditions = omega (arith, both parts.conditions, limits.few_conditions);
      fit_conditions = fit_modes parts.conditions fit;
    }
  where
    still : (place : Option ℕ) (count all most : ℕ) → all ≤ most → IfSome place (λ place. count ≤ all)
        → IfSome place (λ place. count ≤ most)
    still None count all most below within = tt
    still (Some place) count all most below within = omega (arith, below, within)

    no_order : (place : Option ℕ) → IfSome place (λ place. (query_of_parts parts).query.order ≡ None)
    no_order None = tt
    no_order (Some place) = refl

pub within : (set by : Option (List ℕ)) (agg : List ℕ) (conditions : List (List ℕ)) (parts : CubeParts)
    → ArePartsOf set by agg conditions parts → IsWithinLimits parts
    → SpellsProper (cube_words set by agg conditions) (query_of_parts parts)
within set by agg conditions parts are limits =
    let long : length parts.aggregates ≡ length (parts_by 44 agg) = AllZip-long SpellsAggregate
    (parts_by 44 agg) parts.aggregates are.aggregates in
    let few : length parts.aggregates ≤ 8 = limits.few_aggregates in (
      inr (record {
        no_number = refl;
        kind = are.kind;
        columns = spells_columns by parts.columns limits.distinct_columns are.columns;
        aggregates = (omega arith, are.aggregates);
        conditions = record {
          conditions = parts.conditions;
          spelled = zip_spelled conditions parts.conditions are.fit;
          dimensions_are = refl;
          modes_are = refl;
        };
        no_order = refl;
      }),
      proper set by agg conditions parts are limits,
    )

-- columns that are too many, or of which one occurs twice, are said of the words
columns_long : (by : Option (List ℕ)) (columns : List Column) (refused : Refused) → AreNamed by columns
    → IsTooMany Columns
    (length columns) 6 refused → IsSomeAnd by (λ text. IsColumnMistake text refused)
columns_long None columns refused spelled many = let long : length columns ≡ 0 = ap length spelled in
    let above : 6 < length columns =
    many.1 in absurd (omega arith)
columns_long (Some text) columns refused spelled many =
    let long : length columns ≡ length (parts_by 44 text) = sym (length-map columns column_name) ∙ ap length spelled in
    inr (inr (inl (subst (λ (n : ℕ). IsTooMany Columns n 6 refused) long many)))

no_split : (front : List Column) (column : Column) (rest : List Column) → [] ≡ front ++ column ∷ rest → ⊥
no_split [] column rest e = cc
no_split (first ∷ front) column rest e = cc

columns_twice : (by : Option (List ℕ)) (columns : List Column) (refused : Refused) (column : Column)
    (word : Bor (List ℕ)) → AreNamed by columns → refused ≡ Wrong word Twice → word.now ≡ column_name column
    → OccursTwice columns column → IsSomeAnd by (λ text. IsColumnMistake text refused)
columns_twice None columns refused column word spelled is named (front, rest, whole, again) =
    let none : [] ≡ front ++ column ∷ rest = sym
    spelled ∙ whole in absurd (no_split front column rest none)
columns_twice (Some text) columns refused column word spelled is named twice =
    inr (inr (inr (
      word,
      is,
      subst (λ (names : List (List ℕ)). OccursTwice names word.now) spelled (subst (λ (name : List ℕ). OccursTwice
          (map column_name columns) name) (sym named) (names_twice columns column twice)),
    )))

means_limit : (set by : Option (List ℕ)) (agg : List ℕ) (conditions : List (List ℕ)) (parts : CubeParts)
    (refused : Refused) → ArePartsOf set by agg conditions parts → IsLimitMistake parts refused
    → IsPartMistake (cube_words set by agg conditions) refused
means_limit set by agg conditions parts refused are (inl many) = inr (inr (inr (inr (inr (subst (λ
    (n : ℕ). IsTooMany Aggregates n 8 refused)
    (AllZip-long SpellsAggregate (parts_by 44 agg) parts.aggregates are.aggregates) many)))))
means_limit set by agg conditions parts refused are (inr (inl many)) = inr (inr (inl (inr (subst (λ
    (n : ℕ). IsTooMany Conditions n 16 refused) (AllZip-long SpellsFit conditions parts.conditions are.fit) many))))
means_limit set by agg conditions parts refused are (inr (inr (inl many))) =
    inr (inl (columns_long by parts.columns refused are.columns
    many))
means_limit set by agg conditions parts refused are (inr (inr (inr (column, word, is, named, twice)))) = inr (inl
    (columns_twice by parts.columns refused column word are.columns is named twice))

none_limit : (set by : Option (List ℕ)) (agg : List ℕ) (conditions : List (List ℕ)) (parts : CubeParts)
    (refused : Refused) → ArePartsOf set by agg conditions parts → IsLimitMistake parts refused → (other : ModeQuery)
    → SpellsProper (cube_words set by agg conditions) other → ⊥
none_limit set by agg conditions parts refused are (inl many) other spelled =
    let long : length parts.aggregates ≡ length (parts_by 44 agg) = AllZip-long SpellsAggregate
    (parts_by 44 agg) parts.aggregates are.aggregates in
    let few : length (parts_by 44 agg) ≤ 8 = (cube_in set by agg conditions other spelled).aggregates.0 in
    let above : 8 < length parts.aggregates = many.1 in
    absurd (omega arith)
none_limit set by agg conditions parts refused are (inr (inl many)) other spelled =
    let spell = (cube_in set by agg conditions other spelled).conditions in
    let long : length parts.conditions ≡ length conditions =
    AllZip-long SpellsFit conditions parts.conditions are.fit in
    let same : length spell.conditions ≡ length conditions =
    AllZip-long SpellsCondition conditions spell.conditions spell.spelled in
    let split = both spell.conditions in
    let dimensions = ap length spell.dimensions_are in
    let modes = ap length spell.modes_are in
    let few : length other.query.conditions + length other.conditions ≤ 16 = spelled.1.few_conditions in
    let above : 16 < length parts.conditions = many.1 in
    absurd (omega arith)
none_limit set by agg conditions parts refused are (inr (inr (inl many))) other spelled =
    let same : length parts.columns ≡ length (columns_with other.query.columns other.place) =
    ap length (named_once by parts.columns (columns_with other.query.columns other.place) are.columns
    (named_of set by agg conditions other spelled)) in
    let few : length (columns_with other.query.columns other.place) ≤ 6 =
    at_most other.query.columns other.place 6 spelled.1.within spelled.1.without.few_columns spelled.1.few_columns in
    let above : 6 < length parts.columns = many.1 in
    absurd (omega arith)
none_limit set by agg conditions parts refused are (inr (inr (inr (column, word, is, named, twice)))) other spelled =
    twice_not_free parts.columns column twice (subst AreDistinct
    (named_once by (columns_with other.query.columns other.place) parts.columns
    (named_of set by agg conditions other spelled) are.columns)
    (distinct_with other.query.columns other.place spelled.1.without.distinct_columns))

pub exceeds : (set by : Option (List ℕ)) (agg : List ℕ) (conditions : List (List ℕ)) (parts : CubeParts)
    (refused : Refused) → ArePartsOf set by agg conditions parts → IsLimitMistake parts refused
    → Reads (SpellsProper (cube_words set by agg conditions))
    (IsPartMistake (cube_words set by agg conditions)) (Err refused)
exceeds set by agg conditions parts refused are limit = inr (
  means_limit set by agg conditions parts refused are limit,
  none_limit set by
      agg conditions parts refused are limit,
)

-- words with aggregates and without a number are read as those of a cube query
pub reads_cube : (words : Words) (agg : List ℕ) (result : Result ModeQuery Refused) → words.q ≡ None
    → words.agg ≡ Some agg → Reads (SpellsProper (cube_words words.set words.by agg words.conditions))
    (IsPartMistake (cube_words words.set words.by agg words.conditions)) result
    → Reads (SpellsProper words) (IsMistakeOf words) result
reads_cube words agg result no_number some read =
    let same : cube_words words.set words.by agg words.conditions ≡ words = λ i. record {
      q = sym no_number i;
      set = words.set;
      by = words.by;
      agg = sym some i;
      conditions = words.conditions;
    } in
    subst (λ (one : Words). Reads (SpellsProper one) (IsMistakeOf one) result) same
    (reads_as (SpellsProper (cube_words words.set words.by agg words.conditions))
    (SpellsProper (cube_words words.set words.by agg words.conditions))
    (IsPartMistake (cube_words words.set words.by agg words.conditions))
    (IsMistakeOf (cube_words words.set words.by agg words.conditions)) result (λ query one. one) (λ query one. one)
    (λ refused means. inr means) read)
