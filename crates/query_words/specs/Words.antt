-- The words of a query, and the query that they spell. The grammar is our own; the names are those of the attributes,
-- the ship mode and the measures.
use Rattle.std.specs.Prelude.{◌≡◌, ◌≤◌, ◌⊎◌, ℕ, ◌==◌, List, [], ◌∷◌, ◌++◌, length, Option, None, Some, IfSome, codes}
use Rattle.std.specs.List.{AllZip, flat_map, slice_split}
use Rattle.std.specs.Str.Parse.{IsNumeral, digits_value}
use Rattle.cube_model.specs.declared.attr.Attr.{Attr}
use Rattle.cube_model.specs.declared.measure.Agg.{Agg}
use Rattle.cube_model.specs.declared.query.Cond.{Cond}
use Rattle.cube_model.specs.declared.query.Cond.TheVariants.{OneOf, Between, Quantity, Discount}
use Rattle.cube_model.specs.declared.query.Kind.{Kind}
use Rattle.cube_model.specs.declared.query.Kind.TheVariants.{Plain, Rollup, Cube}
use Rattle.cube_model.specs.Limits.{most_asked_aggregates}
use Rattle.cube_model.specs.Names.{attr_name, agg_name}
use Rattle.mode_queries.specs.declared.query.ModeCond.{ModeCond}
use Rattle.mode_queries.specs.declared.query.ModeCond.TheVariants as modes
use Rattle.mode_queries.specs.declared.query.ModeQuery.{ModeQuery}
use Rattle.mode_queries.specs.Lawful.{without_modes}
use Rattle.mode_queries.specs.Names.{agg_word, names_with, ship_mode_name}
use Rattle.mode_queries.specs.Proper.{IsProperByModes}
use Rattle.ssb_reports.specs.declared.number.QNumber.{QNumber}
use Rattle.ssb_reports.specs.Benchmark.{benchmark_query, query_number_text}
use Rattle.query_words.specs.declared.cube_parts.Condition.{Condition}
use Rattle.query_words.specs.declared.cube_parts.Condition.TheVariants.{Dimension, Modes}
use Rattle.query_words.specs.Parts.{dimensions_in, mode_conditions_in}

-- the words: the number of a query, the name of a set, the columns, the aggregates, and a word for each condition
pub record Words : Type 0 where
  pub q : Option (List ℕ)
  pub set : Option (List ℕ)
  pub by : Option (List ℕ)
  pub agg : Option (List ℕ)
  pub conditions : List (List ℕ)

-- the parts of a text between signs
abbrev pub parts_by : ℕ → List ℕ → List (List ℕ)
parts_by sign text = slice_split (λ byte. byte == sign) text

-- the set: a kind by its name, and plain where there is no word
abbrev pub kind_name : Kind → List ℕ
kind_name Plain = codes "plain"
kind_name Rollup = codes "rollup"
kind_name Cube = codes "cube"

abbrev pub SpellsKind : Option (List ℕ) → Kind → Type 0
SpellsKind None kind = kind ≡ Plain
SpellsKind (Some word) kind = word ≡ kind_name kind

-- columns: their names, separated by commas (44), with that of the ship mode at its place, and none where there is no
-- word
abbrev pub SpellsColumns : Option (List ℕ) → List Attr → Option ℕ → Type 0
SpellsColumns None columns place = (columns ≡ []) × (place ≡ None)
SpellsColumns (Some text) columns place =
    (names_with columns place ≡ parts_by 44 text) × IfSome place (λ place. place ≤ length columns)

-- an aggregate: as words spell it, or as the header of a report names it, such as sum(revenue)
abbrev pub SpellsAggregate : List ℕ → Agg → Type 0
SpellsAggregate word agg = (word ≡ agg_word agg) ⊎ (word ≡ agg_name agg)

-- aggregates: separated by commas, and not too many
abbrev pub SpellsAggregates : Option (List ℕ) → List Agg → Type 0
SpellsAggregates None aggregates = ⊥
SpellsAggregates (Some text) aggregates =
    (length (parts_by 44 text) ≤ most_asked_aggregates) × AllZip SpellsAggregate (parts_by 44 text) aggregates

-- a condition: the name of what it is on, a sign, and its texts or its two ends, separated by bars (124). No name has a
-- sign in it, so the first one ends the name
abbrev pub condition_name : Condition → List ℕ
condition_name (Dimension (OneOf attr texts)) = attr_name attr
condition_name (Dimension (Between attr low high)) = attr_name attr
condition_name (Dimension (Quantity low high)) = codes "quantity"
condition_name (Dimension (Discount low high)) = codes "discount"
condition_name (Modes condition) = ship_mode_name

-- an equals sign (61) before texts, a colon (58) before two ends
abbrev pub condition_sign : Condition → ℕ
condition_sign (Dimension (OneOf attr texts)) = 61
condition_sign (Dimension (Between attr low high)) = 58
condition_sign (Dimension (Quantity low high)) = 58
condition_sign (Dimension (Discount low high)) = 58
condition_sign (Modes (modes.OneOf texts)) = 61
condition_sign (Modes (modes.Between low high)) = 58

-- one digit or more, whose value is at most 255
pub record IsSmallNumber (text : List ℕ) (number : ℕ) : Type 0 where
  pub digits : IsNumeral 10 text
  pub value : number ≡ digits_value 10 text
  pub small : number ≤ 255

-- two such numbers, separated by a bar
pub record SpellsBounds (text : List ℕ) (low high : ℕ) : Type 0 where
  pub low_text : List ℕ
  pub high_text : List ℕ
  pub parts : parts_by 124 text ≡ low_text ∷ high_text ∷ []
  pub low_is : IsSmallNumber low_text low
  pub high_is : IsSmallNumber high_text high

abbrev pub SpellsMembers : List ℕ → Condition → Type 0
SpellsMembers text (Dimension (OneOf attr texts)) = texts ≡ parts_by 124 text
SpellsMembers text (Dimension (Between attr low high)) = low ∷ high ∷ [] ≡ parts_by 124 text
SpellsMembers text (Dimension (Quantity low high)) = SpellsBounds text low high
SpellsMembers text (Dimension (Discount low high)) = SpellsBounds text low high
SpellsMembers text (Modes (modes.OneOf texts)) = texts ≡ parts_by 124 text
SpellsMembers text (Modes (modes.Between low high)) = low ∷ high ∷ [] ≡ parts_by 124 text

pub record SpellsCondition (word : List ℕ) (condition : Condition) : Type 0 where
  pub members : List ℕ
  pub whole : word ≡ condition_name condition ++ condition_sign condition ∷ members
  pub spelled : SpellsMembers members condition

-- conditions: each of one word. Those on the ship mode are apart from the others, both in the order of their words
pub record SpellConditions (words : List (List ℕ)) (on_dimensions : List Cond) (on_modes : List ModeCond) : Type 0
  where
    pub conditions : List Condition
    pub spelled : AllZip SpellsCondition words conditions
    pub dimensions_are : flat_map dimensions_in conditions ≡ on_dimensions
    pub modes_are : flat_map mode_conditions_in conditions ≡ on_modes

-- a query of the benchmark: its number, and no other word
pub record SpellsBenchmark (words : Words) (asked : ModeQuery) : Type 0 where
  pub number : QNumber
  pub named : words.q ≡ Some (query_number_text number)
  pub no_set : words.set ≡ None
  pub no_columns : words.by ≡ None
  pub no_aggregates : words.agg ≡ None
  pub no_conditions : words.conditions ≡ []
  pub query_is : asked ≡ without_modes (benchmark_query number)

-- a cube query: its parts, and no number
pub record SpellsCube (words : Words) (asked : ModeQuery) : Type 0 where
  pub no_number : words.q ≡ None
  pub kind : SpellsKind words.set asked.query.kind
  pub columns : SpellsColumns words.by asked.query.columns asked.place
  pub aggregates : SpellsAggregates words.agg asked.query.aggregates
  pub conditions : SpellConditions words.conditions asked.query.conditions asked.conditions
  pub no_order : asked.query.order ≡ None

-- words spell a query
abbrev pub SpellsQuery : Words → ModeQuery → Type 0
SpellsQuery words asked = SpellsBenchmark words asked ⊎ SpellsCube words asked

-- and one that may be asked
abbrev pub SpellsProper : Words → ModeQuery → Type 0
SpellsProper words asked = SpellsQuery words asked × IsProperByModes asked
