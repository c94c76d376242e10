-- What the definitions mean, in words that do not compute. Each is proved as the contract of a function of its name.
use Rattle.std.specs.Prelude.{◌≡◌, ◌≢◌, ◌↔◌, ◌≤◌, ℕ, ℤ, List, [], ◌∷◌, map, length, codes}
use Rattle.std.specs.List.{filter, list_any, AllByRecursion, flat_map}
use Rattle.std.specs.Cmp.{IsTotalOrder}
use Rattle.std.specs.Ordering.{eq_by_cmp}
use Rattle.std.specs.declared.cmp.Ordering.TheVariants.{Equal}
use Rattle.cube_model.specs.declared.answer.Fraction.{Fraction}
use Rattle.cube_model.specs.declared.answer.Line.{Line}
use Rattle.cube_model.specs.declared.answer.Member.{Member}
use Rattle.cube_model.specs.declared.query.Query.{Query}
use Rattle.cube_model.specs.declared.rows.DimRows.{DimRows}
use Rattle.cube_model.specs.declared.rows.LineOrder.{LineOrder}
use Rattle.cube_model.specs.Answers.{answer, line_of, rows_of_key}
use Rattle.cube_model.specs.Ascending.{IsAscending}
use Rattle.cube_model.specs.Fractions.{IsFractionOf, fraction_of}
use Rattle.cube_model.specs.Keys.{key_cmp, key_under, keys_of, grouping_sets}
use Rattle.cube_model.specs.Limits.{most_members}
use Rattle.cube_model.specs.Orders.{answer_cmp}
use Rattle.cube_model.specs.Selection.{selected}
use Rattle.cube_model.specs.Validity.{Rules, customer_rules, supplier_rules, part_rules, date_rules, members_of}
use Rattle.cube_model.specs.Validity.{IsValid}

-- Lines answer a query: each is below those after it in the query's order, a key has a line exactly where some
-- selected row has the key, and each line has the aggregates over exactly the selected rows of its key.
pub record IsAnswer (query : Query) (dimensions : DimRows) (rows : List LineOrder) (lines : List Line) : Type 0 where
  pub in_order : IsAscending (answer_cmp query.order) lines
  pub keys : (key : List Member) → list_any (eq_by_cmp key_cmp key) (map (λ line. line.key) lines)
      ≡ list_any (eq_by_cmp key_cmp key)
      (flat_map (keys_of dimensions query) (selected dimensions query.conditions rows))
  pub aggregates : AllByRecursion
      (λ line. line ≡ line_of dimensions query (selected dimensions query.conditions rows) line.key) lines

-- the lines of the answer answer the query, and no other lines do
abbrev pub AnswerIsTheOne : Type 0
AnswerIsTheOne = (query : Query) (dimensions : DimRows) (rows : List LineOrder)
    → IsAnswer query dimensions rows (answer query dimensions rows).lines
    × ((lines : List Line) → IsAnswer query dimensions rows lines → lines ≡ (answer query dimensions rows).lines)

-- Under one grouping set a key's rows are exactly the rows that have the key there. So the lines of one grouping set
-- part the rows: each row counts in one of them, and in no other.
abbrev pub RowsOfAKey : Type 0
RowsOfAKey = (query : Query) (dimensions : DimRows) (rows : List LineOrder)
    → AllByRecursion (λ grouping. (row : LineOrder)
    → rows_of_key dimensions query (key_under dimensions row query.columns grouping) rows
    ≡ filter (λ other. eq_by_cmp key_cmp (key_under dimensions row query.columns grouping)
    (key_under dimensions other query.columns grouping)) rows)
    (grouping_sets query.kind query.columns)

-- keys are in a total order, in which only equal ones tie
abbrev pub KeysAreInTotalOrder : Type 0
KeysAreInTotalOrder = IsTotalOrder key_cmp
    × ((left right : List Member) → (key_cmp left right ≡ Equal) ↔ (left ≡ right))

-- the average of a sum over a count is that fraction in lowest terms, and no other fraction is
abbrev pub FractionIsTheOne : Type 0
FractionIsTheOne = (sum : ℤ) (count : ℕ) → 1 ≤ count
    → IsFractionOf sum count (fraction_of sum count)
    × ((fraction : Fraction) → IsFractionOf sum count fraction → fraction ≡ fraction_of sum count)

-- each item and each later one are in a relation
abbrev pub EachPair : {X : Type 0} → (X → X → Type 0) → List X → Type 0
EachPair R [] = Unit {0}
EachPair R (x ∷ xs) = AllByRecursion (R x) xs × EachPair R xs

-- The rows of a dimension keep its rules, each rule by itself: few rows, keys that differ, no text that means all
-- members, few members of each kind, and no text that determines two others.
pub record KeepsRules {Row : Type 0} (rules : Rules Row) (rows : List Row) : Type 0 where
  pub few_rows : length rows ≤ rules.row_limit
  pub keys_differ : EachPair (λ row other. rules.key row ≢ rules.key other) rows
  pub none_reserved : AllByRecursion (λ row. AllByRecursion (λ text. text row ≢ codes "ALL") rules.texts) rows
  pub few_members : AllByRecursion (λ text. length (members_of (map text rows)) ≤ most_members) rules.texts
  pub one_upper : AllByRecursion
      (λ link. EachPair (λ row other. link.0 row ≡ link.0 other → link.1 row ≡ link.1 other) rows) rules.links

-- the rows of the four dimensions keep the rules
pub record KeepAllRules (rows : DimRows) : Type 0 where
  pub customers : KeepsRules customer_rules rows.customers
  pub suppliers : KeepsRules supplier_rules rows.suppliers
  pub parts : KeepsRules part_rules rows.parts
  pub dates : KeepsRules date_rules rows.dates

-- there is no cause to refuse dimension rows exactly where they keep the rules
abbrev pub ValidRowsKeepTheRules : Type 0
ValidRowsKeepTheRules = (rows : DimRows) → IsValid rows ↔ KeepAllRules rows
