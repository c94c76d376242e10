use Rattle.std.specs.Prelude.{Bool, true, false, ℕ, List, [], ◌∷◌, ◌++◌, map}
use Rattle.std.specs.declared.cmp.Ordering.{Ordering}
use Rattle.std.specs.Ordering.{bool_cmp, nat_cmp, on, then_cmp}
use Rattle.std.specs.Cmp.Lexicographic.{slice_cmp}
use Rattle.cube_model.specs.declared.answer.Member.{Member}
use Rattle.cube_model.specs.declared.answer.Member.TheVariants.{All, Text}
use Rattle.cube_model.specs.declared.attr.Attr.{Attr}
use Rattle.cube_model.specs.declared.query.Kind.{Kind}
use Rattle.cube_model.specs.declared.query.Kind.TheVariants.{Plain, Rollup, Cube}
use Rattle.cube_model.specs.declared.query.Query.{Query}
use Rattle.cube_model.specs.declared.rows.LineOrder.{LineOrder}
use Rattle.cube_model.specs.declared.rows.DimRows.{DimRows}
use Rattle.cube_model.specs.Attributes.{attribute_of}

-- A grouping set says of each column whether it is grouped.
abbrev pub GroupingSet : Type 0
GroupingSet = List Bool

-- the beginnings of the columns, from the empty one to the whole
abbrev pub beginnings : List Attr → List GroupingSet
beginnings [] = [] ∷ []
beginnings (column ∷ columns) = map (λ _. false) (column ∷ columns)
    ∷ map (λ grouping. true ∷ grouping) (beginnings columns)

-- all choices of columns
abbrev pub subsets : List Attr → List GroupingSet
subsets [] = [] ∷ []
subsets (column ∷ columns) = map (λ grouping. true ∷ grouping) (subsets columns)
    ++ map (λ grouping. false ∷ grouping) (subsets columns)

abbrev pub grouping_sets : Kind → List Attr → List GroupingSet
grouping_sets Plain columns = map (λ _. true) columns ∷ []
grouping_sets Rollup columns = beginnings columns
grouping_sets Cube columns = subsets columns

-- the key of a fact row under a grouping set: its attribute at a grouped column, ALL elsewhere
abbrev pub key_under : DimRows → LineOrder → List Attr → GroupingSet → List Member
key_under dimensions row [] grouping = []
key_under dimensions row (column ∷ columns) [] = []
key_under dimensions row (column ∷ columns) (true ∷ grouping) = Text (attribute_of dimensions column row)
    ∷ key_under dimensions row columns grouping
key_under dimensions row (column ∷ columns) (false ∷ grouping) = All ∷ key_under dimensions row columns grouping

-- the keys of a fact row, one for each grouping set
abbrev pub keys_of : DimRows → Query → LineOrder → List (List Member)
keys_of dimensions query row = map (key_under dimensions row query.columns) (grouping_sets query.kind query.columns)

abbrev pub is_all : Member → Bool
is_all (Text text) = false
is_all All = true

-- the bytes of a member, none of ALL
abbrev pub member_bytes : Member → List ℕ
member_bytes (Text text) = text
member_bytes All = []

-- ALL after every text, and texts by bytes
abbrev pub member_cmp : Member → Member → Ordering
member_cmp = then_cmp (on is_all bool_cmp) (on member_bytes (slice_cmp nat_cmp))

-- keys column by column
abbrev pub key_cmp : List Member → List Member → Ordering
key_cmp = slice_cmp member_cmp
