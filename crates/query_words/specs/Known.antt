-- The names that words may have. Our own.
use Rattle.std.specs.Prelude.{◌≡◌, ◌⊎◌, ℕ, List, codes}
use Rattle.cube_model.specs.declared.measure.Agg.{Agg}
use Rattle.cube_model.specs.declared.measure.Agg.TheVariants as agg
use Rattle.cube_model.specs.declared.measure.Measure.{Measure}
use Rattle.cube_model.specs.declared.query.Kind.{Kind}
use Rattle.cube_model.specs.Names.{attr_name, measure_name}
use Rattle.mode_queries.specs.Names.{ship_mode_name}
use Rattle.ssb_reports.specs.declared.number.QNumber.{QNumber}
use Rattle.ssb_reports.specs.Benchmark.{query_number_text}
use Rattle.query_words.specs.declared.known.Column.{Column}
use Rattle.query_words.specs.declared.known.Column.TheVariants.{Attribute, ShipMode}
use Rattle.query_words.specs.declared.known.Known.{Known}
use Rattle.query_words.specs.declared.known.Known.TheVariants as known
use Rattle.query_words.specs.declared.known.Subject.{Subject}
use Rattle.query_words.specs.declared.known.Subject.TheVariants.{Member, Quantity, Discount}
use Rattle.query_words.specs.declared.known.Taken.{Taken}
use Rattle.query_words.specs.declared.known.Taken.TheVariants.{Sum, Min, Max, Avg}
use Rattle.query_words.specs.Words.{kind_name}

-- what is taken of a measure, and the aggregate that takes it
abbrev pub taken_name : Taken → List ℕ
taken_name Sum = codes "sum"
taken_name Min = codes "min"
taken_name Max = codes "max"
taken_name Avg = codes "avg"

abbrev pub agg_of : Taken → Measure → Agg
agg_of Sum measure = agg.Sum measure
agg_of Min measure = agg.Min measure
agg_of Max measure = agg.Max measure
agg_of Avg measure = agg.Avg measure

-- what can be a column
abbrev pub column_name : Column → List ℕ
column_name (Attribute attr) = attr_name attr
column_name ShipMode = ship_mode_name

-- what a condition is on
abbrev pub subject_name : Subject → List ℕ
subject_name (Member column) = column_name column
subject_name Quantity = codes "quantity"
subject_name Discount = codes "discount"

-- a word is a name
abbrev pub IsName : Known → List ℕ → Type 0
IsName known.Query word = (number : QNumber) × (word ≡ query_number_text number)
IsName known.Set word = (kind : Kind) × (word ≡ kind_name kind)
IsName known.Attribute word = (column : Column) × (word ≡ column_name column)
IsName known.Aggregate word = (word ≡ codes "count") ⊎ ((taken : Taken) × (word ≡ taken_name taken))
IsName known.Measure word = (measure : Measure) × (word ≡ measure_name measure)
IsName known.Ranged word = (subject : Subject) × (word ≡ subject_name subject)
