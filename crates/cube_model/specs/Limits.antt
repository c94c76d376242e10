-- The limits of rows, batches and queries, each in one place. Those of queries and texts are our own choice; a
-- dimension of days has fewer rows, so that a day has a number of two bytes.
use Rattle.std.specs.Prelude.{ℕ}

-- bytes of a text that is kept
abbrev pub longest_text : ℕ
longest_text = 255

-- bytes of a line of a table, a carriage return counted and the line feed not
abbrev pub longest_line : ℕ
longest_line = 8192

-- fact rows of a batch
abbrev pub most_batch_rows : ℕ
most_batch_rows = 65536

-- batches of a warehouse
abbrev pub most_batches : ℕ
most_batches = 4096

-- rows of a dimension of customers, suppliers or parts
abbrev pub most_dimension_rows : ℕ
most_dimension_rows = 4194304

-- rows of the dimension of days
abbrev pub most_days : ℕ
most_days = 65535

-- members of an attribute
abbrev pub most_members : ℕ
most_members = 65535

-- columns of a query
abbrev pub most_columns : ℕ
most_columns = 6

-- aggregates that are asked for in words
abbrev pub most_asked_aggregates : ℕ
most_asked_aggregates = 8

-- aggregates of a query: those that are asked for, and the count that a partial answer has before them
abbrev pub most_aggregates : ℕ
most_aggregates = 9

-- conditions of a query
abbrev pub most_conditions : ℕ
most_conditions = 16

-- texts of a condition that lists them
abbrev pub most_listed_texts : ℕ
most_listed_texts = 64
