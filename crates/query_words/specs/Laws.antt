-- What the grammar of words keeps. Our own.
use Rattle.std.specs.Prelude.{◌≡◌}
use Rattle.mode_queries.specs.declared.query.ModeQuery.{ModeQuery}
use Rattle.query_words.specs.Words.{SpellsQuery, Words}

-- words spell no two queries
abbrev pub SpellOneQuery : Type 0
SpellOneQuery = (words : Words) (one other : ModeQuery) → SpellsQuery words one → SpellsQuery words other
    → one ≡ other
