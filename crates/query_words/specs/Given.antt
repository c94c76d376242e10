-- The words that are given. Our own.
use Rattle.std.specs.Prelude.{ℕ, List, [], map, Option, None}
use Rattle.std.specs.Option.{option_map}
use Rattle.query_words.specs.declared.refused.QueryWords.{QueryWords}
use Rattle.query_words.specs.Words.{Words}

-- as texts
abbrev pub words_of : QueryWords → Words
words_of words = record {
  q = option_map (λ word. word.now) words.q;
  set = option_map (λ word. word.now) words.set;
  by = option_map (λ word. word.now) words.by;
  agg = option_map (λ word. word.now) words.agg;
  conditions = map (λ word. word.now) words.conditions.now;
}

-- the number of a query, and no other word
abbrev pub number_alone : Option (List ℕ) → Words
number_alone q = record { q = q; set = None; by = None; agg = None; conditions = [] }
