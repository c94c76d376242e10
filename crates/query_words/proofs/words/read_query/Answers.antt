use Rattle.std.proofs.Common.{Bor, List, ℕ, Option, ap}
use Rattle.std.specs.Option.{option_map}
use Rattle.query_words.specs.Given.{words_of}
use Rattle.query_words.proofs.WordsLemmas.{reads_cube}
use Rattle.query_words.proofs.words.read_query.Goals as goal

abbrev text_in : Option (Bor (List ℕ)) → Option (List ℕ)
text_in word = option_map (λ one. one.now) word

pub returns-in-None-Some : goal.returns-in-None-Some
returns-in-None-Some c =
    reads_cube (words_of c.args.words.now) c.in-None-Some.agg.now c.read_cube.result
    (ap text_in c.in-None-Some.is-0) (ap text_in c.in-None-Some.is-1) c.read_cube.ensures
