use Rattle.query_words.proofs.Once.{spell_one_query}
use Rattle.query_words.proofs.laws.words_spell_one_query.Goals as goal

pub returns : goal.returns
returns c = spell_one_query
