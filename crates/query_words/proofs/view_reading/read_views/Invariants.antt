use Rattle.std.proofs.Common.{map, take}
use Rattle.query_words.specs.ViewWords.{ViewsAreNamed}
use Rattle.query_words.proofs.view_reading.read_views.Given as goal

abbrev pub invariant-loop-place : goal.invariant-loop-place
invariant-loop-place l = ViewsAreNamed (map (λ word. word.now) (take l.place l.words)) l.views.items
