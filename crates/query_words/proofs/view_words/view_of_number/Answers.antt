use Rattle.std.proofs.Common.{◌<◌, arith}
use Rattle.lattice.specs.Views.{index_of}
use Rattle.lattice.proofs.LawsLemmas.{indexes_name_views}
use Rattle.query_words.proofs.view_words.view_of_number.Goals as goal

pub returns-in-None : goal.returns-in-None
returns-in-None c =
    λ view number. let low : index_of view < 512 = indexes_name_views.below view in
    absurd (omega (arith, low, c.in-None.ensures (index_of view) number))
