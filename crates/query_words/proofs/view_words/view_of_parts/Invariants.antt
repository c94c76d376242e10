use Rattle.std.proofs.Common.{◌<◌, map}
use Rattle.lattice.specs.declared.view.View.{View}
use Rattle.lattice.specs.Views.{index_of}
use Rattle.query_words.specs.ViewWords.{NameLevels}
use Rattle.query_words.proofs.view_words.view_of_parts.Given as goal

abbrev pub invariant-loop-index : goal.invariant-loop-index
invariant-loop-index l = (view : View) → index_of view < l.index → NameLevels (map (λ part. part.now) l.parts) view → ⊥
