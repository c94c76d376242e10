use Rattle.cube_model.specs.declared.attr.Attr.TheVariants.{CustomerCity}
use Rattle.std.proofs.Common.{◌≡◌, ℕ, ◌<◌, get_or}
use Rattle.cube_model.specs.Names.{attr_name}
use Rattle.query_words.proofs.names.attribute.Given as goal

abbrev pub invariant-loop-attr : goal.invariant-loop-attr
invariant-loop-attr l = (k : ℕ) → k < l.attr-index → (attr_name (get_or l.attr-items k (CustomerCity)) ≡ l.name → ⊥)
