use Rattle.std.proofs.Common.{◌≡◌, ◌∙◌, codes}
use Rattle.dictionary.specs.Dictionary.{code_of}
use Rattle.warehouse_root.proofs.ModesLemmas.{named}
use Rattle.warehouse_root.proofs.modes.names_all.Goals as goal

pub returns : goal.returns
returns c = named c.args.modes.now.texts (codes "ALL") c.code.result c.is_some.result (c.code.ensures.value ∙ text_is)
    c.is_some.ensures
  where
    text_is : code_of c.args.modes.now.texts c.as_slice.result.now ≡ code_of c.args.modes.now.texts (codes "ALL")
    text_is = (λ i. code_of c.args.modes.now.texts (c.as_slice.ensures i))
