use Rattle.std.proofs.Common.{◌∙◌, sym}
use Rattle.std.specs.Str.{bytes_eq}
use Rattle.dictionary.proofs.Items.{position-map}
use Rattle.dictionary.proofs.dictionary.Dictionary.code.Goals as goal

pub returns-in-None-clause-value : goal.returns-in-None-clause-value
returns-in-None-clause-value c =
    rw (← c.self.view_is) (sym c.in-None.is ∙ c.get_index_of.ensures.index
    ∙ sym (position-map (bytes_eq c.args.text.now) (λ v. v.items) c.self.inside.texts.keys))

pub returns-in-Some-clause-value : goal.returns-in-Some-clause-value
returns-in-Some-clause-value c =
    rw (← c.self.view_is) (sym c.in-Some.is ∙ c.get_index_of.ensures.index
    ∙ sym (position-map (bytes_eq c.args.text.now) (λ v. v.items) c.self.inside.texts.keys))
