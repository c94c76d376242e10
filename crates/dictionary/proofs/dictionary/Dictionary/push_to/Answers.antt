use Rattle.std.proofs.Common.{◌≤◌, All, length, subst, sym}
use Rattle.cube_model.specs.Limits.{longest_text}
use Rattle.dictionary.proofs.Texts.{shorts_of}
use Rattle.dictionary.proofs.dictionary.Dictionary.push_to.Goals as goal

pub push_texts-requires : goal.push_texts-requires
push_texts-requires c = record {
  short = subst (λ texts. All (λ text. length text.items ≤ longest_text) texts) (sym c.as_slice.ensures.keys)
      (shorts_of (λ v. v.items) c.self.inside.texts.keys (rw (← c.self.view_is) at c.requires.short));
}
