use Rattle.std.proofs.Common.{◌∙◌, inr, refl, sym, subst}
use Rattle.dictionary.specs.Dictionary.{Adds}
use Rattle.dictionary.proofs.Read.{new_read, none_read}
use Rattle.dictionary.proofs.reading.read_text.Goals as goal

pub returns-in-Some-clause-ok : goal.returns-in-Some-clause-ok
returns-in-Some-clause-ok c =
    let found = c.args.found.now in
    new_read _ _ c.in_ok-text.text.now found c.add_unkept.new.self c.in-Some.code c.in_ok-text.ensures.ok
    (subst (λ code. Adds found c.in_ok-text.text.now code c.add_unkept.new.self) c.in-Some.is c.in_ok-code.ensures.ok)
    (sym c.len-next.ensures.count ∙ sym c.if-code-next.true)

pub returns-in_default-clause-refused : goal.returns-in_default-clause-refused
returns-in_default-clause-refused c = inr (
  refl,
  none_read _ _ c.in_ok-text.text.now c.args.found.now c.add_unkept.new.self c.in_ok-code.field-0
      c.in_ok-text.ensures.ok c.in_ok-code.ensures.ok
      (λ is. let same = sym c.in-Some.is ∙ is in let count = c.len-next.ensures.count in c.if-code-next.false (cc)),
)
