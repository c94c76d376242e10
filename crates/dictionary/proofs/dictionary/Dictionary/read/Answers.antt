use Rattle.std.proofs.Common.{arith, inr, refl, subst, sym}
use Rattle.dictionary.specs.Dictionary.{Texts}
use Rattle.dictionary.specs.Reading.{BeginsWithSome}
use Rattle.dictionary.proofs.Read.{handed_on, no_count, none_of}
use Rattle.dictionary.proofs.dictionary.Dictionary.read.Goals as goal

pub returns-in_err-count-clause-refused : goal.returns-in_err-count-clause-refused
returns-in_err-count-clause-refused c =
    handed_on _ _ _ _ c.from_residual.ensures.1 (λ none. none)
    (inr (c.in_err-count.ensures.fault, no_count c.args.limit _ (c.in_err-count.ensures.short.0 refl)))

pub returns-in_err-read_texts-clause-refused : goal.returns-in_err-read_texts-clause-refused
returns-in_err-read_texts-clause-refused c =
    handed_on _ _ _ _ c.from_residual-in_err-read_texts.ensures.1
    (λ none. none_of c.args.limit c.in_ok-count.count _ c.u32.new.self (omega arith) c.in_ok-count.ensures.value
    (λ begins. none
    (subst (λ (d : Texts). BeginsWithSome c.in_ok-count.count d.limit c.u32.new.self) (sym c.new-found.ensures)
    begins)))
    c.in_err-read_texts.ensures.refused
