use Rattle.std.proofs.Common.{◌≡◌, ◌∙◌, sym, ap, refl, ℕ, zero, suc, Bool, false, List, [], ◌∷◌, map, get_or, slice_get}
use Rattle.std.proofs.Common.{Some, None}
use Rattle.mode_queries.specs.Selection.{passes_modes}
use Rattle.mode_folds.proofs.celling.passes_at.Goals as goal

at_none : (f : List ℕ → Bool) (texts : List (List ℕ)) (code : ℕ) → None ≡ slice_get texts code
    → get_or (map f texts) code false ≡ false
at_none f [] code none = refl
at_none f (text ∷ texts) zero none = absurd (cc none)
at_none f (text ∷ texts) (suc code) none = at_none f texts code none

at_some : (f : List ℕ → Bool) (texts : List (List ℕ)) (code : ℕ) (own : List ℕ) → Some own ≡ slice_get texts code
    → get_or (map f texts) code false ≡ f own
at_some f [] code own is = absurd (cc is)
at_some f (text ∷ texts) zero own is = (let same : own ≡ text = cc is in ap f (sym same))
at_some f (text ∷ texts) (suc code) own is = at_some f texts code own is

pub returns-in-None : goal.returns-in-None
returns-in-None c = sym (at_none (passes_modes c.args.conditions.now) c.args.modes.now.texts c.args.code
    c.in-None.ensures.text)

pub returns-in-Some : goal.returns-in-Some
returns-in-Some c = c.passes.ensures ∙ sym (at_some (passes_modes c.args.conditions.now) c.args.modes.now.texts
    c.args.code c.in-Some.mode.now c.in-Some.ensures.text)
