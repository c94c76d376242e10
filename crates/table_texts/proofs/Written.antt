-- One row more was written.
use Rattle.std.proofs.Common.{◌≡◌, ◌∙◌, sym, ap, subst, ℕ, ◌+◌, ◌<◌, List, [], ◌∷◌, ◌++◌, length, take, get_or}
use Rattle.std.proofs.Common.{append-nil, Option}
use Rattle.std.specs.Io.KnownBytes.{Appends}
use Rattle.std.specs.List.{flat_map}
use Rattle.std.proofs.KnownBytes.{Appends-trans}
use Rattle.std.proofs.lemmas.Grind.{flat_map-append}
use Rattle.std.proofs.lemmas.List.{take_more}
use Rattle.std.proofs.lemmas.List.Concat.{flat_map-cons}

pub up_to_next : {A : Type 0} (text : A → List ℕ) (items : List A) (i : ℕ) (item : A) → i < length items
    → item ≡ get_or items i item
    → flat_map text (take (i + 1) items) ≡ flat_map text (take i items) ++ text item
up_to_next text items i item within is =
    ap (flat_map text) (take_more items i item within)
    ∙ flat_map-append text (take i items) (get_or items i item ∷ [])
    ∙ ap (λ rest. flat_map text (take i items) ++ rest) (flat_map-cons text (get_or items i item) []
    ∙ append-nil (text (get_or items i item)) ∙ ap text (sym is))

-- the texts of the items before one were written, and then its own
pub Appends-next : {A : Type 0} (text : A → List ℕ) (items : List A) (i : ℕ) (item : A) (old mid new : Option (List ℕ))
    → i < length items → item ≡ get_or items i item
    → Appends old mid (flat_map text (take i items)) → Appends mid new (text item)
    → Appends old new (flat_map text (take (i + 1) items))
Appends-next text items i item old mid new within is before here =
    subst (Appends old new) (sym (up_to_next text items i item within is))
    (Appends-trans old mid new (flat_map text (take i items)) (text item) before here)
