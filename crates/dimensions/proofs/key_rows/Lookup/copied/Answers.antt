use Rattle.std.proofs.Common.{◌≡◌, ◌∙◌, ap, nat_eq}
use Rattle.std.specs.Map.{lookup}
use Rattle.std.proofs.lemmas.Map.Entries.{entries_from_clone}
use Rattle.dimensions.proofs.key_rows.Lookup.copied.Goals as goal

pub returns-in_ok-clone-in-Hashed : goal.returns-in_ok-clone-in-Hashed
returns-in_ok-clone-in-Hashed c = λ keys finds key.
    ap (lookup (nat_eq key))
    (entries_from_clone (λ x y. y ≡ x) (λ x y. y ≡ x) (λ x y e. e) (λ x y e. e) c.in-Hashed.rows.entries
    c.in_ok-clone-in-Hashed.field-0.entries c.in_ok-clone-in-Hashed.ensures.cases)
    ∙ (rw c.in-Hashed.is at finds) key
