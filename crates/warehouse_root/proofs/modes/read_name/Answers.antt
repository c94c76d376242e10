use Rattle.std.proofs.Common.{◌≡◌, ◌∙◌, ℕ, List, ◌++◌, ap, codes}
use Rattle.warehouse_root.proofs.ModesLemmas.{name_differs, name_is, name_is_same}
use Rattle.warehouse_root.proofs.modes.read_name.Goals as goal

pub returns-then-ne-clause-none : goal.returns-then-ne-clause-none
returns-then-ne-clause-none c = λ err rest is.
    name_differs c.in_ok-bytes.field-0.now (codes "SHP2") _ c.ne.ensures c.if-ne.true
    (name_is _ _ _ rest c.in_ok-bytes.ensures.value is)

pub returns-clause-ok : goal.returns-clause-ok
returns-clause-ok c =
    let name : c.in_ok-bytes.field-0.now ≡ codes "SHP2" =
    name_is_same c.in_ok-bytes.field-0.now (codes "SHP2") _ c.ne.ensures c.if-ne.false in
    c.in_ok-bytes.ensures.value.spelled ∙ ap (λ (front : List ℕ). front ++ c.bytes.new.self) name
