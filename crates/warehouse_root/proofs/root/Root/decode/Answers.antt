use Rattle.std.proofs.Common.{◌≡◌, ⊎_elim, IsTrue, inl, inr, refl, sym, subst}
use Rattle.std.proofs.lemmas.Result.{err_from_is_err_and}
use Rattle.warehouse_root.specs.Reading.{root_of_parts}
use Rattle.warehouse_root.specs.Root.{IsProperRoot}
use Rattle.warehouse_root.proofs.root.Root.decode.Goals as goal

-- bytes that spell no root
pub returns-in_err-parts-clause-refused : goal.returns-in_err-parts-clause-refused
returns-in_err-parts-clause-refused c =
    let refused = err_from_is_err_and c.from_residual.result c.from_residual.ensures.1 in
    rw (refused.1, refused.2)
    (⊎_elim (λ memory. inl memory) (λ bad. inr (bad.0, λ root is. bad.1 root is.is_root))
    c.in_err-parts.ensures.refused)

-- a root of these bytes has the parts that were read, and keeps the rules
pub returns-then-not-keep_rules-clause-refused : goal.returns-then-not-keep_rules-clause-refused
returns-then-not-keep_rules-clause-refused c = inr (
  refl,
  λ root is.
      let moved : root_of_parts c.args.layout c.in_ok-parts.parts.counts c.in_ok-parts.parts.totals c.deref.result.now
      c.deref-2.result.now ≡ root =
      rw (c.deref.ensures.value, c.deref-2.ensures.value) (c.in_ok-parts.ensures.ok.parts_are c.args.layout root is) in
      let yes : IsTrue c.keep_rules.result =
      c.keep_rules.ensures.1 (subst IsProperRoot (sym moved) is.is_root.proper) in
      cc c.if-not-keep_rules.true,
)

-- the parts are a root, since they keep the rules
pub returns-clause-ok : goal.returns-clause-ok
returns-clause-ok c =
    c.in_ok-parts.ensures.ok.is_root_of c.args.layout
    (rw (c.deref.ensures.value, c.deref-2.ensures.value) at c.keep_rules.ensures.0 c.if-not-keep_rules.false)
