use Rattle.std.proofs.Common.{◌≡◌, ◌∙◌, ◌++◌, sym, ap, refl, subst, arith, ℕ, length, take, drop}
use Rattle.std.proofs.Math.Seq.{take-append_seam}
use Rattle.cuboid_upkeep.specs.Keys.{AreRowKeys}
use Rattle.cuboid_upkeep.proofs.keys.keys_of_rows.Goals as goal

pub returns-clause-ok : goal.returns-clause-ok
returns-clause-ok g c modes codes =
    let rows = g.F.FactRows.rows c.args.rows.now in
    let keys = c.put_keys.new.keys in
    let rest = drop (length keys) c.resize.new.self.items in
    let put : AreRowKeys c.args.dims.now modes c.args.view c.args.members.now rows (length rows) keys =
    c.if-not-put_keys.ensures.ok refl modes codes in
    let many : c.resize.new.self.len ≡ length keys =
    omega (arith, put.many, c.count.ensures, c.in_ok-resize.ensures.len) in
    subst (AreRowKeys c.args.dims.now modes c.args.view c.args.members.now rows (length rows))
    (sym (ap (λ (n : ℕ). take n (keys ++ rest)) many ∙ take-append_seam keys rest)) put
