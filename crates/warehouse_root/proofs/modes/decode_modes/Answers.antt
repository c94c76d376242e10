use Rattle.std.proofs.Common.{◌≡◌, ◌∙◌, ⊎_elim, ◌++◌, codes, inl, inr, refl, sym}
use Rattle.std.proofs.lemmas.Result.{err_from_is_err_and}
use Rattle.warehouse_root.proofs.ModesLemmas.{none_longer, none_reserved, none_texts}
use Rattle.warehouse_root.proofs.modes.decode_modes.Goals.{then-not-is_empty-via-then-not-is_empty}
use Rattle.warehouse_root.proofs.modes.decode_modes.Goals.{then-not-is_empty-via-else-not-is_empty+then-names_all}
use Rattle.warehouse_root.proofs.modes.decode_modes.Goals as goal

-- no dictionary after the name
pub returns-in_err-modes-clause-refused : goal.returns-in_err-modes-clause-refused
returns-in_err-modes-clause-refused c =
    let refused = err_from_is_err_and c.from_residual-in_err-modes.result c.from_residual-in_err-modes.ensures.1 in
    let name : c.args.bytes.now ≡ codes "SHP2" ++ c.read_name.new.cursor =
    sym c.new-cursor.ensures ∙ c.in_ok-read_name.ensures.ok in
    rw (refused.1, refused.2)
    (⊎_elim (λ memory. inl memory)
    (λ bad. inr (bad.0, none_texts c.args.bytes.now c.read_name.new.cursor name bad.1))
    c.in_err-modes.ensures.refused)

-- bytes after the dictionary, or a text that means all ship modes
pub returns-then-not-is_empty-clause-refused : goal.returns-then-not-is_empty-clause-refused
returns-then-not-is_empty-clause-refused c =
    let name : c.args.bytes.now ≡ codes "SHP2" ++ c.read_name.new.cursor =
    sym c.new-cursor.ensures ∙ c.in_ok-read_name.ensures.ok in
    inr (
      refl,
      elim c.then-not-is_empty.branch [
        | then-not-is_empty-via-then-not-is_empty w ↦
            none_longer c.args.bytes.now c.read_name.new.cursor name c.read.new.cursor c.in_ok-modes.modes.texts
            c.in_ok-modes.ensures.ok
            (λ ends. let yes = c.is_empty.ensures.1 ends in cc w.if-not-is_empty.true)
        | then-not-is_empty-via-else-not-is_empty+then-names_all w ↦
            none_reserved c.args.bytes.now c.read_name.new.cursor name c.read.new.cursor c.in_ok-modes.modes.texts
            c.in_ok-modes.ensures.ok (sym w.names_all.ensures ∙ w.if-names_all.true)
      ],
    )
