use Rattle.std.proofs.Common.{◌≡◌, ◌∙◌, sym, ap, subst, inl, inr, arith, List, [], ◌∷◌, ◌++◌, Some, get_or, length}
use Rattle.std.proofs.Common.{slice_set}
use Rattle.std.proofs.Math.Seq.{get_or-append_seam}
use Rattle.std.specs.declared.alloc.Global.{Global}
use Rattle.std.specs.declared.vec.Vec.{Vec}
use Rattle.cube_model.specs.declared.rows.LineOrder.{LineOrder}
use Rattle.dictionary.proofs.CallerLemmas.{place_within}
use Rattle.dictionary.specs.Dictionary.{Adds}
use Rattle.mode_folds.specs.Divided.{AreDivided}
use Rattle.mode_folds.proofs.Adding.{kept_or_new, put_known, put_new}
use Rattle.mode_folds.proofs.dividing.put_row.Goals.{then-code-len+in_ok-push, else-code-len}
use Rattle.mode_folds.proofs.dividing.put_row.Goals as goal

pub returns-clause-ok : goal.returns-clause-ok
returns-clause-ok c = λ known rows divided.
    let old = c.args.modes.now in
    let row = c.args.row in
    let code = c.in-Some.code in
    let adds : Adds old row.shipmode (Some code) c.add.new.self =
    subst (λ mode. Adds old mode (Some code) c.add.new.self) c.as_slice.ensures
    (subst (λ found. Adds old c.as_slice.result.now found c.add.new.self) c.in-Some.is c.in_ok-code.ensures.ok) in
    let goes : List (Vec LineOrder Global) → Type 0 =
    λ parts. AreDivided known c.add.new.self.texts (rows ++ row ∷ []) (slice_set parts code c.push-2.new.self)
    in
    elim c.if-code-len.branch [
      | then-code-len+in_ok-push w ↦
          let parts_are : c.if-code-len.parts.items ≡ c.args.parts.now.items ++ w.new.result ∷ [] =
          ap (λ v. v.items) w.parts-is ∙ w.in_ok-push.ensures.items in
          elim (kept_or_new old c.add.new.self row.shipmode code adds) [
            | inl kept ↦
                absurd (omega (
                  arith,
                  kept.code_is,
                  place_within _ old.texts kept.seen,
                  c.requires,
                  w.if-code-len.true,
                  c.len.ensures,
                ))
            | inr fresh ↦
                let at : code ≡ length c.args.parts.now.items = omega (arith, fresh.code_is, c.requires) in
                subst goes (sym parts_are)
                (put_new known rows row old c.add.new.self code c.args.parts.now.items w.new.result c.push-2.new.self
                fresh at
                (c.in_ok-push-2.ensures.items
                ∙ ap (λ v. v.items ++ row ∷ []) (c.index_mut.ensures.value
                ∙ (λ i. get_or (parts_are i) (at i) c.index_mut.result.now)
                ∙ get_or-append_seam c.args.parts.now.items w.new.result [] c.index_mut.result.now)
                ∙ ap (λ l. l ++ row ∷ []) w.new.ensures.items) divided)
          ]
      | else-code-len w ↦
          let parts_are : c.if-code-len.parts.items ≡ c.args.parts.now.items = ap (λ v. v.items) w.parts-is in
          elim (kept_or_new old c.add.new.self row.shipmode code adds) [
            | inl kept ↦
                subst goes (sym parts_are)
                (put_known known rows row old c.add.new.self code c.args.parts.now.items c.index_mut.result.now
                c.push-2.new.self kept
                (omega (arith, kept.code_is, place_within _ old.texts kept.seen, c.requires))
                (c.in_ok-push-2.ensures.items
                ∙ ap (λ v. v.items ++ row ∷ []) (c.index_mut.ensures.value
                ∙ ap (λ l. get_or l code c.index_mut.result.now) parts_are)) divided)
            | inr fresh ↦ absurd (omega (arith, fresh.code_is, c.requires, w.if-code-len.false, c.len.ensures))
          ]
    ]
