use Rattle.std.proofs.Common.{⊎_elim, inl, inr, List, sym, ◌∙◌, subst}
use Rattle.std.proofs.lemmas.Result.{err_from_is_err_and}
use Rattle.extents.specs.Extents.{AreLaidOut}
use Rattle.object_store.specs.declared.catalogue.entry.Entry.{Entry}
use Rattle.object_store.proofs.Catalogues.{IsCatalogue-one}
use Rattle.object_store.specs.Places.{used_by}
use Rattle.object_store.proofs.find.parse.Goals as goal

pub returns-in_err-check_extents-clause-refused : goal.returns-in_err-check_extents-clause-refused
returns-in_err-check_extents-clause-refused c =
    let p = err_from_is_err_and c.from_residual-in_err-check_extents.result
    c.from_residual-in_err-check_extents.ensures.1 in
    rw (p.1, p.2) (
    ⊎_elim (λ memory. inl memory) (λ bad. inr (
      bad.0,
      λ entries root is laid.
          let same = IsCatalogue-one c.args.bytes.now entries c.in_ok-catalogue.catalogue.entries.items root
          c.in_ok-catalogue.catalogue.root.items is c.in_ok-catalogue.ensures.ok in
          bad.1 (subst (λ (l : List Entry). AreLaidOut c.args.superblock.now.sectors (used_by c.args.superblock.now l))
          (same.0 ∙ sym c.deref.ensures.value) laid),
    )) c.in_err-check_extents.ensures.refused)
