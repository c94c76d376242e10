use Rattle.std.proofs.Common.{◌≡◌, ◌-◌, ◌^◌, min, ℕ, List, length, sym, ◌∙◌, ap, arith}
use Rattle.std.specs.List.{sum_by}
use Rattle.superblock.specs.Superblock.{sectors_of}
use Rattle.object_store.specs.Room.{catalogue_bytes}
use Rattle.warehouse_root.specs.Objects.{object_ids}
use Rattle.warehouse_objects.specs.Represents.{root_of}
use Rattle.warehouse.specs.Room.{object_sectors}
use Rattle.warehouse.specs.Session.{content_of}
use Rattle.warehouse.proofs.Cuboids.{represented_agrees}
use Rattle.warehouse.proofs.session.Session.sectors_taken.Goals as goal

pub returns-clause-taken : goal.returns-clause-taken
returns-clause-taken g c w at k =
    let s = c.args.self.now in
    let content = content_of g.D.Sectors s in
    let agree = represented_agrees content w s.modes (s.loaded at.fine k) (at.represents k) in
    let objects : c.sectors_of_objects-objects.result ≡ min (sum_by (object_sectors content) (object_ids (root_of w)))
    (2 ^ 64 - 1) =
    c.sectors_of_objects-objects.ensures k
    ∙ ap (λ (ids : List ℕ). min (sum_by (object_sectors content) ids) (2 ^ 64 - 1))
    (c.as_slice.ensures.value ∙ c.in_ok-ids.ensures.ok ∙ ap object_ids (sym agree.root_is)) in
    let catalogue : c.catalogue_sectors-catalogue.result
    ≡ sectors_of (catalogue_bytes (length content.objects) (length content.root)) =
    c.catalogue_sectors-catalogue.ensures
    ∙ ap (λ (n : ℕ). sectors_of (catalogue_bytes n (length c.root.result.now))) c.objects.ensures
    ∙ ap (λ (bytes : List ℕ). sectors_of (catalogue_bytes (length content.objects) (length bytes))) c.root.ensures in
    omega (arith, objects, catalogue, c.saturating_add.ensures, c.saturating_add-2.ensures)
