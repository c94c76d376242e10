-- A session and its store, for the commits of cuboids and for audits.
use Rattle.std.proofs.Common.{◌≡◌, ◌∙◌, ℕ, List, false, refl, subst, sym}
use Rattle.sector_device.specs.declared.device.Sectors.{Ghosts}
use Rattle.cube_model.specs.declared.rows.DimRows.{DimRows}
use Rattle.object_store.specs.Content.{Content}
use Rattle.object_store.specs.Store as stores
use Rattle.warehouse_root.specs.declared.layout.Layout.{Layout}
use Rattle.warehouse_root.specs.Root.{PlainRoot}
use Rattle.warehouse_root.proofs.CallerLemmas.{IsRootOf-one}
use Rattle.warehouse_objects.specs.Loaded.{IsLoaded}
use Rattle.warehouse_objects.specs.Represents.{AreItsMembers, HasModes, IsLaidOut, Represents, root_of}
use Rattle.warehouse_objects.specs.Warehouse.{Warehouse}
use Rattle.warehouse_objects.proofs.CallerLemmas.{laid_of, modes_one, one_layout}
use Rattle.warehouse_objects.proofs.Contents.{rows_one}
use Rattle.stored_cuboids.specs.Keeping as keeping
use Rattle.warehouse.specs.declared.session.Session.{Session}
use Rattle.warehouse.specs.Loaded.{Agrees}
use Rattle.warehouse.specs.Session.{IsAt, content_of, disk_of}
use Rattle.warehouse.specs.Upkeep.{IsLaidAt}

-- what is kept in memory of a content that represents a warehouse
module _ {rows : DimRows} {root : PlainRoot} (c : Content) (w : Warehouse) (modes : List (List ℕ))
    (is : IsLoaded c rows modes root) where
  of_layout : IsLaidOut c w → w.layout ≡ root.layout
  of_layout laid = one_layout w.layout root.layout (sym laid.layout ∙ is.layout)

  pub laid_agrees : IsLaidOut c w → Agrees w rows root
  laid_agrees laid = record {
    rows_are = rows_one c w.rows rows laid.rows is.storable
        (record {
          customers = laid.objects 1;
          suppliers = laid.objects 2;
          parts = laid.objects 3;
          dates = laid.objects 4;
        }) is.has_rows;
    root_is = IsRootOf-one root.layout c.root (root_of w) root
        (record { of_layout = of_layout laid; is_root = laid.root })
        (record { of_layout = refl; is_root = is.is_root });
  }

  pub represented_agrees : Represents c w → Agrees w rows root
  represented_agrees represents = laid_agrees (laid_of c w represents)

  pub laid_members : IsLaidOut c w → AreItsMembers w rows modes
  laid_members laid = record {
    rows = sym (laid_agrees laid).rows_are;
    modes = modes_one c w modes laid
        (subst (λ (layout : Layout). HasModes c layout modes) (sym (of_layout laid)) is.has_modes) is.are_modes;
  }

module _ {D : Type 0} (g : Ghosts D) (w : Warehouse) where
  pub agrees : (session : Session D g) → IsAt g session w → (disk_of g session).keeps_word
      → Agrees w session.dims.value session.root
  agrees session at k =
      represented_agrees (content_of g session) w session.modes (session.loaded at.fine k) (at.represents k)

  -- its store, with the root in memory
  pub kept_at : (session : Session D g) → IsAt g session w → keeping.StoreAt g session.store session.root w
  kept_at session at =
      record { fine = at.fine; represents = at.represents; root_is = λ k. (agrees session at k).root_is }

  -- the members that it keeps, whose rows are given as others are
  pub members_are : (session : Session D g) → (rows : DimRows) → rows ≡ session.dims.value
      → stores.has_failed session.store ≡ false → (disk_of g session).keeps_word
      → IsLaidOut (content_of g session) w → AreItsMembers w rows session.modes
  members_are session rows same fine k laid =
      let own = laid_members (content_of g session) w session.modes (session.loaded fine k) laid in
      record { rows = same ∙ own.rows; modes = own.modes }

  -- those of a warehouse that it represents
  pub members_at : (session : Session D g) → IsAt g session w → (rows : DimRows) → rows ≡ session.dims.value
      → (disk_of g session).keeps_word → AreItsMembers w rows session.modes
  members_at session at rows same k =
      members_are session rows same at.fine k (laid_of (content_of g session) w (at.represents k))

  pub laid_at : (session : Session D g) → IsAt g session w → IsLaidAt g session w
  laid_at session at = record { fine = at.fine; laid = λ k. laid_of (content_of g session) w (at.represents k) }
