-- The ship modes that were read, and those of the warehouse that the content represents.
use Rattle.std.proofs.Common.{◌≡◌, ◌∙◌, ap, refl, sym, ℕ, List, [], Some}
use Rattle.cube_model.specs.Admission.{all_rows}
use Rattle.object_store.specs.Content.{Content, bytes_of}
use Rattle.warehouse_root.specs.declared.layout.Layout.{Layout}
use Rattle.warehouse_root.specs.declared.layout.Layout.TheVariants.{First, Second}
use Rattle.warehouse_root.specs.Modes.{AreModes, SpellModes, kept_modes, modes_spelling}
use Rattle.warehouse_root.proofs.ModesLaws.{SpellModes-one}
use Rattle.warehouse_objects.specs.Warehouse.{Cuboid, Warehouse, ship_modes_of}
use Rattle.warehouse_objects.specs.Represents.{HasModes, Represents, RepresentsWith, modes_object}
use Rattle.warehouse_objects.proofs.Batches.{some_one}

-- the object of a layout and what is read of it
one_in : (c : Content) (layout : Layout) (modes others : List (List ℕ)) → bytes_of c 5 ≡ modes_object layout others
    → (layout ≡ First → others ≡ []) → HasModes c layout modes → AreModes modes → AreModes others → modes ≡ others
one_in c First modes others is none has are also = has ∙ sym (none refl)
one_in c Second modes others is none has are also =
    SpellModes-one (modes_spelling modes) modes others (record { spelled = refl; are = are })
    (record { spelled = some_one (modes_spelling modes) (modes_spelling others) (sym has ∙ is); are = also })

pub modes_one : {Keeps : Warehouse → Cuboid → Type 0} (c : Content) (w : Warehouse) (modes : List (List ℕ))
    → RepresentsWith Keeps c w → HasModes c w.layout modes → AreModes modes → modes ≡ ship_modes_of w
modes_one c w modes represents has are =
    one_in c w.layout modes (ship_modes_of w) (represents.objects 5) none has are represents.modes
  where
    none : w.layout ≡ First → ship_modes_of w ≡ []
    none e = ap (λ (l : Layout). kept_modes l (all_rows w.batches)) e

-- a content with the same object 5 has the same ship modes
pub modes_still : (c d : Content) (layout : Layout) (modes : List (List ℕ)) → bytes_of d 5 ≡ bytes_of c 5
    → HasModes c layout modes → HasModes d layout modes
modes_still c d First modes same has = has
modes_still c d Second modes same has = same ∙ has

-- the bytes of object 5 of a warehouse of the second layout spell its ship modes
pub modes_spelled : (c : Content) (w : Warehouse) (bytes : List ℕ) → Represents c w → w.layout ≡ Second
    → bytes_of c 5 ≡ Some bytes → SpellModes bytes (ship_modes_of w)
modes_spelled c w bytes represents second there = record {
  spelled = some_one bytes (modes_spelling (ship_modes_of w))
      (sym there ∙ represents.objects 5 ∙ ap (λ (l : Layout). modes_object l (ship_modes_of w)) second);
  are = represents.modes;
}
