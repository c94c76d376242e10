-- The ship modes of a warehouse of the second layout can be members.
use Rattle.std.proofs.Common.{◌≡◌, ◌∙◌, ap, sym, subst, arith, ℕ, true, false, Option, None, List, [], length}
use Rattle.std.proofs.Common.{append-nil}
use Rattle.std.specs.Prelude.{codes}
use Rattle.std.specs.Str.{bytes_eq}
use Rattle.cube_model.specs.declared.fault.Fault.{Fault}
use Rattle.cube_model.specs.declared.fault.Fault.TheVariants.{Device, Memory}
use Rattle.cube_model.specs.Admission.{all_rows}
use Rattle.cube_model.specs.ShipModes.{crowded_place, modes_in, reserved_place}
use Rattle.cube_model.specs.Validity.{members_of}
use Rattle.dictionary.specs.Dictionary.{firsts}
use Rattle.dictionary.proofs.CallerLemmas.{list_any-firsts}
use Rattle.dimensions.proofs.MemberLaws.{length-members}
use Rattle.object_store.specs.Content.{Content}
use Rattle.warehouse_root.specs.declared.layout.Layout.{Layout}
use Rattle.warehouse_root.specs.declared.layout.Layout.TheVariants.{First, Second}
use Rattle.warehouse_root.specs.Modes.{AreModes, kept_modes}
use Rattle.warehouse_objects.specs.Migration.{migration_refusal}
use Rattle.warehouse_objects.specs.Represents.{Represents}
use Rattle.warehouse_objects.specs.Warehouse.{Warehouse}
use Rattle.warehouse_objects.proofs.KeptModes.{crowded_none, somewhere}
use Rattle.stored_rows.specs.Comparing.{ends_reading}
use Rattle.stored_rows.proofs.OneBatchMore.{cause_at}

pub never_refused : (c : Content) (w : Warehouse) → Represents c w → w.layout ≡ Second
    → migration_refusal First w.batches ≡ None
never_refused c w represents second =
    let modes : List (List ℕ) = modes_in (all_rows w.batches) in
    let are : AreModes (firsts modes) =
    subst (λ (l : Layout). AreModes (kept_modes l (all_rows w.batches))) second represents.modes in
    let free : reserved_place modes ≡ None = somewhere (bytes_eq (codes "ALL")) modes
    (sym (list_any-firsts (codes "ALL") modes) ∙ are.free) in
    let few : crowded_place [] modes ≡ None =
    crowded_none [] modes [] (omega (
      arith,
      length-members modes,
      are.proper.most,
      ap (λ l. length (members_of l)) (append-nil modes),
    )) in
    ap (λ (o : Option ℕ). cause_at w.batches o (crowded_place [] modes)) free
    ∙ ap (cause_at w.batches None) few

-- what does not end a read is neither of the two
pub goes_on : (fault : Fault) → ends_reading fault ≡ false → (fault ≡ Device → ⊥) × (fault ≡ Memory → ⊥)
goes_on fault other = (
  λ e. let both : true ≡ false = sym (ap ends_reading e) ∙ other in cc,
  λ e. let both : true ≡ false = sym (ap ends_reading e) ∙ other in cc,
)
