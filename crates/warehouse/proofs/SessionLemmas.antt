-- Lemmas of `session`, by subject.
use Rattle.std.proofs.Common.{◌≡◌, ⊎_elim, inl, inr, ℕ, ◌+◌, ◌-◌, ◌<◌, ◌≤◌, ◌==◌, nat_lt, if◌then◌else◌, Bool, true}
use Rattle.std.proofs.Common.{false, Option, Some, None, List, [], ◌∷◌, length, get_or, refl, sym, ◌∙◌, ap, subst}
use Rattle.std.proofs.Common.{arith, ◌⊎◌, IfSome, zero, suc, ◌++◌, ◌≢◌, ◌↔◌, Result, Err, IfErr, IsErrOf}
use Rattle.std.proofs.lemmas.Bool.Decides.{nat_tests}
use Rattle.cube_model.specs.declared.attr.Axis.TheVariants.{Customer, Supplier, Part, Date}
use Rattle.cube_model.specs.declared.fault.Fault.{Fault}
use Rattle.cube_model.specs.declared.fault.Fault.TheVariants.{BadQuery, Device, Failed, Memory}
use Rattle.cube_model.specs.declared.rows.DimRows.{DimRows}
use Rattle.object_store.specs.Content.{Content, bytes_of}
use Rattle.object_store.specs.Commit.{ArePuts, IsFew, committed, among}
use Rattle.sector_device.specs.declared.device.Sectors.{Ghosts}
use Rattle.sector_device.specs.Device.{Image, IsImage}
use Rattle.object_store.specs.Disk.{Disk, Leaves, ShowsSome}
use Rattle.object_store.proofs.Moments.{begins, leaves_weaker}
use Rattle.object_store.specs.Room.{Room}
use Rattle.object_store.specs.Store.{IsOneOf, Refuses}
use Rattle.object_store.proofs.CallerLemmas.{bytes_after, few_after, layout_after, once_after, one_put, root_after}
use Rattle.warehouse_root.specs.declared.layout.Layout.{Layout}
use Rattle.warehouse_root.specs.declared.layout.Layout.TheVariants.{First, Second}
use Rattle.warehouse_root.specs.Layouts.{layout_number}
use Rattle.warehouse_root.specs.Modes.{AreModes, modes_spelling, modes_id}
use Rattle.warehouse_root.specs.Objects.{run_id, segment_id}
use Rattle.warehouse_root.specs.Root.{PlainRoot, root_in_second, root_with_addition}
use Rattle.warehouse_root.proofs.ModesLaws.{modes_spelling-least, modes_spelling-most}
use Rattle.warehouse_objects.specs.Facts.{CanMigrate, AdmitsBatch, AdmitsRows, addition_refusal, number_refusal}
use Rattle.warehouse_objects.specs.Loaded.{IsLoaded}
use Rattle.warehouse_objects.specs.Migration.{migration_refusal}
use Rattle.warehouse_objects.specs.Represents.{HasModes, Represents, dimension_of, modes_object, object_of, root_of}
use Rattle.warehouse_objects.specs.Represents.{run_after, segment_after, HasRows}
use Rattle.dimensions.specs.Shown.{AreStorable}
use Rattle.warehouse_objects.specs.Warehouse.{Warehouse, migrated, ship_modes_of, loaded}
use Rattle.warehouse_objects.proofs.CallerLemmas.{groupings_moved, batch_is_put, modes_still, represents_loaded}
use Rattle.warehouse_objects.proofs.CallerLemmas.{segment_and_modes}
use Rattle.warehouse.specs.Migrating.{RefusesMove, IsMigration, IsMigrationOf, MigratedOrNot, migration_puts}
use Rattle.warehouse.specs.declared.migration.Migration.{Migration}
use Rattle.cube_model.specs.declared.rows.LineOrder.{LineOrder}
use Rattle.column_segment.specs.Segment.{FitColumns, IsBatch, segment_of}
use Rattle.warehouse_objects.specs.Lawful.{loading_puts, modes_put, new_modes_put}
use Rattle.warehouse.specs.declared.prepared.MoreModes.{MoreModes}
use Rattle.warehouse.specs.declared.prepared.Prepared.{Prepared}
use Rattle.warehouse.specs.Prepared.{AreMore, CanBePut, IsPrepared, more_put, prepared_puts}
use Rattle.cube_model.specs.declared.attr.Axis.{Axis}
use Rattle.dimensions.specs.Added.{addition_cause, joined}
use Rattle.stored_rows.specs.Added.{put_of, widened, widening_puts}
use Rattle.stored_rows.proofs.CallerLemmas.{length_of_puts, rows_widened, represents_widened}
use Rattle.warehouse.specs.Loaded.{Agrees}
use Rattle.warehouse.specs.Widening.{WidenedOrNot}
use Rattle.warehouse.proofs.Numbering.{neither, next_of}
use Rattle.warehouse_root.specs.Root as roots
use Rattle.warehouse.specs.declared.session.Session.{Session}
use Rattle.warehouse.specs.Session.{Breaks, IsAt, KeepsContent, KeptBefore, MayLeave, StaysAt, StaysIfRefused}
use Rattle.warehouse.specs.Session.{device_of, disk_of, has_failed}
use Rattle.warehouse_objects.proofs.Folded.{err_fault}
use Rattle.warehouse.proofs.OnlyReading.{calls_alike}

-- ==== A move to the second layout, over what its commit did.

-- what a move puts can be put
pub migration_is_put : (root : PlainRoot) (m : Migration) (puts : List (ℕ × List ℕ)) → IsMigration root m
    → puts ≡ (5, m.bytes.items) ∷ [] → ArePuts puts
migration_is_put root m puts is are =
    subst ArePuts (sym (are ∙ ap (λ (b : List ℕ). (5, b) ∷ []) is.bytes))
    (one_put 5 (modes_spelling m.modes) (modes_spelling-least m.modes) (modes_spelling-most m.modes is.are))

pub few_moved : (c : Content) (puts : List (ℕ × List ℕ)) (bytes : List ℕ) (layout : ℕ) (put : ℕ × List ℕ)
    → puts ≡ put ∷ [] → length c.objects + 1 ≤ 65536 → IsFew (committed puts [] bytes layout c)
few_moved c puts bytes layout put are few =
    omega (arith, few_after puts [] bytes layout c, ap (λ (l : List (ℕ × List ℕ)). length l) are, few)

-- the object of an id by that of ship modes
abbrev object_by : Warehouse → Option (List ℕ) → Bool → ℕ → Option (List ℕ)
object_by w modes is id =
    if id == 1 then Some (dimension_of w.rows Customer)
    else (if id == 2 then Some (dimension_of w.rows Supplier)
    else (if id == 3 then Some (dimension_of w.rows Part)
    else (if id == 4 then Some (dimension_of w.rows Date)
    else (if is then modes
    else (if nat_lt id (segment_id 1) then None
    else (if nat_lt id (run_id 0 0) then segment_after (id - segment_id 1) w.batches else run_after (id - run_id 0 0)
    w.cuboids))))))

-- the others stay
others_stay : (w : Warehouse) (id : ℕ) → (id == 5) ≡ false → object_of w id ≡ object_of (migrated w) id
others_stay w id other =
    ap (λ (b : Bool). object_by w (modes_object w.layout (ship_modes_of w)) b id) other
    ∙ sym (ap (λ (b : Bool). object_by w (modes_object Second (ship_modes_of (migrated w))) b id) other)

-- what the commit of a move puts: the ship modes, and a root
module _ (c : Content) (root : PlainRoot) (m : Migration) (is : IsMigration root m) (puts : List (ℕ × List ℕ))
    (bytes : List ℕ) (layout : ℕ) (puts_are : puts ≡ (5, m.bytes.items) ∷ []) (bytes_are : bytes ≡ m.root_bytes.items)
    (layout_is : layout ≡ layout_number m.root.layout) where
  there : (id : ℕ) → bytes_of (committed puts [] bytes layout c) id
      ≡ (if 5 == id then Some m.bytes.items else bytes_of c id)
  there id =
      ap (λ (p : List (ℕ × List ℕ)). bytes_of (committed p [] bytes layout c) id) puts_are
      ∙ bytes_after ((5, m.bytes.items) ∷ []) [] bytes layout c id

  kept : (id : ℕ) → id < 5 → bytes_of (committed puts [] bytes layout c) id ≡ bytes_of c id
  kept id low =
      let other : (5 == id) ≡ false = grind (arith, nat_tests, low) in
      there id ∙ ap (λ (b : Bool). if b then Some m.bytes.items else bytes_of c id) other

  has_modes : bytes_of (committed puts [] bytes layout c) 5 ≡ Some (modes_spelling m.modes)
  has_modes = there 5 ∙ ap (λ (b : List ℕ). Some b) is.bytes

  second : m.root.layout ≡ Second
  second = ap (λ (r : PlainRoot). r.layout) is.root_is

  -- what is kept in memory then
  pub loaded_moved : (rows : DimRows) (modes : List (List ℕ)) → IsLoaded c rows modes root
      → IsLoaded (committed puts [] bytes layout c) rows m.modes m.root
  loaded_moved rows modes was = record {
    layout = layout_after puts [] bytes layout c ∙ layout_is;
    has_rows = record {
      customers = kept 1 (omega arith) ∙ was.has_rows.customers;
      suppliers = kept 2 (omega arith) ∙ was.has_rows.suppliers;
      parts = kept 3 (omega arith) ∙ was.has_rows.parts;
      dates = kept 4 (omega arith) ∙ was.has_rows.dates;
    };
    has_modes = subst (λ (l : Layout). HasModes (committed puts [] bytes layout c) l m.modes) (sym second) has_modes;
    are_modes = is.are;
    storable = was.storable;
    is_root = record {
      spelled = root_after puts [] bytes layout c ∙ bytes_are ∙ is.spelled.spelled;
      proper = is.spelled.proper;
    };
  }

  module _ (w : Warehouse) (of : IsMigrationOf w root m) where
    root_moved : m.root ≡ root_of (migrated w)
    root_moved = is.root_is ∙ ap root_in_second of.root_is

    bytes_moved : bytes ≡ roots.root_spelling (root_of (migrated w))
    bytes_moved = bytes_are ∙ is.spelled.spelled ∙ ap roots.root_spelling root_moved

    puts_moved : puts ≡ migration_puts w
    puts_moved = puts_are
        ∙ ap (λ (b : List ℕ). (5, b) ∷ []) (is.bytes ∙ ap modes_spelling of.modes_are)

    objects_moved : (id : ℕ) → Represents c w
        → bytes_of (committed puts [] bytes layout c) id ≡ object_of (migrated w) id
    objects_moved id represents =
        (elim (id == 5) as (λ b. (id == 5) ≡ b
        → bytes_of (committed puts [] bytes layout c) id ≡ object_of (migrated w) id) [
          | true ↦ λ e.
              let same : id ≡ 5 = grind (arith, nat_tests, e) in
              subst (λ (n : ℕ). bytes_of (committed puts [] bytes layout c) n ≡ object_of (migrated w) n) (sym same)
              (has_modes ∙ ap (λ (l : List (List ℕ)). Some (modes_spelling l)) of.modes_are)
          | false ↦ λ e.
              let other : (5 == id) ≡ false = grind (arith, nat_tests, e) in
              there id
              ∙ ap (λ (b : Bool). if b then Some m.bytes.items else bytes_of c id) other
              ∙ represents.objects id
              ∙ others_stay w id e
        ]) refl

    -- what the content represents then
    pub represents_moved : Represents c w → Represents (committed puts [] bytes layout c) (migrated w)
    represents_moved represents = record {
      objects = λ id. objects_moved id represents;
      once = once_after puts [] bytes layout c represents.once;
      layout = layout_after puts [] bytes layout c ∙ layout_is ∙ ap layout_number second;
      root = record {
        spelled = root_after puts [] bytes layout c ∙ bytes_moved;
        proper = subst roots.IsProperRoot root_moved is.spelled.proper;
      };
      rows = represents.rows;
      batches = represents.batches;
      modes = subst AreModes of.modes_are is.are;
      cuboids = λ k d within. groupings_moved w (get_or w.cuboids k d) (represents.cuboids k d within);
    }

    -- it may be there
    pub can_migrate : root.layout ≡ First → CanMigrate w
    can_migrate first =
        let same : w.layout ≡ First = sym (ap (λ (r : PlainRoot). r.layout) of.root_is) ∙ first in
        ap (λ (l : Layout). migration_refusal l w.batches) same ∙ of.allowed

    -- why the commit was refused
    pub moved_causes : (room : Room) (fault : Fault) → Refuses c room puts [] bytes fault
        → Refuses c room (migration_puts w) [] (roots.root_spelling (root_of (migrated w))) fault
    moved_causes room fault refuses =
        subst (λ (b : List ℕ). Refuses c room (migration_puts w) [] b fault) bytes_moved
        (subst (λ (p : List (ℕ × List ℕ)). Refuses c room p [] bytes fault) puts_moved refuses)

  -- at each moment it represents the warehouse before or after
  pub moved_leaves : (w : Warehouse) (old new : Disk) → (old.keeps_word → Represents c w)
      → (old.keeps_word → IsMigrationOf w root m) → root.layout ≡ First
      → Leaves old new (IsOneOf c (committed puts [] bytes layout c)) → Leaves old new (MigratedOrNot w)
  moved_leaves w old new represents of first leaves =
      leaves_weaker (IsOneOf c (committed puts [] bytes layout c)) (MigratedOrNot w) old new
      (λ k x. ⊎_elim (λ e. inl (subst (λ (y : Content). Represents y w) (sym e) (represents k)))
      (λ e. inr (
        can_migrate w (of k) first,
        subst (λ (y : Content). Represents y (migrated w)) (sym e) (represents_moved w (of k) (represents k)),
      ))) leaves

-- why a move is refused, over what was read first
pub refuses_still : (before after : Content) (first then_room : Room) (w : Warehouse) (fault : Fault)
    → after ≡ before → then_room ≡ first → RefusesMove after then_room w fault → RefusesMove before first w fault
refuses_still before after first then_room w fault same room refuses =
    subst (λ (x : Content). RefusesMove x first w fault) same
    (subst (λ (r : Room). RefusesMove after r w fault) room refuses)

-- a read leaves what a move may leave
pub read_or_not : (w : Warehouse) (old new : Disk) → Leaves old new (λ c. Represents c w)
    → Leaves old new (MigratedOrNot w)
read_or_not w old new leaves =
    leaves_weaker (λ (c : Content). Represents c w) (MigratedOrNot w) old new (λ k c represents. inl represents) leaves

-- a warehouse that is in the second layout stays as it is
pub second_already : (w : Warehouse) → w.layout ≡ Second → w ≡ migrated w
second_already w second = λ i. record {
  layout = second i;
  rows = w.rows;
  batches = w.batches;
  target = w.target;
  additions = w.additions;
  cuboids = w.cuboids;
}

-- ==== A submit, over what its commit did.

-- the ship modes that are put are those of the warehouse with the batch, where it has more
pub more_agrees : (w : Warehouse) (rows : List LineOrder) (more : Option MoreModes) → IfSome more (CanBePut w.layout)
    → AreMore w rows more → more_put more ≡ new_modes_put w rows
more_agrees w rows None can are =
    let test : (length (ship_modes_of (loaded w rows)) == length (ship_modes_of w)) ≡ true =
    grind (arith, nat_tests, are) in
    ap (λ (b : Bool). if b then [] else modes_put w.layout (ship_modes_of (loaded w rows))) (sym test)
more_agrees w rows (Some more) can are =
    let test : (length (ship_modes_of (loaded w rows)) == length (ship_modes_of w)) ≡ false =
    grind (arith, nat_tests, are.0) in
    ap (λ (b : List ℕ). (modes_id, b) ∷ []) (can.bytes ∙ ap modes_spelling are.1)
    ∙ ap (λ (l : Layout). modes_put l (ship_modes_of (loaded w rows))) (sym can.second)
    ∙ ap (λ (b : Bool). if b then [] else modes_put w.layout (ship_modes_of (loaded w rows))) (sym test)

-- all that is put
pub puts_agree : (w : Warehouse) (number : ℕ) (rows : List LineOrder) (segment : List ℕ) (more : Option MoreModes)
    (puts : List (ℕ × List ℕ)) → puts ≡ (segment_id number, segment) ∷ more_put more → segment ≡ segment_of number rows
    → IfSome more (CanBePut w.layout) → AreMore w rows more → puts ≡ loading_puts w number rows
puts_agree w number rows segment more puts is same can are =
    is
    ∙ ap (λ (b : List ℕ). (segment_id number, b) ∷ more_put more) same
    ∙ ap (λ (l : List (ℕ × List ℕ)). (segment_id number, segment_of number rows) ∷ l) (more_agrees w rows more can are)

-- what a batch that was made ready changes, where it was made ready for a warehouse
pub ready_agrees : (w : Warehouse) (number : ℕ) (rows : List LineOrder) (root : PlainRoot) (p : Prepared)
    (puts : List (ℕ × List ℕ)) → puts ≡ prepared_puts number p → IsPrepared root number rows p
    → AdmitsBatch w number rows × (p.root ≡ root_of (loaded w rows)) × AreMore w rows p.more
    → AdmitsBatch w number rows × (p.root ≡ root_of (loaded w rows)) × (puts ≡ loading_puts w number rows)
ready_agrees w number rows root p puts are ready model =
    let same : root.layout ≡ w.layout = sym ready.of_layout ∙ ap (λ (r : PlainRoot). r.layout) model.1 in (
      model.0,
      model.1,
      puts_agree w number rows p.segment.items p.more puts are ready.segment
          (subst (λ (l : Layout). IfSome p.more (CanBePut l)) same ready.more) model.2,
    )

-- they can be put
pub prepared_is_put : (layout : Layout) (number : ℕ) (rows : List LineOrder) (segment : List ℕ)
    (more : Option MoreModes) → segment ≡ segment_of number rows → IsBatch rows → IfSome more (CanBePut layout)
    → ArePuts ((segment_id number, segment) ∷ more_put more)
prepared_is_put layout number rows segment None same batch can =
    subst (λ (b : List ℕ). ArePuts ((segment_id number, b) ∷ [])) (sym same) (batch_is_put number rows batch)
prepared_is_put layout number rows segment (Some more) same batch can =
    subst (λ (b : List ℕ). ArePuts ((segment_id number, b) ∷ (modes_id, more.bytes.items) ∷ [])) (sym same)
    (subst (λ (b : List ℕ). ArePuts ((segment_id number, segment_of number rows) ∷ (modes_id, b) ∷ []))
    (sym can.bytes) (segment_and_modes number rows more.modes batch can.are))

few_puts : (number : ℕ) (segment : List ℕ) (more : Option MoreModes)
    → length ((segment_id number, segment) ∷ more_put more) ≤ 2
few_puts number segment None = omega arith
few_puts number segment (Some more) = omega arith

-- further objects leave room for as many as a store takes
pub few_more : (c : Content) (puts : List (ℕ × List ℕ)) (bytes : List ℕ) (layout number : ℕ) (segment : List ℕ)
    (more : Option MoreModes) → puts ≡ (segment_id number, segment) ∷ more_put more → length c.objects + 2 ≤ 65536
    → IsFew (committed puts [] bytes layout c)
few_more c puts bytes layout number segment more are few =
    omega (
      arith,
      few_after puts [] bytes layout c,
      ap (λ (l : List (ℕ × List ℕ)). length l) are,
      few_puts number segment more,
      few,
    )

-- the ship modes that are kept in memory after a submit
abbrev pub modes_now : List (List ℕ) → Option MoreModes → List (List ℕ)
modes_now modes None = modes
modes_now modes (Some more) = more.modes

-- what the commit of a submit puts: the segment and the ship modes, and a root
module _ (c : Content) (puts : List (ℕ × List ℕ)) (bytes : List ℕ) (layout number : ℕ) (segment : List ℕ)
    (more : Option MoreModes) (after : PlainRoot)
    (puts_are : puts ≡ (segment_id number, segment) ∷ more_put more) (bytes_are : bytes ≡ roots.root_spelling after)
    (layout_is : layout ≡ layout_number after.layout) where
  bytes-submitted : (id : ℕ) → bytes_of (committed puts [] bytes layout c) id
      ≡ among ((segment_id number, segment) ∷ more_put more) id (bytes_of c id)
  bytes-submitted id =
      ap (λ (p : List (ℕ × List ℕ)). bytes_of (committed p [] bytes layout c) id) puts_are
      ∙ bytes_after ((segment_id number, segment) ∷ more_put more) [] bytes layout c id

  kept-submitted : (id : ℕ) → id < 5 → bytes_of (committed puts [] bytes layout c) id ≡ bytes_of c id
  kept-submitted id low = bytes-submitted id ∙ other more
    where
      other : (m : Option MoreModes) → among ((segment_id number, segment) ∷ more_put m) id (bytes_of c id)
          ≡ bytes_of c id
      other None = grind (arith, nat_tests, low)
      other (Some m) = grind (arith, nat_tests, low)

  modes_then : (m : Option MoreModes) → m ≡ more → (modes : List (List ℕ)) (l : Layout) → IfSome m (CanBePut l)
      → HasModes c l modes → HasModes (committed puts [] bytes layout c) l (modes_now modes m)
  modes_then None is modes l can has =
      modes_still c (committed puts [] bytes layout c) l modes
      (bytes-submitted 5
      ∙ ap (λ (m : Option MoreModes). among ((segment_id number, segment) ∷ more_put m) 5 (bytes_of c 5))
      (sym is) ∙ other) has
    where
      other : (if segment_id number == 5 then Some segment else bytes_of c 5) ≡ bytes_of c 5
      other = grind (arith, nat_tests)
  modes_then (Some m) is modes l can has =
      subst (λ (k : Layout). HasModes (committed puts [] bytes layout c) k m.modes) (sym can.second)
      (bytes-submitted 5
      ∙ ap (λ (o : Option MoreModes). among ((segment_id number, segment) ∷ more_put o) 5 (bytes_of c 5))
      (sym is) ∙ ap (λ (b : List ℕ). Some b) can.bytes)

  modes_are : (m : Option MoreModes) (modes : List (List ℕ)) (l : Layout) → IfSome m (CanBePut l) → AreModes modes
      → AreModes (modes_now modes m)
  modes_are None modes l can are = are
  modes_are (Some m) modes l can are = can.are

  -- what is kept in memory then
  pub loaded_after : roots.IsProperRoot after → (rows : DimRows) (modes : List (List ℕ)) (root : PlainRoot)
      → IsLoaded c rows modes root → after.layout ≡ root.layout → IfSome more (CanBePut root.layout)
      → IsLoaded (committed puts [] bytes layout c) rows (modes_now modes more) after
  loaded_after proper rows modes root is same can = record {
    layout = layout_after puts [] bytes layout c ∙ layout_is;
    has_rows = record {
      customers = kept-submitted 1 (omega arith) ∙ is.has_rows.customers;
      suppliers = kept-submitted 2 (omega arith) ∙ is.has_rows.suppliers;
      parts = kept-submitted 3 (omega arith) ∙ is.has_rows.parts;
      dates = kept-submitted 4 (omega arith) ∙ is.has_rows.dates;
    };
    has_modes = subst (λ (l : Layout). HasModes (committed puts [] bytes layout c) l (modes_now modes more)) (sym same)
        (modes_then more refl modes root.layout can is.has_modes);
    are_modes = modes_are more modes root.layout can is.are_modes;
    storable = is.storable;
    is_root = record { spelled = root_after puts [] bytes layout c ∙ bytes_are; proper = proper };
  }

  module _ (batch : List LineOrder) where
    -- what the content represents then
    pub represents_after : (w : Warehouse) → Represents c w → AdmitsBatch w number batch → FitColumns batch
        → puts ≡ loading_puts w number batch → after ≡ root_of (loaded w batch)
        → Represents (committed puts [] bytes layout c) (loaded w batch)
    represents_after w represents admits fits own after_is =
        subst (λ (p : List (ℕ × List ℕ)). Represents (committed p [] bytes layout c) (loaded w batch)) (sym own)
        (subst (λ (b : List ℕ). Represents (committed (loading_puts w number batch) [] b layout c) (loaded w batch))
        (sym (bytes_are ∙ ap roots.root_spelling after_is))
        (subst (λ (l : ℕ). Represents
        (committed (loading_puts w number batch) [] (roots.root_spelling (root_of (loaded w batch))) l c)
        (loaded w batch))
        (ap (λ (r : PlainRoot). layout_number r.layout) (sym after_is) ∙ sym layout_is)
        (represents_loaded c w number batch represents admits fits)))

    -- at each moment it represents the warehouse before or after
    pub submit_leaves : (w : Warehouse) (old new : Disk) → (old.keeps_word → Represents c w)
        → (old.keeps_word → AdmitsBatch w number batch × (after ≡ root_of (loaded w batch))
        × (puts ≡ loading_puts w number batch))
        → FitColumns batch
        → Leaves old new (IsOneOf c (committed puts [] bytes layout c))
        → Leaves old new (λ x. Represents x w ⊎ (AdmitsBatch w number batch × Represents x (loaded w batch)))
    submit_leaves w old new represents model fits leaves =
        leaves_weaker (IsOneOf c (committed puts [] bytes layout c))
        (λ x. Represents x w ⊎ (AdmitsBatch w number batch × Represents x (loaded w batch))) old new
        (λ k x. ⊎_elim (λ e. inl (subst (λ (y : Content). Represents y w) (sym e) (represents k)))
        (λ e. inr (
          (model k).0,
          subst (λ (y : Content). Represents y (loaded w batch)) (sym e)
              (represents_after w (represents k) (model k).0 fits (model k).2 (model k).1),
        ))) leaves

    -- why the commit was refused
    pub submit_causes : (w : Warehouse) (room : Room) (fault : Fault) → after ≡ root_of (loaded w batch)
        → puts ≡ loading_puts w number batch → Refuses c room puts [] bytes fault
        → Refuses c room (loading_puts w number batch) [] (roots.root_spelling (root_of (loaded w batch))) fault
    submit_causes w room fault after_is own refuses =
        subst (λ (b : List ℕ). Refuses c room (loading_puts w number batch) [] b fault)
        (bytes_are ∙ ap roots.root_spelling after_is)
        (subst (λ (p : List (ℕ × List ℕ)). Refuses c room p [] bytes fault) own refuses)

-- ==== An addition of dimension rows, over what its commit did.

-- the puts of an addition leave room for as many objects as a store takes
pub few_wider : (c : Content) (rows more : DimRows) (puts : List (ℕ × List ℕ)) (bytes : List ℕ) (layout : ℕ)
    → puts ≡ widening_puts rows more → length c.objects + 4 ≤ 65536 → IsFew (committed puts [] bytes layout c)
few_wider c rows more puts bytes layout puts_are few =
    let many : length puts ≡ length (widening_puts rows more) = ap (λ (p : List (ℕ × List ℕ)). length p) puts_are in
    omega (arith, few_after puts [] bytes layout c, many, length_of_puts rows more, few)

-- what is refused over what is kept in memory is refused over the warehouse
pub refusal_agrees : (w : Warehouse) (rows more : DimRows) (root : PlainRoot) (number : ℕ) → Agrees w rows root
    → addition_refusal w.rows w.additions number more ≡ addition_refusal rows root.additions number more
refusal_agrees w rows more root number agrees =
    ap (λ (r : DimRows). addition_refusal r w.additions number more) agrees.rows_are
    ∙ ap (λ (r : PlainRoot). addition_refusal rows r.additions number more) agrees.root_is

pub number_agrees : (w : Warehouse) (rows : DimRows) (root : PlainRoot) (number : ℕ) → Agrees w rows root
    → number_refusal w.additions number ≡ number_refusal root.additions number
number_agrees w rows root number agrees = ap (λ (r : PlainRoot). number_refusal r.additions number) agrees.root_is

-- no addition puts object 5
no_put : (rows : DimRows) (axis : Axis) (id count : ℕ) (was : Option (List ℕ)) → id < 5
    → among (put_of rows axis id count) 5 was ≡ was
no_put rows axis id zero was low = refl
no_put rows axis id (suc count) was low =
    let other : (id == 5) ≡ false = grind (arith, nat_tests, low) in
    ap (λ (b : Bool). if b then Some (dimension_of rows axis) else was) other

among_both : (puts others : List (ℕ × List ℕ)) (id : ℕ) (was : Option (List ℕ))
    → among (puts ++ others) id was ≡ among others id (among puts id was)
among_both [] others id was = refl
among_both (put ∷ puts) others id was = among_both puts others id (if put.0 == id then Some put.1 else was)

no_modes_put : (rows more : DimRows) (was : Option (List ℕ)) → among (widening_puts rows more) 5 was ≡ was
no_modes_put rows more was =
    let all : DimRows = joined rows more in
    let a = put_of all Customer 1 (length more.customers) in
    let b = put_of all Supplier 2 (length more.suppliers) in
    let c = put_of all Part 3 (length more.parts) in
    let d = put_of all Date 4 (length more.dates) in
    among_both a (b ++ (c ++ d)) 5 was
    ∙ ap (among (b ++ (c ++ d)) 5) (no_put all Customer 1 (length more.customers) was (omega arith))
    ∙ among_both b (c ++ d) 5 was
    ∙ ap (among (c ++ d) 5) (no_put all Supplier 2 (length more.suppliers) was (omega arith))
    ∙ among_both c d 5 was
    ∙ ap (among d 5) (no_put all Part 3 (length more.parts) was (omega arith))
    ∙ no_put all Date 4 (length more.dates) was (omega arith)

-- what the commit of an addition puts, and a root
module _ (c : Content) (puts : List (ℕ × List ℕ)) (bytes : List ℕ) (layout : ℕ) (rows more : DimRows)
    (root after : PlainRoot)
    (puts_are : puts ≡ widening_puts rows more) (bytes_are : bytes ≡ roots.root_spelling after)
    (after_is : after ≡ root_with_addition root) (layout_is : layout ≡ layout_number after.layout) where
  -- what is kept in memory then
  -- object 5 stays
  modes_kept : bytes_of (committed puts [] bytes layout c) 5 ≡ bytes_of c 5
  modes_kept =
      ap (λ (p : List (ℕ × List ℕ)). bytes_of (committed p [] bytes layout c) 5) puts_are
      ∙ bytes_after (widening_puts rows more) [] bytes layout c 5 ∙ no_modes_put rows more (bytes_of c 5)

  pub loaded_wider : roots.IsProperRoot after → AreStorable (joined rows more) → (modes : List (List ℕ))
      → IsLoaded c rows modes root
      → IsLoaded (committed puts [] bytes layout c) (joined rows more) modes after
  loaded_wider proper storable modes is = record {
    layout = layout_after puts [] bytes layout c ∙ layout_is;
    has_rows = subst (λ (p : List (ℕ × List ℕ)). HasRows (committed p [] bytes layout c) (joined rows more))
        (sym puts_are) (rows_widened c rows more bytes layout is.has_rows);
    has_modes = modes_still c (committed puts [] bytes layout c) after.layout modes modes_kept
        (subst (λ (r : PlainRoot). HasModes c r.layout modes) (sym after_is) is.has_modes);
    are_modes = is.are_modes;
    storable = storable;
    is_root = record { spelled = root_after puts [] bytes layout c ∙ bytes_are; proper = proper };
  }

  module _ (w : Warehouse) (number : ℕ) where
    -- the root counts the addition
    root_wider : Agrees w rows root → after ≡ root_of (widened w more)
    root_wider agrees = after_is ∙ ap root_with_addition (sym agrees.root_is)

    own_puts : Agrees w rows root → puts ≡ widening_puts w.rows more
    own_puts agrees = puts_are ∙ ap (λ (r : DimRows). widening_puts r more) (sym agrees.rows_are)

    -- what the content represents then
    pub represents_wider : Represents c w → AdmitsRows w number more × Agrees w rows root
        → AreStorable (joined rows more) → Represents (committed puts [] bytes layout c) (widened w more)
    represents_wider represents model storable =
        let few = (next_of w.additions number
        (neither (number_refusal w.additions number) (addition_cause w.rows more) model.0).0).1 in
        subst (λ (p : List (ℕ × List ℕ)). Represents (committed p [] bytes layout c) (widened w more))
        (sym (own_puts model.1))
        (subst (λ (b : List ℕ). Represents (committed (widening_puts w.rows more) [] b layout c) (widened w more))
        (sym (bytes_are ∙ ap roots.root_spelling (root_wider model.1)))
        (subst (λ (l : ℕ). Represents
        (committed (widening_puts w.rows more) [] (roots.root_spelling (root_of (widened w more))) l c)
        (widened w more))
        (ap (λ (r : PlainRoot). layout_number r.layout) (sym (root_wider model.1)) ∙ sym layout_is)
        (represents_widened c w more represents
        (subst (λ (r : DimRows). AreStorable (joined r more)) (sym model.1.rows_are) storable) few)))

    -- at each moment it represents the warehouse before or after
    pub wider_leaves : (old new : Disk) → (old.keeps_word → Represents c w)
        → (old.keeps_word → AdmitsRows w number more × Agrees w rows root) → AreStorable (joined rows more)
        → Leaves old new (IsOneOf c (committed puts [] bytes layout c)) → Leaves old new (WidenedOrNot w number more)
    wider_leaves old new represents model storable leaves =
        leaves_weaker (IsOneOf c (committed puts [] bytes layout c)) (WidenedOrNot w number more) old new
        (λ k x. ⊎_elim (λ e. inl (subst (λ (y : Content). Represents y w) (sym e) (represents k)))
        (λ e. inr (
          (model k).0,
          subst (λ (y : Content). Represents y (widened w more)) (sym e)
              (represents_wider (represents k) (model k) storable),
        ))) leaves

    -- why the commit was refused
    pub wider_causes : (room : Room) (fault : Fault) → Agrees w rows root → Refuses c room puts [] bytes fault
        → Refuses c room (widening_puts w.rows more) [] (roots.root_spelling (root_of (widened w more))) fault
    wider_causes room fault agrees refuses =
        subst (λ (b : List ℕ). Refuses c room (widening_puts w.rows more) [] b fault)
        (bytes_are ∙ ap roots.root_spelling (root_wider agrees))
        (subst (λ (p : List (ℕ × List ℕ)). Refuses c room p [] bytes fault) (own_puts agrees) refuses)

-- ==== Before the first call.

-- a session that represents a warehouse leaves it
pub leaves_at : {D : Type 0} (g : Ghosts D)
    → ((d : D) (image : Image) → g.keeps_word d → (g.state d).left_since (g.state d).moment image
    → IsImage (g.state d) image) → (session : Session D g) (w : Warehouse) → IsAt g session w
    → Leaves (disk_of g session) (disk_of g session) (λ c. Represents c w)
leaves_at g only session w at =
    begins (ShowsSome (λ c. Represents c w)) (disk_of g session) (λ k image. only (device_of session) image k) at.all

-- ==== What a refused call leaves.

-- the same error, in the place of another value
error_again : {A B : Type 0} (fault other : Fault) → IsErrOf {T = A} (Err fault) other
    → IsErrOf {T = B} (Err fault) other
error_again fault other is = ap (λ (f : Fault). Err f) (err_fault fault other is)

module _ {D A : Type 0} (g : Ghosts D) where
  -- where no device call was made
  pub untouched : {B : Type 0} (fault : Fault) (s : Session D g) → MayLeave g s s (λ w c. Represents c w)
      → (IsErrOf {T = B} (Err fault) Failed ↔ (has_failed s ≡ true)) → (IsErrOf {T = B} (Err fault) Device → ⊥)
      → StaysIfRefused {A = A} g s s (Err fault)
  untouched fault s leaves failed unbroken = record {
    stays = λ other w at. (at, leaves w at);
    kept = λ other k. refl;
    calls = record {
      failed = (
        λ is. failed.0 (error_again fault Failed is),
        λ broken. error_again fault Failed (failed.1 broken),
      );
      unmoved = λ is. refl;
      device = λ is. absurd (unbroken (error_again fault Device is));
      word = λ k. k;
    };
  }

  -- where the session had not failed
  pub fine_before : (result : Result A Fault) (old new : Session D g) → has_failed old ≡ false
      → IfErr result (λ fault. fault ≢ Device → StaysAt g old new)
      → IfErr result (λ fault. fault ≢ Device → KeepsContent g old new)
      → (IsErrOf result Failed → ⊥) → (IsErrOf result Device → Breaks g old new) → KeptBefore g old new
      → StaysIfRefused g old new result
  fine_before result old new fine stays kept never device word = record {
    stays = stays;
    kept = kept;
    calls = record {
      failed = (
        λ is. absurd (never is),
        λ broken. let bad : true ≡ false = sym broken ∙ fine in absurd cc,
      );
      unmoved = λ is. absurd (never is);
      device = device;
      word = word;
    };
  }

  -- where the error is that of another call
  pub refused_again : {B : Type 0} (fault : Fault) (old new : Session D g)
      → StaysIfRefused {A = B} g old new (Err fault) → StaysIfRefused {A = A} g old new (Err fault)
  refused_again fault old new refused = record {
    stays = refused.stays;
    kept = refused.kept;
    calls = calls_alike g old new (IsErrOf (Err fault)) (IsErrOf (Err fault))
        (error_again fault Device, error_again fault Device) (error_again fault Failed, error_again fault Failed)
        refused.calls;
  }

-- a choice makes no device call
pub choice_or_not : {P : Type 0} (fault : Fault) → (fault ≡ Failed) ⊎ (((fault ≡ BadQuery) × P) ⊎ (fault ≡ Memory))
    → fault ≡ Device → ⊥
choice_or_not fault causes device =
    ⊎_elim (λ failed. cc) (⊎_elim (λ many. let bad = many.0 in cc) (λ memory. cc)) causes
