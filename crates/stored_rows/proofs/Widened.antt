-- What a content represents after rows were added.
use Rattle.std.proofs.Common.{◌≡◌, ◌+◌, ◌-◌, ◌==◌, ◌∙◌, zero, suc, sym, ap, refl, arith, nat_lt, if◌then◌else◌, ℕ, List}
use Rattle.std.proofs.Common.{[], ◌∷◌, ◌++◌, length, map, get_or, take, Option, Some, None}
use Rattle.std.proofs.lemmas.Bool.Decides.{nat_tests}
use Rattle.std.proofs.lemmas.List.{append-nil, length-map}
use Rattle.cube_model.specs.declared.attr.Axis.TheVariants.{Customer, Supplier, Part, Date}
use Rattle.cube_model.specs.declared.rows.DimRows.{DimRows}
use Rattle.object_store.specs.Commit.{among, committed}
use Rattle.object_store.specs.Content.{Content}
use Rattle.object_store.proofs.CallerLemmas.{bytes_after, layout_after, once_after, root_after}
use Rattle.cuboid_cells.specs.Steps.{cells_of}
use Rattle.dimensions.specs.TextRows.{row_of_customer, row_of_date, row_of_part, row_of_supplier}
use Rattle.dimension_objects.specs.Spelled.{dimension_spelling}
use Rattle.warehouse_root.specs.Layouts.{layout_number}
use Rattle.warehouse_root.specs.Objects.{run_id, segment_id}
use Rattle.warehouse_root.specs.Root as roots
use Rattle.warehouse_objects.specs.Represents.{HasRows, HoldsGroupings, dimension_of, object_of, root_of, rows_in}
use Rattle.warehouse_objects.specs.Represents.{modes_object, run_after, segment_after}
use Rattle.warehouse_objects.specs.Warehouse.{AreInOrder, Cuboid, Warehouse, fresh, ship_modes_of}
use Rattle.warehouse_objects.proofs.CallerLemmas.{root_proper}
use Rattle.dimensions.specs.Added.{joined}
use Rattle.stored_rows.specs.Added.{put_of, widened, widening_puts}
use Rattle.stored_rows.specs.Lawful.{WideningRepresents}
use Rattle.stored_rows.proofs.Answers.{admissions_kept}
use Rattle.stored_rows.proofs.Cells.{cells_kept}

-- ---- objects, by their ids

-- the objects of four dimensions, and others after them
abbrev objects_in : List ℕ → List ℕ → List ℕ → List ℕ → (ℕ → Option (List ℕ)) → ℕ → Option (List ℕ)
objects_in a b c d others id =
    if id == 1 then Some a else
    (if id == 2 then Some b else (if id == 3 then Some c else (if id == 4 then Some d else others id)))

among_both : (puts others : List (ℕ × List ℕ)) (id : ℕ) (was : Option (List ℕ))
    → among (puts ++ others) id was ≡ among others id (among puts id was)
among_both [] others id was = refl
among_both (put ∷ puts) others id was = among_both puts others id (if put.0 == id then Some put.1 else was)

module _ (a b c d new : List ℕ) (others : ℕ → Option (List ℕ)) (id : ℕ) where
  first_put : (if 1 == id then Some new else objects_in a b c d others id) ≡ objects_in new b c d others id
  first_put = grind (arith, nat_tests)

  second_put : (if 2 == id then Some new else objects_in a b c d others id) ≡ objects_in a new c d others id
  second_put = grind (arith, nat_tests)

  third_put : (if 3 == id then Some new else objects_in a b c d others id) ≡ objects_in a b new d others id
  third_put = grind (arith, nat_tests)

  fourth_put : (if 4 == id then Some new else objects_in a b c d others id) ≡ objects_in a b c new others id
  fourth_put = grind (arith, nat_tests)

-- a dimension without new rows is as it was
unchanged : {X : Type 0} (xs ys : List X) → length ys ≡ 0 → xs ++ ys ≡ xs
unchanged xs [] e = append-nil xs
unchanged xs (y ∷ ys) e = absurd (omega (arith, e))

module _ (rows more : DimRows) (others : ℕ → Option (List ℕ)) (id : ℕ) where
  abbrev all_rows_of : DimRows
  all_rows_of = joined rows more

  customers_put : (count : ℕ) (b c d : List ℕ)
      → (count ≡ 0 → dimension_of rows Customer ≡ dimension_of all_rows_of Customer)
      → among (put_of all_rows_of Customer 1 count) id (objects_in (dimension_of rows Customer) b c d others id)
      ≡ objects_in (dimension_of all_rows_of Customer) b c d others id
  customers_put zero b c d same = ap (λ a. objects_in a b c d others id) (same refl)
  customers_put (suc count) b c d same =
      first_put (dimension_of rows Customer) b c d (dimension_of all_rows_of Customer) others id

  suppliers_put : (count : ℕ) (a c d : List ℕ)
      → (count ≡ 0 → dimension_of rows Supplier ≡ dimension_of all_rows_of Supplier)
      → among (put_of all_rows_of Supplier 2 count) id (objects_in a (dimension_of rows Supplier) c d others id)
      ≡ objects_in a (dimension_of all_rows_of Supplier) c d others id
  suppliers_put zero a c d same = ap (λ b. objects_in a b c d others id) (same refl)
  suppliers_put (suc count) a c d same =
      second_put a (dimension_of rows Supplier) c d (dimension_of all_rows_of Supplier) others id

  parts_put : (count : ℕ) (a b d : List ℕ) → (count ≡ 0 → dimension_of rows Part ≡ dimension_of all_rows_of Part)
      → among (put_of all_rows_of Part 3 count) id (objects_in a b (dimension_of rows Part) d others id)
      ≡ objects_in a b (dimension_of all_rows_of Part) d others id
  parts_put zero a b d same = ap (λ c. objects_in a b c d others id) (same refl)
  parts_put (suc count) a b d same = third_put a b (dimension_of rows Part) d (dimension_of all_rows_of Part) others id

  dates_put : (count : ℕ) (a b c : List ℕ) → (count ≡ 0 → dimension_of rows Date ≡ dimension_of all_rows_of Date)
      → among (put_of all_rows_of Date 4 count) id (objects_in a b c (dimension_of rows Date) others id)
      ≡ objects_in a b c (dimension_of all_rows_of Date) others id
  dates_put zero a b c same = ap (λ d. objects_in a b c d others id) (same refl)
  dates_put (suc count) a b c same = fourth_put a b c (dimension_of rows Date) (dimension_of all_rows_of Date) others id

module _ (w : Warehouse) (more : DimRows) where
  abbrev rows_then : DimRows
  rows_then = joined w.rows more

  -- the objects after those of the dimensions
  abbrev others_of : ℕ → Option (List ℕ)
  others_of id =
      if id == 5 then modes_object w.layout (ship_modes_of w)
      else (if nat_lt id (segment_id 1) then None
      else (if nat_lt id (run_id 0 0) then segment_after (id - segment_id 1) w.batches else run_after
      (id - run_id 0 0) w.cuboids))

  objects_then : (id : ℕ) → among (widening_puts w.rows more) id (object_of w id) ≡ object_of (widened w more) id
  objects_then id =
      let customers = put_of rows_then Customer 1 (length more.customers) in
      let suppliers = put_of rows_then Supplier 2 (length more.suppliers) in
      let parts = put_of rows_then Part 3 (length more.parts) in
      let dates = put_of rows_then Date 4 (length more.dates) in
      let a = dimension_of w.rows Customer in
      let b = dimension_of w.rows Supplier in
      let c = dimension_of w.rows Part in
      let d = dimension_of w.rows Date in
      let new_a = dimension_of rows_then Customer in
      let new_b = dimension_of rows_then Supplier in
      let new_c = dimension_of rows_then Part in
      among_both customers (suppliers ++ (parts ++ dates)) id (object_of w id)
      ∙ ap (among (suppliers ++ (parts ++ dates)) id)
      (customers_put w.rows more others_of id (length more.customers) b c d
      (λ e. ap (λ l. dimension_spelling Customer (map row_of_customer l))
      (sym (unchanged w.rows.customers more.customers e))))
      ∙ among_both suppliers (parts ++ dates) id (objects_in new_a b c d others_of id)
      ∙ ap (among (parts ++ dates) id) (suppliers_put w.rows more others_of id (length more.suppliers) new_a c d
      (λ e. ap (λ l. dimension_spelling Supplier (map row_of_supplier l))
      (sym (unchanged w.rows.suppliers more.suppliers e))))
      ∙ among_both parts dates id (objects_in new_a new_b c d others_of id)
      ∙ ap (among dates id) (parts_put w.rows more others_of id (length more.parts) new_a new_b d
      (λ e. ap (λ l. dimension_spelling Part (map row_of_part l)) (sym (unchanged w.rows.parts more.parts e))))
      ∙ dates_put w.rows more others_of id (length more.dates) new_a new_b new_c
      (λ e. ap (λ l. dimension_spelling Date (map row_of_date l)) (sym (unchanged w.rows.dates more.dates e)))

  in_order_then : AreInOrder w.rows w.batches → AreInOrder rows_then w.batches
  in_order_then order before batch is =
      let next = order before batch is in
      record {
        admissible = admissions_kept w.rows more (take before w.batches) (length (take before w.batches) + 1)
            batch next.admissible;
        fits = next.fits;
      }

  cuboid_then : (cuboid : Cuboid) → HoldsGroupings w cuboid → HoldsGroupings (widened w more) cuboid
  cuboid_then cuboid holds = record {
    laid = record { follow = holds.laid.follow; spans = holds.laid.spans; proper = holds.laid.proper };
    groupings = λ k d within.
        cells_kept w.rows more (ship_modes_of w) (rows_in w.batches (get_or cuboid.runs k d).span)
        (cells_of cuboid.view (get_or cuboid.runs k d).cells) (holds.groupings k d within);
  }

pub represents_widened : WideningRepresents
represents_widened c w more represents storable few =
    let bytes : List ℕ = roots.root_spelling (root_of (widened w more)) in
    let puts = widening_puts w.rows more in record {
      objects = λ id. bytes_after puts [] bytes (layout_number w.layout) c id
          ∙ ap (among puts id) (represents.objects id)
          ∙ objects_then w more id;
      once = once_after puts [] bytes (layout_number w.layout) c represents.once;
      layout = layout_after puts [] bytes (layout_number w.layout) c;
      root = record {
        spelled = root_after puts [] bytes (layout_number w.layout) c;
        proper = root_proper (widened w more) (in_order_then w more represents.batches)
            (omega (arith, represents.root.proper.target, length-map w.batches length)) (omega (arith, few)) (record {
              most = represents.root.proper.most_cuboids;
              each = represents.root.proper.each;
              ascending = represents.root.proper.ascending;
            });
      };
      rows = storable;
      batches = in_order_then w more represents.batches;
      modes = represents.modes;
      cuboids = λ k d within. cuboid_then w more (get_or w.cuboids k d) (represents.cuboids k d within);
    }

-- its dimensions are those with the rows
pub rows_widened : (c : Content) (rows more : DimRows) (bytes : List ℕ) (layout : ℕ) → HasRows c rows
    → HasRows (committed (widening_puts rows more) [] bytes layout c) (joined rows more)
rows_widened c rows more bytes layout has =
    let w = fresh rows in
    let puts = widening_puts rows more in record {
      customers = bytes_after puts [] bytes layout c 1 ∙ ap (among puts 1) has.customers ∙ objects_then w more 1;
      suppliers = bytes_after puts [] bytes layout c 2 ∙ ap (among puts 2) has.suppliers ∙ objects_then w more 2;
      parts = bytes_after puts [] bytes layout c 3 ∙ ap (among puts 3) has.parts ∙ objects_then w more 3;
      dates = bytes_after puts [] bytes layout c 4 ∙ ap (among puts 4) has.dates ∙ objects_then w more 4;
    }
