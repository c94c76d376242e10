-- Lemmas of `growing`, by subject.
use Rattle.std.proofs.Common.{◌≡◌, ⊎_elim, inl, inr, ℕ, ◌≤◌, Option, Some, None, Result, Ok, Err, List, [], ◌∷◌, ◌++◌}
use Rattle.std.proofs.Common.{length, map, refl, sym, ◌∙◌, ap, subst, arith, true, false, is_some}
use Rattle.std.proofs.lemmas.List.{length-map, map-append}
use Rattle.std.proofs.lemmas.List.Elements.{All-map}
use Rattle.std.specs.Int.{from_le_bytes, w16}
use Rattle.cube_model.specs.declared.fault.Fault.{Fault}
use Rattle.cube_model.specs.declared.fault.MemberPlace.TheVariants.{InBatch}
use Rattle.cube_model.specs.declared.rows.DimRows.{DimRows}
use Rattle.cube_model.specs.declared.rows.LineOrder.{LineOrder}
use Rattle.cube_model.specs.Admission.{IsAdmissible, all_rows, early_refusal, refusal, sums_cause, long_text}
use Rattle.cube_model.specs.Causes.{first_cause}
use Rattle.cube_model.specs.Limits.{longest_text, most_batch_rows}
use Rattle.cube_model.specs.ShipModes.{modes_cause, modes_in}
use Rattle.batch_admission.specs.ShipModes.{texts_by}
use Rattle.batch_admission.proofs.CallerLemmas.{all_rows-last, long_before}
use Rattle.dictionary.specs.Columns.{text_of_code}
use Rattle.dictionary.specs.Dictionary.{firsts}
use Rattle.dictionary.specs.Spelling.{AreShort}
use Rattle.column_segment.specs.Coding.{AreModesOf}
use Rattle.column_segment.specs.Segment.{IsBatch, segment_of}
use Rattle.column_segment.specs.declared.columns.TextColumn.TheVariants.{ShipMode}
use Rattle.warehouse_root.specs.declared.layout.Layout.{Layout}
use Rattle.warehouse_root.specs.declared.layout.Layout.TheVariants.{First, Second}
use Rattle.warehouse_root.specs.Modes.{kept_modes}
use Rattle.warehouse_objects.specs.Facts.{PassesChecksIn, refusal_in, refusal_of}
use Rattle.warehouse_objects.specs.Warehouse.{Warehouse, loaded, ship_modes_of}
use Rattle.warehouse_objects.proofs.Batches.{both}
use Rattle.warehouse.specs.declared.prepared.MoreModes.{MoreModes}
use Rattle.warehouse.specs.Prepared.{AddsModes, AreMore, ChecksModes, HasFitModes, Admitted, Prepares, CanBePut}
use Rattle.warehouse.specs.Prepared.{IsPrepared, MayFollow}
use Rattle.std.specs.Prelude.{IfOk, IfErr, IfSome}
use Rattle.cube_model.specs.declared.fault.Fault.TheVariants.{Memory}
use Rattle.column_segment.specs.Encoding.{HaveRows}
use Rattle.column_segment.specs.declared.encoding.BatchColumns.{BatchColumns}
use Rattle.batch_admission.specs.Found.{Found, found_in}
use Rattle.batch_admission.specs.Totals.{totals_of}
use Rattle.cube_model.specs.declared.totals.Totals.{Totals}
use Rattle.warehouse_root.specs.Root.{PlainRoot, root_with_batch, IsRoot}
use Rattle.warehouse_objects.proofs.CallerLemmas.{batch_of}
use Rattle.warehouse_objects.specs.Represents.{root_of, said_of}
use Rattle.warehouse.specs.Growing.{IsGrown}
use Rattle.warehouse.specs.declared.growing.GrowingBatch.{GrowingBatch}
use Rattle.warehouse.specs.declared.prepared.Prepared.{Prepared}
use Rattle.column_segment.proofs.CallerLemmas.{rows_fit}

-- ==== The ship modes of a further batch, where a layout keeps them.

-- ---- the first cause, where ship modes are looked at

skip_none : (a m b : Option Fault) → m ≡ None → first_cause (a ∷ m ∷ b ∷ []) ≡ first_cause (a ∷ b ∷ [])
skip_none None None b e = refl
skip_none None (Some x) b e = absurd cc
skip_none (Some x) m b e = refl

module _ (rows : DimRows) (batches : List (List LineOrder)) (number : ℕ) (batch : List LineOrder) where
  -- fit ship modes change no cause
  pub fit_refusal : (layout : Layout) → HasFitModes layout batches batch
      → refusal_in layout rows batches number batch ≡ refusal rows batches number batch
  fit_refusal First fit = refl
  fit_refusal Second fit =
      skip_none (early_refusal rows batches number batch)
      (modes_cause InBatch (modes_in (all_rows batches)) (modes_in batch)) (sums_cause (all_rows batches ++ batch)) fit

  -- an early cause is the first one
  pub early_refused : (layout : Layout) (fault : Fault) → early_refusal rows batches number batch ≡ Some fault
      → refusal_in layout rows batches number batch ≡ Some fault
  early_refused First fault e =
      ap (λ (c : Option Fault). first_cause (c ∷ sums_cause (all_rows batches ++ batch) ∷ [])) e
  early_refused Second fault e =
      ap (λ (c : Option Fault). first_cause (c ∷ modes_cause InBatch (modes_in (all_rows batches)) (modes_in batch)
      ∷ sums_cause (all_rows batches ++ batch) ∷ [])) e

  -- what is admissible passes the checks that take no memory
  pub passes_checks : (layout : Layout) → IsAdmissible rows batches number batch
      → PassesChecksIn layout rows batches number batch
  passes_checks First is = is
  passes_checks Second is = (both (early_refusal rows batches number batch) _ is).0

-- ---- the ship modes of a warehouse with those of a batch

first_modes : (layout : Layout) (rows : List LineOrder) → layout ≡ First → length (kept_modes layout rows) ≡ 0
first_modes layout rows e = ap (λ (l : Layout). length (kept_modes l rows)) e

-- the first layout has none
pub first_checks : (w : Warehouse) (rows : List LineOrder) → w.layout ≡ First
    → HasFitModes w.layout w.batches rows × AreMore w rows None
first_checks w rows e = (
  subst (λ (l : Layout). HasFitModes l w.batches rows) (sym e) tt,
  first_modes w.layout (all_rows (w.batches ++ rows ∷ [])) e
      ∙ sym (first_modes w.layout (all_rows w.batches) e),
)

module _ (w : Warehouse) (number : ℕ) (rows : List LineOrder) (second : w.layout ≡ Second) where
  now_modes : ship_modes_of w ≡ kept_modes Second (all_rows w.batches)
  now_modes = ap (λ (l : Layout). kept_modes l (all_rows w.batches)) second

  then_modes : ship_modes_of (loaded w rows) ≡ kept_modes Second (all_rows w.batches ++ rows)
  then_modes =
      ap (λ (l : Layout). kept_modes l (all_rows (w.batches ++ rows ∷ []))) second
      ∙ ap (kept_modes Second) (all_rows-last w.batches rows)

  fits : modes_cause InBatch (modes_in (all_rows w.batches)) (modes_in rows) ≡ None
      → HasFitModes w.layout w.batches rows
  fits e = subst (λ (l : Layout). HasFitModes l w.batches rows) (sym second) e

  -- what was found of them decides, where no early cause was found
  pub modes_checked : (result : Result (Option MoreModes) Fault)
      → early_refusal w.rows w.batches number rows ≡ None → AddsModes (all_rows w.batches) rows result
      → ChecksModes w number rows result
  modes_checked (Ok None) early adds = (
    fits adds.0,
    ap length then_modes ∙ adds.1 ∙ sym (ap length now_modes),
  )
  modes_checked (Ok (Some more)) early adds = (
    fits adds.0,
    (
      λ same. adds.1 (sym (ap length then_modes) ∙ same ∙ ap length now_modes),
      adds.2 ∙ sym then_modes,
    ),
  )
  modes_checked (Err fault) early adds =
      ⊎_elim
      (λ memory. inr (memory, subst (λ (l : Layout). PassesChecksIn l w.rows w.batches number rows) (sym second) early))
      (λ cause. inl (subst (λ (l : Layout). refusal_in l w.rows w.batches number rows ≡ Some fault) (sym second)
      (ap (λ (c : Option Fault). first_cause (c ∷ modes_cause InBatch (modes_in (all_rows w.batches)) (modes_in rows)
      ∷ sums_cause (all_rows w.batches ++ rows) ∷ [])) early
      ∙ ap (λ (c : Option Fault). first_cause (c ∷ sums_cause (all_rows w.batches ++ rows) ∷ [])) cause)))
      adds

  -- an early cause was found
  pub early_checked : (fault : Fault) → early_refusal w.rows w.batches number rows ≡ Some fault
      → ChecksModes w number rows (Err fault)
  early_checked fault e = inl (early_refused w.rows w.batches number rows w.layout fault e)

-- ---- the codes of the rows

module _ (rows : List LineOrder) (texts codes : List (List ℕ)) (are : AreModesOf rows texts codes) where
  pub few_codes : length rows ≤ most_batch_rows → length codes ≤ most_batch_rows
  few_codes few =
      omega (
        arith,
        few,
        ap length are.texts,
        length-map (map (from_le_bytes w16) codes) (text_of_code texts),
        length-map codes (from_le_bytes w16),
        length-map rows (λ (row : LineOrder). row.shipmode),
      )

  pub short_codes : IsBatch rows → AreShort (texts_by texts codes)
  short_codes batch =
      subst AreShort (sym are.texts)
      (All-map (λ text. length text ≤ longest_text) (λ (row : LineOrder). row.shipmode) rows (batch.short ShipMode))

  -- the ship modes with those of the rows, in the order of first use
  pub modes_with : (earlier : List LineOrder) (all : List (List ℕ))
      → all ≡ firsts (modes_in earlier ++ texts_by texts codes) → all ≡ kept_modes Second (earlier ++ rows)
  modes_with earlier all is =
      is
      ∙ ap (λ l. firsts (modes_in earlier ++ l)) are.texts
      ∙ ap firsts (sym (map-append (λ (row : LineOrder). row.shipmode) earlier rows))

  pub cause_with : (earlier : List LineOrder) (cause : Option Fault)
      → modes_cause InBatch (modes_in earlier) (texts_by texts codes) ≡ cause
      → modes_cause InBatch (modes_in earlier) (modes_in rows) ≡ cause
  cause_with earlier cause is = ap (modes_cause InBatch (modes_in earlier)) (sym are.texts) ∙ is

-- ==== A batch that grows.

-- ---- further rows

no_long : (long : Option Fault) → is_some long ≡ false → long ≡ None
no_long None none = refl
no_long (Some fault) none = cc

some_long : (long : Option Fault) → is_some long ≡ true → long ≡ None → ⊥
some_long None some none = cc
some_long (Some fault) some none = cc

module _ (dimensions : DimRows) (root : PlainRoot) (before rows : List LineOrder) (batch : GrowingBatch) (more : Found)
    (grown : IsGrown dimensions root before batch)
    (looked : more ≡ found_in dimensions root.totals (before ++ rows)) where
  -- where no text of all of them is too long, none of the first is
  pub had_columns : is_some more.long_text ≡ false → HaveRows before batch.columns
  had_columns none =
      grown.columns (ap (λ (f : Found). f.long_text) grown.found
      ∙ long_before 1 before rows (sym (ap (λ (f : Found). f.long_text) looked) ∙ no_long more.long_text none))

  -- and then these have columns too
  pub grown-more : (columns : BatchColumns) → is_some more.long_text ≡ false
      → (HaveRows before batch.columns → HaveRows (before ++ rows) columns)
      → IsGrown dimensions root (before ++ rows) (record { found = more; columns = columns })
  grown-more columns none push = record {
    found = looked;
    columns = λ short. push (had_columns none);
  }

  -- where one is, no columns are asked for
  pub grown-long : is_some more.long_text ≡ true
      → IsGrown dimensions root (before ++ rows) (record { found = more; columns = batch.columns })
  grown-long some = record {
    found = looked;
    columns = λ short. absurd (some_long more.long_text some short);
  }

-- ---- its bytes

module _ (dimensions : DimRows) (root : PlainRoot) (rows : List LineOrder) (batch : GrowingBatch)
    (grown : IsGrown dimensions root rows batch) (short : is_some batch.found.long_text ≡ false) where
  pub grown-columns : HaveRows rows batch.columns
  grown-columns = grown.columns (no_long batch.found.long_text short)

  pub grown-batch : batch.found.row_count ≤ most_batch_rows → IsBatch rows
  grown-batch few =
      let many : batch.found.row_count ≡ length rows = ap (λ (f : Found). f.row_count) grown.found in
      batch_of rows (omega (arith, few, many)) (sym (ap (λ (f : Found). f.long_text) grown.found)
      ∙ no_long batch.found.long_text short)

pub grown-too_long : (dimensions : DimRows) (root : PlainRoot) (rows : List LineOrder) (batch : GrowingBatch)
    → IsGrown dimensions root rows batch → is_some batch.found.long_text ≡ true → long_text 1 rows ≡ None → ⊥
grown-too_long dimensions root rows batch grown some none =
    some_long batch.found.long_text some (ap (λ (f : Found). f.long_text) grown.found ∙ none)

-- ---- the root with the batch

root-more : (w : Warehouse) (rows : List LineOrder) (root after : PlainRoot) (count : ℕ) (totals : Totals)
    → root_of w ≡ root → count ≡ length rows
    → totals ≡ totals_of (all_rows (w.batches ++ rows ∷ [])) → after ≡ root_with_batch count totals root
    → after ≡ root_of (loaded w rows)
root-more w rows root after count totals is many sums made =
    let counts : map length w.batches ++ count ∷ [] ≡ map length (w.batches ++ rows ∷ []) =
    ap (λ n. map length w.batches ++ n ∷ []) many ∙ sym (map-append length w.batches (rows ∷ [])) in
    made ∙ ap (root_with_batch count totals) (sym is) ∙ (λ i. record {
      layout = w.layout;
      batches = counts i;
      target = w.target;
      additions = w.additions;
      totals = sums i;
      cuboids = map said_of w.cuboids;
    })

module _ (w : Warehouse) (number : ℕ) (rows : List LineOrder) (more : Option MoreModes)
    (fit : HasFitModes w.layout w.batches rows) (are : AreMore w rows more) where
  -- a batch whose sums and ship modes are no cause to refuse it is made ready
  pub prepares-with : (root : PlainRoot) (count : ℕ) (totals : Totals) (result : Result Prepared Fault)
      → root_of w ≡ root → count ≡ length rows → Admitted w number rows (Ok totals)
      → IfOk result (λ p. p.more ≡ more) → IfOk result (λ p. p.root ≡ root_with_batch count totals root)
      → IfErr result (λ fault. fault ≡ Memory) → Prepares w number rows result
  prepares-with root count totals (Ok p) is many admitted put made memory = (
    fit_refusal w.rows w.batches number rows w.layout fit ∙ admitted.0,
    root-more w rows root p.root count totals is many admitted.1 made,
    subst (AreMore w rows) (sym put) are,
  )
  prepares-with root count totals (Err fault) is many admitted put made memory =
      inr (memory, passes_checks w.rows w.batches number rows w.layout admitted.0)

  -- a cause that its sums are is the first one
  pub refused-with : (fault : Fault) → refusal w.rows w.batches number rows ≡ Some fault
      → refusal_of w number rows ≡ Some fault
  refused-with fault e = fit_refusal w.rows w.batches number rows w.layout fit ∙ e

-- what is made ready of a batch that is refused for no cause
pub prepared-is : (batch : GrowingBatch) (root : PlainRoot) (number : ℕ) (segment : List ℕ) (more : Option MoreModes)
    (count : ℕ) (totals : Totals) (result : Result Prepared Fault) → IfOk result (λ p. p.segment.items ≡ segment)
    → IfOk result (λ p. p.more ≡ more) → IfOk result (λ p. p.root ≡ root_with_batch count totals root)
    → IfOk result (λ p. IsRoot p.root_bytes.items p.root) → batch.found.long_text ≡ None
    → ((rows : List LineOrder) → HaveRows rows batch.columns → segment ≡ segment_of number rows)
    → ((dimensions : DimRows) (rows : List LineOrder) → batch.found ≡ found_in dimensions root.totals rows
    → MayFollow (length root.batches) number rows) → IfSome more (CanBePut root.layout)
    → IfOk result (λ p. (dimensions : DimRows) (rows : List LineOrder) → IsGrown dimensions root rows batch
    → IsPrepared root number rows p)
prepared-is batch root number segment more count totals (Ok p) put modes rooted spelled short encoded follows can =
    λ dimensions rows grown. record {
      follows = follows dimensions rows grown.found;
      fits = rows_fit rows batch.columns (grown.columns short);
      segment = put ∙ encoded rows (grown.columns short);
      more = subst (λ (m : Option MoreModes). IfSome m (CanBePut root.layout)) (sym modes) can;
      of_layout = ap (λ (r : PlainRoot). r.layout) rooted;
      spelled = spelled;
    }
prepared-is batch root number segment more count totals (Err fault) put modes rooted spelled short encoded follows can =
    tt
