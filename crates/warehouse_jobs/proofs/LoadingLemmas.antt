-- Lemmas of `loading`, by subject.
use Rattle.std.proofs.Common.{◌≡◌, ◌⊎◌, inl, inr, ℕ, zero, suc, ◌≤◌, List, [], ◌∷◌, ◌++◌, length, take, drop, Option}
use Rattle.std.proofs.Common.{Some, None, Ok, Err, refl, sym, ap, subst, ◌∙◌, arith, ⊎_elim, ◌+◌, ◌<◌, map, slice_get}
use Rattle.std.proofs.Common.{min, Result, Bool, true, false}
use Rattle.std.specs.Bool.{⊤}
use Rattle.std.specs.Io.KnownBytes.{Keeps, Appends}
use Rattle.std.specs.Option.{IfSome}
use Rattle.batch_loader.specs.Lines.{lines_of}
use Rattle.batch_loader.specs.Parts.{parts_of}
use Rattle.batch_loader.specs.Reading.{IsFirstFault, RefusesBatch, TakesBatch, TakesRows}
use Rattle.batch_loader.specs.Rows.{rows_of, next_number, number_after}
use Rattle.batch_loader.specs.Tables.{lineorder_row}
use Rattle.batch_loader.specs.Unread.{Unread}
use Rattle.cube_model.specs.declared.fault.Fault.{Fault}
use Rattle.cube_model.specs.declared.fault.Fault.TheVariants.{Memory, Input}
use Rattle.cube_model.specs.declared.rows.LineOrder.{LineOrder}
use Rattle.ssb_eval.proofs.Batches.{next_number-after, no_lines, parts_of-first}
use Rattle.warehouse_jobs.specs.Cutting.{AreCut, AreCutFrom, IsNextBatch, IsFirstLineFault}
use Rattle.std.proofs.KnownBytes.{Appends-nil, Appends-trans, Keeps-refl}
use Rattle.std.proofs.lemmas.Bool.{cases_lt}
use Rattle.std.proofs.lemmas.List.{length-map, length_push}
use Rattle.std.proofs.lemmas.Option.{slice_get_within}
use Rattle.sector_device.specs.declared.device.Sectors.{Ghosts}
use Rattle.warehouse_objects.specs.Facts.{AdmitsBatch}
use Rattle.cube_model.specs.Limits.{most_batches}
use Rattle.object_store.specs.Content.{Content}
use Rattle.object_store.specs.Disk.{Leaves}
use Rattle.object_store.proofs.Moments.{leaves_then, leaves_weaker}
use Rattle.warehouse_objects.specs.Warehouse.{Warehouse, loaded}
use Rattle.warehouse_objects.specs.Represents.{Represents}
use Rattle.warehouse.specs.declared.session.Session.{Session}
use Rattle.warehouse.specs.Session.{IsAt, disk_of}
use Rattle.warehouse.proofs.Preparing.{follows_admitted}
use Rattle.warehouse_jobs.specs.Loading.{Done, DoesAll, LoadMayLeave, DeviceTakesBatch, batches_of, batch_line_in}
use Rattle.warehouse_jobs.specs.Loading.{batch_lines_in, session_after, taken_of, with_batch, with_batches}
use Rattle.warehouse_jobs.specs.Loading.{written_after, Ends, FailsInBatch, Loads, DoesBatch}
use Rattle.warehouse_jobs.proofs.Turns.{does-more, lines-last, places-more, trace-batches, trace-count, trace-session}
use Rattle.warehouse_jobs.proofs.Turns.{trace-written, with-added, with-last, with-skipped}
use Rattle.ssb_reports.specs.Writing.{Writes}
use Rattle.warehouse_jobs.specs.Printed.{count_line}
use Rattle.warehouse_jobs.specs.Steps.{Steps}
use Rattle.cube_model.specs.declared.rows.DimRows.{DimRows}
use Rattle.ssb_eval.specs.Tables.{IsInNoRow}
use Rattle.ssb_eval.specs.declared.unknown.UnknownKey.{UnknownKey}
use Rattle.warehouse_jobs.proofs.Added.{same_rows}

-- ==== The parts of a text, one after the other.

-- the first one of the parts that are left
cut-first : (number : ℕ) (parts : List (List (List ℕ))) (next : ℕ) (left others : List (List (List ℕ)))
    (lines : List (List ℕ)) (rows : List LineOrder)
    → next ≡ number → left ≡ parts → left ≡ lines ∷ others → rows_of lineorder_row next lines ≡ Ok rows
    → AreCut number parts (rows ∷ []) (number_after (length rows) next) others
cut-first number [] next left others lines rows first same part read = absurd (cc)
cut-first number (head ∷ parts) next left others lines rows first same part read =
    let here : lines ≡ head = cc in
    let back : others ≡ parts = cc in (
      ap (λ n. rows_of lineorder_row n head) (sym first) ∙ ap (λ l. rows_of lineorder_row next l) (sym here) ∙ read,
      (ap (λ n. number_after (length rows) n) first, back),
    )

-- some batches, and one more
pub cut-more : (number : ℕ) (parts : List (List (List ℕ))) (batches : List (List LineOrder)) (next : ℕ)
    (left others : List (List (List ℕ))) (lines : List (List ℕ)) (rows : List LineOrder)
    → AreCut number parts batches next left → left ≡ lines ∷ others → rows_of lineorder_row next lines ≡ Ok rows
    → AreCut number parts (batches ++ rows ∷ []) (number_after (length rows) next) others
cut-more number parts [] next left others lines rows cut part read =
    cut-first number parts next left others lines rows cut.0 cut.1 part read
cut-more number [] (batch ∷ batches) next left others lines rows cut part read = absurd cut
cut-more number (head ∷ parts) (batch ∷ batches) next left others lines rows cut part read =
    (cut.0, cut-more (number_after (length batch) number) parts batches next left others lines rows cut.1 part read)

-- a batch with a row is the next part
pub parts-next : (size number : ℕ) (lines : List (List ℕ)) (rows : List LineOrder) → 1 ≤ size → 1 ≤ length rows
    → rows_of lineorder_row number (take size lines) ≡ Ok rows
    → parts_of size lines ≡ take size lines ∷ parts_of size (drop size lines)
parts-next zero number lines rows some any read = absurd (omega arith)
parts-next (suc size) number [] [] some any read = absurd (omega arith)
parts-next (suc size) number [] (row ∷ rows) some any read = absurd (cc)
parts-next (suc size) number (line ∷ lines) rows some any read = parts_of-first (suc size) line lines some

-- where there is none, no part is left
pub parts-none : (size number : ℕ) (lines : List (List ℕ)) → 1 ≤ size
    → rows_of lineorder_row number (take size lines) ≡ Ok [] → parts_of size lines ≡ []
parts-none zero number lines some read = absurd (omega arith)
parts-none (suc size) number [] some read = refl
parts-none (suc size) number (line ∷ lines) some read = let none : take (suc size) (line ∷ lines) ≡ [] =
    no_lines lineorder_row number (take (suc size) (line ∷ lines)) read in absurd (cc)

-- a fault is that of the next part
pub parts-fault : (size number : ℕ) (lines : List (List ℕ)) (fault : Fault) → 1 ≤ size
    → rows_of lineorder_row number (take size lines) ≡ Err fault → IsFirstLineFault number (parts_of size lines) fault
parts-fault zero number lines fault some read = absurd (omega arith)
parts-fault (suc size) number [] fault some read = absurd (cc)
parts-fault (suc size) number (line ∷ lines) fault some read = record {
  lines = take (suc size) (line ∷ lines);
  others = parts_of (suc size) (drop (suc size) (line ∷ lines));
  part = parts_of-first (suc size) line lines some;
  refused = read;
}

-- ---- what is left of a text, where it is known

-- the rows of a batch are those of the next part
pub record IsPart (size number next : ℕ) (left : List ℕ) (new : Option (List ℕ)) (rows : List LineOrder) : Type 0 where
  pub rest : List ℕ
  pub rest_is : new ≡ Some rest
  pub batch : IsNextBatch (next_number number) (parts_of size (lines_of left)) rows
  pub others_are : batch.others ≡ parts_of size (lines_of rest)

next-part : (size : ℕ) (old new : Unread) (left : List ℕ) (rows : List LineOrder) → 1 ≤ size → 1 ≤ length rows
    → old.left ≡ Some left → TakesBatch lineorder_row size old new rows
    → IsPart size old.number new.number left new.left rows
next-part size old new left rows some any left_is takes =
    of_known new.left refl
    (subst (λ (known : Option (List ℕ)). TakesRows lineorder_row size old.number known new.left rows) left_is
    takes.taken) where
      of_known : (known : Option (List ℕ)) → new.left ≡ known
          → TakesRows lineorder_row size old.number (Some left) known rows
          → IsPart size old.number new.number left new.left rows
      of_known None is taken = absurd taken
      of_known (Some rest) is taken = record {
        rest = rest;
        rest_is = is;
        batch = record {
          lines = take size (lines_of left);
          others = parts_of size (lines_of rest);
          part = parts-next size (next_number old.number) (lines_of left) rows some any taken.0
              ∙ ap (λ l. take size (lines_of left) ∷ parts_of size l) (sym taken.1);
          read = taken.0;
        };
        others_are = refl;
      }

-- no row was left
none-left : (size : ℕ) (old new : Unread) (left : List ℕ) (rows : List LineOrder) → 1 ≤ size → length rows ≡ 0
    → old.left ≡ Some left → TakesBatch lineorder_row size old new rows → parts_of size (lines_of left) ≡ []
none-left size old new left [] some none left_is takes =
    of_known new.left
    (subst (λ (known : Option (List ℕ)). TakesRows lineorder_row size old.number known new.left []) left_is takes.taken)
  where
    of_known : (known : Option (List ℕ)) → TakesRows lineorder_row size old.number (Some left) known []
        → parts_of size (lines_of left) ≡ []
    of_known None taken = absurd taken
    of_known (Some rest) taken = parts-none size (next_number old.number) (lines_of left) some taken.0
none-left size old new left (row ∷ rows) some none left_is takes = absurd (omega (arith, none))

-- a reader's known bytes
keeps-some : (text : List ℕ) (known : Option (List ℕ)) → Keeps (Some text) known → known ≡ Some text
keeps-some text None kept = absurd kept
keeps-some text (Some left) kept = ap Some kept

-- so many batches of a known text were read, and these lines are left
pub record IsCutSoFar (size : ℕ) (text : List ℕ) (lines : Unread) (batches : List (List LineOrder)) : Type 0 where
  pub left : List ℕ
  pub left_is : lines.left ≡ Some left
  pub cut : AreCut 1 (parts_of size (lines_of text)) batches (next_number lines.number) (parts_of size (lines_of left))

abbrev pub CutSoFar : ℕ → Option (List ℕ) → Unread → List (List LineOrder) → Type 0
CutSoFar size None lines batches = ⊤
CutSoFar size (Some text) lines batches = IsCutSoFar size text lines batches

-- none at first
pub cut-none : (size : ℕ) (text : Option (List ℕ)) (lines : Unread) → Keeps text lines.left → lines.number ≡ 0
    → CutSoFar size text lines []
cut-none size None lines keeps number = tt
cut-none size (Some text) lines keeps number =
    record { left = text; left_is = keeps-some text lines.left keeps; cut = (ap next_number number, refl) }

-- one more
pub cut-on : (size : ℕ) (text : Option (List ℕ)) (lines others : Unread) (batches : List (List LineOrder))
    (rows : List LineOrder) → 1 ≤ size → 1 ≤ length rows → CutSoFar size text lines batches
    → TakesBatch lineorder_row size lines others rows → CutSoFar size text others (batches ++ rows ∷ [])
cut-on size None lines others batches rows some any so_far takes = tt
cut-on size (Some text) lines others batches rows some any so_far takes =
    let parts = parts_of size (lines_of text) in
    let part = next-part size lines others so_far.left rows some any so_far.left_is takes in
    let counted : number_after (length rows) (next_number lines.number) ≡ next_number others.number =
    sym (next_number-after (length rows) lines.number) ∙ ap next_number (sym takes.number) in
    let cut = cut-more 1 parts batches (next_number lines.number) (parts_of size (lines_of so_far.left))
    part.batch.others part.batch.lines rows so_far.cut part.batch.part part.batch.read in
    record {
      left = part.rest;
      left_is = part.rest_is;
      cut = subst (λ n. AreCut 1 parts (batches ++ rows ∷ []) n (parts_of size (lines_of part.rest))) counted
          (subst (λ (l : List (List (List ℕ))). AreCut 1 parts (batches ++ rows ∷ [])
          (number_after (length rows) (next_number lines.number)) l) part.others_are cut);
    }

-- the same of what is said of the text
pub cut-from : (size next : ℕ) (text : Option (List ℕ)) (left : List (List (List ℕ))) (batches : List (List LineOrder))
    (rows : List LineOrder) → AreCutFrom text size batches next left → IfSome text (λ _. IsNextBatch next left rows)
    → (after : ℕ) × (others : List (List (List ℕ))) × AreCutFrom text size (batches ++ rows ∷ []) after others
cut-from size next None left batches rows cut batch = (1, [], tt)
cut-from size next (Some text) left batches rows cut batch = (
  number_after (length rows) next,
  batch.others,
  cut-more 1 (parts_of size (lines_of text)) batches next left
      batch.others batch.lines rows cut batch.part batch.read,
)

-- what is left then, and what the next batch is of it
pub record Remains (size : ℕ) (text : Option (List ℕ)) (lines : Unread) (batches : List (List LineOrder)) : Type 0 where
  pub next : ℕ
  pub left : List (List (List ℕ))
  pub cut : AreCutFrom text size batches next left
  pub none : (others : Unread) (rows : List LineOrder) → length rows ≡ 0
      → TakesBatch lineorder_row size lines others rows → IfSome text (λ _. left ≡ [])
  pub cause : (fault : Fault) → RefusesBatch lineorder_row size lines fault → (fault ≡ Memory)
      ⊎ ((fault ≡ Input) ⊎ IfSome text (λ _. IsFirstLineFault next left fault))
  pub batch : (others : Unread) (rows : List LineOrder) → 1 ≤ length rows
      → TakesBatch lineorder_row size lines others rows → IfSome text (λ _. IsNextBatch next left rows)

abbrev pub Cause : Option (List ℕ) → ℕ → List (List (List ℕ)) → Fault → Type 0
Cause text next left fault = (fault ≡ Memory) ⊎ ((fault ≡ Input) ⊎ IfSome text (λ _. IsFirstLineFault next left fault))

cause_unknown : (size : ℕ) (lines : Unread) (fault : Fault) → RefusesBatch lineorder_row size lines fault
    → Cause None 1 [] fault
cause_unknown size lines fault (inl memory) = inl memory
cause_unknown size lines fault (inr (inl input)) = inr (inl input)
cause_unknown size lines fault (inr (inr refused)) = inr (inr tt)

cause_known : (size : ℕ) (text : List ℕ) (lines : Unread) (left : List ℕ) (fault : Fault) → 1 ≤ size
    → lines.left ≡ Some left → RefusesBatch lineorder_row size lines fault
    → Cause (Some text) (next_number lines.number) (parts_of size (lines_of left)) fault
cause_known size text lines left fault some left_is (inl memory) = inl memory
cause_known size text lines left fault some left_is (inr (inl input)) = inr (inl input)
cause_known size text lines left fault some left_is (inr (inr refused)) =
    inr (inr (parts-fault size (next_number lines.number) (lines_of left) fault some
    (subst (λ (known : Option (List ℕ)). IsFirstFault lineorder_row size lines.number known fault) left_is refused)))

pub remains : (size : ℕ) (text : Option (List ℕ)) (lines : Unread) (batches : List (List LineOrder)) → 1 ≤ size
    → CutSoFar size text lines batches → Remains size text lines batches
remains size None lines batches some so_far = record {
  next = 1;
  left = [];
  cut = tt;
  none = λ others rows none takes. tt;
  cause = cause_unknown size lines;
  batch = λ others rows any takes. tt;
}
remains size (Some text) lines batches some so_far = record {
  next = next_number lines.number;
  left = parts_of size (lines_of so_far.left);
  cut = so_far.cut;
  none = λ others rows none takes. none-left size lines others so_far.left rows some none so_far.left_is takes;
  cause = λ fault refused. cause_known size text lines so_far.left fault some so_far.left_is refused;
  batch = λ others rows any takes. (next-part size lines others so_far.left rows some any so_far.left_is takes).batch;
}

-- ==== A load that did some batches.

-- so many batches of a text were done, and the lines of the others are left
pub record IsThrough {D : Type 0} (g : Ghosts D) (w : Warehouse) (first size : ℕ) (text : Option (List ℕ))
    (old now : Session D g) (before after : Option (List ℕ)) (lines : Unread) (trace : List (Done g)) : Type 0 where
  pub cut : CutSoFar size text lines (batches_of trace)
  pub does : DoesAll g old before w first trace
  pub stay : (place : ℕ) (one : Done g) → slice_get trace place ≡ Some one
      → Leaves (disk_of g one.session) (disk_of g now) (LoadMayLeave w first size text (place + 1))
  pub session_is : session_after old trace ≡ now
  pub written_is : written_after before trace ≡ after
  pub at : IsAt g now (with_batches w first (batches_of trace))
  pub written : Appends before after (batch_lines_in w first (batches_of trace))
  pub leaves : Leaves (disk_of g old) (disk_of g now) (LoadMayLeave w first size text 0)
  pub reached : (length trace ≡ 0)
      ⊎ (first + length trace ≤ length (with_batches w first (batches_of trace)).batches + 1)

-- what is left where none were done
none_held : (w : Warehouse) (first size : ℕ) (text : Option (List ℕ)) (lines : Unread) (c : Content) → 1 ≤ size
    → CutSoFar size text lines [] → Represents c w → LoadMayLeave w first size text 0 c
none_held w first size text lines c some cut here =
    let left = remains size text lines [] some cut in
    record { some = []; next = left.next; left = left.left; cut = left.cut; no_fewer = omega arith; represents = here }

-- none at first
pub through-none : {D : Type 0} (g : Ghosts D) (w : Warehouse) (first size : ℕ) (text : Option (List ℕ))
    (now : Session D g) (before : Option (List ℕ)) (lines : Unread)
    → 1 ≤ size → Keeps text lines.left → lines.number ≡ 0 → IsAt g now w
    → Leaves (disk_of g now) (disk_of g now) (λ c. Represents c w)
    → IsThrough g w first size text now now before before lines []
through-none g w first size text now before lines some keeps number at leaves =
    let cut = cut-none size text lines keeps number in
    record {
      cut = cut;
      does = tt;
      stay = λ place one is. absurd cc;
      session_is = refl;
      written_is = refl;
      at = at;
      written = Appends-nil before;
      leaves = leaves_weaker (λ (c : Content). Represents c w) (LoadMayLeave w first size text 0) (disk_of g now)
          (disk_of g now) (λ k c here. none_held w first size text lines c some cut here) leaves;
      reached = inl refl;
    }

-- what may be held with many batches may be with fewer
pub holds-fewer : (w : Warehouse) (first size : ℕ) (text : Option (List ℕ)) (fewer many : ℕ) (c : Content)
    → fewer ≤ many → LoadMayLeave w first size text many c → LoadMayLeave w first size text fewer c
holds-fewer w first size text fewer many c le may = record {
  some = may.some;
  next = may.next;
  left = may.left;
  cut = may.cut;
  no_fewer = omega (arith, le, may.no_fewer);
  represents = may.represents;
}

-- what is held once a batch more was done
holds-with : (w : Warehouse) (first size : ℕ) (text : Option (List ℕ)) (next : ℕ) (left : List (List (List ℕ)))
    (done : List (List LineOrder)) (rows : List LineOrder) (c : Content)
    → AreCutFrom text size done next left → IfSome text (λ _. IsNextBatch next left rows)
    → Represents c (with_batch (with_batches w first done) (first + length done) rows)
    → LoadMayLeave w first size text (length done + 1) c
holds-with w first size text next left done rows c cut batch here = let more =
    cut-from size next text left done rows cut batch in record {
      some = done ++ rows ∷ [];
      next = more.0;
      left = more.1;
      cut = more.2;
      no_fewer = let longer : length (done ++ rows ∷ []) ≡ length done + 1 = length_push done rows in
          omega (arith, longer);
      represents = subst (λ (v : Warehouse). Represents c v) (sym (with-last w first done rows)) here;
    }

-- what a crash within a batch leaves
pub holds-next : (w : Warehouse) (first size : ℕ) (text : Option (List ℕ)) (next : ℕ) (left : List (List (List ℕ)))
    (done : List (List LineOrder)) (rows : List LineOrder) (c : Content)
    → AreCutFrom text size done next left → IfSome text (λ _. IsNextBatch next left rows)
    → Represents c (with_batches w first done)
    ⊎ Represents c (with_batch (with_batches w first done) (first + length done) rows)
    → LoadMayLeave w first size text (length done) c
holds-next w first size text next left done rows c cut batch (inl here) =
    record { some = done; next = next; left = left; cut = cut; no_fewer = omega arith; represents = here }
holds-next w first size text next left done rows c cut batch (inr here) =
    holds-fewer w first size text (length done) (length done + 1) c (omega arith)
    (holds-with w first size text next left done rows c cut batch here)

pub leaves-fewer : {D : Type 0} (g : Ghosts D) (w : Warehouse) (first size : ℕ) (text : Option (List ℕ))
    (fewer many : ℕ) (old new : Session D g) → fewer ≤ many
    → Leaves (disk_of g old) (disk_of g new) (LoadMayLeave w first size text many)
    → Leaves (disk_of g old) (disk_of g new) (LoadMayLeave w first size text fewer)
leaves-fewer g w first size text fewer many old new le leaves =
    leaves_weaker (LoadMayLeave w first size text many) (LoadMayLeave w first size text fewer) (disk_of g old)
    (disk_of g new)
    (λ k c may. holds-fewer w first size text fewer many c le may) leaves

-- the batches that were done stay to a later session, until which no fewer are held
pub stay-on : {D : Type 0} (g : Ghosts D) (w : Warehouse) (first size : ℕ) (text : Option (List ℕ))
    (trace : List (Done g)) (mid new : Session D g)
    → ((place : ℕ) (one : Done g) → slice_get trace place ≡ Some one
    → Leaves (disk_of g one.session) (disk_of g mid) (LoadMayLeave w first size text (place + 1)))
    → Leaves (disk_of g mid) (disk_of g new) (LoadMayLeave w first size text (length trace))
    → (place : ℕ) (one : Done g) → slice_get trace place ≡ Some one
    → Leaves (disk_of g one.session) (disk_of g new) (LoadMayLeave w first size text (place + 1))
stay-on g w first size text trace mid new stay between place one is =
    let within : place + 1 ≤ length trace = omega (arith, slice_get_within trace place one is) in
    leaves_then (LoadMayLeave w first size text (place + 1)) (disk_of g one.session) (disk_of g mid) (disk_of g new)
    (stay place one is)
    (leaves-fewer g w first size text (place + 1) (length trace) mid new within between)

-- a batch that was done has a number of the warehouse after it
reaches : (w : Warehouse) (number : ℕ) (rows : List LineOrder)
    → (length w.batches < number → AdmitsBatch w number rows)
    → number ≤ length (with_batch w number rows).batches
reaches w number rows may =
    ⊎_elim
    (λ lt.
    let next : number ≡ length w.batches + 1 = (follows_admitted w number rows (may lt)).next in
    let one_more : length (w.batches ++ rows ∷ []) ≡ length w.batches + 1 = length_push w.batches rows in
    subst (λ (v : Warehouse). number ≤ length v.batches) (sym (with-added w number rows lt))
    (omega (arith, next, one_more)))
    (λ le. subst (λ (v : Warehouse). number ≤ length v.batches) (sym (with-skipped w number rows le)) le)
    (cases_lt (length w.batches) number)

-- a warehouse has no more batches than it may
pub few_batches : {D : Type 0} (g : Ghosts D) (session : Session D g) (w : Warehouse) → IsAt g session w
    → (disk_of g session).keeps_word → length w.batches ≤ most_batches
few_batches g session w at k =
    let few = (at.represents k).root.proper.most_batches in
    let same : length (map (λ (batch : List LineOrder). length batch) w.batches) ≡ length w.batches =
    length-map w.batches (λ (batch : List LineOrder). length batch) in
    omega (arith, few, same)

-- and one more
pub through-more : {D : Type 0} (g : Ghosts D) (w : Warehouse) (first size : ℕ) (text : Option (List ℕ))
    (old mid : Session D g) (before fact : Option (List ℕ)) (lines others : Unread) (trace : List (Done g))
    (one : Done g)
    → 1 ≤ size → 1 ≤ length one.rows → IsThrough g w first size text old mid before fact lines trace
    → TakesBatch lineorder_row size lines others one.rows
    → DeviceTakesBatch g (with_batches w first (batches_of trace)) (first + length trace) one.rows mid one.session
    (taken_of (with_batches w first (batches_of trace)) (first + length trace))
    → Leaves (disk_of g one.session) (disk_of g one.session)
    (λ c. Represents c (with_batch (with_batches w first (batches_of trace)) (first + length trace) one.rows))
    → Appends fact one.written (batch_line_in (with_batches w first (batches_of trace)) (first + length trace) one.rows)
    → IsThrough g w first size text old one.session before one.written others (trace ++ one ∷ [])
through-more {D} g w first size text old mid before fact lines others trace one some any through takes is here line =
    let rows = one.rows in
    let new = one.session in
    let done = batches_of trace in
    let count : length done ≡ length trace = trace-count trace in
    let place : first + length trace ≡ first + length done = ap (λ n. first + n) (sym count) in
    let left = remains size text lines done some through.cut in
    let batch = left.batch others rows any takes in
    let now = with_batches w first done in
    let number = first + length trace in
    let all = trace-batches trace one in
    let back : with_batches w first (batches_of (trace ++ one ∷ [])) ≡ with_batch now number rows =
    ap (with_batches w first) all ∙ with-last w first done rows ∙ ap (λ n. with_batch now n rows) (sym place) in
    let longer : length (trace ++ one ∷ []) ≡ length trace + 1 = length_push trace one in
    let reached : number ≤ length (with_batch now number rows).batches = reaches now number rows is.follows in
    let at_most : number + 1 ≤ length (with_batches w first (batches_of (trace ++ one ∷ []))).batches + 1 =
    subst (λ (v : Warehouse). number + 1 ≤ length v.batches + 1) (sym back) (omega (arith, reached)) in
    let between : Leaves (disk_of g mid) (disk_of g new) (LoadMayLeave w first size text (length trace)) =
    subst (λ n. Leaves (disk_of g mid) (disk_of g new) (LoadMayLeave w first size text n)) count
    (leaves_weaker (λ (c : Content). Represents c now ⊎ Represents c (with_batch now number rows))
    (LoadMayLeave w first size text (length done)) (disk_of g mid) (disk_of g new)
    (λ k c holds. holds-next w first size text left.next left.left done rows c left.cut batch
    (subst (λ n. Represents c now ⊎ Represents c (with_batch now n rows)) place holds)) is.leaves) in
    let then : Leaves (disk_of g new) (disk_of g new) (LoadMayLeave w first size text (length trace + 1)) =
    subst (λ n. Leaves (disk_of g new) (disk_of g new) (LoadMayLeave w first size text (n + 1))) count
    (leaves_weaker (λ (c : Content). Represents c (with_batch now number rows))
    (LoadMayLeave w first size text (length done + 1)) (disk_of g new) (disk_of g new)
    (λ k c represents. holds-with w first size text left.next left.left done rows c left.cut batch
    (subst (λ n. Represents c (with_batch now n rows)) place represents)) here) in
    record {
      cut = subst (λ (bs : List (List LineOrder)). CutSoFar size text others bs) (sym all)
          (cut-on size text lines others done rows some any through.cut takes);
      does = does-more g old before w first trace one through.does
          (subst (λ (s : Session D g). DeviceTakesBatch g now number rows s new (taken_of now number))
          (sym through.session_is)
          is)
          (subst (λ (t : Option (List ℕ)). Appends t one.written (batch_line_in now number rows))
          (sym through.written_is)
          line);
      stay = places-more
          (λ k (d : Done g). Leaves (disk_of g d.session) (disk_of g new) (LoadMayLeave w first size text (k + 1)))
          trace one
          (stay-on g w first size text trace mid new through.stay between) then;
      session_is = trace-session old trace one;
      written_is = trace-written before trace one;
      at = subst (λ (v : Warehouse). IsAt g new v) (sym back) is.at;
      written = subst (λ (l : List ℕ). Appends before one.written l)
          (sym (ap (batch_lines_in w first) all ∙ lines-last w first done rows
          ∙ ap (λ n. batch_lines_in w first done ++ batch_line_in now n rows) (sym place)))
          (Appends-trans before fact one.written (batch_lines_in w first done) (batch_line_in now number rows)
          through.written
          line);
      leaves = leaves_then (LoadMayLeave w first size text 0) (disk_of g old) (disk_of g mid) (disk_of g new)
          through.leaves
          (leaves-fewer g w first size text 0 (length trace) mid new (omega arith) between);
      reached = inr (omega (arith, longer, at_most));
    }

-- ==== How a load ends.

module _ {D : Type 0} (g : Ghosts D) (w : Warehouse) (first size : ℕ) (text : Option (List ℕ)) (old mid : Session D g)
    (before fact : Option (List ℕ)) (lines : Unread) (trace : List (Done g)) (some : 1 ≤ size)
    (through : IsThrough g w first size text old mid before fact lines trace) where
  -- what is left of the text
  left : Remains size text lines (batches_of trace)
  left = remains size text lines (batches_of trace) some through.cut

  abbrev pub now : Warehouse
  now = with_batches w first (batches_of trace)

  -- the batches that were done, and an end
  ended : (new : Session D g) (after : Option (List ℕ)) (result : Result Unit Fault)
      → Ends g text left.next left.left now (first + length trace) mid new fact after result
      → ((place : ℕ) (one : Done g) → slice_get trace place ≡ Some one
      → Leaves (disk_of g one.session) (disk_of g new) (LoadMayLeave w first size text (place + 1)))
      → Leaves (disk_of g old) (disk_of g new) (LoadMayLeave w first size text 0)
      → Loads g w first size text old new before after result
  ended new after result ends stay leaves = record {
    trace = trace;
    next = left.next;
    left = left.left;
    cut = left.cut;
    does = through.does;
    stay = stay;
    at = subst (λ (s : Session D g). IsAt g s now) (sym through.session_is) through.at;
    written = subst (λ (t : Option (List ℕ)). Appends before t (batch_lines_in w first (batches_of trace)))
        (sym through.written_is) through.written;
    ends = subst
        (λ (t : Option (List ℕ)). Ends g text left.next left.left now (first + length trace) (session_after old trace)
        new t after result) (sym through.written_is)
        (subst (λ (s : Session D g). Ends g text left.next left.left now (first + length trace) s new fact after result)
        (sym through.session_is) ends);
    leaves = leaves;
  }

  -- the next batch could not be read
  pub loads-unread : (fault : Fault) (result : Result Unit Fault) → RefusesBatch lineorder_row size lines fault
      → (other : Fault) × (result ≡ Err other) × (other ≡ fault)
      → Loads g w first size text old mid before fact result
  loads-unread fault result refused stop =
      rw (stop.1, stop.2)
      (ended mid fact (Err fault)
      (inl (record { cause = left.cause fault refused; same = refl; nothing = Keeps-refl fact })) through.stay
      through.leaves)

  -- what a crash in a batch that did not end well leaves
  failed_leaves : (new : Session D g) (after : Option (List ℕ)) (rows : List LineOrder) (fault : Fault)
      → FailsInBatch g now (first + length trace) rows mid new fact after fault
      → Leaves (disk_of g mid) (disk_of g new)
      (λ c. Represents c now ⊎ Represents c (with_batch now (first + length trace) rows))
  failed_leaves new after rows fault (inl (refused, nothing)) =
      let number = first + length trace in
      leaves_weaker
      (λ (c : Content). Represents c now
      ⊎ (AdmitsBatch now number rows × Represents c (loaded now rows)))
      (λ (c : Content). Represents c now ⊎ Represents c (with_batch now number rows)) (disk_of g mid)
      (disk_of g new)
      (λ k c here. ⊎_elim (λ s. inl s)
      (λ s.
      let next : number ≡ length now.batches + 1 = (follows_admitted now number rows s.0).next in
      inr (subst (λ (v : Warehouse). Represents c v) (sym (with-added now number rows (omega (arith, next)))) s.1))
      here) refused.leaves
  failed_leaves new after rows fault (inr (is, takes, written)) = takes.leaves

  -- the next batch was read, and did not end well
  pub loads-failed : (new : Session D g) (after : Option (List ℕ)) (others : Unread) (rows : List LineOrder)
      (fault : Fault) (result : Result Unit Fault) → 1 ≤ length rows
      → TakesBatch lineorder_row size lines others rows
      → FailsInBatch g now (first + length trace) rows mid new fact after fault
      → (other : Fault) × (result ≡ Err other) × (other ≡ fault) → Loads g w first size text old new before after result
  loads-failed new after others rows fault result any takes fails stop =
      let done = batches_of trace in
      let count : length done ≡ length trace = trace-count trace in
      let place : first + length trace ≡ first + length done = ap (λ n. first + n) (sym count) in
      let batch = left.batch others rows any takes in
      let between : Leaves (disk_of g mid) (disk_of g new) (LoadMayLeave w first size text (length trace)) =
      subst (λ n. Leaves (disk_of g mid) (disk_of g new) (LoadMayLeave w first size text n)) count
      (leaves_weaker (λ (c : Content). Represents c now ⊎ Represents c (with_batch now (first + length trace) rows))
      (LoadMayLeave w first size text (length done)) (disk_of g mid) (disk_of g new)
      (λ k c here. holds-next w first size text left.next left.left done rows c left.cut batch
      (subst (λ n. Represents c now ⊎ Represents c (with_batch now n rows)) place here))
      (failed_leaves new after rows fault fails)) in
      rw (stop.1, stop.2) (ended new after (Err fault) (inr (inl (record { rows = rows; read = batch; ends = fails })))
      (stay-on g w first size text trace mid new through.stay between)
      (leaves_then (LoadMayLeave w first size text 0) (disk_of g old) (disk_of g mid) (disk_of g new) through.leaves
      (leaves-fewer g w first size text 0 (length trace) mid new (omega arith) between)))

  -- no row was left
  pub loads-closed : (after : Option (List ℕ)) (others : Unread) (rows : List LineOrder) (count : ℕ)
      (result : Result Unit Fault) → length rows ≡ 0
      → TakesBatch lineorder_row size lines others rows → count ≡ length now.batches
      → Writes fact after result (count_line count) → Loads g w first size text old mid before after result
  loads-closed after others rows count (Ok wrote) none takes counted written =
      ended mid after (Ok wrote)
      (record {
        none = left.none others rows none takes;
        same = refl;
        written = subst (λ n. Appends fact after (count_line n)) counted written;
      }) through.stay through.leaves
  loads-closed after others rows count (Err fault) none takes counted written =
      let whole = subst (λ n. Writes fact after (Err fault) (count_line n)) counted written in
      ended mid after (Err fault)
      (inr (inr (record {
        failed = whole.0;
        none = left.none others rows none takes;
        same = refl;
        written = whole.1;
      }))) through.stay through.leaves

  -- the number of the next batch is one
  pub numbered : (number : ℕ) → first < 4294967296 → number ≡ min (first + length trace) 4294967295
      → (disk_of g mid).keeps_word → number ≡ first + length trace
  numbered number small is k =
      let few : length now.batches ≤ most_batches = few_batches g mid now through.at k in
      ⊎_elim (λ none. omega (arith, none, small, is)) (λ reached. omega (arith, reached, few, is)) through.reached

  -- a load has not so many batches
  pub never_more : 1 ≤ first → 4097 ≤ length trace → (disk_of g mid).keeps_word → ⊥
  never_more positive many k =
      let few : length now.batches ≤ most_batches = few_batches g mid now through.at k in
      ⊎_elim (λ none. omega (arith, none, many)) (λ reached. omega (arith, reached, few, many, positive))
      through.reached

-- no line could be read
pub loads-none : {D : Type 0} (g : Ghosts D) (w : Warehouse) (first size : ℕ) (text : Option (List ℕ))
    (now : Session D g) (before : Option (List ℕ)) (fault : Fault) (result : Result Unit Fault)
    → 1 ≤ size → fault ≡ Memory → IsAt g now w → Leaves (disk_of g now) (disk_of g now) (λ c. Represents c w)
    → (other : Fault) × (result ≡ Err other) × (other ≡ fault)
    → Loads g w first size text now now before before result
loads-none g w first size text now before fault result some memory at leaves stop =
    let lines : Unread = record { left = text; line = []; number = 0; fault = None } in
    let through = through-none g w first size text now before lines some (Keeps-refl text) refl at leaves in
    loads-unread g w first size text now now before before lines [] some through fault result (inl memory) stop

-- ==== The steps of a load, one after the other.

-- the next batch could not be read
pub step-unread : {D : Type 0} (g : Ghosts D) (size : ℕ) (w : Warehouse) (number : ℕ) (lines rest : Unread)
    (now : Session D g) (before : Option (List ℕ)) (fault : Fault) (result : Result Bool Fault)
    → RefusesBatch lineorder_row size lines fault → (other : Fault) × (result ≡ Err other) × (other ≡ fault)
    → Steps g size w number lines rest now now before before result
step-unread g size w number lines rest now before fault result refused stop =
    rw (stop.1, stop.2) (inl (record { refused = refused; same = refl; nothing = refl }))

-- the next batch was read, and did not end well
pub step-failed : {D : Type 0} (g : Ghosts D) (size : ℕ) (w : Warehouse) (number : ℕ) (lines rest : Unread)
    (old new : Session D g) (before after : Option (List ℕ)) (rows : List LineOrder) (fault : Fault)
    (result : Result Bool Fault)
    → 1 ≤ length rows → TakesBatch lineorder_row size lines rest rows
    → DoesBatch {A = Unit} g w number rows old new before after (Err fault) → (other : Fault) × (result ≡ Err other)
    × (other ≡ fault)
    → Steps g size w number lines rest old new before after result
step-failed g size w number lines rest old new before after rows fault result some takes fails stop =
    rw (stop.1, stop.2) (inr (rows, record { some = some; takes = takes }, fails))

module _ {D : Type 0} (g : Ghosts D) (w : Warehouse) (first size : ℕ) (text : Option (List ℕ))
    (old mid new : Session D g) (before fact between : Option (List ℕ)) (lines rest : Unread) (trace : List (Done g))
    (through : IsThrough g w first size text old mid before fact lines trace) (some : 1 ≤ size) (number : ℕ)
    (small : first < 4294967296) (number_is : number ≡ min (first + length trace) 4294967295)
    (k : (disk_of g mid).keeps_word)
    (step : Result Bool Fault)
    (steps : Steps g size (with_batches w first (batches_of trace)) number lines rest mid new fact between step)
  where
    abbrev pub held : Warehouse
    held = with_batches w first (batches_of trace)

    -- it is the step of the number after the batches that were done
    numbered_step : (is : Result Bool Fault) → step ≡ is
        → Steps g size held (first + length trace) lines rest mid new fact between is
    numbered_step is same =
        subst (λ (s : Result Bool Fault). Steps g size held (first + length trace) lines rest mid new fact between s)
        same
        (subst (λ n. Steps g size held n lines rest mid new fact between step)
        (numbered g w first size text old mid before fact lines trace some through number small number_is k) steps)

    -- one batch more is done
    pub stepped : (found : Bool) → step ≡ Ok found → found ≡ true → (count : ℕ) → length trace ≡ count
        → ((v : Warehouse) → IsAt g new v → Leaves (disk_of g new) (disk_of g new) (λ c. Represents c v))
        → (more : List (Done g)) × (length more ≡ count + 1)
        × IsThrough g w first size text old new before between rest more
    stepped found is test count counted still_here =
        let next = numbered_step (Ok true) (is ∙ ap Ok test) in
        let one : Done g = record { rows = next.0; session = new; written = between } in (
          trace ++ one ∷ [],
          length_push trace one ∙ ap (λ n. n + 1) counted,
          through-more g w first size text old mid before fact lines rest trace one some next.1.some through
              next.1.takes
              next.2 (still_here _ next.2.at) next.3,
        )

    -- no row is left, and the number of batches is written
    pub stepped-last : (found : Bool) → step ≡ Ok found → found ≡ false
        → (after : Option (List ℕ)) (result : Result Unit Fault)
        → (IsAt g new held → Writes between after result (count_line (length held.batches)))
        → Loads g w first size text old new before after result
    stepped-last found is test after result =
        let last = numbered_step (Ok false) (is ∙ ap Ok test) in
        subst
        (λ (s : Session D g). (IsAt g s held → Writes between after result (count_line (length held.batches)))
        → Loads g w first size text old s before after result)
        (sym last.same)
        (λ written. loads-closed g w first size text old mid before fact lines trace some through after rest last.rows
        (length held.batches) result last.none last.takes refl
        (subst (λ (t : Option (List ℕ)). Writes t after result (count_line (length held.batches))) last.nothing
        (written through.at)))

    -- the next batch could not be read, or did not end well
    pub stepped-fault : (fault : Fault) → step ≡ Err fault
        → Loads {A = Unit} g w first size text old new before between (Err fault)
    stepped-fault fault is = stopped (numbered_step (Err fault) is) where
      stopped : Steps g size held (first + length trace) lines rest mid new fact between (Err fault)
          → Loads {A = Unit} g w first size text old new before between (Err fault)
      stopped (inl unread) =
          subst (λ (s : Session D g). Loads {A = Unit} g w first size text old s before between (Err fault))
          (sym unread.same)
          (subst (λ (t : Option (List ℕ)). Loads {A = Unit} g w first size text old mid before t (Err fault))
          (sym unread.nothing)
          (loads-unread g w first size text old mid before fact lines trace some through fault (Err fault)
          unread.refused
          (fault, refl, refl)))
      stopped (inr (rows, read, fails)) =
          loads-failed g w first size text old mid before fact lines trace some through new between rest rows fault
          (Err fault) read.some read.takes fails (fault, refl, refl)

-- ==== A key that is kept while batches are loaded.

-- none is kept yet
pub no_key : (dimensions : DimRows) (unknown : Option UnknownKey) → unknown ≡ None
    → IfSome unknown (IsInNoRow dimensions)
no_key dimensions unknown none = rw none tt

-- one that is in no row of a warehouse is in none with more batches, and back
pub after_batches : (w : Warehouse) (number : ℕ) (batches : List (List LineOrder)) (unknown : Option UnknownKey)
    → IfSome unknown (IsInNoRow w.rows) → IfSome unknown (IsInNoRow (with_batches w number batches).rows)
after_batches w number batches unknown kept =
    subst (λ rows. IfSome unknown (IsInNoRow rows)) (sym (same_rows w number batches)) kept

pub before_batches : (w : Warehouse) (number : ℕ) (batches : List (List LineOrder)) (unknown : Option UnknownKey)
    → IfSome unknown (IsInNoRow (with_batches w number batches).rows) → IfSome unknown (IsInNoRow w.rows)
before_batches w number batches unknown kept =
    subst (λ rows. IfSome unknown (IsInNoRow rows)) (same_rows w number batches) kept
