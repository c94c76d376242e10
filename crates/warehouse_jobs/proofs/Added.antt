-- What the batches of a load come to.
use Rattle.std.proofs.Common.{◌≡◌, ⊎_elim, inl, ℕ, zero, suc, ◌+◌, ◌-◌, ◌≤◌, List, [], ◌∷◌, ◌++◌, length, take, drop}
use Rattle.std.proofs.Common.{slice_get, Option, None, Some, Result, Ok, refl, sym, ap, subst, ◌∙◌, arith, append_assoc}
use Rattle.std.proofs.Common.{append-nil, length-append, length-drop}
use Rattle.std.proofs.Math.Seq.{take-append_seam}
use Rattle.std.proofs.lemmas.Bool.{cases_lt}
use Rattle.std.proofs.lemmas.List.{length_push, take_all}
use Rattle.sector_device.specs.declared.device.Sectors.{Ghosts}
use Rattle.batch_loader.specs.Lines.{lines_of}
use Rattle.batch_loader.specs.Outcomes.{and_then, unless}
use Rattle.batch_loader.specs.Parts.{parts_of}
use Rattle.batch_loader.specs.Rows.{number_after}
use Rattle.cube_model.specs.declared.fault.Fault.{Fault}
use Rattle.cube_model.specs.declared.rows.DimRows.{DimRows}
use Rattle.cube_model.specs.declared.rows.LineOrder.{LineOrder}
use Rattle.cube_model.specs.Admission.{all_rows, moded_refusal, refusal}
use Rattle.cube_model.specs.Answers.{answer}
use Rattle.cube_model.specs.Limits.{most_batch_rows}
use Rattle.cube_model.specs.ShipModes.{modes_in}
use Rattle.object_store.specs.Content.{Content}
use Rattle.object_store.specs.Disk.{disk, Leaves}
use Rattle.object_store.proofs.CallerLemmas.{all_weaker}
use Rattle.ssb_eval.specs.Evaluation.{facts_after, facts_of}
use Rattle.warehouse_objects.specs.Represents.{Represents}
use Rattle.warehouse_objects.proofs.Batches.{get_within, some_one, take_next}
use Rattle.warehouse_objects.specs.Facts.{facts_in}
use Rattle.warehouse_objects.specs.Warehouse.{AreInOrder, Warehouse, loaded}
use Rattle.warehouse.specs.declared.session.Session.{Session}
use Rattle.warehouse.specs.Comparing.{numbered}
use Rattle.warehouse.specs.Found.{MayRepresent}
use Rattle.warehouse.specs.Headline.{RestartedShows}
use Rattle.warehouse.specs.Session.{IsAt, device_of, disk_of}
use Rattle.warehouse.proofs.Preparing.{follows_admitted}
use Rattle.warehouse_jobs.specs.Cutting.{AreCut}
use Rattle.warehouse_jobs.specs.Lawful.{LoadAddsTheOthers, LoadHoldsItsBatches, LoadedIsEvaluated, CrashedLoadIsFound}
use Rattle.warehouse_jobs.specs.Loading.{Done, DoesAll, Loads, LoadMayLeave, DeviceTakesBatch, batches_of}
use Rattle.warehouse_jobs.specs.Loading.{session_after, taken_of}
use Rattle.warehouse_jobs.specs.Loading.{with_batch, with_batches}
use Rattle.warehouse_jobs.specs.declared.taken.Taken.{Taken}
use Rattle.warehouse_jobs.proofs.ShipModes.{AreFit, fit_in, moded_of}
use Rattle.warehouse_jobs.proofs.Turns.{trace-count, trace-session, with-added, with-skipped}

-- batches that are not there are added

drop-none : (count : ℕ) → drop {A = List LineOrder} count [] ≡ []
drop-none zero = refl
drop-none (suc count) = refl

pub adds_the_others : LoadAddsTheOthers
adds_the_others w first [] within =
    sym (ap (λ l. w.batches ++ l) (drop-none (length w.batches + 1 - first)) ∙ append-nil w.batches)
adds_the_others w first (rows ∷ batches) within =
    ⊎_elim
    (λ lt.
    let added = with-added w first rows lt in
    let one_more : length (w.batches ++ rows ∷ []) ≡ length w.batches + 1 = length_push w.batches rows in
    let none : length w.batches + 1 - first ≡ 0 = omega (arith, lt) in
    let nothing : length (w.batches ++ rows ∷ []) + 1 - (first + 1) ≡ 0 = omega (arith, lt, one_more) in
    ap (λ (v : Warehouse). (with_batches v (first + 1) batches).batches) added
    ∙ adds_the_others (loaded w rows) (first + 1) batches (omega (arith, one_more, within))
    ∙ ap (λ n. (w.batches ++ rows ∷ []) ++ drop n batches) nothing
    ∙ append_assoc w.batches (rows ∷ []) batches
    ∙ ap (λ n. w.batches ++ drop n (rows ∷ batches)) (sym none))
    (λ le.
    let one : length w.batches + 1 - first ≡ suc (length w.batches + 1 - (first + 1)) = omega (arith, le) in
    ap (λ (v : Warehouse). (with_batches v (first + 1) batches).batches) (with-skipped w first rows le)
    ∙ adds_the_others w (first + 1) batches (omega (arith, le))
    ∙ ap (λ n. w.batches ++ drop n (rows ∷ batches)) (sym one))
    (cases_lt (length w.batches) first)

-- ---- each batch that was done is there

get_left : {A : Type 0} (xs ys : List A) (place : ℕ) (x : A) → slice_get xs place ≡ Some x
    → slice_get (xs ++ ys) place ≡ Some x
get_left [] ys place x is = absurd cc
get_left (y ∷ xs) ys zero x is = is
get_left (y ∷ xs) ys (suc place) x is = get_left xs ys place x is

get_last : {A : Type 0} (xs : List A) (x : A) → slice_get (xs ++ x ∷ []) (length xs) ≡ Some x
get_last [] x = refl
get_last (y ∷ xs) x = get_last xs x

numbered_left : {A : Type 0} (xs ys : List A) (number : ℕ) (x : A) → numbered xs number ≡ Some x
    → numbered (xs ++ ys) number ≡ Some x
numbered_left xs ys zero x is = absurd cc
numbered_left xs ys (suc before) x is = get_left xs ys before x is

-- with further batches it is still there
stays_there : (w : Warehouse) (first : ℕ) (batches : List (List LineOrder)) (number : ℕ) (rows : List LineOrder)
    → numbered w.batches number ≡ Some rows → numbered (with_batches w first batches).batches number ≡ Some rows
stays_there w first [] number rows is = is
stays_there w first (batch ∷ batches) number rows is =
    stays_there (with_batch w first batch) (first + 1) batches number rows
    (⊎_elim
    (λ lt. subst (λ (v : Warehouse). numbered v.batches number ≡ Some rows) (sym (with-added w first batch lt))
    (numbered_left w.batches (batch ∷ []) number rows is))
    (λ le. subst (λ (v : Warehouse). numbered v.batches number ≡ Some rows) (sym (with-skipped w first batch le)) is)
    (cases_lt (length w.batches) first))

-- and it is there once it was done
is_held : {D : Type 0} (g : Ghosts D) (w : Warehouse) (number : ℕ) (rows : List LineOrder) (old new : Session D g)
    (taken : Taken) → DeviceTakesBatch g w number rows old new taken
    → numbered (with_batch w number rows).batches number ≡ Some rows
is_held g w number rows old new taken takes =
    ⊎_elim
    (λ lt.
    let next : number ≡ suc (length w.batches) =
    omega (arith, (follows_admitted w number rows (takes.follows lt)).next) in
    subst (λ (v : Warehouse). numbered v.batches number ≡ Some rows) (sym (with-added w number rows lt))
    (ap (numbered (w.batches ++ rows ∷ [])) next ∙ get_last w.batches rows))
    (λ le. subst (λ (v : Warehouse). numbered v.batches number ≡ Some rows) (sym (with-skipped w number rows le))
    (takes.same le))
    (cases_lt (length w.batches) number)

first_held : (w : Warehouse) (number : ℕ) (rows : List LineOrder) (batches : List (List LineOrder))
    → numbered (with_batch w number rows).batches number ≡ Some rows
    → numbered (with_batches w number (rows ∷ batches)).batches (number + 0) ≡ Some rows
first_held w number rows batches held =
    let here : number ≡ number + 0 = omega arith in
    subst (λ n. numbered (with_batches w number (rows ∷ batches)).batches n ≡ Some rows) here
    (stays_there (with_batch w number rows) (number + 1) batches number rows held)

later_held : (w : Warehouse) (number place : ℕ) (rows other : List LineOrder) (batches : List (List LineOrder))
    → numbered (with_batches (with_batch w number rows) (number + 1) batches).batches (number + 1 + place) ≡ Some other
    → numbered (with_batches w number (rows ∷ batches)).batches (number + suc place) ≡ Some other
later_held w number place rows other batches held =
    let later : number + 1 + place ≡ number + suc place = omega arith in
    subst (λ n. numbered (with_batches w number (rows ∷ batches)).batches n ≡ Some other) later held

each_is_held : {D : Type 0} (g : Ghosts D) (old : Session D g) (before : Option (List ℕ)) (w : Warehouse) (number : ℕ)
    (trace : List (Done g)) → DoesAll g old before w number trace
    → (place : ℕ) (one : Done g) → slice_get trace place ≡ Some one
    → numbered (with_batches w number (batches_of trace)).batches (number + place) ≡ Some one.rows
each_is_held g old before w number [] does place one is = absurd cc
each_is_held {D} g old before w number (first ∷ trace) does zero one is =
    first_held w number first.rows (batches_of trace)
    (is_held g w number first.rows old first.session (taken_of w number) does.0)
    ∙ ap (λ (d : Done g). Some d.rows) (some_one first one is)
each_is_held g old before w number (first ∷ trace) does (suc place) one is =
    later_held w number place first.rows one.rows (batches_of trace)
    (each_is_held g first.session first.written (with_batch w number first.rows) (number + 1) trace does.2 place one
    is)

pub holds_its_batches : {D : Type 0} (A : Type 0) (g : Ghosts D) → LoadHoldsItsBatches A g
holds_its_batches A g w first size text old new before after result loads =
    each_is_held g old before w first loads.trace loads.does

-- ---- a load that is stopped

-- after some lines a crash leaves the batches of these lines
leaves_after : {D A : Type 0} (g : Ghosts D) (w : Warehouse) (first size : ℕ) (text : Option (List ℕ))
    (old new : Session D g) (before after : Option (List ℕ)) (result : Result A Fault)
    → (loads : Loads g w first size text old new before after result) → (lines : ℕ) → lines ≤ length loads.trace
    → Leaves (disk_of g (session_after old (take lines loads.trace))) (disk_of g new)
    (LoadMayLeave w first size text lines)
leaves_after g w first size text old new before after result loads zero within = loads.leaves
leaves_after {D} g w first size text old new before after result loads (suc place) within =
    let got = get_within loads.trace place (omega (arith, within)) in
    let last : session_after old (take (suc place) loads.trace) ≡ got.0.session =
    ap (session_after old) (take_next loads.trace place got.0 got.1)
    ∙ trace-session old (take place loads.trace) got.0 in
    let next : place + 1 ≡ suc place = omega arith in
    subst (λ n. Leaves (disk_of g (session_after old (take (suc place) loads.trace))) (disk_of g new)
    (LoadMayLeave w first size text n)) next
    (subst (λ (s : Session D g). Leaves (disk_of g s) (disk_of g new) (LoadMayLeave w first size text (place + 1)))
    (sym last) (loads.stay place got.0 got.1))

pub stopped_load : {D : Type 0} (A : Type 0) (g : Ghosts D) → RestartedShows g → CrashedLoadIsFound A g
stopped_load {D} A g shows_it w first size text old mid new before after result loads k lines within mid_is image left
    device restarted =
    let leaves =
    subst (λ (s : Session D g). Leaves (disk_of g s) (disk_of g new) (LoadMayLeave w first size text lines))
    (sym mid_is) (leaves_after g w first size text old new before after result loads lines within) in
    let shown = (leaves.moments k).each image left in
    let may = shown.2 in
    let v = with_batches w first may.some in
    let one = shows_it (g.state (device_of mid)).size image device shown.0 restarted shown.1 in record {
      batches = may.some;
      next = may.next;
      left = may.left;
      cut = may.cut;
      no_fewer = may.no_fewer;
      represents = all_weaker (λ (c : Content). c ≡ shown.0) (MayRepresent (facts_in v) None) (disk g device)
          (λ word c is. (v, inl refl, subst (λ (x : Content). Represents x v) (sym is) may.represents)) one;
    }

-- ---- a whole text

-- each batch is admissible after those before it
abbrev AreAdmitted : DimRows → List (List LineOrder) → List (List LineOrder) → Type 0
AreAdmitted dimensions batches [] = Unit {0}
AreAdmitted dimensions batches (rows ∷ others) = (moded_refusal dimensions batches (length batches + 1) rows ≡ None)
    × AreAdmitted dimensions (batches ++ rows ∷ []) others

get_middle : (batches : List (List LineOrder)) (rows : List LineOrder) (others : List (List LineOrder))
    → slice_get (batches ++ rows ∷ others) (length batches) ≡ Some rows
get_middle [] rows others = refl
get_middle (batch ∷ batches) rows others = get_middle batches rows others

-- batches in order are admitted
are_admitted : (dimensions : DimRows) (batches others : List (List LineOrder))
    → AreInOrder dimensions (batches ++ others) → AreFit (modes_in (all_rows (batches ++ others)))
    → AreAdmitted dimensions batches others
are_admitted dimensions batches [] order fit = tt
are_admitted dimensions batches (rows ∷ others) order fit =
    let next = (order (length batches) rows (get_middle batches rows others)).admissible in
    let front : take (length batches) (batches ++ rows ∷ others) ≡ batches =
    take-append_seam batches (rows ∷ others) in (
      moded_of dimensions batches rows others (length batches + 1) fit
          (subst (λ (bs : List (List LineOrder)). refusal dimensions bs (length bs + 1) rows ≡ None) front next),
      are_admitted dimensions (batches ++ rows ∷ []) others
          (subst (AreInOrder dimensions) (sym (append_assoc batches (rows ∷ []) others)) order)
          (subst (λ (bs : List (List LineOrder)). AreFit (modes_in (all_rows bs)))
          (sym (append_assoc batches (rows ∷ []) others)) fit),
    )

-- lists that have the same at each place
same_list : {A : Type 0} (xs ys : List A) → length xs ≡ length ys
    → ((place : ℕ) (y : A) → slice_get ys place ≡ Some y → slice_get xs place ≡ Some y) → xs ≡ ys
same_list [] [] many same = refl
same_list [] (y ∷ ys) many same = absurd (omega (arith, many))
same_list (x ∷ xs) [] many same = absurd (omega (arith, many))
same_list (x ∷ xs) (y ∷ ys) many same =
    let first = same 0 y refl in
    let head : x ≡ y = cc in
    let tail : xs ≡ ys = same_list xs ys (omega (arith, many)) (λ place. same (suc place)) in
    λ i. head i ∷ tail i

-- the dimension rows stay
pub same_rows : (w : Warehouse) (number : ℕ) (batches : List (List LineOrder))
    → (with_batches w number batches).rows ≡ w.rows
same_rows w number [] = refl
same_rows w number (rows ∷ batches) =
    same_rows (with_batch w number rows) (number + 1) batches
    ∙ ⊎_elim (λ lt. ap (λ (v : Warehouse). v.rows) (with-added w number rows lt))
    (λ le. ap (λ (v : Warehouse). v.rows) (with-skipped w number rows le)) (cases_lt (length w.batches) number)

-- and are what an evaluation cuts
facts_cut : (dimensions : DimRows) (batches : List (List LineOrder)) (number : ℕ) (parts : List (List (List ℕ)))
    (done : List (List LineOrder)) (next : ℕ)
    → AreCut number parts done next [] → AreAdmitted dimensions batches done
    → facts_after dimensions batches number parts ≡ Ok (all_rows (batches ++ done))
facts_cut dimensions batches number parts [] next cut admitted =
    ap (facts_after dimensions batches number) (sym cut.1) ∙ ap (λ l. Ok (all_rows l)) (sym (append-nil batches))
facts_cut dimensions batches number [] (rows ∷ done) next cut admitted = absurd cut
facts_cut dimensions batches number (lines ∷ parts) (rows ∷ done) next cut admitted =
    ap (λ read. and_then read
    (λ found. unless (moded_refusal dimensions batches (length batches + 1) found)
    (facts_after dimensions (batches ++ found ∷ []) (number_after (length found) number) parts))) cut.0
    ∙ ap (λ cause. unless cause
    (facts_after dimensions (batches ++ rows ∷ []) (number_after (length rows) number) parts)) admitted.0
    ∙ facts_cut dimensions (batches ++ rows ∷ []) (number_after (length rows) number) parts done next cut.1 admitted.1
    ∙ ap (λ l. Ok (all_rows l)) (append_assoc batches (rows ∷ []) done)

-- the one of some rows
done_at : {D : Type 0} {g : Ghosts D} (trace : List (Done g)) (place : ℕ) (rows : List LineOrder)
    → slice_get (batches_of trace) place ≡ Some rows
    → (one : Done g) × (slice_get trace place ≡ Some one) × (one.rows ≡ rows)
done_at [] place rows is = absurd cc
done_at (one ∷ trace) zero rows is = let same : one.rows ≡ rows = cc in (one, refl, same)
done_at (one ∷ trace) (suc place) rows is = done_at trace place rows is

pub is_evaluated : {D : Type 0} (A : Type 0) (g : Ghosts D) → LoadedIsEvaluated A g
is_evaluated {D} A g w text old new before after query value loads no_more k =
    let done = batches_of loads.trace in
    let count : length done ≡ length loads.trace = trace-count loads.trace in
    let v = with_batches w 1 done in
    let parts = parts_of most_batch_rows (lines_of text) in
    let at : IsAt g new v = subst (λ (s : Session D g). IsAt g s v) (sym loads.ends.same) loads.at in
    let within : length w.batches + 1 - 1 ≡ length w.batches = omega arith in
    let all : v.batches ≡ w.batches ++ drop (length w.batches) done = adds_the_others w 1 done (omega arith)
    ∙ ap (λ n. w.batches ++ drop n done) within in
    let many : length v.batches ≡ length done =
    omega (
      arith,
      ap length all,
      length-append w.batches (drop (length w.batches) done),
      length-drop (length w.batches) done,
      count,
      no_more,
    ) in
    let same : v.batches ≡ done =
    same_list v.batches done many (λ place rows is.
    let one = done_at loads.trace place rows is in
    let number : 1 + place ≡ suc place = omega arith in
    ap (numbered v.batches) (sym number)
    ∙ holds_its_batches A g w 1 most_batch_rows (Some text) old new before after (Ok value) loads place one.0 one.1
    ∙ ap Some one.2) in
    let rows : v.rows ≡ w.rows = same_rows w 1 done in
    let order : AreInOrder w.rows done =
    subst (λ (bs : List (List LineOrder)). AreInOrder w.rows bs) same
    (subst (λ (r : DimRows). AreInOrder r v.batches) rows (at.represents k).batches) in
    let cut : AreCut 1 parts done loads.next [] =
    subst (λ l. AreCut 1 parts done loads.next l) loads.ends.none loads.cut in
    let whole : take (length done) done ≡ done = take_all (length done) done (omega arith) in (
      v,
      at,
      λ may_move.
          let fit : AreFit (modes_in (all_rows done)) =
          subst (λ (bs : List (List LineOrder)). AreFit (modes_in (all_rows bs))) same
          (fit_in v.layout v.batches may_move (at.represents k).modes) in
          let facts : facts_of w.rows text ≡ Ok (all_rows done) =
          facts_cut w.rows [] 1 parts done loads.next cut (are_admitted w.rows [] done order fit) in
          ap (λ found. and_then found (λ r. Ok (answer query w.rows r))) facts
          ∙ ap (λ l. Ok (answer query w.rows (all_rows l))) (sym whole)
          ∙ ap (λ l. Ok (answer query w.rows (all_rows (take (length l) l)))) (sym same)
          ∙ ap (λ r. Ok (answer query r (all_rows (take (length v.batches) v.batches)))) (sym rows),
    )
