-- The cells of a run, merged in piece by piece.
use Rattle.std.proofs.Common.{◌≡◌, ◌∙◌, ◌⊎◌, inl, inr, sym, ap, subst, arith, ℕ, ◌<◌, List, [], ◌++◌, length}
use Rattle.std.proofs.Common.{length-append, get_or, append_assoc, append-nil, All, Option, Some, None, Result, Ok, Err}
use Rattle.std.specs.Prelude.{IfSome}
use Rattle.std.specs.Result.{IsErrAnd, MatchResult}
use Rattle.std.specs.declared.alloc.Global.{Global}
use Rattle.std.specs.declared.vec.Vec.{Vec}
use Rattle.std.proofs.Math.ListN.{get_or-append}
use Rattle.cube_model.specs.declared.fault.Fault.{Fault}
use Rattle.cube_model.specs.declared.fault.Fault.TheVariants.{BadLayout, Memory}
use Rattle.cube_model.specs.declared.measure.Agg.{Agg}
use Rattle.wire.specs.declared.source.Source.{Ghosts}
use Rattle.wire.specs.Runs.{HasRead, IsRefused, Stays}
use Rattle.wire.proofs.CallerLemmas.{HasRead-then, IsRefused-later}
use Rattle.wire.proofs.Stopped.{Ran}
use Rattle.lattice.specs.declared.view.View.{View}
use Rattle.cuboid_cells.specs.declared.cell.Cell.{Cell}
use Rattle.cuboid_cells.specs.Cells.{IsCellOf, key_as_number}
use Rattle.cuboid_cells.specs.Pieces.{AreLeft, PassesOver, ReadsOn, RunPlace}
use Rattle.cuboid_cells.proofs.Continuing.{cells_left, none_left}
use Rattle.cuboid_upkeep.specs.CellNumbers.{AreUnwanted, AskedOfCells, IsUnwanted}
use Rattle.cube_query.specs.CellRuns.{AreWantedMerged, LeavesOut, ReadsWanted}
use Rattle.cube_query.specs.CellSlots.{AreMergedIn, HaveNoRepresentative}
use Rattle.cube_query.specs.CellTallies.{GroupsHaveRoomFor}
use Rattle.group_tallies.specs.Slots.{slot_of}
use Rattle.group_tallies.specs.declared.tally.Tally.{Tally}
use Rattle.cube_query.proofs.CellParts.{none_among, part_more, rooms_part}
use Rattle.cube_query.proofs.Wanted.{leaves_append, leaves_first, rooms_wanted}

-- of the cells that were left some are read or passed over, and those that are wanted among them are merged into
-- columns
pub record AreMergedTo (asked : AskedOfCells) (aggs : List Agg) (entries : List (ℕ × ℕ)) (text : Option (List ℕ))
    (cells : List Cell) (run : RunPlace) (first now : List (Vec Tally Global)) : Type 0 where
  pub part : List Cell
  pub rest : List Cell
  pub parts : cells ≡ part ++ rest
  pub left : AreLeft text run rest
  pub wanted : List Cell
  pub out : LeavesOut asked part wanted
  pub merged : AreMergedIn asked aggs entries wanted first now

module _ (asked : AskedOfCells) (aggs : List Agg) (text own : Option (List ℕ)) (same : own ≡ text)
    (old new : List (ℕ × ℕ)) (run next : RunPlace) (piece : List Cell)
    (step : (left : List Cell) → AreLeft own run left → ReadsWanted asked own left next piece) (cells : List Cell)
    (first now : List (Vec Tally Global)) (are : AreMergedTo asked aggs old text cells run first now) where
  further : ReadsWanted asked own are.rest next piece
  further = step are.rest (subst (λ (t : Option (List ℕ)). AreLeft t run are.rest) (sym same) are.left)

  -- what was done with it
  parts_now : cells ≡ ((are.part ++ further.passed) ++ piece) ++ further.rest
  parts_now =
      are.parts ∙ ap (λ (rest : List Cell). are.part ++ rest) further.parts
      ∙ sym (append_assoc are.part (further.passed ++ piece) further.rest)
      ∙ ap (λ (front : List Cell). front ++ further.rest) (sym (append_assoc are.part further.passed piece))

  out_now : LeavesOut asked ((are.part ++ further.passed) ++ piece) (are.wanted ++ piece)
  out_now =
      subst (λ (front : List Cell). LeavesOut asked front (are.wanted ++ piece))
      (sym (append_assoc are.part further.passed piece))
      (leaves_append asked are.part (further.passed ++ piece) are.wanted piece are.out
      (leaves_first asked further.passed piece further.unwanted))

  -- one piece more
  pub run_more : ((number slot : ℕ) → slot_of old number ≡ Some slot → slot_of new number ≡ Some slot)
      → (later : List (Vec Tally Global)) → AreMergedIn asked aggs new piece now later
      → AreMergedTo asked aggs new text cells next first later
  run_more keep later merged = record {
    part = (are.part ++ further.passed) ++ piece;
    rest = further.rest;
    parts = parts_now;
    left = subst (λ (t : Option (List ℕ)). AreLeft t next further.rest) same further.now;
    wanted = are.wanted ++ piece;
    out = out_now;
    merged = part_more asked aggs old new keep are.wanted piece first now later are.merged merged;
  }

  -- a piece was refused
  pub run_refused : HaveNoRepresentative asked piece ⊎ (GroupsHaveRoomFor new aggs piece now → ⊥)
      → HaveNoRepresentative asked cells
      ⊎ (GroupsHaveRoomFor new aggs cells first → ⊥)
  run_refused (inl none) = inl (none_among asked (are.part ++ further.passed) piece further.rest cells parts_now none)
  run_refused (inr full) =
      inr (λ room. full (rooms_part asked aggs old new are.wanted piece [] (are.wanted ++ piece)
      (sym (append-nil (are.wanted ++ piece))) first now are.merged
      (rooms_wanted asked ((are.part ++ further.passed) ++ piece) further.rest cells (are.wanted ++ piece) parts_now
      out_now aggs new first room)))

-- all of them
pub run_done : (asked : AskedOfCells) (aggs : List Agg) (entries : List (ℕ × ℕ)) (text : Option (List ℕ))
    (cells : List Cell) (run : RunPlace) (first now : List (Vec Tally Global)) → run.done ≡ run.head.count
    → AreMergedTo asked aggs entries text cells run first now → AreWantedMerged asked aggs entries cells first now
run_done asked aggs entries text cells run first now all are =
    let whole : cells ≡ are.part = are.parts
    ∙ ap (λ (rest : List Cell). are.part ++ rest) (none_left text run are.rest are.left all)
    ∙ append-nil are.part in
    record {
      wanted = are.wanted;
      out =
          subst (λ (own : List Cell). LeavesOut asked own are.wanted) (sym whole) are.out;
      merged = are.merged;
    }

-- ---- the next cells that are wanted
-- the cells that a number is passed over by are unwanted
pub passed_unwanted : (asked : AskedOfCells) (text : Option (List ℕ)) (run : RunPlace) (left passed rest : List Cell)
    (to : Option ℕ) → asked.view ≡ run.head.view → AreUnwanted asked run.least to → AreLeft text run left
    → left ≡ passed ++ rest
    → All (λ cell. IfSome to (λ end. key_as_number cell.key < end)) passed → All (IsUnwanted asked) passed
passed_unwanted asked text run left passed rest to view none at parts below = λ k d within.
    let there : k < length left = omega (arith, within, ap length parts, length-append passed rest) in
    let is : get_or left k d ≡ get_or passed k d = ap (λ (cells : List Cell). get_or cells k d) parts
    ∙ get_or-append passed rest d k within in
    let own = cells_left text run left at k d there in
    subst (IsUnwanted asked) is
    (none (get_or left k d) (subst (λ (v : View). IsCellOf v (get_or left k d)) (sym view) own.0) own.1 own.2
    (subst (λ (cell : Cell). IfSome to (λ end. key_as_number cell.key < end)) (sym is) (below k d within)))

pub read_none : (asked : AskedOfCells) (text : Option (List ℕ)) (run next : RunPlace) (left : List Cell)
    → asked.view ≡ run.head.view → AreUnwanted asked run.least None → AreLeft text run left → AreLeft text next []
    → ReadsWanted asked text left next []
read_none asked text run next left view none at now =
    let whole : left ≡ left ++ [] = sym (append-nil left) in
    record {
      passed = left;
      rest = [];
      parts = whole ∙ ap (λ (front : List Cell). front ++ []) whole;
      unwanted = passed_unwanted asked text run left left [] None view none at whole (λ k d within. tt);
      now = now;
    }

pub read_some : (asked : AskedOfCells) (text : Option (List ℕ)) (run mid next : RunPlace) (left cells : List Cell)
    (least : ℕ) → asked.view ≡ run.head.view → AreUnwanted asked run.least (Some least) → AreLeft text run left
    → (over : PassesOver text left least mid) → ReadsOn text over.rest next cells
    → ReadsWanted asked text left next cells
read_some asked text run mid next left cells least view none at over reads = record {
  passed = over.passed;
  rest = reads.rest;
  parts = over.parts ∙ ap (λ (rest : List Cell). over.passed ++ rest) reads.parts
      ∙ sym (append_assoc over.passed cells reads.rest);
  unwanted = passed_unwanted asked text run left over.passed over.rest (Some least) view none at over.parts over.below;
  now = reads.now;
}

-- ---- what a refusal leaves of the source
module _ {S : Type 0} (g : Ghosts S) (old mid new : S) (read : HasRead g old mid) where
  ran : ((a b c : S) → g.reads a b → g.reads b c → g.reads a c)
      → ((fault : Fault) (a b c : S) → g.reads a b → g.fails fault b c → g.fails fault a c)
      → (own fault : Fault) → own ≡ fault → Ran g mid new fault → Ran g old new own
  ran on later own fault is (inl own_fault) =
      inl (
        subst (λ (f : Fault). (f ≡ Memory) ⊎ (f ≡ BadLayout)) (sym is) own_fault.0,
        HasRead-then g on old mid new read own_fault.1,
      )
  ran on later own fault is (inr refused) =
      inr (subst (λ (f : Fault). IsRefused g f old new) (sym is)
      (IsRefused-later g later fault old mid new read refused))

  -- a later read
  pub ran_later : ((a b c : S) → g.reads a b → g.reads b c → g.reads a c)
      → ((fault : Fault) (a b c : S) → g.reads a b → g.fails fault b c → g.fails fault a c)
      → {T : Type 0} (result : Result T Fault) (fault : Fault) → IsErrAnd result (λ own. own ≡ fault)
      → Ran g mid new fault → MatchResult result (λ _. HasRead g old new) (Ran g old new)
  ran_later on later (Ok value) fault is stop = absurd is
  ran_later on later (Err own) fault is stop = ran on later own fault is stop

-- and what was read
pub ran_own : {S : Type 0} (g : Ghosts S) (old new : S) → HasRead g old new
    → {T : Type 0} (result : Result T Fault) (fault : Fault) → IsErrAnd result (λ own. own ≡ fault)
    → (fault ≡ Memory) ⊎ (fault ≡ BadLayout) → MatchResult result (λ _. HasRead g old new) (Ran g old new)
ran_own g old new read (Ok value) fault is own_fault = absurd is
ran_own g old new read (Err own) fault is own_fault =
    inl (subst (λ (f : Fault). (f ≡ Memory) ⊎ (f ≡ BadLayout)) (sym is) own_fault, read)

pub ran_stays : {S : Type 0} (g : Ghosts S) (old new : S) (fault : Fault) → Ran g old new fault → Stays g old new
ran_stays g old new fault (inl own) = own.1.stays
ran_stays g old new fault (inr refused) = refused.stays

pub read_stays : {S : Type 0} (g : Ghosts S) (old new : S) {T : Type 0} (result : Result T Fault)
    → MatchResult result (λ _. HasRead g old new) (Ran g old new) → Stays g old new
read_stays g old new (Ok value) run = run.stays
read_stays g old new (Err fault) run = ran_stays g old new fault run
