-- A merge under way: what was put out, and what is left on both sides. Our own.
use Rattle.std.proofs.Common.{◌≡◌, ℕ, zero, suc, ◌+◌, ◌<◌, ◌≤◌, ◌==◌, Bool, true, false, cond, Option, Some, None}
use Rattle.std.proofs.Common.{MatchOption, List, [], ◌∷◌, ◌++◌, length, All, refl, sym, ap, ◌∙◌, subst, arith, ⊎_elim}
use Rattle.std.specs.List.{Contains}
use Rattle.std.specs.Option.{option_or}
use Rattle.std.proofs.lemmas.Bool.{eqb-true}
use Rattle.std.proofs.lemmas.List.Elements.{All-append, All-cons, All-head, All-nil, All-tail}
use Rattle.std.proofs.lemmas.List.Folds.{find-append}
use Rattle.lattice.specs.declared.view.View.{View}
use Rattle.cuboid_cells.specs.declared.cell.Cell.{Cell}
use Rattle.cuboid_cells.specs.declared.merging.Step.{Step}
use Rattle.cuboid_cells.specs.Cells.{AreProperCells, CellFits, IsCellOf, cell_at, key_as_number}
use Rattle.cuboid_cells.specs.Limits.{most_cells}
use Rattle.cuboid_cells.specs.Merges.{HasTooMany, PassesType, merged, merged_if_any}
use Rattle.cuboid_cells.specs.Steps.{AreMerged, HaveBadFirsts, IsBelowFirst, IsStep, TakesBoth, TakesOne, cells_of}
use Rattle.cuboid_cells.specs.Pieces.{Climbs}
use Rattle.cuboid_cells.proofs.Climbing.{ClimbsTo, climb_more, climbs_ascend, climbs_from, lower, none_at}

-- a cell of the view that fits its fields
pub record IsGood (view : View) (cell : Cell) : Type 0 where
  pub is_cell : IsCellOf view cell
  pub fits : CellFits cell

pub record Merging (view : View) (one other out left right : List Cell) : Type 0 where
  pub by_key : (key : ℕ) → merged_if_any (cell_at key one) (cell_at key other)
      ≡ option_or (cell_at key out) (merged_if_any (cell_at key left) (cell_at key right))
  pub high : ℕ
  pub climb : ClimbsTo 0 out high
  pub left_climbs : Climbs high left
  pub right_climbs : Climbs high right
  pub out_good : All (IsGood view) out
  pub left_good : All (IsGood view) left
  pub right_good : All (IsGood view) right
  pub left_in : (cell : Cell) → Contains left cell → Contains one cell
  pub right_in : (cell : Cell) → Contains right cell → Contains other cell

-- the cell of a key, of one list or the other
or_then : (a b c : Option Cell) → option_or a (option_or b c) ≡ option_or (option_or a b) c
or_then None b c = refl
or_then (Some x) b c = refl

or_none : (a : Option Cell) → option_or a None ≡ a
or_none None = refl
or_none (Some x) = refl

some_and_none : (cell : Cell) (b : Option Cell) → b ≡ None → merged_if_any (Some cell) b ≡ Some cell
some_and_none cell b none = rw none refl

none_and_some : (cell : Cell) (a : Option Cell) → a ≡ None → merged_if_any a (Some cell) ≡ Some cell
none_and_some cell a none = rw none refl

-- what a step puts out is the merge's cell of its key, and it leaves the cells of the other keys
one_by : (cell : Cell) (a b : Option Cell) (is : Bool) → (is ≡ true → b ≡ None)
    → merged_if_any (cond is (Some cell) a) b ≡ option_or (cond is (Some cell) None) (merged_if_any a b)
one_by cell a b true none = some_and_none cell b (none refl)
one_by cell a b false none = refl

other_by : (cell : Cell) (a b : Option Cell) (is : Bool) → (is ≡ true → a ≡ None)
    → merged_if_any a (cond is (Some cell) b) ≡ option_or (cond is (Some cell) None) (merged_if_any a b)
other_by cell a b true none = none_and_some cell a (none refl)
other_by cell a b false none = refl

both_by : (one other : Cell) (a b : Option Cell) (is : Bool)
    → merged_if_any (cond is (Some one) a) (cond is (Some other) b) ≡ option_or (cond is (Some (merged one other)) None)
    (merged_if_any a b)
both_by one other a b true = refl
both_by one other a b false = refl

one_key : (cell : Cell) (left right : List Cell) → Climbs (key_as_number cell.key + 1) right → (key : ℕ)
    → merged_if_any (cell_at key (cell ∷ left)) (cell_at key right)
    ≡ option_or (cell_at key (cell ∷ [])) (merged_if_any (cell_at key left) (cell_at key right))
one_key cell left right above key =
    one_by cell (cell_at key left) (cell_at key right) (key_as_number cell.key == key)
    (λ yes. none_at (key_as_number cell.key + 1) key right above
    (omega (arith, eqb-true (key_as_number cell.key) key yes)))

other_key : (cell : Cell) (left right : List Cell) → Climbs (key_as_number cell.key + 1) left → (key : ℕ)
    → merged_if_any (cell_at key left) (cell_at key (cell ∷ right))
    ≡ option_or (cell_at key (cell ∷ [])) (merged_if_any (cell_at key left) (cell_at key right))
other_key cell left right above key =
    other_by cell (cell_at key left) (cell_at key right) (key_as_number cell.key == key)
    (λ yes. none_at (key_as_number cell.key + 1) key left above
    (omega (arith, eqb-true (key_as_number cell.key) key yes)))

both_keys : (a b : Cell) (left right : List Cell) → key_as_number a.key ≡ key_as_number b.key → (key : ℕ)
    → merged_if_any (cell_at key (a ∷ left)) (cell_at key (b ∷ right))
    ≡ option_or (cell_at key (merged a b ∷ [])) (merged_if_any (cell_at key left) (cell_at key right))
both_keys a b left right same key =
    ap (λ (n : ℕ). merged_if_any (cell_at key (a ∷ left)) (cond (n == key) (Some b) (cell_at key right))) (sym same)
    ∙ both_by a b (cell_at key left) (cell_at key right) (key_as_number a.key == key)

-- one cell more was put out
put_out : (out : List Cell) (cell : Cell) (key : ℕ) (all before after : Option Cell)
    → all ≡ option_or (cell_at key out) before
    → before ≡ option_or (cell_at key (cell ∷ [])) after → all ≡ option_or (cell_at key (out ++ cell ∷ [])) after
put_out out cell key all before after was is =
    was ∙ ap (option_or (cell_at key out)) is ∙ or_then (cell_at key out) (cell_at key (cell ∷ [])) after
    ∙ ap (λ (o : Option Cell). option_or o after)
    (sym (find-append (λ (c : Cell). key_as_number c.key == key) out (cell ∷ [])))

in_tail : (cell : Cell) (cells : List Cell) (found : Cell) → Contains cells found → Contains (cell ∷ cells) found
in_tail cell cells found is = (suc is.0, omega (arith, is.1), is.2)

in_head : (cell : Cell) (cells : List Cell) → Contains (cell ∷ cells) cell
in_head cell cells = (zero, omega arith, refl)

-- cells after a first one that is above a key are above it
after_first : (cell : Cell) (high : ℕ) (cells : List Cell) → IsBelowFirst cell cells → Climbs high cells
    → Climbs (key_as_number cell.key + 1) cells
after_first cell high [] below climbs = tt
after_first cell high (first ∷ cells) below climbs = (omega (arith, below), climbs.1)

good_more : (view : View) (out : List Cell) (cell : Cell) → All (IsGood view) out → IsGood view cell
    → All (IsGood view) (out ++ cell ∷ [])
good_more view out cell good is =
    All-append (IsGood view) out (cell ∷ []) good (All-cons (IsGood view) cell [] is (All-nil (IsGood view)))

-- the merge of two good cells that fits is good
good_merge : (view : View) (a b : Cell) → IsGood view a → CellFits (merged a b) → IsGood view (merged a b)
good_merge view a b good fits =
    record { is_cell = record { key = good.is_cell.key; count = omega (arith, good.is_cell.count) }; fits = fits }

module _ (view : View) (one other out : List Cell) where
  step_left : (left right : List Cell) (cell : Cell) → Merging view one other out (cell ∷ left) right
      → IsBelowFirst cell right
      → Merging view one other (out ++ cell ∷ []) left right
  step_left left right cell m below =
      let above = after_first cell m.high right below m.right_climbs in record {
        by_key = λ key. put_out out cell key _ _ _ (m.by_key key) (one_key cell left right above key);
        high = key_as_number cell.key + 1;
        climb = climb_more 0 m.high out cell m.climb m.left_climbs.0;
        left_climbs = m.left_climbs.1;
        right_climbs = above;
        out_good = good_more view out cell m.out_good (All-head (IsGood view) cell left m.left_good);
        left_good = All-tail (IsGood view) cell left m.left_good;
        right_good = m.right_good;
        left_in = λ c found. m.left_in c (in_tail cell left c found);
        right_in = m.right_in;
      }

  step_right : (left right : List Cell) (cell : Cell) → Merging view one other out left (cell ∷ right)
      → IsBelowFirst cell left
      → Merging view one other (out ++ cell ∷ []) left right
  step_right left right cell m below =
      let above = after_first cell m.high left below m.left_climbs in record {
        by_key = λ key. put_out out cell key _ _ _ (m.by_key key) (other_key cell left right above key);
        high = key_as_number cell.key + 1;
        climb = climb_more 0 m.high out cell m.climb m.right_climbs.0;
        left_climbs = above;
        right_climbs = m.right_climbs.1;
        out_good = good_more view out cell m.out_good (All-head (IsGood view) cell right m.right_good);
        left_good = m.left_good;
        right_good = All-tail (IsGood view) cell right m.right_good;
        left_in = m.left_in;
        right_in = λ c found. m.right_in c (in_tail cell right c found);
      }

  step_both : (left right : List Cell) (a b : Cell) → Merging view one other out (a ∷ left) (b ∷ right)
      → key_as_number a.key ≡ key_as_number b.key
      → CellFits (merged a b) → Merging view one other (out ++ merged a b ∷ []) left right
  step_both left right a b m same fits = record {
    by_key = λ key. put_out out (merged a b) key _ _ _ (m.by_key key) (both_keys a b left right same key);
    high = key_as_number a.key + 1;
    climb = climb_more 0 m.high out (merged a b) m.climb m.left_climbs.0;
    left_climbs = m.left_climbs.1;
    right_climbs = lower (key_as_number a.key + 1) (key_as_number b.key + 1) right (omega (arith, same))
        m.right_climbs.1;
    out_good = good_more view out (merged a b) m.out_good
        (good_merge view a b (All-head (IsGood view) a left m.left_good) fits);
    left_good = All-tail (IsGood view) a left m.left_good;
    right_good = All-tail (IsGood view) b right m.right_good;
    left_in = λ c found. m.left_in c (in_tail a left c found);
    right_in = λ c found. m.right_in c (in_tail b right c found);
  }

  took_one : (left right left_new right_new : List Cell) (cell : Cell) → Merging view one other out left right
      → TakesOne left right cell left_new right_new → Merging view one other (out ++ cell ∷ []) left_new right_new
  took_one left right left_new right_new cell m took =
      subst (λ (cells : List Cell). Merging view one other (out ++ cell ∷ []) left_new cells) (sym took.stay)
      (step_left left_new right cell
      (subst (λ (cells : List Cell). Merging view one other out cells right) took.taken m) took.below)

  took_other : (left right left_new right_new : List Cell) (cell : Cell) → Merging view one other out left right
      → TakesOne right left cell right_new left_new → Merging view one other (out ++ cell ∷ []) left_new right_new
  took_other left right left_new right_new cell m took =
      subst (λ (cells : List Cell). Merging view one other (out ++ cell ∷ []) cells right_new) (sym took.stay)
      (step_right left right_new cell
      (subst (λ (cells : List Cell). Merging view one other out left cells) took.taken m) took.below)

  took_both : (left right left_new right_new : List Cell) (cell : Cell) → Merging view one other out left right
      → TakesBoth left right cell left_new right_new → Merging view one other (out ++ cell ∷ []) left_new right_new
  took_both left right left_new right_new cell m took =
      subst (λ (c : Cell). Merging view one other (out ++ c ∷ []) left_new right_new) (sym took.is)
      (step_both left_new right_new took.left took.right
      (subst (λ (cells : List Cell). Merging view one other out cells (took.right ∷ right_new)) took.in_one
      (subst (λ (cells : List Cell). Merging view one other out left cells) took.in_other m))
      took.key (subst CellFits took.is took.fits))

  -- a step goes on with the merge
  pub goes_on : (left right : List Cell) (step : Step) → Merging view one other out left right → IsStep left right step
      → Merging view one other (out ++ step.cell ∷ []) step.one.now step.other.now
  goes_on left right step m is = ⊎_elim
      (took_one left right step.one.now step.other.now step.cell m)
      (⊎_elim (took_other left right step.one.now step.other.now step.cell m)
      (took_both left right step.one.now step.other.now step.cell m))
      is

  -- where a step cannot be taken
  pub cannot_go_on : (left right : List Cell) → Merging view one other out left right → HaveBadFirsts left right
      → PassesType one other
  cannot_go_on left right m bad = record {
    left = bad.left;
    right = bad.right;
    in_one = m.left_in bad.left
        (subst (λ (cells : List Cell). Contains cells bad.left) (sym bad.in_one) (in_head bad.left bad.ones));
    in_other = m.right_in bad.right
        (subst (λ (cells : List Cell). Contains cells bad.right) (sym bad.in_other) (in_head bad.right bad.others));
    key = bad.key;
    passes = bad.passes;
  }

  -- where nothing is left
  pub all_out : (left right : List Cell) → length left + length right ≤ 0 → Merging view one other out left right
      → AreMerged view one other out
  all_out [] [] none m = record {
    merge = record {
      ascending = climbs_ascend 0 m.high out m.climb;
      by_key = λ key. sym (m.by_key key ∙ or_none (cell_at key out));
    };
    each = λ k d within. (m.out_good k d within).is_cell;
    fit = λ k d within. (m.out_good k d within).fits;
  }
  all_out [] (b ∷ right) none m = absurd (omega (arith, none))
  all_out (a ∷ left) right none m = absurd (omega (arith, none))

-- each step leaves less
pub leaves_less : (left right : List Cell) (step : Step) → IsStep left right step
    → length step.one.now + length step.other.now + 1 ≤ length left + length right
leaves_less left right step is = ⊎_elim
    (λ took. omega (arith, ap length took.taken, ap length took.stay))
    (⊎_elim (λ took. omega (arith, ap length took.taken, ap length took.stay))
    (λ took. omega (arith, ap length took.in_one, ap length took.in_other)))
    is

-- what a step says where there is one, and where there is none
pub stepped : (left right : List Cell) (o : Option Step) (step : Step) → o ≡ Some step
    → MatchOption o ((left ≡ []) × (right ≡ [])) (IsStep left right) → IsStep left right step
stepped left right o step is said =
    subst (λ (p : Option Step). MatchOption p ((left ≡ []) × (right ≡ [])) (IsStep left right)) is said

pub none_left : (left right : List Cell) (o : Option Step) → o ≡ None
    → MatchOption o ((left ≡ []) × (right ≡ [])) (IsStep left right) → (left ≡ []) × (right ≡ [])
none_left left right o is said =
    subst (λ (p : Option Step). MatchOption p ((left ≡ []) × (right ≡ [])) (IsStep left right)) is said

-- before the first step
pub at_first : (view : View) (one other : List Cell) → AreProperCells (cells_of view one)
    → AreProperCells (cells_of view other)
    → Merging view one other [] one other
at_first view one other proper also = record {
  by_key = λ key. refl;
  high = 0;
  climb = omega arith;
  left_climbs = climbs_from 0 one proper.rules.ascending (λ k d within. omega arith);
  right_climbs = climbs_from 0 other also.rules.ascending (λ k d within. omega arith);
  out_good = All-nil (IsGood view);
  left_good = λ k d within. record { is_cell = proper.rules.each k d within; fits = proper.fit k d within };
  right_good = λ k d within. record { is_cell = also.rules.each k d within; fits = also.fit k d within };
  left_in = λ cell found. found;
  right_in = λ cell found. found;
}

-- the merge has too many cells
pub has_too_many : (view : View) (one other cells : List Cell) → AreMerged view one other cells
    → most_cells < length cells → HasTooMany one other
has_too_many view one other cells are many = record { cells = cells; are = are.merge; many = many }

-- or its cells are those of a cuboid
pub are_proper : (view : View) (one other cells : List Cell) → AreMerged view one other cells
    → length cells ≤ most_cells → AreProperCells (cells_of view cells)
are_proper view one other cells are few =
    record { rules = record { few = few; each = are.each; ascending = are.merge.ascending }; fit = are.fit }
