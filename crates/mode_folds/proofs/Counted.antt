-- Folds that take the rows of their parts, one after another.
use Rattle.std.proofs.Common.{◌≡◌, ◌∙◌, sym, ap, refl, subst, ℕ, zero, suc, ◌+◌, ◌<◌, ◌≤◌, List, [], ◌∷◌, length}
use Rattle.std.proofs.Common.{get_or}
use Rattle.std.proofs.Common.{arith, drop, inl, inr, slice_set, take, ◌++◌}
use Rattle.std.proofs.Math.Seq.{take-append_seam}
use Rattle.std.specs.Prelude.{Err, Result}
use Rattle.std.specs.List.{AllByRecursion}
use Rattle.std.specs.declared.alloc.Global.{Global}
use Rattle.std.specs.declared.vec.Vec.{Vec}
use Rattle.std.proofs.lemmas.Bool.{cases_order}
use Rattle.cube_model.specs.declared.fault.Fault.{Fault}
use Rattle.cube_model.specs.declared.query.Query.{Query}
use Rattle.cube_model.specs.declared.rows.DimRows.{DimRows}
use Rattle.cube_model.specs.declared.rows.LineOrder.{LineOrder}
use Rattle.cube_query.specs.Groups.{CanTake, FoldState, IsOver, Takes}
use Rattle.mode_folds.specs.Parts.{HaveQuery}

all_set : (P : FoldState → Type 0) (folds : List FoldState) (i : ℕ) (fold : FoldState) → AllByRecursion P folds
    → P fold → AllByRecursion P (slice_set folds i fold)
all_set P [] i fold all here = tt
all_set P (first ∷ folds) zero fold all here = (here, all.1)
all_set P (first ∷ folds) (suc i) fold all here = (all.0, all_set P folds i fold all.1 here)

all_at : (P : FoldState → Type 0) (folds : List FoldState) (i : ℕ) (d : FoldState) → AllByRecursion P folds
    → i < length folds → P (get_or folds i d)
all_at P [] i d all lt = absurd (omega (arith, lt))
all_at P (first ∷ folds) zero d all lt = all.0
all_at P (first ∷ folds) (suc i) d all lt = all_at P folds i d all.1 (omega (arith, lt))

pub set_length : (folds : List FoldState) (i : ℕ) (fold : FoldState) → length (slice_set folds i fold) ≡ length folds
set_length [] i fold = refl
set_length (first ∷ folds) zero fold = refl
set_length (first ∷ folds) (suc i) fold = ap suc (set_length folds i fold)

pub set_here : (folds : List FoldState) (i : ℕ) (fold d : FoldState) → i < length folds
    → get_or (slice_set folds i fold) i d ≡ fold
set_here [] i fold d lt = absurd (omega (arith, lt))
set_here (first ∷ folds) zero fold d lt = refl
set_here (first ∷ folds) (suc i) fold d lt = set_here folds i fold d (omega (arith, lt))

pub set_there : (folds : List FoldState) (i j : ℕ) (fold d : FoldState) → (i ≡ j → ⊥)
    → get_or (slice_set folds i fold) j d ≡ get_or folds j d
set_there [] i j fold d apart = refl
set_there (first ∷ folds) zero zero fold d apart = absurd (apart refl)
set_there (first ∷ folds) zero (suc j) fold d apart = refl
set_there (first ∷ folds) (suc i) zero fold d apart = refl
set_there (first ∷ folds) (suc i) (suc j) fold d apart = set_there folds i j fold d (λ e. apart (ap suc e))

-- an item that is at a place is there whatever is there past the end
pub at_any : {X : Type 0} (xs : List X) (i : ℕ) (x d : X) → i < length xs → x ≡ get_or xs i x → get_or xs i d ≡ x
at_any [] i x d lt is = absurd (omega (arith, lt))
at_any (first ∷ xs) zero x d lt is = sym is
at_any (first ∷ xs) (suc i) x d lt is = at_any xs i x d (omega (arith, lt)) is

-- the same error of another type of results
pub same_error : {X Y : Type 0} (one other : Fault) → ◌≡◌ {A = Result X Fault} (Err one) (Err other)
    → ◌≡◌ {A = Result Y Fault} (Err one) (Err other)
same_error one other is = let same : one ≡ other = cc in ap (λ fault. Err fault) same

-- what holds after so many parts
pub record IsCounted (dimensions : DimRows) (old : List FoldState) (parts : List (Vec LineOrder Global)) (i : ℕ)
    (folds : List FoldState) : Type 0 where
  pub counted : length folds ≡ length old
  pub over : AllByRecursion (IsOver dimensions) folds
  pub queries : (query : Query) → HaveQuery query old → HaveQuery query folds
  pub done : (j : ℕ) (fold : FoldState) (part : Vec LineOrder Global) → j < i
      → Takes dimensions (get_or old j fold) (get_or parts j part).items (get_or folds j fold)
  pub rest : (j : ℕ) (fold : FoldState) → i ≤ j → get_or folds j fold ≡ get_or old j fold

module _ (dimensions : DimRows) (old : List FoldState) (parts : List (Vec LineOrder Global)) (i : ℕ)
    (folds : List FoldState) (here : IsCounted dimensions old parts i folds) (lt : i < length folds) (next : FoldState)
    (own : Vec LineOrder Global)
  where
    pub same_queries : ((d : FoldState) → next.query ≡ (get_or folds i d).query) → (query : Query)
        → HaveQuery query old → HaveQuery query (slice_set folds i next)
    same_queries same query have =
        let all = here.queries query have in
        all_set (λ fold. fold.query ≡ query) folds i next all
        (same next ∙ all_at (λ fold. fold.query ≡ query) folds i next all lt)

    pub one_more : ((d : FoldState) (p : Vec LineOrder Global)
        → Takes dimensions (get_or folds i d) (get_or parts i p).items next) → IsOver dimensions next
        → IsCounted dimensions old parts (i + 1) (slice_set folds i next)
    one_more takes over = record {
      counted = set_length folds i next ∙ here.counted;
      over = all_set (IsOver dimensions) folds i next here.over over;
      queries = same_queries (λ d. (takes d own).query);
      done = λ j fold part less. elim (cases_order j i) [
        | inl same ↦
            subst (λ k. Takes dimensions (get_or old k fold) (get_or parts k part).items
            (get_or (slice_set folds i next) k fold)) (sym same)
            (subst (λ f. Takes dimensions (get_or old i fold) (get_or parts i part).items f)
            (sym (set_here folds i next fold lt))
            (subst (λ f. Takes dimensions f (get_or parts i part).items next) (here.rest i fold (omega arith))
            (takes fold part)))
        | inr (inl below) ↦
            subst (λ f. Takes dimensions (get_or old j fold) (get_or parts j part).items f)
            (sym (set_there folds i j next fold (λ e. omega (arith, e, below)))) (here.done j fold part below)
        | inr (inr above) ↦ absurd (omega (arith, above, less))
      ];
      rest = λ j fold le. set_there folds i j next fold (λ e. omega (arith, e, le))
          ∙ here.rest j fold (omega (arith, le));
    }

    -- the fold of the next part cannot take it where each fold can take its part
    pub can_next : ((j : ℕ) (fold : FoldState) (part : Vec LineOrder Global) → j < length parts
        → CanTake dimensions (get_or old j fold) (get_or parts j part).items) → i < length parts
        → (fold : FoldState) (part : Vec LineOrder Global)
        → CanTake dimensions (get_or folds i fold) (get_or parts i part).items
    can_next can within fold part =
        subst (λ f. CanTake dimensions f (get_or parts i part).items) (sym (here.rest i fold (omega arith)))
        (can i fold part within)

-- what was written over all of a vector's items
pub written : {X : Type 0} (old new : List X) (len : ℕ) → len ≡ length old → length new ≡ length old
    → take len (new ++ drop (length new) old) ≡ new
written old new len is same =
    ap (λ n. take n (new ++ drop (length new) old)) (is ∙ sym same) ∙ take-append_seam new (drop (length new) old)
