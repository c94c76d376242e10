-- Sectors of lists of extents.
use Rattle.std.proofs.Common.{◌⊎◌, inl, inr, ⊎_elim, ℕ, zero, suc, ◌<◌, ◌≤◌, cond, ltb, eqb, List, [], ◌∷◌, ◌++◌}
use Rattle.std.proofs.Common.{length, take, get_or, arith}
use Rattle.std.specs.List.{All, AllPairs}
use Rattle.std.proofs.lemmas.Bool.{cond_both}
use Rattle.std.proofs.lemmas.List.Elements.{All-nil, All-cons, All-head, All-tail}
use Rattle.extents.specs.declared.extent.Extent.{Extent}
use Rattle.extents.specs.Extents.{Holds, SomeHolds, AreApart, IsInRange, AreLaidOut}
use Rattle.object_store.specs.declared.catalogue.entry.Entry.{Entry}
use Rattle.object_store.specs.Commit.{put_by, drop_by, put_each, drop_each}
use Rattle.object_store.specs.Places.{extent_of, extents_of}
use Rattle.object_store.proofs.Lists.{All-put_each, All-drop_each, AllPairs-head, AllPairs-tail, AllPairs-drop_each}
use Rattle.object_store.proofs.Lists.{AllPairs-put_each, All-unmap, All-mapped, AllPairs-unmap, AllPairs-mapped}

-- a sector of extents in range lies in range
pub held_in_range : (size : ℕ) (l : List Extent) → All (IsInRange size) l → (i : ℕ) → SomeHolds l i
    → (2 ≤ i) × (i < size)
held_in_range size [] all i held = absurd held
held_in_range size (e ∷ l) all i (inl here) =
    let r : IsInRange size e = All-head (IsInRange size) e l all in
    (omega (arith, r.begins, here.0), omega (arith, r.ends, here.1))
held_in_range size (e ∷ l) all i (inr held) = held_in_range size l (All-tail (IsInRange size) e l all) i held

-- an extent that shares no sector with any of these lies apart from each
pub apart_each : (e : Extent) (l : List Extent) → ((i : ℕ) → Holds e i → SomeHolds l i → ⊥) → All (AreApart e) l
apart_each e [] none = All-nil (AreApart e)
apart_each e (x ∷ l) none =
    All-cons (AreApart e) x l (λ i here there. none i here (inl there))
    (apart_each e l (λ i here there. none i here (inr there)))

-- and the other way round
pub apart_from : (e : Extent) (l : List Extent) → All (AreApart e) l → (i : ℕ) → Holds e i → SomeHolds l i → ⊥
apart_from e [] all i here held = held
apart_from e (x ∷ l) all i here (inl there) = All-head (AreApart e) x l all i here there
apart_from e (x ∷ l) all i here (inr held) = apart_from e l (All-tail (AreApart e) x l all) i here held

pub apart_turned : (a b : Extent) → AreApart a b → AreApart b a
apart_turned a b apart i in_b in_a = apart i in_a in_b

-- of extents that lie apart, one shares no sector with those before it
pub before_apart : (l : List Extent) (k : ℕ) (d : Extent) → AllPairs AreApart l → k < length l → (i : ℕ)
    → SomeHolds (take k l) i → Holds (get_or l k d) i → ⊥
before_apart [] k d pairs lt i held here = absurd (omega arith)
before_apart (e ∷ l) zero d pairs lt i held here = held
before_apart (e ∷ l) (suc k) d pairs lt i (inl there) here =
    AllPairs-head AreApart e l pairs k d (omega arith) i there here
before_apart (e ∷ l) (suc k) d pairs lt i (inr held) here =
    before_apart l k d (AllPairs-tail AreApart e l pairs) (omega arith) i held here

-- a sector of one of them is one of theirs
pub one_holds : (l : List Extent) (k : ℕ) (d : Extent) → k < length l → (i : ℕ) → Holds (get_or l k d) i → SomeHolds l i
one_holds [] k d lt i here = absurd (omega arith)
one_holds (e ∷ l) zero d lt i here = inl here
one_holds (e ∷ l) (suc k) d lt i here = inr (one_holds l k d (omega arith) i here)

-- and of two lists
pub in_either : (xs ys : List Extent) (i : ℕ) → SomeHolds (xs ++ ys) i → SomeHolds xs i ⊎ SomeHolds ys i
in_either [] ys i held = inr held
in_either (x ∷ xs) ys i (inl here) = inl (inl here)
in_either (x ∷ xs) ys i (inr held) = ⊎_elim (λ front. inl (inr front)) (λ back. inr back) (in_either xs ys i held)

pub in_front : (xs ys : List Extent) (i : ℕ) → SomeHolds xs i → SomeHolds (xs ++ ys) i
in_front [] ys i held = absurd held
in_front (x ∷ xs) ys i (inl here) = inl here
in_front (x ∷ xs) ys i (inr held) = inr (in_front xs ys i held)

pub in_back : (xs ys : List Extent) (i : ℕ) → SomeHolds ys i → SomeHolds (xs ++ ys) i
in_back [] ys i held = held
in_back (x ∷ xs) ys i held = inr (in_back xs ys i held)

-- what is left after a drop lay there before
pub held_drop_by : (key : Entry → ℕ) (id : ℕ) (l : List Entry) (i : ℕ) → SomeHolds (extents_of (drop_by key id l)) i
    → SomeHolds (extents_of l) i
held_drop_by key id [] i held = held
held_drop_by key id (e ∷ l) i held =
    let step : SomeHolds (extents_of (cond (eqb (key e) id) (drop_by key id l) (e ∷ drop_by key id l))) i
    → SomeHolds (extents_of (e ∷ l)) i =
    cond_both (eqb (key e) id) (drop_by key id l) (e ∷ drop_by key id l)
    (λ (left : List Entry). SomeHolds (extents_of left) i → SomeHolds (extents_of (e ∷ l)) i)
    (λ _ left. inr (held_drop_by key id l i left))
    (λ _ left. ⊎_elim (λ here. inl here) (λ later. inr (held_drop_by key id l i later)) left) in
    step held

pub held_drop_each : (key : Entry → ℕ) (ids : List ℕ) (l : List Entry) (i : ℕ)
    → SomeHolds (extents_of (drop_each key ids l)) i → SomeHolds (extents_of l) i
held_drop_each key [] l i held = held
held_drop_each key (id ∷ ids) l i held = held_drop_by key id l i (held_drop_each key ids (drop_by key id l) i held)

pub laid_out_tail : (size : ℕ) (e : Extent) (l : List Extent) → AreLaidOut size (e ∷ l) → AreLaidOut size l
laid_out_tail size e l laid =
    record { in_range = All-tail (IsInRange size) e l laid.in_range; apart = AllPairs-tail AreApart e l laid.apart }

-- extents of entries that are left after drops
pub laid_out_drop_each : (size : ℕ) (key : Entry → ℕ) (ids : List ℕ) (l : List Entry) → AreLaidOut size (extents_of l)
    → AreLaidOut size (extents_of (drop_each key ids l))
laid_out_drop_each size key ids l laid = record {
  in_range = All-mapped (IsInRange size) (λ e. extent_of e.first e.bytes) (drop_each key ids l)
      (All-drop_each (λ (e : Entry). IsInRange size (extent_of e.first e.bytes)) key ids l
      (All-unmap (IsInRange size) (λ e. extent_of e.first e.bytes) l laid.in_range));
  apart = AllPairs-mapped AreApart (λ e. extent_of e.first e.bytes) (drop_each key ids l)
      (AllPairs-drop_each (λ (a : Entry) (b : Entry). AreApart (extent_of a.first a.bytes) (extent_of b.first b.bytes))
      key ids l (AllPairs-unmap AreApart (λ e. extent_of e.first e.bytes) l laid.apart));
}

-- and with new ones that lie apart from those
pub laid_out_put_each : (size : ℕ) (key : Entry → ℕ) (xs l : List Entry) → AreLaidOut size (extents_of xs)
    → AreLaidOut size (extents_of l)
    → ((i : ℕ) → SomeHolds (extents_of xs) i → SomeHolds (extents_of l) i → ⊥)
    → AreLaidOut size (extents_of (put_each key xs l))
laid_out_put_each size key xs l new laid none = record {
  in_range = All-mapped (IsInRange size) (λ e. extent_of e.first e.bytes) (put_each key xs l)
      (All-put_each (λ (e : Entry). IsInRange size (extent_of e.first e.bytes)) key xs l
      (All-unmap (IsInRange size) (λ e. extent_of e.first e.bytes) xs new.in_range)
      (All-unmap (IsInRange size) (λ e. extent_of e.first e.bytes) l laid.in_range));
  apart = AllPairs-mapped AreApart (λ e. extent_of e.first e.bytes) (put_each key xs l)
      (AllPairs-put_each (λ (a : Entry) (b : Entry). AreApart (extent_of a.first a.bytes) (extent_of b.first b.bytes))
      (λ a b. apart_turned (extent_of a.first a.bytes) (extent_of b.first b.bytes)) key xs l
      (AllPairs-unmap AreApart (λ e. extent_of e.first e.bytes) xs new.apart)
      (AllPairs-unmap AreApart (λ e. extent_of e.first e.bytes) l laid.apart) (across xs none));
}
  where
    across : (some : List Entry) → ((i : ℕ) → SomeHolds (extents_of some) i → SomeHolds (extents_of l) i → ⊥)
        → All (λ a. All (λ b. AreApart (extent_of a.first a.bytes) (extent_of b.first b.bytes)) l) some
    across [] none' =
        All-nil (λ (a : Entry). All (λ b. AreApart (extent_of a.first a.bytes) (extent_of b.first b.bytes)) l)
    across (a ∷ some) none' =
        All-cons (λ (a : Entry). All (λ b. AreApart (extent_of a.first a.bytes) (extent_of b.first b.bytes)) l) a some
        (All-unmap (AreApart (extent_of a.first a.bytes)) (λ b. extent_of b.first b.bytes) l
        (apart_each (extent_of a.first a.bytes) (extents_of l) (λ i here there. none' i (inl here) there)))
        (across some (λ i held there. none' i (inr held) there))

-- sectors of puts and of what was kept
pub held_put_by : (key : Entry → ℕ) (x : Entry) (l : List Entry) (i : ℕ) → SomeHolds (extents_of (put_by key x l)) i
    → Holds (extent_of x.first x.bytes) i ⊎ SomeHolds (extents_of l) i
held_put_by key x [] i held = ⊎_elim (λ here. inl here) (λ none. absurd none) held
held_put_by key x (e ∷ l) i held =
    let step : SomeHolds
    (extents_of (cond (ltb (key x) (key e)) (x ∷ e ∷ l) (cond (eqb (key x) (key e)) (x ∷ l) (e ∷ put_by key x l))))
    i → Holds (extent_of x.first x.bytes) i ⊎ SomeHolds (extents_of (e ∷ l)) i =
    cond_both (ltb (key x) (key e)) (x ∷ e ∷ l) (cond (eqb (key x) (key e)) (x ∷ l) (e ∷ put_by key x l))
    (λ (left : List Entry). SomeHolds (extents_of left) i → Holds (extent_of x.first x.bytes) i
    ⊎ SomeHolds (extents_of (e ∷ l)) i)
    (λ _ there. there)
    (λ _. cond_both (eqb (key x) (key e)) (x ∷ l) (e ∷ put_by key x l)
    (λ (left : List Entry). SomeHolds (extents_of left) i → Holds (extent_of x.first x.bytes) i
    ⊎ SomeHolds (extents_of (e ∷ l)) i)
    (λ _ there. ⊎_elim (λ here. inl here) (λ later. inr (inr later)) there)
    (λ _ there. ⊎_elim (λ here. inr (inl here))
    (λ later. ⊎_elim (λ now. inl now) (λ rest. inr (inr rest)) (held_put_by key x l i later)) there)) in
    step held

-- sectors of several puts and of what was kept
pub held_put_each : (key : Entry → ℕ) (xs l : List Entry) (i : ℕ) → SomeHolds (extents_of (put_each key xs l)) i
    → SomeHolds (extents_of xs) i ⊎ SomeHolds (extents_of l) i
held_put_each key [] l i held = inr held
held_put_each key (x ∷ xs) l i held =
    ⊎_elim (λ new. inl (inr new))
    (λ left. ⊎_elim (λ here. inl (inl here)) (λ was. inr was) (held_put_by key x l i left))
    (held_put_each key xs (put_by key x l) i held)
