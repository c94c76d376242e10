use Rattle.std.proofs.Common.{◌≡◌, ℕ, ◌+◌, ◌<◌, ◌≤◌, ◌↔◌, ◌⊎◌, List, length, get_or, sym, subst, arith}
use Rattle.std.proofs.lemmas.List.{get_or_read}
use Rattle.std.specs.List.Sorted.{IsNonDecreasingBy}
use Rattle.extents.specs.declared.extent.Extent.{Extent}
use Rattle.extents.specs.Extents.{Holds, SomeHolds, IsInRange}
use Rattle.extents.specs.Join.{IsJoin, joined_runs}
use Rattle.extents.specs.Runs.{FreeSectors, IsFree}
use Rattle.extents.proofs.FreeLemmas.{rise_ends, IsJoin-touching, sectors-touching, IsJoin-alone, sectors-alone}
use Rattle.extents.proofs.free.Free.join_before.Goals as goal

-- the runs end one after another
pub ended-place-requires : goal.ended-place-requires
ended-place-requires c =
    subst (IsNonDecreasingBy (λ (run : Extent). run.first + run.len)) (sym c.deref.ensures.value)
    (λ i j d le lt. rise_ends 2 (c.self.inside.count + 1) c.self.inside.runs.items i j d c.self.invariant le lt)

pub overflow_add-result : goal.overflow_add-result
overflow_add-result c =
    let within = c.requires.in_range.ends in
    let small = c.requires.small in
    omega (arith, c.end.ensures, c.from.ensures, c.if-end-from.true)

-- a run ends where the extent begins
pub returns-then-end-from-clause-join : goal.returns-then-end-from-clause-join
returns-then-end-from-clause-join c =
    let runs = c.self.inside.runs.items in
    let extent = c.args.extent in
    let place = c.ended-place.result in
    let in_range = subst (λ (free : FreeSectors). IsInRange free.count extent) (sym c.self.view_is)
    c.requires.in_range in
    let in_use = subst (λ (free : FreeSectors). (s : ℕ) → Holds extent s → ¬ IsFree free s) (sym c.self.view_is)
    c.requires.in_use in
    let lt : place < length runs = omega (arith, c.self.inside.runs.ok.0, c.if-place-len.true, c.len.ensures) in
    let touch : c.index.result.now.first + c.index.result.now.len ≡ extent.first =
    omega (arith, c.end.ensures, c.from.ensures, c.if-end-from.true) in
    subst (λ (free : FreeSectors). IsJoin 0 free
    (record {
      joined = record { first = c.index.result.now.first; len = c.index.result.now.len + extent.len };
      place = place;
      after = place + 1;
    })) c.self.view_is
    (IsJoin-touching c.self.inside.count runs c.self.invariant extent in_range in_use place c.index.result.now lt
    c.index.ensures touch)

pub returns-then-end-from-clause-sectors : goal.returns-then-end-from-clause-sectors
returns-then-end-from-clause-sectors c =
    let runs = c.self.inside.runs.items in
    let extent = c.args.extent in
    let place = c.ended-place.result in
    let in_range = subst (λ (free : FreeSectors). IsInRange free.count extent) (sym c.self.view_is)
    c.requires.in_range in
    let in_use = subst (λ (free : FreeSectors). (s : ℕ) → Holds extent s → ¬ IsFree free s) (sym c.self.view_is)
    c.requires.in_use in
    let lt : place < length runs = omega (arith, c.self.inside.runs.ok.0, c.if-place-len.true, c.len.ensures) in
    let touch : c.index.result.now.first + c.index.result.now.len ≡ extent.first =
    omega (arith, c.end.ensures, c.from.ensures, c.if-end-from.true) in
    subst (λ (free : FreeSectors). (s : ℕ)
    → SomeHolds
    (joined_runs free.runs
    (record {
      joined = record { first = c.index.result.now.first; len = c.index.result.now.len + extent.len };
      place = place;
      after = place + 1;
    })) s ↔ (IsFree free s ⊎ Holds extent s)) c.self.view_is
    (sectors-touching c.self.inside.count runs c.self.invariant extent in_range in_use place c.index.result.now lt
    c.index.ensures touch)

-- no run does
pub returns-else-end-from-clause-join : goal.returns-else-end-from-clause-join
returns-else-end-from-clause-join c =
    let runs = c.self.inside.runs.items in
    let extent = c.args.extent in
    let place = c.ended-place.result in
    let in_range = subst (λ (free : FreeSectors). IsInRange free.count extent) (sym c.self.view_is)
    c.requires.in_range in
    let in_use = subst (λ (free : FreeSectors). (s : ℕ) → Holds extent s → ¬ IsFree free s) (sym c.self.view_is)
    c.requires.in_use in
    let within : place ≤ length runs =
    subst (λ xs. place ≤ length xs) c.deref.ensures.value c.ended-place.ensures.within in
    let before =
    subst (λ (xs : List Extent). (k : ℕ) (d : Extent) → k < place
    → (get_or xs k d).first + (get_or xs k d).len < extent.first) c.deref.ensures.value
    c.ended-place.ensures.before in
    let after =
    subst (λ (xs : List Extent). (k : ℕ) (d : Extent) → place ≤ k → k < length xs
    → extent.first ≤ (get_or xs k d).first + (get_or xs k d).len) c.deref.ensures.value
    c.ended-place.ensures.after in
    let ends : (d : Extent) → place < length runs
    → extent.first < (get_or runs place d).first + (get_or runs place d).len =
    λ d lt.
    let at : c.index.result.now ≡ get_or runs place d =
    get_or_read runs place c.index.result.now lt c.index.ensures d in
    let end = after place d (omega arith) lt in
    subst (λ (x : Extent). extent.first ≤ x.first + x.len → extent.first < x.first + x.len) at
    (λ le. omega (arith, c.end.ensures, c.from.ensures, c.if-end-from.false)) end
    in
    subst (λ (free : FreeSectors). IsJoin 0 free (record { joined = extent; place = place; after = place }))
    c.self.view_is
    (IsJoin-alone c.self.inside.count runs c.self.invariant extent in_range in_use place within before ends)

pub returns-else-end-from-clause-sectors : goal.returns-else-end-from-clause-sectors
returns-else-end-from-clause-sectors c =
    let runs = c.self.inside.runs.items in
    let extent = c.args.extent in
    let place = c.ended-place.result in
    let in_range = subst (λ (free : FreeSectors). IsInRange free.count extent) (sym c.self.view_is)
    c.requires.in_range in
    let in_use = subst (λ (free : FreeSectors). (s : ℕ) → Holds extent s → ¬ IsFree free s) (sym c.self.view_is)
    c.requires.in_use in
    let within : place ≤ length runs =
    subst (λ xs. place ≤ length xs) c.deref.ensures.value c.ended-place.ensures.within in
    let before =
    subst (λ (xs : List Extent). (k : ℕ) (d : Extent) → k < place
    → (get_or xs k d).first + (get_or xs k d).len < extent.first) c.deref.ensures.value
    c.ended-place.ensures.before in
    let after =
    subst (λ (xs : List Extent). (k : ℕ) (d : Extent) → place ≤ k → k < length xs
    → extent.first ≤ (get_or xs k d).first + (get_or xs k d).len) c.deref.ensures.value
    c.ended-place.ensures.after in
    let ends : (d : Extent) → place < length runs
    → extent.first < (get_or runs place d).first + (get_or runs place d).len =
    λ d lt.
    let at : c.index.result.now ≡ get_or runs place d =
    get_or_read runs place c.index.result.now lt c.index.ensures d in
    let end = after place d (omega arith) lt in
    subst (λ (x : Extent). extent.first ≤ x.first + x.len → extent.first < x.first + x.len) at
    (λ le. omega (arith, c.end.ensures, c.from.ensures, c.if-end-from.false)) end
    in
    subst (λ (free : FreeSectors). (s : ℕ)
    → SomeHolds (joined_runs free.runs (record { joined = extent; place = place; after = place })) s
    ↔ (IsFree free s ⊎ Holds extent s)) c.self.view_is
    (sectors-alone c.self.inside.count runs c.self.invariant extent in_range in_use place within before ends)

pub returns-else-place-len-clause-join : goal.returns-else-place-len-clause-join
returns-else-place-len-clause-join c =
    let runs = c.self.inside.runs.items in
    let extent = c.args.extent in
    let place = c.ended-place.result in
    let in_range = subst (λ (free : FreeSectors). IsInRange free.count extent) (sym c.self.view_is)
    c.requires.in_range in
    let in_use = subst (λ (free : FreeSectors). (s : ℕ) → Holds extent s → ¬ IsFree free s) (sym c.self.view_is)
    c.requires.in_use in
    let within : place ≤ length runs =
    subst (λ xs. place ≤ length xs) c.deref.ensures.value c.ended-place.ensures.within in
    let before =
    subst (λ (xs : List Extent). (k : ℕ) (d : Extent) → k < place
    → (get_or xs k d).first + (get_or xs k d).len < extent.first) c.deref.ensures.value
    c.ended-place.ensures.before in
    let ends : (d : Extent) → place < length runs
    → extent.first < (get_or runs place d).first + (get_or runs place d).len =
    λ d lt. absurd (omega (arith, c.self.inside.runs.ok.0, c.if-place-len.false, c.len.ensures))
    in
    subst (λ (free : FreeSectors). IsJoin 0 free (record { joined = extent; place = place; after = place }))
    c.self.view_is
    (IsJoin-alone c.self.inside.count runs c.self.invariant extent in_range in_use place within before ends)

pub returns-else-place-len-clause-sectors : goal.returns-else-place-len-clause-sectors
returns-else-place-len-clause-sectors c =
    let runs = c.self.inside.runs.items in
    let extent = c.args.extent in
    let place = c.ended-place.result in
    let in_range = subst (λ (free : FreeSectors). IsInRange free.count extent) (sym c.self.view_is)
    c.requires.in_range in
    let in_use = subst (λ (free : FreeSectors). (s : ℕ) → Holds extent s → ¬ IsFree free s) (sym c.self.view_is)
    c.requires.in_use in
    let within : place ≤ length runs =
    subst (λ xs. place ≤ length xs) c.deref.ensures.value c.ended-place.ensures.within in
    let before =
    subst (λ (xs : List Extent). (k : ℕ) (d : Extent) → k < place
    → (get_or xs k d).first + (get_or xs k d).len < extent.first) c.deref.ensures.value
    c.ended-place.ensures.before in
    let ends : (d : Extent) → place < length runs
    → extent.first < (get_or runs place d).first + (get_or runs place d).len =
    λ d lt. absurd (omega (arith, c.self.inside.runs.ok.0, c.if-place-len.false, c.len.ensures))
    in
    subst (λ (free : FreeSectors). (s : ℕ)
    → SomeHolds (joined_runs free.runs (record { joined = extent; place = place; after = place })) s
    ↔ (IsFree free s ⊎ Holds extent s)) c.self.view_is
    (sectors-alone c.self.inside.count runs c.self.invariant extent in_range in_use place within before ends)
