use Rattle.std.proofs.Common.{◌≡◌, ℕ, ◌+◌, Some, None, leb, position, refl, sym, subst, arith}
use Rattle.extents.specs.Extents.{IsInRange}
use Rattle.extents.specs.Runs.{FreeSectors, AreFreeFrom, IsFirstFit, TakesAway}
use Rattle.extents.proofs.FreeLemmas.{no_room, fits, taken_in_range, taken_first_fit, taken_runs, taken_away}
use Rattle.extents.proofs.free.Free.take.Goals as goal

-- no run is long enough
pub returns-in_default-clause-full : goal.returns-in_default-clause-full
returns-in_default-clause-full c =
    let none = subst (λ xs. position (λ run. leb c.args.len run.len) xs ≡ None) c.deref.ensures.value
    (sym c.in_default.ensures) in
    let nowhere = no_room 2 (c.self.inside.count + 1) c.args.len c.self.inside.runs.items c.self.invariant c.requires
    none in (
      λ same. subst (λ (free : FreeSectors). (first : ℕ) → ¬ AreFreeFrom free c.args.len first) c.self.view_is nowhere,
      λ nowhere. refl,
    )

-- the run that was found
pub overflow_add-rest : goal.overflow_add-rest
overflow_add-rest c =
    let runs = c.self.inside.runs.items in
    let run = c.index-run.result.now in
    let found = subst (λ xs. position (λ run. leb c.args.len run.len) xs ≡ Some c.in-Some.place) c.deref.ensures.value
    (sym c.in-Some.ensures) in
    let f = fits c.self.inside.count c.args.len c.in-Some.place runs run c.self.invariant c.requires found
    c.index-run.ensures in
    omega (arith, c.self.ranges)

pub overflow_sub-rest : goal.overflow_sub-rest
overflow_sub-rest c =
    let runs = c.self.inside.runs.items in
    let run = c.index-run.result.now in
    let found = subst (λ xs. position (λ run. leb c.args.len run.len) xs ≡ Some c.in-Some.place) c.deref.ensures.value
    (sym c.in-Some.ensures) in
    (fits c.self.inside.count c.args.len c.in-Some.place runs run c.self.invariant c.requires found
    c.index-run.ensures).1

pub invariant_of-self : goal.invariant_of-self
invariant_of-self c =
    let runs = c.self.inside.runs.items in
    let run = c.index-run.result.now in
    let found = subst (λ xs. position (λ run. leb c.args.len run.len) xs ≡ Some c.in-Some.place) c.deref.ensures.value
    (sym c.in-Some.ensures) in
    taken_runs c.self.inside.count c.args.len c.in-Some.place runs run c.self.invariant c.requires found
    c.index-run.ensures c.put_rest.new.runs.items c.put_rest.ensures

pub returns-clause-first_fit : goal.returns-clause-first_fit
returns-clause-first_fit c =
    let runs = c.self.inside.runs.items in
    let run = c.index-run.result.now in
    let found = subst (λ xs. position (λ run. leb c.args.len run.len) xs ≡ Some c.in-Some.place) c.deref.ensures.value
    (sym c.in-Some.ensures) in
    subst (λ (free : FreeSectors). IsFirstFit free c.args.len (record { first = run.first; len = c.args.len }))
    c.self.view_is
    (taken_first_fit c.self.inside.count c.args.len c.in-Some.place runs run c.self.invariant c.requires found
    c.index-run.ensures)

pub returns-clause-in_range : goal.returns-clause-in_range
returns-clause-in_range c =
    let runs = c.self.inside.runs.items in
    let run = c.index-run.result.now in
    let found = subst (λ xs. position (λ run. leb c.args.len run.len) xs ≡ Some c.in-Some.place) c.deref.ensures.value
    (sym c.in-Some.ensures) in
    subst (λ (free : FreeSectors). IsInRange free.count (record { first = run.first; len = c.args.len })) c.self.view_is
    (taken_in_range c.self.inside.count c.args.len c.in-Some.place runs run c.self.invariant c.requires found
    c.index-run.ensures)

pub returns-clause-taken : goal.returns-clause-taken
returns-clause-taken c =
    let runs = c.self.inside.runs.items in
    let run = c.index-run.result.now in
    let found = subst (λ xs. position (λ run. leb c.args.len run.len) xs ≡ Some c.in-Some.place) c.deref.ensures.value
    (sym c.in-Some.ensures) in
    subst (λ (free : FreeSectors). TakesAway free (record { first = run.first; len = c.args.len })
    (record { count = c.self.inside.count; runs = c.put_rest.new.runs.items })) c.self.view_is
    (taken_away c.self.inside.count c.args.len c.in-Some.place runs run c.self.invariant c.requires found
    c.index-run.ensures c.put_rest.new.runs.items c.put_rest.ensures)

pub returns-clause-apart : goal.returns-clause-apart
returns-clause-apart c =
    let runs = c.self.inside.runs.items in
    let run = c.index-run.result.now in
    let found = subst (λ xs. position (λ run. leb c.args.len run.len) xs ≡ Some c.in-Some.place) c.deref.ensures.value
    (sym c.in-Some.ensures) in
    let fit = subst
    (λ (free : FreeSectors). IsFirstFit free c.args.len (record { first = run.first; len = c.args.len }))
    c.self.view_is
    (taken_first_fit c.self.inside.count c.args.len c.in-Some.place runs run c.self.invariant c.requires found
    c.index-run.ensures) in
    λ used in_use s taken other. in_use s other (fit.free_sectors s taken.0 taken.1)

pub returns-clause-full : goal.returns-clause-full
returns-clause-full c =
    let runs = c.self.inside.runs.items in
    let run = c.index-run.result.now in
    let found = subst (λ xs. position (λ run. leb c.args.len run.len) xs ≡ Some c.in-Some.place) c.deref.ensures.value
    (sym c.in-Some.ensures) in
    let fit = subst
    (λ (free : FreeSectors). IsFirstFit free c.args.len (record { first = run.first; len = c.args.len }))
    c.self.view_is
    (taken_first_fit c.self.inside.count c.args.len c.in-Some.place runs run c.self.invariant c.requires found
    c.index-run.ensures) in
    (λ same. absurd (cc), λ nowhere. absurd (nowhere run.first fit.free_sectors))
