use Rattle.std.proofs.Common.{◌≡◌, ℕ, ◌+◌, List, Result, Ok, Err, OnOk, OnErr, subst, sym}
use Rattle.extents.specs.declared.extent.Extent.{Extent}
use Rattle.extents.specs.Join.{IsJoin, joined_runs}
use Rattle.extents.specs.Runs.{FreeSectors, AreRuns}
use Rattle.extents.proofs.FreeLemmas.{AreRuns-joined}
use Rattle.extents.proofs.free.Free.give_back.Goals as goal

-- the runs are the joined ones, or as before
either : {E : Type 0} (r : Result (Unit {0}) E) (count : ℕ) (old joined new : List Extent) → OnOk r (new ≡ joined)
    → OnErr r (new ≡ old)
    → AreRuns 2 (count + 1) joined → AreRuns 2 (count + 1) old → AreRuns 2 (count + 1) new
either (Ok u) count old joined new ok err first second = subst (AreRuns 2 (count + 1)) (sym ok) first
either (Err e) count old joined new ok err first second = subst (AreRuns 2 (count + 1)) (sym err) second

pub invariant_of-self : goal.invariant_of-self
invariant_of-self c =
    let join = c.join_after-join.result in
    let is = subst (λ (free : FreeSectors). IsJoin 1 free join) (sym c.self.view_is) c.join_after-join.ensures.join in
    either c.put.result c.self.inside.count c.self.inside.runs.items (joined_runs c.self.inside.runs.items join)
    c.put.new.runs.items c.put.ensures.ok c.put.ensures.err
    (AreRuns-joined c.self.inside.count c.self.inside.runs.items join is) c.self.invariant
