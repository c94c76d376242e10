use Rattle.std.proofs.Common.{◌≡◌, ℕ, ◌⊎◌, List, refl, subst, sym, inl, inr}
use Rattle.std.specs.List.Sorted.{IsPermutation, IsNonDecreasingBy}
use Rattle.std.proofs.lemmas.List.Sorted.{IsPermutation-sym}
use Rattle.std.proofs.lemmas.Result.{err_from_is_err_and}
use Rattle.cube_model.specs.declared.fault.Fault.{Fault}
use Rattle.extents.specs.declared.extent.Extent.{Extent}
use Rattle.extents.specs.Extents.{AreLaidOut}
use Rattle.extents.proofs.FreeLemmas.{AreLaidOut-permutation, IsRest-permutation}
use Rattle.extents.proofs.free.Free.from_used.Goals as goal

-- what was refused of the sorted extents holds of those that were given
refused : (count : ℕ) (used extents : List Extent) → IsPermutation used extents → (fault : Fault)
    → (fault ≡ Fault.Memory) ⊎ ((fault ≡ Fault.BadLayout) × (¬ AreLaidOut count extents)) → (fault ≡ Fault.Memory)
    ⊎ ((fault ≡ Fault.BadLayout) × (¬ AreLaidOut count used))
refused count used extents same fault (inl memory) = inl memory
refused count used extents same fault (inr bad) =
    inr (bad.0, λ ok. bad.1 (AreLaidOut-permutation count used extents same ok))

pub gaps-requires : goal.gaps-requires
gaps-requires c = subst (IsNonDecreasingBy (λ (extent : Extent). extent.first)) (sym c.deref.ensures.value)
    c.in_ok-sorted.ensures.order

pub returns-in_err-runs-clause-refused : goal.returns-in_err-runs-clause-refused
returns-in_err-runs-clause-refused c =
    let same = subst (IsPermutation c.args.used.now) (sym c.deref.ensures.value) c.in_ok-sorted.ensures.same in
    let p = err_from_is_err_and c.from_residual-in_err-runs.result c.from_residual-in_err-runs.ensures.1 in
    rw (p.1, p.2) (refused c.args.count c.args.used.now c.deref.result.now same _ c.in_err-runs.ensures.refused)

pub returns-clause-ok : goal.returns-clause-ok
returns-clause-ok c =
    let same = subst (IsPermutation c.args.used.now) (sym c.deref.ensures.value) c.in_ok-sorted.ensures.same in
    record {
      of_device = refl;
      sectors = IsRest-permutation c.args.count c.args.used.now c.deref.result.now
          c.in_ok-runs.runs.items same c.in_ok-runs.ensures.rest;
    }

pub returns-clause-laid_out : goal.returns-clause-laid_out
returns-clause-laid_out c =
    let same = subst (IsPermutation c.args.used.now) (sym c.deref.ensures.value) c.in_ok-sorted.ensures.same in
    AreLaidOut-permutation c.args.count c.deref.result.now c.args.used.now
    (IsPermutation-sym c.args.used.now c.deref.result.now same) c.in_ok-runs.ensures.laid_out
