-- What a read that stopped, or bytes that were refused, say of what was read. For the proofs of other crates too.
use Rattle.std.proofs.Common.{◌≡◌, ◌⊎◌, Result, Ok, Err, inl, inr, sym, subst, ◌∙◌, IfErr}
use Rattle.std.specs.Result.{IsErrAnd, IsErrOf, MatchResult}
use Rattle.cube_model.specs.declared.fault.Fault.{Fault}
use Rattle.cube_model.specs.declared.fault.Fault.TheVariants.{BadLayout, Device, Failed, Memory}
use Rattle.wire.specs.declared.source.Source.{Ghosts}
use Rattle.wire.specs.Parts.{IsReadFault}
use Rattle.wire.specs.Runs.{HasRead, IsRefused}

-- memory, or bytes that are none of what was wanted
abbrev pub Says : Type 0 → Fault → Type 0
Says Missing fault = (fault ≡ Memory) ⊎ ((fault ≡ BadLayout) × Missing)

module _ {S : Type 0} (g : Ghosts S) (old new : S) where
  abbrev pub Ran : Fault → Type 0
  Ran fault = (((fault ≡ Memory) ⊎ (fault ≡ BadLayout)) × HasRead g old new) ⊎ IsRefused g fault old new

  abbrev pub Stopped : Fault → Type 0
  Stopped fault = ((fault ≡ Memory) × HasRead g old new) ⊎ IsRefused g fault old new

  ran : (own fault : Fault) → own ≡ fault → Stopped fault → Ran own
  ran own fault is (inl memory) = inl (inl (is ∙ memory.0), memory.1)
  ran own fault is (inr refused) = inr (subst (λ (f : Fault). IsRefused g f old new) (sym is) refused)

  -- a read that stopped, handed on
  pub stopped_run : {T : Type 0} (result : Result T Fault) (fault : Fault) → IsErrAnd result (λ own. own ≡ fault)
      → Stopped fault → MatchResult result (λ _. HasRead g old new) Ran
  stopped_run (Ok value) fault is stop = absurd is
  stopped_run (Err own) fault is stop = ran own fault is stop

  bad : (fault : Fault) → fault ≡ BadLayout → Stopped fault → ⊥
  bad fault is (inl memory) = let same : Memory ≡ BadLayout = sym memory.0 ∙ is in absurd cc
  bad fault is (inr refused) = cause refused.cause
    where
      cause : IsReadFault fault → ⊥
      cause (inl device) = let same : Device ≡ BadLayout = sym device ∙ is in absurd cc
      cause (inr failed) = let same : Failed ≡ BadLayout = sym failed ∙ is in absurd cc

  pub stopped_bad : {T : Type 0} (result : Result T Fault) (fault : Fault) → IsErrAnd result (λ own. own ≡ fault)
      → Stopped fault → IsErrOf result BadLayout → ⊥
  stopped_bad (Ok value) fault is stop err = absurd is
  stopped_bad (Err own) fault is stop err = let same : own ≡ BadLayout = cc in bad fault (sym is ∙ same) stop

  -- what was found, decoded
  pub decoded_run : {T : Type 0} (Missing : Type 0) (result : Result T Fault) → HasRead g old new
      → IfErr result (Says Missing) → MatchResult result (λ _. HasRead g old new) Ran
  decoded_run Missing (Ok value) read says = read
  decoded_run Missing (Err own) read (inl memory) = inl (inl memory, read)
  decoded_run Missing (Err own) read (inr none) = inl (inr none.0, read)

pub decoded_bad : {T : Type 0} (Missing : Type 0) (result : Result T Fault) → IfErr result (Says Missing)
    → IsErrOf result BadLayout → Missing
decoded_bad Missing (Ok value) says err = absurd cc
decoded_bad Missing (Err own) (inl memory) err = let own_is : own ≡ BadLayout = cc in let same : Memory ≡ BadLayout =
    sym memory ∙ own_is in absurd cc
decoded_bad Missing (Err own) (inr none) err = none.1
