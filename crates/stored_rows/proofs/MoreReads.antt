-- Reads of a source that go on, up to a refusal or to bytes that are none of what is wanted. Our own.
use Rattle.std.proofs.Common.{◌≡◌, ◌⊎◌, ◌∙◌, Result, Ok, Err, inl, inr, ap, sym, subst}
use Rattle.std.specs.Result.{IsErrAnd, IsErrOf, MatchResult}
use Rattle.cube_model.specs.declared.fault.Fault.{Fault}
use Rattle.cube_model.specs.declared.fault.Fault.TheVariants.{BadLayout}
use Rattle.wire.specs.declared.source.Source.{Ghosts}
use Rattle.wire.specs.Runs.{HasRead, IsRefused, Stays}
use Rattle.wire.proofs.CallerLemmas.{HasRead-then, IsRefused-later}

-- a run of reads ends with one of some faults, or with a read that was refused
abbrev pub Ends : (Fault → Type 0) → {S : Type 0} → Ghosts S → S → S → Fault → Type 0
Ends Own g from to fault = (Own fault × HasRead g from to) ⊎ IsRefused g fault from to

module _ {S : Type 0} (g : Ghosts S) (join : (a b c : S) → g.reads a b → g.reads b c → g.reads a c)
    (later : (fault : Fault) (a b c : S) → g.reads a b → g.fails fault b c → g.fails fault a c) (old mid new : S)
    (read : HasRead g old mid) (Own More : Fault → Type 0) (so : (fault : Fault) → Own fault → More fault) where
  ends_after : (fault : Fault) → Ends Own g mid new fault → Ends More g old new fault
  ends_after fault (inl own) = inl (so fault own.0, HasRead-then g join old mid new read own.1)
  ends_after fault (inr refused) = inr (IsRefused-later g later fault old mid new read refused)

  -- an end after reads, handed on by the caller
  pub ends_later : {T : Type 0} (result : Result T Fault) (fault : Fault) → IsErrAnd result (λ own. own ≡ fault)
      → Ends Own g mid new fault → MatchResult result (λ _. HasRead g old new) (Ends More g old new)
  ends_later (Ok value) fault is ends = absurd is
  ends_later (Err own) fault is ends =
      subst (λ (f : Fault). Ends More g old new f) (sym is) (ends_after fault ends)

  -- a call after reads, whose result is that of the caller
  pub ends_then : {T : Type 0} (result : Result T Fault)
      → MatchResult result (λ _. HasRead g mid new) (Ends Own g mid new)
      → MatchResult result (λ _. HasRead g old new) (Ends More g old new)
  ends_then (Ok value) run = HasRead-then g join old mid new read run
  ends_then (Err fault) run = ends_after fault run

-- a source that keeps its word at the end of a call kept it before
pub word_then : {S : Type 0} (g : Ghosts S) (mid new : S) (Fails : Fault → Type 0)
    → ((fault : Fault) → Fails fault → Stays g mid new) → {T : Type 0} (result : Result T Fault)
    → MatchResult result (λ _. HasRead g mid new) Fails → g.keeps_word new → g.keeps_word mid
word_then g mid new Fails stays (Ok value) run = run.stays.word
word_then g mid new Fails stays (Err fault) run = (stays fault run).word

pub ends_stays : (Own : Fault → Type 0) {S : Type 0} (g : Ghosts S) (mid new : S) (fault : Fault)
    → Ends Own g mid new fault → Stays g mid new
ends_stays Own g mid new fault (inl own) = own.1.stays
ends_stays Own g mid new fault (inr refused) = refused.stays

-- the fault of a call is that of its caller
pub err_later : {T U : Type 0} (result : Result T Fault) (fault : Fault) → IsErrAnd result (λ own. own ≡ fault)
    → IsErrOf result BadLayout → IsErrOf {T = U} (Err fault) BadLayout
err_later (Ok value) fault is err = absurd is
err_later (Err own) fault is err = let same : own ≡ BadLayout = cc in ap (λ (f : Fault). Err f) (sym is ∙ same)
