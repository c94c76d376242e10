-- What a run of reads leaves of a source. Our own.
use Rattle.std.specs.Prelude.{◌≡◌, ◌⊎◌, ℕ, Result, MatchResult}
use Rattle.cube_model.specs.declared.fault.Fault.{Fault}
use Rattle.wire.specs.Parts.{IsReadFault}
use Rattle.wire.specs.declared.source.Source.{Ghosts}

-- what stays of a source while it is read, also by a read that is refused
pub record Stays {S : Type 0} (g : Ghosts S) (old new : S) : Type 0 where
  pub totals : (id : ℕ) → g.totals new id ≡ g.totals old id
  pub texts : g.keeps_word new → (id : ℕ) → g.texts new id ≡ g.texts old id
  pub word : g.keeps_word new → g.keeps_word old
  pub goes_on : g.always_keeps → g.keeps_word old → g.keeps_word new

-- reads that succeeded, and nothing else, lead from one to the other
pub record HasRead {S : Type 0} (g : Ghosts S) (old new : S) : Type 0 where
  pub stays : Stays g old new
  pub run : g.reads old new

-- such reads, and one after them that was refused
pub record IsRefused {S : Type 0} (g : Ghosts S) (fault : Fault) (old new : S) : Type 0 where
  pub stays : Stays g old new
  pub cause : IsReadFault fault
  pub run : g.fails fault old new

-- what a call answers that reads of a source and does nothing else to it: where it is refused, the last read was
abbrev pub ReadsSource : {S A : Type 0} → Ghosts S → S → S → Result A Fault → Type 0
ReadsSource g old new result = MatchResult result (λ _. HasRead g old new) (λ fault. IsRefused g fault old new)

-- the same of a call that may also be refused for causes of its own
abbrev pub ReadsSourceOr : {S A : Type 0} → Ghosts S → (Fault → Type 0) → S → S → Result A Fault → Type 0
ReadsSourceOr g Own old new result = MatchResult result (λ _. HasRead g old new)
    (λ fault. (Own fault × HasRead g old new) ⊎ IsRefused g fault old new)
