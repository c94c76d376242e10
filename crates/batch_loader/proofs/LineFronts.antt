-- A line so far, in front of the lines that are left.
use Rattle.std.proofs.Common.{◌≡◌, ◌∙◌, sym, ap, refl, ℕ, ◌<◌, ◌≤◌, Bool, true, false, cond, List, [], ◌∷◌, ◌++◌}
use Rattle.std.proofs.Common.{length, arith, Some, None}
use Rattle.std.specs.Prelude.{Option, ◌==◌, not, suc, MatchBool}
use Rattle.std.proofs.lemmas.Bool.Decides.{nat_tests}
use Rattle.std.specs.Io.KnownBytes.{Keeps, IsAtEnd}
use Rattle.cube_model.specs.Limits.{longest_line}
use Rattle.batch_loader.specs.Lines.{lines_of, onto_first_line}
use Rattle.batch_loader.specs.Fronts.{with_front, IsFront}
use Rattle.batch_loader.specs.Reading.{TakesLine, StaysAtEnd}

pub with_front-cons : (front : List ℕ) (line : List ℕ) (lines : List (List ℕ))
    → with_front front (line ∷ lines) ≡ (front ++ line) ∷ lines
with_front-cons [] line lines = refl
with_front-cons (first ∷ front) line lines = ap (onto_first_line first) (with_front-cons front line lines)

pub IsFront-start : (old : Option (List ℕ)) → IsFront old old []
IsFront-start None = tt
IsFront-start (Some text) = refl

-- the end of the text ends a line that is not empty
pub TakesLine-last : (old now new : Option (List ℕ)) (front : List ℕ) → IsFront old now front → IsAtEnd now
    → Keeps now new → 0 < length front → TakesLine old new front
TakesLine-last None now new front before at_end keeps some = tt
TakesLine-last (Some text) None new front before at_end keeps some = absurd before
TakesLine-last (Some text) (Some rest) None front before at_end keeps some = absurd keeps
TakesLine-last (Some text) (Some rest) (Some after) [] before at_end keeps some = absurd (omega arith)
TakesLine-last (Some text) (Some rest) (Some after) (byte ∷ front) before at_end keeps some =
    before ∙ ap (λ t. with_front (byte ∷ front) (lines_of t)) at_end ∙ whole (byte ∷ front) some
    ∙ sym (ap (λ t. (byte ∷ front) ∷ lines_of t) (keeps ∙ at_end))
  where
    whole : (front : List ℕ) → 0 < length front → with_front front [] ≡ front ∷ []
    whole [] some = absurd (omega arith)
    whole (byte ∷ []) some = refl
    whole (byte ∷ next ∷ front) some = ap (onto_first_line byte) (whole (next ∷ front) (omega arith))

pub IsAtEnd-front : (old now : Option (List ℕ)) → IsFront old now [] → IsAtEnd now → IsAtEnd old
IsAtEnd-front None now before at_end = tt
IsAtEnd-front (Some text) None before at_end = absurd before
IsAtEnd-front (Some []) (Some rest) before at_end = refl
IsAtEnd-front (Some (byte ∷ text)) (Some rest) before at_end =
    absurd (not_empty byte text (before ∙ ap lines_of at_end))
  where
    not_empty : (byte : ℕ) (text : List ℕ) → lines_of (byte ∷ text) ≡ [] → ⊥
    not_empty byte text =
        elim (byte == 10) as (λ b. cond b ([] ∷ lines_of text) (onto_first_line byte (lines_of text)) ≡ [] → ⊥) [
          | true ↦ λ e. cc
          | false ↦ elim (lines_of text) as (λ ls. onto_first_line byte ls ≡ [] → ⊥) [
            | [] ↦ λ e. cc
            | line ∷ lines ↦ λ e. cc
          ]
        ]

-- what a loop keeps that reads a line part by part
pub record IsReading (old now : Option (List ℕ)) (line : List ℕ) (count capacity : ℕ) : Type 0 where
  pub front : IsFront old now line
  pub grows : count ≤ length line
  pub short : length line ≤ longest_line
  pub room : longest_line ≤ capacity

StaysAtEnd-front : (old now new : Option (List ℕ)) → IsFront old now [] → IsAtEnd now → IsAtEnd new → Keeps now new
    → StaysAtEnd old new
StaysAtEnd-front None now new front at_end after keeps = after
StaysAtEnd-front (Some text) None new front at_end after keeps = absurd front
StaysAtEnd-front (Some text) (Some rest) None front at_end after keeps = absurd keeps
StaysAtEnd-front (Some text) (Some rest) (Some left) front at_end after keeps =
    (IsAtEnd-front (Some text) (Some rest) front at_end, after)

-- what was read at the end of the text: a last line, or nothing
pub TakesLine-at_end : (old now new : Option (List ℕ)) (line : List ℕ) (empty : Bool) → empty ≡ (length line == 0)
    → IsFront old now line → (IsAtEnd now × IsAtEnd new) × Keeps now new
    → MatchBool (not empty) (TakesLine old new line) (StaysAtEnd old new)
TakesLine-at_end old now new [] empty is front at_end =
    rw is (StaysAtEnd-front old now new front at_end.0.0 at_end.0.1 at_end.1)
TakesLine-at_end old now new (byte ∷ line) empty is front at_end =
    rw (is, some line) (TakesLine-last old now new (byte ∷ line) front at_end.0.0 at_end.1 (omega arith))
  where
    some : (line : List ℕ) → (suc (length line) == 0) ≡ false
    some line = grind (arith, nat_tests)
