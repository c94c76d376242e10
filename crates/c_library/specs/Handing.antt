-- What C is given: a number, and maybe bytes. Our own.
use Rattle.std.specs.Prelude.{◌≡◌, ◌⊎◌, ◌≤◌, ◌<◌, ◌++◌, ℤ, pos, neg_ℤ, List, [], ◌∷◌, ℕ, length, take, drop}
use Rattle.cube_model.specs.declared.fault.Fault.{Fault}
use Rattle.cube_model.specs.FaultNumbers.{number_of}

-- the number of a fault with a minus
abbrev pub fault_number : Fault → ℤ
fault_number fault = neg_ℤ (pos (number_of fault))

-- the length of a text, which is at the front of the room where there is enough; else the room is as it was
pub record HandsOver (text before after : List ℕ) (answer : ℤ) : Type 0 where
  pub answer_is : answer ≡ pos (length text)
  pub fits : length text ≤ length before → after ≡ text ++ drop (length text) before
  pub too_long : length before < length text → after ≡ before

-- a fault leaves the room as it was
pub record HandsFault (fault : Fault) (before after : List ℕ) (answer : ℤ) : Type 0 where
  pub answer_is : answer ≡ fault_number fault
  pub unchanged : after ≡ before

-- a text with P is handed over, or a fault with Q
abbrev pub Hands : (List ℕ → Type 0) → (Fault → Type 0) → (before after : List ℕ) → ℤ → Type 0
Hands P Q before after answer =
    ((text : List ℕ) × P text × HandsOver text before after answer)
    ⊎ ((fault : Fault) × Q fault × HandsFault fault before after answer)

-- The room for a message after a text was put in it: its beginning where it is too long, and a zero byte. Then what was
-- there
abbrev pub said_in : (before text : List ℕ) → List ℕ
said_in [] text = []
said_in (b ∷ before) text = take (length before) text ++ 0 ∷ drop (length (take (length before) text)) before

-- some text was put in it
abbrev pub IsSaid : (before after : List ℕ) → Type 0
IsSaid before after = (text : List ℕ) × (after ≡ said_in before text)

-- a journal with P is handed over, and there is no message; or a fault with Q, and there is one
abbrev pub HandsSaying : (List ℕ → Type 0) → (Fault → Type 0) → (before after message said : List ℕ) → ℤ → Type 0
HandsSaying P Q before after message said answer =
    ((journal : List ℕ) × P journal × HandsOver journal before after answer × (said ≡ message))
    ⊎ ((fault : Fault) × Q fault × HandsFault fault before after answer × IsSaid message said)
