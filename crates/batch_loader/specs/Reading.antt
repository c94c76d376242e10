-- What is taken from a text that is read line by line.
use Rattle.std.specs.Prelude.{◌≡◌, ◌<◌, ◌≤◌, ◌⊎◌, ℕ, ⊤, Bool, true, false, List, [], ◌∷◌, ◌++◌, take, drop, length}
use Rattle.std.specs.Prelude.{Option, Some, None, IfSome}
use Rattle.std.specs.Prelude.{Result, Ok, Err, IfOk, IfErr}
use Rattle.std.specs.Borrow.{Bor}
use Rattle.std.specs.Io.KnownBytes.{IsAtEnd}
use Rattle.cube_model.specs.declared.fault.Fault.{Fault}
use Rattle.cube_model.specs.declared.fault.Fault.TheVariants.{Memory, Input, FieldTooLong}
use Rattle.cube_model.specs.declared.fault.Place.TheVariants.{Line}
use Rattle.cube_model.specs.Limits.{longest_line}
use Rattle.batch_loader.specs.Lines.{lines_of}
use Rattle.batch_loader.specs.Rows.{rows_of, next_number, number_after}
use Rattle.batch_loader.specs.Unread.{Unread}

-- the first line of the text that was left was taken, and the other lines are left
abbrev pub TakesLine : Option (List ℕ) → Option (List ℕ) → List ℕ → Type 0
TakesLine None new line = ⊤
TakesLine (Some text) None line = ⊥
TakesLine (Some text) (Some rest) line = lines_of text ≡ line ∷ lines_of rest

-- the first line of the text that was left is longer than a limit
abbrev pub IsLongLine : Option (List ℕ) → ℕ → Type 0
IsLongLine None limit = ⊤
IsLongLine (Some text) limit = (line : List ℕ) × (others : List (List ℕ)) × (lines_of text ≡ line ∷ others)
    × (limit < length line)

-- a line was taken: it is short enough, and counted
pub record TakesNext (old new : Unread) (line : List ℕ) : Type 0 where
  pub taken : TakesLine old.left new.left line
  pub short : length line ≤ longest_line
  pub number : new.number ≡ next_number old.number
  pub fault : new.fault ≡ None

-- no byte was left, and none is
abbrev pub StaysAtEnd : Option (List ℕ) → Option (List ℕ) → Type 0
StaysAtEnd None new = IsAtEnd new
StaysAtEnd (Some text) None = ⊥
StaysAtEnd (Some text) (Some rest) = (text ≡ []) × (rest ≡ [])

-- the text was at its end, and is
pub record IsAllTaken (old new : Unread) : Type 0 where
  pub end : StaysAtEnd old.left new.left
  pub number : new.number ≡ old.number
  pub fault : new.fault ≡ None

-- no line was taken: a read failed, or the next line is too long
abbrev pub RefusesNext : Unread → Fault → Type 0
RefusesNext old fault = (fault ≡ Input)
    ⊎ ((fault ≡ FieldTooLong (Line (next_number old.number)) 0) × IsLongLine old.left longest_line)

-- what the next line is, and what is left
abbrev pub NextGives : Unread → Unread → Result (Option (Bor (List ℕ))) Fault → Type 0
NextGives old new (Ok None) = IsAllTaken old new
NextGives old new (Ok (Some line)) = TakesNext old new line.now
NextGives old new (Err fault) = (new.fault ≡ Some fault) × (old.fault ≡ None → RefusesNext old fault)

-- a row comes after some rows
abbrev pub PushesRow : {Row : Type 0} → Result Row Fault → List Row → List Row → Type 0
PushesRow (Ok row) old new = new ≡ old ++ row ∷ []
PushesRow (Err fault) old new = ⊥

-- the row of the next line comes after some rows, or the text was at its end
abbrev pub PushesNext : {Row : Type 0} → (ℕ → List ℕ → Result Row Fault) → Unread → Unread → List Row → List Row → Bool
    → Type 0
PushesNext row old new before after true = TakesNext old new new.line
    × PushesRow (row (next_number old.number) new.line) before after
PushesNext row old new before after false = IsAllTaken old new × (after ≡ before)

-- a fault is that of the next line
abbrev pub IsNextFault : {Row : Type 0} → (ℕ → List ℕ → Result Row Fault) → ℕ → Option (List ℕ) → Fault → Type 0
IsNextFault row number None fault = ⊤
IsNextFault row number (Some text) fault =
    (line : List ℕ) × (others : List (List ℕ)) × (lines_of text ≡ line ∷ others)
    × (row (next_number number) line ≡ Err fault)

-- no row was taken: memory was refused, a read failed, or it is the fault of the next line
abbrev pub RefusesRow : {Row : Type 0} → (ℕ → List ℕ → Result Row Fault) → Unread → Fault → Type 0
RefusesRow row old fault = (fault ≡ Memory) ⊎ ((fault ≡ Input) ⊎ IsNextFault row old.number old.left fault)

-- the line that was taken last is the one that is refused: a fault is that of its row, or says that the line is too
-- long. Or memory was refused, or a read failed
abbrev pub RefusesLine : {Row : Type 0} → (ℕ → List ℕ → Result Row Fault) → Unread → Fault → Type 0
RefusesLine row new fault =
    (fault ≡ Memory)
    ⊎ ((fault ≡ Input) ⊎ ((fault ≡ FieldTooLong (Line new.number) 0) ⊎ (row new.number new.line ≡ Err fault)))

-- the rows of the next lines, at most so many, were taken, and the other lines are left
abbrev pub TakesRows : {Row : Type 0} → (ℕ → List ℕ → Result Row Fault) → ℕ → ℕ → Option (List ℕ) → Option (List ℕ)
    → List Row → Type 0
TakesRows row max number None new rows = ⊤
TakesRows row max number (Some text) None rows = ⊥
TakesRows row max number (Some text) (Some rest) rows =
    (rows_of row (next_number number) (take max (lines_of text)) ≡ Ok rows) × (lines_of rest ≡ drop max (lines_of text))

-- a fault is the first one of the next lines, at most so many
abbrev pub IsFirstFault : {Row : Type 0} → (ℕ → List ℕ → Result Row Fault) → ℕ → ℕ → Option (List ℕ) → Fault → Type 0
IsFirstFault row max number None fault = ⊤
IsFirstFault row max number (Some text) fault = rows_of row (next_number number) (take max (lines_of text)) ≡ Err fault

-- a batch of rows was taken: those of the next lines, fewer than the most only at the end of the text
pub record TakesBatch {Row : Type 0} (row : ℕ → List ℕ → Result Row Fault) (max : ℕ) (old new : Unread)
    (rows : List Row) : Type 0 where
  pub taken : TakesRows row max old.number old.left new.left rows
  pub few : length rows ≤ max
  pub end : length rows < max → IsAtEnd new.left
  pub number : new.number ≡ number_after (length rows) old.number
  pub fault : new.fault ≡ None

-- no batch was taken: memory was refused, a read failed, or it is the first fault of the next lines
abbrev pub RefusesBatch : {Row : Type 0} → (ℕ → List ℕ → Result Row Fault) → ℕ → Unread → Fault → Type 0
RefusesBatch row max old fault = (fault ≡ Memory) ⊎ ((fault ≡ Input) ⊎ IsFirstFault row max old.number old.left fault)

-- the rows of all lines that were left
abbrev pub AreRowsOf : {Row : Type 0} → (ℕ → List ℕ → Result Row Fault) → ℕ → Option (List ℕ) → List Row → Type 0
AreRowsOf row number None rows = ⊤
AreRowsOf row number (Some text) rows = rows_of row (next_number number) (lines_of text) ≡ Ok rows

-- a fault is the first one of all lines that were left
abbrev pub IsFaultOf : {Row : Type 0} → (ℕ → List ℕ → Result Row Fault) → ℕ → Option (List ℕ) → Fault → Type 0
IsFaultOf row number None fault = ⊤
IsFaultOf row number (Some text) fault = rows_of row (next_number number) (lines_of text) ≡ Err fault

-- a whole table was taken
pub record TakesTable {Row : Type 0} (row : ℕ → List ℕ → Result Row Fault) (old new : Unread) (rows : List Row) : Type 0
  where
    pub taken : AreRowsOf row old.number old.left rows
    pub end : IsAtEnd new.left
    pub number : new.number ≡ number_after (length rows) old.number
    pub fault : new.fault ≡ None

-- no table was taken: memory was refused, a read failed, or it is the first fault of the lines that were left
abbrev pub RefusesTable : {Row : Type 0} → (ℕ → List ℕ → Result Row Fault) → Unread → Fault → Type 0
RefusesTable row old fault = (fault ≡ Memory) ⊎ ((fault ≡ Input) ⊎ IsFaultOf row old.number old.left fault)

-- What a call answers that takes rows from a text: what was taken, or why not. A fault that the lines hold comes again,
-- a new one is held, and the line that was taken last is the one that is refused.
pub record AnswersRows {Row Given : Type 0} (row : ℕ → List ℕ → Result Row Fault) (Takes : Given → Type 0)
    (Refuses : Fault → Type 0) (old new : Unread) (result : Result Given Fault) : Type 0 where
  pub again : IfSome old.fault (λ fault. result ≡ Err fault)
  pub held : IfErr result (λ fault. new.fault ≡ Some fault)
  pub taken : IfOk result Takes
  pub refused : old.fault ≡ None → IfErr result Refuses
  pub line : old.fault ≡ None → IfErr result (RefusesLine row new)

-- a call for a batch of at most so many rows
abbrev pub AnswersBatch : {Row : Type 0} → (ℕ → List ℕ → Result Row Fault) → ℕ → Unread → Unread
    → Result (List Row) Fault → Type 0
AnswersBatch row max old new = AnswersRows row (TakesBatch row max old new) (RefusesBatch row max old) old new

-- a call for a whole table
abbrev pub AnswersTable : {Row : Type 0} → (ℕ → List ℕ → Result Row Fault) → Unread → Unread
    → Result (List Row) Fault → Type 0
AnswersTable row old new = AnswersRows row (TakesTable row old new) (RefusesTable row old) old new
