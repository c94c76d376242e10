-- What is known of a text that is read line by line.
use Rattle.std.specs.Prelude.{ℕ, zero, suc, List, Option, take}
use Rattle.cube_model.specs.declared.fault.Fault.{Fault}

-- the bytes that are left, where they are known; the line that was taken last; how many lines were taken; and the fault
-- that ended it, if one did
pub record Unread : Type 0 where
  pub left : Option (List ℕ)
  pub line : List ℕ
  pub number : ℕ
  pub fault : Option Fault

-- the line that was taken last: in front of a window, with its LF, where so many bytes of the window are taken, and
-- else in a buffer
abbrev pub line_in : ℕ → List ℕ → List ℕ → List ℕ
line_in zero window buffer = buffer
line_in (suc count) window buffer = take count window
