-- The numbers of parts. Our own.
use Rattle.std.specs.Prelude.{◌≡◌, ◌+◌, ◌≤◌, ℕ, true, List, ◌++◌}
use Rattle.std.specs.List.{range_with_len}
use Rattle.partial_reports.specs.Head.{ascend_between}

-- A number up to that of all parts is the first that is not among some: these are the numbers below it, and others that
-- ascend above it.
pub record IsFirstGap (parts : ℕ) (numbers : List ℕ) (gap : ℕ) : Type 0 where
  pub before : ℕ
  pub rest : List ℕ
  pub next : gap ≡ before + 1
  pub of_all : gap ≤ parts
  pub are_in : numbers ≡ range_with_len 1 before ++ rest
  pub above : ascend_between gap parts rest ≡ true
