-- Which calls of a fuse fail. Our own.
use Rattle.std.specs.Prelude.{ℕ, Bool, not, nat_eq, nat_lt, ◌&&◌, ◌||◌}
use Rattle.sector_device.specs.declared.fuse.FailurePlan.{FailurePlan}

-- whether the call of this number fails, from 1: the one of the plan, none at 0, and where it says so all after it
abbrev pub fails_at : FailurePlan → ℕ → Bool
fails_at plan call = not (nat_eq plan.at 0) && (nat_eq call plan.at || (plan.all && nat_lt plan.at call))
