-- The lines of plans.
use Rattle.std.proofs.Common.{◌≡◌, ℕ, Bool, ◌-◌, ◌≤◌, List, [], ◌∷◌, ◌++◌, length, take, drop, get_or, ap, sym, arith}
use Rattle.std.proofs.Common.{codes}
use Rattle.std.proofs.lemmas.List.{take_rest}
use Rattle.std.specs.List.{flat_map}
use Rattle.planner.specs.declared.price.Priced.{Priced}
use Rattle.warehouse_jobs.specs.PlanLines.{other_line, plan_line, plans_text}

-- the line of the plan that is taken, and those of the others
pub taken-first : (ship_modes : Bool) (as_of : ℕ) (plans : List Priced) (d : Priced) → 1 ≤ length plans
    → plans_text ship_modes as_of plans ≡ plan_line ship_modes (codes "plan ") as_of (get_or plans 0 d)
    ++ flat_map (other_line ship_modes as_of) (take (length plans - 1) (drop 1 plans))
taken-first ship_modes as_of [] d some = absurd (omega arith)
taken-first ship_modes as_of (one ∷ others) d some =
    ap (λ rest. plan_line ship_modes (codes "plan ") as_of one ++ flat_map (other_line ship_modes as_of) rest)
    (sym (take_rest (one ∷ others) 1))
