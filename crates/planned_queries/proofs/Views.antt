-- Views that group by ship mode.
use Rattle.std.proofs.Common.{◌≡◌, ◌||◌, Bool, true, false, not, arith, refl, sym, ap, ◌∙◌}
use Rattle.cube_model.specs.declared.query.Query.{Query}
use Rattle.lattice.specs.declared.view.View.{View}
use Rattle.lattice.specs.Needed.{IsNeededBy}
use Rattle.mode_queries.specs.declared.query.ModeQuery.{ModeQuery}
use Rattle.planned_queries.specs.ModesCounted.{ServesWithModes}
use Rattle.planned_queries.specs.ModesPlanned.{has_modes_for, looks_at_modes}

-- the view that a query needs, with ship modes
pub with_modes : (query : Query) (view : View) → IsNeededBy query view
    → ServesWithModes query (record view { ship_mode = true })
with_modes query view needed = record {
  serves = (needed (record view { ship_mode = true })).1 (record {
    customer = omega arith;
    supplier = omega arith;
    part = omega arith;
    date = omega arith;
    ship_mode = λ is. refl;
  });
  grouped = refl;
}

-- a view that has modes for a query that looks at them groups by them
pub groups_by_mode : (asked : ModeQuery) (view : View) → looks_at_modes asked ≡ true
    → has_modes_for asked view ≡ true → view.ship_mode ≡ true
groups_by_mode asked view looks has = by view.ship_mode (ap (λ (b : Bool). view.ship_mode || not b) (sym looks) ∙ has)
  where
    by : (b : Bool) → (b || false) ≡ true → b ≡ true
    by true e = refl
    by false e = e
