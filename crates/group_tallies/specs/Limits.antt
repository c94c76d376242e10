-- What a fold asks of its caller, and when it is refused. Our own.
use Rattle.std.specs.Prelude.{◌≡◌, ◌⊎◌, ◌<◌, ◌^◌, List, length}
use Rattle.cube_model.specs.declared.fault.Fault.{Fault}
use Rattle.cube_model.specs.declared.fault.Fault.TheVariants.{BadLayout, Memory}
use Rattle.cube_model.specs.declared.rows.DimRows.{DimRows}
use Rattle.cube_model.specs.declared.rows.LineOrder.{LineOrder}
use Rattle.cube_model.specs.Admission.{AreInRange, HaveKnownKeys}

-- fact rows that may be folded: few enough to be counted, each with known keys, and no sum past its limit
pub record AreFoldable (dimensions : DimRows) (rows : List LineOrder) : Type 0 where
  pub few : length rows < 2 ^ 63
  pub known : HaveKnownKeys dimensions rows
  pub in_range : AreInRange rows

-- with which faults a fold is refused: where memory is missing, or where its rows or cells may not be folded
abbrev pub EndsFolding : Fault → Type 0
EndsFolding fault = (fault ≡ Memory) ⊎ (fault ≡ BadLayout)
