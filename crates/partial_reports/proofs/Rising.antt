-- Lines in the order of their keys, and one more after them.
use Rattle.std.proofs.Common.{◌≡◌, List, [], ◌∷◌, ◌++◌, None}
use Rattle.std.specs.List.{AllByRecursion}
use Rattle.std.specs.declared.cmp.Ordering.TheVariants.{Less}
use Rattle.cube_model.specs.declared.answer.Line.{Line}
use Rattle.cube_model.specs.Ascending.{IsAscending}
use Rattle.cube_model.specs.Keys.{key_cmp}
use Rattle.cube_model.proofs.KeyOrder.{key_cmp_total}
use Rattle.cube_model.specs.Orders.{answer_cmp}

all_last : (P : Line → Type 0) (front : List Line) (last : Line) → AllByRecursion P (front ++ last ∷ []) → P last
all_last P [] last all = all.0
all_last P (line ∷ front) last all = all_last P front last all.1

all_more : (P : Line → Type 0) (lines : List Line) (line : Line) → AllByRecursion P lines → P line
    → AllByRecursion P (lines ++ line ∷ [])
all_more P [] line all here = (here, tt)
all_more P (first ∷ lines) line all here = (all.0, all_more P lines line all.1 here)

-- a line whose key is above that of the last one
pub rising_on : (front : List Line) (last line : Line) → IsAscending (answer_cmp None) (front ++ last ∷ [])
    → key_cmp last.key line.key ≡ Less
    → IsAscending (answer_cmp None) ((front ++ last ∷ []) ++ line ∷ [])
rising_on [] last line rise less = ((less, tt), (tt, tt))
rising_on (first ∷ front) last line rise less = (
  all_more (λ other. key_cmp first.key other.key ≡ Less) (front ++ last ∷ []) line rise.0
      (key_cmp_total.trans first.key last.key line.key
      (all_last (λ other. key_cmp first.key other.key ≡ Less) front last rise.0) less),
  rising_on front last line rise.1 less,
)

-- lines that can be read back, and one more
pub all_and : (P : Line → Type 0) (lines : List Line) (line : Line) → AllByRecursion P lines → P line
    → AllByRecursion P (lines ++ line ∷ [])
all_and P lines line all here = all_more P lines line all here

-- the key of the last of lines in order is above that of the one before it
pub last_less : (front : List Line) (last line : Line)
    → IsAscending (answer_cmp None) ((front ++ last ∷ []) ++ line ∷ []) → key_cmp last.key line.key ≡ Less
last_less [] last line rise = rise.0.0
last_less (first ∷ front) last line rise = last_less front last line rise.1
