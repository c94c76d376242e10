-- The codes that the ship modes of fact rows have among the modes.
use Rattle.std.proofs.Common.{◌≡◌, ◌⊎◌, ◌∙◌, inl, inr, sym, ap, refl, ℕ, ◌+◌, ◌<◌, Bool, true, false, List, length}
use Rattle.std.proofs.Common.{get_or, get_or-set_same, get_or-set_other, set, arith}
use Rattle.std.proofs.lemmas.Bool.{cases_eq}
use Rattle.cube_model.specs.declared.rows.LineOrder.{LineOrder}
use Rattle.lattice.specs.declared.view.View.{View}
use Rattle.cuboid_cells.specs.Cells.{IsModeCode}
use Rattle.cuboid_upkeep.specs.Codes.{IsMode, mode_code}
use Rattle.cuboid_upkeep.specs.Keys.{IsOwnMode}
use Rattle.cuboid_upkeep.proofs.Members.{no_mode}

-- the code of every mode together, where ship modes are not grouped
pub every_mode : (modes : List (List ℕ)) (view : View) (row : LineOrder) → view.ship_mode ≡ false
    → IsOwnMode modes view row 65535
every_mode modes view row none = record {
  is = no_mode view.ship_mode modes row.shipmode none;
  among = λ grouped. absurd (cc (grouped, none));
}

-- the fifth code of a key
pub fifth_code : (modes : List (List ℕ)) (view : View) (row : LineOrder) (code : ℕ) → IsOwnMode modes view row code
    → IsModeCode view.ship_mode code
fifth_code modes view row code own = by view.ship_mode own.is own.among
  where
    by : (grouped : Bool) → code ≡ mode_code grouped modes row.shipmode
        → (grouped ≡ true → IsMode modes row.shipmode) → IsModeCode grouped code
    by false is among = (λ all. refl, λ e. is)
    by true is among = (λ all. absurd (omega (arith, is, all, (among refl).below)), λ e. absurd (cc e))

-- codes put one after another
pub one_code_more : (code_at : ℕ → ℕ) (codes : List ℕ) (place code : ℕ) → place < length codes → code ≡ code_at place
    → ((k : ℕ) → k < place → get_or codes k 0 ≡ code_at k)
    → (k : ℕ) → k < place + 1 → get_or (set codes place code) k 0 ≡ code_at k
one_code_more code_at codes place code within is so_far k before = by (cases_eq k place)
  where
    by : (k ≡ place) ⊎ (k ≡ place → ⊥) → get_or (set codes place code) k 0 ≡ code_at k
    by (inl same) = ap (λ (n : ℕ). get_or (set codes place code) n 0) same
        ∙ get_or-set_same codes place code 0 within ∙ is ∙ ap code_at (sym same)
    by (inr apart) = get_or-set_other codes place k code 0 apart ∙ so_far k (omega (arith, before, apart))
