-- A product that is cut at the rows may be cut on the way too.
use Rattle.std.proofs.Common.{◌≡◌, ℕ, zero, suc, ◌*◌, ◌≤◌, inl, inr, min, sym, ap, ◌∙◌, arith}
use Rattle.std.proofs.lemmas.Bool.{cases_lt}
use Rattle.std.proofs.Math.Nat.{min-eq_left, min-eq_right}

pub cut_inside : (rows a x : ℕ) → min rows (a * min rows x) ≡ min rows (a * x)
cut_inside rows zero x = omega arith
cut_inside rows (suc a) x = elim (cases_lt rows x) [
  | inl above ↦
      let cut : min rows x ≡ rows = min-eq_left (omega arith) in
      let low : rows ≤ suc a * rows = grind arith in
      let high : rows ≤ suc a * x = grind arith in
      ap (λ y. min rows (suc a * y)) cut ∙ min-eq_left low ∙ sym (min-eq_left high)
  | inr within ↦ ap (λ y. min rows (suc a * y)) (min-eq_right within)
]

-- so each product on the way may be
pub cut_all : (rows a b c d e : ℕ)
    → min rows (a * min rows (b * min rows (c * min rows (d * e)))) ≡ min rows (a * (b * (c * (d * e))))
cut_all rows a b c d e =
    ap (λ x. min rows (a * x)) (ap (λ x. min rows (b * x)) (cut_inside rows c (d * e))
    ∙ cut_inside rows b (c * (d * e)))
    ∙ cut_inside rows a (b * (c * (d * e)))
