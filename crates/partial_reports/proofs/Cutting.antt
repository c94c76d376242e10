-- Texts that are cut at a byte, and texts that begin with another.
use Rattle.std.proofs.Common.{◌≡◌, ◌∙◌, sym, ap, subst, ℕ, zero, suc, ◌+◌, ◌-◌, ◌<◌, Bool, false, List, [], ◌∷◌, ◌++◌}
use Rattle.std.proofs.Common.{length, take, drop, get_or, inl, inr, arith, length-append}
use Rattle.std.specs.Prelude.{◌==◌}
use Rattle.std.specs.Str.{bytes_eq}
use Rattle.std.proofs.lemmas.Bool.{both_ways, cases_order, eq-eqb}
use Rattle.std.proofs.lemmas.List.{take_all}
use Rattle.std.proofs.lemmas.Slice.Eq.{bytes_eq-Decides}
use Rattle.std.proofs.Math.ListN.{get_or-append}
use Rattle.std.proofs.Math.Seq.{drop-append-add, get_or-append_seam, take-append_seam}
use Rattle.memchr.specs.Find.{NoneBefore, Nowhere, Passes, is_byte}
use Rattle.partial_reports.specs.Readable.{HasNoByte}

-- the byte at a place of such a text is another one
none_at : (sign : ℕ) (text : List ℕ) (k : ℕ) → HasNoByte sign text → k < length text → (get_or text k 0 == sign) ≡ false
none_at sign [] k none within = absurd (omega arith)
none_at sign (byte ∷ text) zero none within = none.0
none_at sign (byte ∷ text) (suc k) none within = none_at sign text k none.1 (omega arith)

module _ (sign : ℕ) (front back : List ℕ) where
  abbrev whole : List ℕ
  whole = front ++ sign ∷ back

  here : Passes (is_byte sign) whole (length front)
  here = eq-eqb (get_or whole (length front) 0) sign (get_or-append_seam front sign back 0)

  within : length front < length whole
  within = omega (arith, length-append front (sign ∷ back))

  pub not_nowhere : Nowhere (Passes (is_byte sign) whole) 0 (length whole) → ⊥
  not_nowhere none = none (length front) (omega arith) within here

  not_before : (end : ℕ) → HasNoByte sign front → Passes (is_byte sign) whole end → end < length front → ⊥
  not_before end none passes less =
      both_ways (get_or whole end 0 == sign)
      (subst (λ k. (k == sign) ≡ false) (sym (get_or-append front (sign ∷ back) 0 end less))
      (none_at sign front end none less)) passes

  place : (end : ℕ) → HasNoByte sign front → NoneBefore (Passes (is_byte sign) whole) 0 (length whole) end
      → Passes (is_byte sign) whole end → end ≡ length front
  place end none before passes = elim (cases_order end (length front)) [
    | inl same ↦ same
    | inr (inl less) ↦ absurd (not_before end none passes less)
    | inr (inr more) ↦ absurd (before.before (length front) (omega arith) more here)
  ]

  after_front : take (length whole - (length front + 1)) (drop (length front + 1) whole) ≡ back
  after_front =
      ap (take (length whole - (length front + 1))) (drop-append-add front (sign ∷ back) 1)
      ∙ take_all (length whole - (length front + 1)) back (omega (arith, length-append front (sign ∷ back)))

  halves : (end : ℕ) → end ≡ length front → (take end whole ≡ front)
      × (take (length whole - (end + 1)) (drop (end + 1) whole) ≡ back)
  halves end is = (
    ap (λ k. take k whole) is ∙ take-append_seam front (sign ∷ back),
    ap (λ k. take (length whole - (k + 1)) (drop (k + 1) whole)) is ∙ after_front,
  )

  pub cut_found : (text : List ℕ) (end : ℕ) → HasNoByte sign front → text ≡ whole
      → NoneBefore (Passes (is_byte sign) text) 0 (length text) end → Passes (is_byte sign) text end
      → (take end text ≡ front) × (take (length text - (end + 1)) (drop (end + 1) text) ≡ back)
  cut_found text end none is before passes =
      let e = sym is in
      subst (λ t. (take end t ≡ front) × (take (length t - (end + 1)) (drop (end + 1) t) ≡ back)) e
      (halves end
      (place end none (subst (λ t. NoneBefore (Passes (is_byte sign) t) 0 (length t) end) is before)
      (subst (λ t. Passes (is_byte sign) t end) is passes)))

-- a text begins with another, so its front is that
pub not_begun : (text front left first : List ℕ) (r : Bool) → first ≡ take (length front) text
    → r ≡ bytes_eq first front → r ≡ false → text ≡ front ++ left → ⊥
not_begun text front left first r is eq failed e =
    let same : first ≡ front = is ∙ ap (take (length front)) e ∙ take-append_seam front left in
    both_ways r failed (eq ∙ (bytes_eq-Decides first front).1 same)
