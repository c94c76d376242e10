-- Lemmas of `escapes`, by subject.
use Rattle.std.proofs.Common.{◌≡◌, ℕ, ◌+◌, ◌-◌, ◌<◌, List, [], ◌∷◌, ◌++◌, length, take, drop, get_or, ap, sym, arith}
use Rattle.std.proofs.Common.{◌∙◌, false, inl, inr}
use Rattle.std.proofs.lemmas.Grind.{common_steps, flat_map-append}
use Rattle.std.proofs.lemmas.List.{get_or_default, take-append-drop, take_all, take_more}
use Rattle.std.specs.List.{flat_map}
use Rattle.ssb_reports.proofs.Rows.{flat_map-around}
use Rattle.std.proofs.lemmas.Bool.{cases_Bool}
use Rattle.std.proofs.lemmas.Str.{IsUtf8-from_is_utf8}
use Rattle.std.specs.Str.{IsUtf8, is_utf8}

-- ==== Texts of which the first bytes are written as they are.

-- one more byte is written as it is
pub plain_more : (f : ℕ → List ℕ) (text : List ℕ) (i : ℕ) → i < length text → flat_map f (take i text) ≡ take i text
    → f (get_or text i 0) ≡ get_or text i 0 ∷ [] → flat_map f (take (i + 1) text) ≡ take (i + 1) text
plain_more f text i within before one =
    let next : take (i + 1) text ≡ take i text ++ get_or text i 0 ∷ [] = take_more text i 0 within in
    ap (flat_map f) next
    ∙ flat_map-append f (take i text) (get_or text i 0 ∷ [])
    ∙ ap (λ front. front ++ (f (get_or text i 0) ++ [])) before
    ∙ ap (λ last. take i text ++ (last ++ [])) one
    ∙ sym next

-- the first bytes, and the others
pub plain_front : (f : ℕ → List ℕ) (text : List ℕ) (i : ℕ) → flat_map f (take i text) ≡ take i text
    → flat_map f text ≡ take i text ++ flat_map f (drop i text)
plain_front f text i before =
    ap (flat_map f) (sym (take-append-drop i text))
    ∙ flat_map-append f (take i text) (drop i text)
    ∙ ap (λ front. front ++ flat_map f (drop i text)) before

-- all bytes are written as they are
pub plain_all : (f : ℕ → List ℕ) (text : List ℕ) (i : ℕ) → i ≡ length text → flat_map f (take i text) ≡ take i text
    → flat_map f text ≡ take i text
plain_all f text i all before =
    let whole : take i text ≡ text = ap (λ n. take n text) all ∙ take_all (length text) text (omega arith) in
    ap (flat_map f) (sym whole) ∙ before

whole_rest : (text : List ℕ) (i : ℕ) → take (length text - i) (drop i text) ≡ drop i text
whole_rest text i = grind (arith, common_steps)

-- the first bytes, the one after them, and the rest
pub plain_then : (f : ℕ → List ℕ) (text : List ℕ) (i : ℕ) → i < length text → flat_map f (take i text) ≡ take i text
    → flat_map f text ≡ take i text
    ++ (f (get_or text i 0) ++ flat_map f (take (length text - (i + 1)) (drop (i + 1) text)))
plain_then f text i within before =
    flat_map-around f text i (get_or text i 0) within (get_or_default text i 0 (get_or text i 0) within)
    ∙ ap (λ front. front ++ (f (get_or text i 0) ++ flat_map f (drop (i + 1) text))) before
    ∙ ap (λ rest. take i text ++ (f (get_or text i 0) ++ flat_map f rest)) (sym (whole_rest text (i + 1)))

-- ==== Texts that are not UTF-8.

pub not_utf8 : (text : List ℕ) → (IsUtf8 text → ⊥) → is_utf8 text ≡ false
not_utf8 text odd = elim (cases_Bool (is_utf8 text)) [
  | inl proper ↦ absurd (odd (IsUtf8-from_is_utf8 text proper))
  | inr not ↦ not
]
