-- Texts that are all different, added one by one to none.
use Rattle.std.proofs.Common.{◌≡◌, ◌≤◌, ◌<◌, ◌+◌, ◌∙◌, sym, ap, subst, arith, true≢false, ℕ, false, Option, Some, None}
use Rattle.std.proofs.Common.{List, [], ◌∷◌, ◌++◌, length, take, drop, get_or}
use Rattle.std.specs.Str.{bytes_eq}
use Rattle.std.specs.List.{list_any}
use Rattle.std.proofs.lemmas.List.{take_more, drop_more, take-append-drop, length-take-le}
use Rattle.dictionary.specs.Dictionary.{Texts, Adds, EachOnce, code_of, with_text}
use Rattle.dictionary.proofs.CallerLemmas.{present}
use Rattle.dictionary.proofs.Texts.{AddsAt, new_after}

-- a text that is not there, and has room, comes after the others
added_new : (old : Texts) (text : List ℕ) (code : Option ℕ) (new : Texts) → list_any (bytes_eq text) old.texts ≡ false
    → length old.texts < old.limit
    → Adds old text code new → new ≡ with_text old text
added_new old text code new fresh room adds = first (code_of old.texts text) (λ i. code_of old.texts text) adds
  where
    last : (found : Option ℕ) → AddsAt old text None found new → new ≡ with_text old text
    last None at = absurd (omega (arith, at.0, room))
    last (Some c) at = at.2

    first : (seen : Option ℕ) → code_of old.texts text ≡ seen → AddsAt old text seen code new → new ≡ with_text old text
    first None is at = last code at
    first (Some c) is at = absurd (true≢false (sym (present old.texts text c is) ∙ fresh))

-- the next of them
pub copy_more : (all : List (List ℕ)) (limit k : ℕ) (text : List ℕ) (old new : Texts) (code : Option ℕ) → EachOnce all
    → length all ≤ limit → k < length all
    → get_or all k text ≡ text → old ≡ record { texts = take k all; limit = limit } → Adds old text code new
    → new ≡ record { texts = take (k + 1) all; limit = limit }
copy_more all limit k text old new code once few lt at was adds =
    let whole : take k all ++ text ∷ drop (k + 1) all ≡ all =
    ap (λ t. take k all ++ t ∷ drop (k + 1) all) (sym at) ∙ ap (λ l. take k all ++ l) (sym (drop_more all k text lt))
    ∙ take-append-drop k all in
    let fresh : list_any (bytes_eq text) (take k all) ≡ false =
    new_after (take k all) (drop (k + 1) all) text (subst EachOnce (sym whole) once) in
    let count : length (take k all) ≡ k = length-take-le k all (omega (arith, lt)) in
    added_new old text code new (ap (λ t. list_any (bytes_eq text) t.texts) was ∙ fresh)
    (omega (arith, few, lt, count, ap (λ t. length t.texts) was, ap (λ t. t.limit) was)) adds
    ∙ ap (λ t. with_text t text) was
    ∙ ap (λ l. record { texts = l; limit = limit }) (ap (λ t. take k all ++ t ∷ []) (sym at)
    ∙ sym (take_more all k text lt))
