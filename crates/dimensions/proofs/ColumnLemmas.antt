-- A dictionary with a text that may be new.
use Rattle.std.proofs.Common.{◌≡◌, ◌<◌, ◌≤◌, ◌∙◌, sym, ap, refl, subst, arith, ℕ, Bool, true, false, List, length}
use Rattle.std.proofs.Common.{Option, Some, None, Result, Ok, Err, IfOk, MatchOption, if◌then◌else◌}
use Rattle.std.specs.Str.{bytes_eq}
use Rattle.std.specs.List.{list_any, position_or_len}
use Rattle.cube_model.specs.declared.fault.Fault.{Fault}
use Rattle.dictionary.specs.Dictionary.{Texts, Adds, code_of, with_text}
use Rattle.dictionary.proofs.CallerLemmas.{absent, present, place_after}
use Rattle.hierarchy.specs.Hierarchy.{PutsUpper}
use Rattle.dimensions.specs.declared.column.Column.{Column}
use Rattle.dimensions.specs.Columns.{learned, Enters}

pub added : (old : Texts) (text : List ℕ) (code : Option ℕ) (new : Texts) → Adds old text code new
    → position_or_len (bytes_eq text) old.texts < old.limit → new ≡ learned old text
added old text code new adds room =
    elim (code_of old.texts text) as (λ o. code_of old.texts text ≡ o → MatchOption o
    (MatchOption code ((old.limit ≤ length old.texts) × (new ≡ old))
    (λ c. (c ≡ length old.texts) × (length old.texts < old.limit) × (new ≡ with_text old text)))
    (λ c. (code ≡ Some c) × (new ≡ old)) → new ≡ learned old text) [
      | None ↦ λ e a.
          let new_text = absent old.texts text e in
          let last = place_after (bytes_eq text) old.texts new_text in
          fresh code new_text last a
      | Some c ↦ λ e a. a.1 ∙ ap (λ b. if b then old else with_text old text) (sym (present old.texts text c e))
    ] refl adds
  where
    fresh : (o : Option ℕ) → list_any (bytes_eq text) old.texts ≡ false
        → position_or_len (bytes_eq text) old.texts ≡ length old.texts
        → MatchOption o ((old.limit ≤ length old.texts) × (new ≡ old))
        (λ c. (c ≡ length old.texts) × (length old.texts < old.limit) × (new ≡ with_text old text))
        → new ≡ learned old text
    fresh None new_text last a = absurd (omega (arith, a.0, last, room))
    fresh (Some c) new_text last a = a.2 ∙ ap (λ b. if b then old else with_text old text) (sym new_text)

pub kept : (old : Texts) (text : List ℕ) → (position_or_len (bytes_eq text) old.texts ≡ length old.texts → ⊥)
    → learned old text ≡ old
kept old text seen =
    elim (list_any (bytes_eq text) old.texts) as (λ b. list_any (bytes_eq text) old.texts ≡ b
    → (if b then old else with_text old text) ≡ old) [
      | true ↦ λ e. refl
      | false ↦ λ e. absurd (seen (place_after (bytes_eq text) old.texts e))
    ] refl

pub enters_ok : (old mid : Column) (ranks : List (List ℕ)) (place : ℕ) (text : List ℕ) (code : ℕ)
    (result : Result Bool Fault) (codes : List ℕ)
    → mid.lower ≡ old.lower → mid.texts ≡ learned old.texts text → mid.codes ≡ old.codes
    → IfOk result (λ linked. PutsUpper mid.codes place code linked codes)
    → IfOk result
    (λ fits. Enters old place text code fits
    (record { lower = mid.lower; texts = mid.texts; codes = codes; ranks = ranks }))
enters_ok old mid ranks place text code (Ok fits) codes lower texts same puts = record {
  lower = lower;
  texts = texts;
  codes = subst (λ l. PutsUpper l place code fits codes) same puts;
}
enters_ok old mid ranks place text code (Err fault) codes lower texts same puts = puts
