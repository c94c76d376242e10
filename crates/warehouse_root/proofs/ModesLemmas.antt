-- What the parts of an object of ship modes that were read say of its bytes. Our own.
use Rattle.std.proofs.Common.{◌≡◌, ℕ, Bool, true, false, not, true≢false, List, [], ◌++◌, take, codes, refl}
use Rattle.std.proofs.Common.{sym, ap, ◌∙◌, Option, Some, None, is_some, arith}
use Rattle.std.proofs.Math.Seq.{take-append_seam}
use Rattle.std.proofs.lemmas.List.{append_cancel_left, append-nil}
use Rattle.std.proofs.lemmas.Slice.Eq.{bytes_eq-Decides}
use Rattle.std.specs.List.{list_any}
use Rattle.std.specs.Str.{bytes_eq}
use Rattle.cube_model.specs.Limits.{most_members}
use Rattle.wire.specs.Reading.{TakesBytes}
use Rattle.dictionary.specs.Dictionary.{code_of}
use Rattle.dictionary.specs.Spelling.{BeginsWithNone, ReadsTexts, texts_spelling}
use Rattle.dictionary.proofs.CallerLemmas.{absent, present}
use Rattle.dictionary.proofs.ColumnLaws.{texts_spelling-one}
use Rattle.warehouse_root.specs.Modes.{SpellModes}

-- bytes that a comparison found to differ, or found to be the same
pub name_differs : (a b : List ℕ) (r : Bool) → r ≡ not (bytes_eq a b) → r ≡ true → a ≡ b → ⊥
name_differs a b r is differs same = let found : bytes_eq a b ≡ true = (bytes_eq-Decides a b).1 same in
    let no : r ≡ false = is ∙ ap not found in cc

pub name_is_same : (a b : List ℕ) (r : Bool) → r ≡ not (bytes_eq a b) → r ≡ false → a ≡ b
name_is_same a b r is alike =
    (bytes_eq-Decides a b).0
    ((elim (bytes_eq a b) as (λ (t : Bool). false ≡ not t → t ≡ true) [ true ↦ λ e. refl | false ↦ λ e. e ])
    (sym alike ∙ is))

-- the first four bytes are the name that the bytes begin with
pub name_is : (old new part rest : List ℕ) → TakesBytes 4 old new part → old ≡ codes "SHP2" ++ rest
    → part ≡ codes "SHP2"
name_is old new part rest taken is =
    sym (take-append_seam part new) ∙ ap (λ (n : ℕ). take n (part ++ new)) taken.many
    ∙ ap (λ (bytes : List ℕ). take 4 bytes) (sym taken.spelled ∙ is)
    ∙ take-append_seam (codes "SHP2") rest

-- a text is among others exactly where it has a code there
pub named : (texts : List (List ℕ)) (text : List ℕ) (code : Option ℕ) (b : Bool) → code ≡ code_of texts text
    → b ≡ is_some code → b ≡ list_any (bytes_eq text) texts
named texts text None b is some = some ∙ sym (absent texts text (sym is))
named texts text (Some code) b is some = some ∙ sym (present texts text code (sym is))

-- ---- after the name

module _ (bytes left : List ℕ) (name : bytes ≡ codes "SHP2" ++ left) where
  after_name : (modes : List (List ℕ)) → SpellModes bytes modes → left ≡ texts_spelling modes ++ []
  after_name modes is =
      append_cancel_left (codes "SHP2") left (texts_spelling modes) (sym name ∙ is.spelled)
      ∙ sym (append-nil (texts_spelling modes))

  -- no dictionary is there
  pub none_texts : BeginsWithNone most_members left → (modes : List (List ℕ)) → ¬ SpellModes bytes modes
  none_texts none modes is = none modes [] is.are.proper (after_name modes is)

  module _ (new : List ℕ) (found : List (List ℕ)) (read : ReadsTexts most_members left new found) where
    only : (modes : List (List ℕ)) → SpellModes bytes modes → (found ≡ modes) × (new ≡ [])
    only modes is =
        texts_spelling-one most_members found modes new [] (omega arith) read.proper is.are.proper
        (sym read.spelled ∙ after_name modes is)

    -- bytes are left
    pub none_longer : (new ≡ [] → ⊥) → (modes : List (List ℕ)) → ¬ SpellModes bytes modes
    none_longer more modes is = more (only modes is).1

    -- one of the texts means all ship modes
    pub none_reserved : list_any (bytes_eq (codes "ALL")) found ≡ true
        → (modes : List (List ℕ)) → ¬ SpellModes bytes modes
    none_reserved reserved modes is =
        true≢false (sym reserved ∙ ap (list_any (bytes_eq (codes "ALL"))) (only modes is).0 ∙ is.are.free)
