-- Where a word is cut at the first of two signs.
use Rattle.std.proofs.Common.{◌≡◌, ◌⊎◌, inl, inr, ℕ, zero, suc, ◌+◌, ◌<◌, ◌≤◌, Bool, true, false, cond, eqb, eq-eqb}
use Rattle.std.proofs.Common.{Bor, List, [], ◌∷◌, ◌++◌, length, get_or, None, Some, refl, sym, ap, ◌∙◌, arith}
use Rattle.std.proofs.Common.{length-append}
use Rattle.std.proofs.Math.ListN.{get_or-append}
use Rattle.std.proofs.Math.Seq.{get_or-append_seam}
use Rattle.std.proofs.lemmas.Bool.{false≢true}
use Rattle.std.proofs.lemmas.Str.Pattern.{IsSplitOnceResult, split_parts}
use Rattle.query_words.specs.Cuts.{HasNeither, IsCut}

Lacks : ℕ → List ℕ → Type 0
Lacks sign text = (i : ℕ) → i < length text → get_or text i 0 ≡ sign → ⊥

-- a place before the end of a beginning is one of the whole
in_front : (text front : List ℕ) (mark : ℕ) (rest : List ℕ) (i : ℕ) → text ≡ front ++ mark ∷ rest → i < length front
    → (i < length text) ×
    (get_or text i 0 ≡ get_or front i 0)
in_front text front mark rest i whole below =
    let long : length text ≡ length front + length (mark ∷ rest) = ap length whole
    ∙ length-append front (mark ∷ rest) in
    (omega arith, ap (λ (t : List ℕ). get_or t i 0) whole ∙ get_or-append front (mark ∷ rest) 0 i below)

-- the sign after a beginning is in the whole
sign_at : (text front : List ℕ) (mark : ℕ) (rest : List ℕ) → text ≡ front ++ mark ∷ rest → (length front < length text)
    × (get_or text
    (length front) 0 ≡ mark)
sign_at text front mark rest whole =
    let long : length text ≡ length front + length (mark ∷ rest) = ap length whole
    ∙ length-append front (mark ∷ rest) in
    (omega arith, ap (λ (t : List ℕ). get_or t (length front) 0) whole ∙ get_or-append_seam front mark rest 0)

-- no cut word lacks both signs
pub uncut : (one other : ℕ) (text front : List ℕ) (sign : ℕ) (rest : List ℕ) → (sign ≡ one) ⊎ (sign ≡ other)
    → text ≡ front ++ sign ∷ rest
    → HasNeither one other text → ⊥
uncut one other text front sign rest (inl is) whole neither = let at = sign_at text front sign rest whole in (neither
    (length front) at.0).0 (at.1 ∙ is)
uncut one other text front sign rest (inr is) whole neither = let at = sign_at text front sign rest whole in (neither
    (length front) at.0).1 (at.1 ∙ is)

pub cut_neither : (one other : ℕ) (word : List ℕ) → one < 128 → other < 128 → IsSplitOnceResult one word None
    → IsSplitOnceResult other word None → HasNeither one other word
cut_neither one other word small little none nor i below = (
  split_parts one word None none small i below,
  split_parts other word None nor
      little i below,
)

pub cut_one : (one other : ℕ) (word : List ℕ) (name rest : Bor (List ℕ)) → one < 128 → other < 128
    → IsSplitOnceResult one word (Some
    (name, rest)) → IsSplitOnceResult other word None → IsCut one other word name.now one rest.now
cut_one one other word name rest small little is none =
    let parts = split_parts one word (Some (name, rest)) is small in
    record {
      whole = parts.0;
      is_sign = inl refl;
      first = λ i below. let at = in_front word name.now one rest.now i parts.0 below in (
        parts.1 i below,
        λ e. split_parts other word
            None none little i at.0 (at.1 ∙ e),
      );
    }

pub cut_other : (one other : ℕ) (word : List ℕ) (name rest : Bor (List ℕ)) → one < 128 → other < 128
    → IsSplitOnceResult one word None
    → IsSplitOnceResult other word (Some (name, rest)) → IsCut one other word name.now other rest.now
cut_other one other word name rest small little none is =
    let parts = split_parts other word (Some (name, rest)) is little in
    record {
      whole = parts.0;
      is_sign = inr refl;
      first = λ i below. let at = in_front word name.now other rest.now i parts.0 below in (
        λ e. split_parts one word None none small i
            at.0 (at.1 ∙ e),
        parts.1 i below,
      );
    }

pub cut_sooner : (one other : ℕ) (word : List ℕ) (name rest longer tail : Bor (List ℕ)) → one < 128 → other < 128
    → IsSplitOnceResult one word (Some (name, rest)) → IsSplitOnceResult other word (Some (longer, tail))
    → length name.now < length longer.now → IsCut one other word name.now one rest.now
cut_sooner one other word name rest longer tail small little is later shorter =
    let parts = split_parts one word (Some (name, rest)) is small in
    let others = split_parts other word (Some (longer, tail)) later little in
    record {
      whole = parts.0;
      is_sign = inl refl;
      first = λ i below.
          let within : i < length longer.now = omega arith in
          let at = in_front word name.now one rest.now i parts.0 below in
          let there = in_front word longer.now other tail.now i others.0 within in
          (parts.1 i below, λ e. others.1 i within (sym there.1 ∙ at.1 ∙ e));
    }

pub cut_later : (one other : ℕ) (word : List ℕ) (name rest longer tail : Bor (List ℕ)) → one < 128 → other < 128
    → IsSplitOnceResult one word (Some (name, rest)) → IsSplitOnceResult other word (Some (longer, tail))
    → length longer.now ≤ length name.now → IsCut one other word longer.now other tail.now
cut_later one other word name rest longer tail small little is sooner shorter =
    let parts = split_parts one word (Some (name, rest)) is small in
    let others = split_parts other word (Some (longer, tail)) sooner little in
    record {
      whole = others.0;
      is_sign = inr refl;
      first = λ i below.
          let within : i < length name.now = omega arith in
          let at = in_front word name.now one rest.now i parts.0 within in
          let there = in_front word longer.now other tail.now i others.0 below in
          (λ e. parts.1 i within (sym at.1 ∙ there.1 ∙ e), others.1 i below);
    }

-- a text has neither of two signs, by a test
abbrev pub has_neither : ℕ → ℕ → List ℕ → Bool
has_neither one other [] = true
has_neither one other (byte ∷ text) =
    cond (eqb byte one) false (cond (eqb byte other) false (has_neither one other text))

neither_first : (here there after : Bool) → cond here false (cond there false after) ≡ true
    → (here ≡ false) × (there ≡ false) ×
    (after ≡ true)
neither_first true there after e = absurd (false≢true e)
neither_first false true after e = absurd (false≢true e)
neither_first false false after e = (refl, refl, e)

differs : (byte sign : ℕ) → eqb byte sign ≡ false → byte ≡ sign → ⊥
differs byte sign unequal e = false≢true (sym unequal ∙ eq-eqb byte sign e)

pub neither : (one other : ℕ) (text : List ℕ) → has_neither one other text ≡ true → HasNeither one other text
neither one other [] e i below = absurd (omega arith)
neither one other (byte ∷ text) e zero below = let tests =
    neither_first (eqb byte one) (eqb byte other) (has_neither one other text) e in
    (differs byte one tests.0, differs byte other tests.1)
neither one other (byte ∷ text) e (suc i) below = neither one other text (neither_first (eqb byte one) (eqb byte other)
    (has_neither one other text) e).2 i (omega arith)

-- a word is cut once
pub record SameCut (name front : List ℕ) (sign mark : ℕ) (rest tail : List ℕ) : Type 0 where
  pub names : name ≡ front
  pub signs : sign ≡ mark
  pub rests : rest ≡ tail

tail_lacks : (one other byte : ℕ) (text : List ℕ) → HasNeither one other (byte ∷ text) → HasNeither one other text
tail_lacks one other byte text lacks i below = lacks (suc i) (omega arith)

no_first : (one other byte sign : ℕ) (text : List ℕ) → HasNeither one other (byte ∷ text) → (sign ≡ one)
    ⊎ (sign ≡ other) → sign ≡ byte → ⊥
no_first one other byte sign text lacks (inl is) same = (lacks 0 (omega arith)).0 (sym same ∙ is)
no_first one other byte sign text lacks (inr is) same = (lacks 0 (omega arith)).1 (sym same ∙ is)

pub same_cut : (one other : ℕ) (name front : List ℕ) (sign mark : ℕ) (rest tail : List ℕ) → HasNeither one other name
    → HasNeither one other front → (sign ≡ one) ⊎ (sign ≡ other) → (mark ≡ one) ⊎ (mark ≡ other)
    → name ++ sign ∷ rest ≡ front ++ mark ∷ tail → SameCut name front sign mark rest tail
same_cut one other [] [] sign mark rest tail lacks free is so same = record { names = refl; signs = cc; rests = cc }
same_cut one other [] (byte ∷ front) sign mark rest tail lacks free is so same = let first : sign ≡ byte = cc in absurd
    (no_first one other byte sign front free is first)
same_cut one other (byte ∷ name) [] sign mark rest tail lacks free is so same = let first : mark ≡ byte = cc in absurd
    (no_first one other byte mark name lacks so first)
same_cut one other (byte ∷ name) (letter ∷ front) sign mark rest tail lacks free is so same =
    let first : byte ≡ letter = cc in
    let after : name ++ sign ∷ rest ≡ front ++ mark ∷ tail = cc in
    let cut = same_cut one other name front sign mark rest tail (tail_lacks one other byte name lacks)
    (tail_lacks one other letter front free) is so after in
    let names : name ≡ front = cut.names in
    record { names = cc; signs = cut.signs; rests = cut.rests }
