-- What is read after the sign of a condition, and what is refused.
use Rattle.std.proofs.Common.{◌≡◌, ◌≢◌, ◌⊎◌, inl, inr, ℕ, ◌≤◌, Bor, List, length, map, Result, refl, sym}
use Rattle.std.proofs.Common.{ap, subst, ◌∙◌, arith}
use Rattle.std.proofs.lemmas.List.{length-map}
use Rattle.query_words.specs.declared.cube_parts.Condition.{Condition}
use Rattle.query_words.specs.declared.known.Column.{Column}
use Rattle.query_words.specs.declared.known.Column.TheVariants as columns
use Rattle.query_words.specs.declared.known.Known.TheVariants.{Attribute}
use Rattle.query_words.specs.declared.known.Subject.{Subject}
use Rattle.query_words.specs.declared.known.Subject.TheVariants as subjects
use Rattle.query_words.specs.declared.refused.Mistake.TheVariants.{NoSign, NoList, NotTwoEnds}
use Rattle.query_words.specs.declared.refused.Refused.{Refused}
use Rattle.query_words.specs.declared.refused.Refused.TheVariants.{Memory, Wrong}
use Rattle.query_words.specs.Cuts.{HasNeither, IsCut}
use Rattle.query_words.specs.Known.{IsName, subject_name}
use Rattle.query_words.specs.Mistakes.{IsConditionMistake, IsCountMistake, IsListMistake, IsRangeMistake}
use Rattle.query_words.specs.Reading.{Reads}
use Rattle.query_words.specs.Spelled.{SpellsAfter, SpellsFit, one_of}
use Rattle.query_words.specs.Words.{parts_by}
use Rattle.query_words.proofs.Cutting.{same_cut, uncut}
use Rattle.query_words.proofs.Ends.{no_number, no_texts, some_part, two_ends}
use Rattle.query_words.proofs.Refusals.{reads_as}
use Rattle.query_words.proofs.Shapes.{after_sign, before_sign, no_condition}

-- no name of what a condition can be on comes before the sign
pub no_sign : (word : Bor (List ℕ)) (name : List ℕ) (refused : Refused)
    → ((subject : Subject) → name ≡ subject_name subject → ⊥)
    → ((sign : ℕ) × (rest : List ℕ) × IsCut 61 58 word.now name sign rest) → refused ≡ Wrong word NoSign
    → IsConditionMistake word.now refused
no_sign word name refused none given is = subst (λ (r : Refused). IsConditionMistake word.now r) (sym is) (inl (
  refl,
  λ subject sign rest cut. none subject
      (same_cut 61 58 name (subject_name subject) given.0 sign given.1 rest given.2.first
      cut.first given.2.is_sign cut.is_sign (sym given.2.whole ∙ cut.whole)).names,
))

-- there is no sign
pub unsigned : (word : Bor (List ℕ)) (refused : Refused) → HasNeither 61 58 word.now → refused ≡ Wrong word NoSign
    → (refused ≡ Memory) ⊎
    (IsConditionMistake word.now refused × ((condition : Condition) → SpellsFit word.now condition → ⊥))
unsigned word refused plain is =
    subst (λ (r : Refused). (r ≡ Memory) ⊎ (IsConditionMistake word.now r × ((condition : Condition)
    → SpellsFit word.now condition → ⊥))) (sym is) (inr (
      inl (
        refl,
        λ subject sign rest cut. uncut 61 58 word.now (subject_name subject) sign rest cut.is_sign cut.whole
            plain,
      ),
      λ condition spelled. no_condition word.now condition plain spelled,
    ))

colon : (sign : ℕ) → (sign ≡ 61) ⊎ (sign ≡ 58) → sign ≢ 61 → sign ≡ 58
colon sign (inl is) unequal = absurd (unequal is)
colon sign (inr is) unequal = is

-- the cut of a word at a sign, after the name of what the condition is on
cut_at : (word name : List ℕ) (sign mark : ℕ) (members : List ℕ) (subject : Subject)
    → IsCut 61 58 word name sign members
    → name ≡ subject_name subject → sign ≡ mark → IsCut 61 58 word (subject_name subject) mark members
cut_at word name sign mark members subject cut named is =
    subst (λ (m : ℕ). IsCut 61 58 word (subject_name subject) m members) is (subst
    (λ (n : List ℕ). IsCut 61 58 word n sign members) named cut)

pub reads_range : (word name : List ℕ) (sign : ℕ) (members : List ℕ) (subject : Subject)
    (result : Result Condition Refused)
    → IsCut 61 58 word name sign members → name ≡ subject_name subject → sign ≢ 61
    → Reads (SpellsAfter subject 58 members)
    (IsRangeMistake word members) result → Reads (SpellsFit word) (IsConditionMistake word) result
reads_range word name sign members subject result cut named unequal read =
    let at = cut_at word name sign 58 members subject cut named (colon sign cut.is_sign unequal) in
    reads_as (SpellsAfter subject 58 members) (SpellsFit word) (IsRangeMistake word members) (IsConditionMistake word)
    result
    (λ condition after. before_sign word subject 58 members condition at after)
    (λ condition fit. after_sign word subject 58 members condition at fit)
    (λ refused means. inr (inr (subject, members, at, means)))
    read

pub reads_list : (word name : List ℕ) (sign : ℕ) (members : List ℕ) (subject : Subject)
    (result : Result Condition Refused)
    → IsCut 61 58 word name sign members → name ≡ subject_name subject → sign ≡ 61
    → Reads (SpellsAfter subject 61 members)
    (IsListMistake name members) result → Reads (SpellsFit word) (IsConditionMistake word) result
reads_list word name sign members subject result cut named is read =
    let at = cut_at word name sign 61 members subject cut named is in
    reads_as (SpellsAfter subject 61 members) (SpellsFit word) (IsListMistake name members) (IsConditionMistake word)
    result
    (λ condition after. before_sign word subject 61 members condition at after)
    (λ condition fit. after_sign word subject 61 members condition at fit)
    (λ refused means. inr
    (inl (subject, members, at, subst (λ (n : List ℕ). IsListMistake n members refused) named means)))
    read

-- texts after what can be no column
no_attribute : (subject : Subject) (name : List ℕ) → name ≡ subject_name subject
    → ((column : Column) → subject ≡ subjects.Member column → ⊥)
    → IsName Attribute name → ⊥
no_attribute (subjects.Member column) name named none t = none column refl
no_attribute subjects.Quantity name named none t = (no_number t.0).0 (sym t.1 ∙ named)
no_attribute subjects.Discount name named none t = (no_number t.0).1 (sym t.1 ∙ named)

pub no_list : (name : Bor (List ℕ)) (subject : Subject) (list : List ℕ) (refused : Refused)
    → name.now ≡ subject_name subject
    → ((column : Column) → subject ≡ subjects.Member column → ⊥) → refused ≡ Wrong name NoList → (refused ≡ Memory) ⊎
    (IsListMistake name.now list refused × ((condition : Condition) → SpellsAfter subject 61 list condition → ⊥))
no_list name subject list refused named none is =
    subst (λ (r : Refused). (r ≡ Memory) ⊎ (IsListMistake name.now list r ×
    ((condition : Condition) → SpellsAfter subject 61 list condition → ⊥))) (sym is) (inr (
      (refl, no_attribute subject name.now named none),
      λ condition after. no_texts subject list condition none after,
    ))

are_long : (copies : List (List ℕ)) (slice parts : List (Bor (List ℕ))) → copies ≡ map (λ text. text.now) slice
    → slice ≡ parts
    → length copies ≡ length parts
are_long copies slice parts are same = ap length are ∙ length-map slice (λ (text : Bor (List ℕ)). text.now)
    ∙ ap length same

-- texts of what can be a column
listed : (column : Column) (list : List ℕ) (copies : List (List ℕ)) → copies ≡ parts_by 124 list → 1 ≤ length copies
    → length copies ≤ 64 → SpellsAfter (subjects.Member column) 61 list (one_of column copies)
listed (columns.Attribute attr) list copies spelled some few =
    record { name_is = refl; sign_is = refl; spelled = spelled; fit = (some, few) }
listed columns.ShipMode list copies spelled some few =
    record { name_is = refl; sign_is = refl; spelled = spelled; fit = (some, few) }

pub lists : (subject : Subject) (column : Column) (list : List ℕ) (copies : List (List ℕ))
    (slice parts : List (Bor (List ℕ)))
    → subject ≡ subjects.Member column → copies ≡ map (λ text. text.now) slice → slice ≡ parts → map
    (λ part. part.now) parts ≡ parts_by 124 list → length parts ≤ 64
    → SpellsAfter subject 61 list (one_of column copies)
lists subject column list copies slice parts is are same texts few =
    let spelled : copies ≡ parts_by 124 list = are ∙ ap (λ (s : List (Bor (List ℕ))). map (λ text. text.now) s) same
    ∙ texts in
    let long : length copies ≡ length parts = are_long copies slice parts are same in
    let some : 1 ≤ length (parts_by 124 list) = some_part 124 list in
    let all : length copies ≡ length (parts_by 124 list) = ap length spelled in
    subst (λ (s : Subject). SpellsAfter s 61 list (one_of column copies)) (sym is)
    (listed column list copies spelled (omega arith) (omega arith))

-- a range with one end, or more than two
pub no_range : (word : List ℕ) (subject : Subject) (range : List ℕ) (refused : Refused)
    → length (parts_by 124 range) ≢ 2
    → IsCountMistake word range refused → (refused ≡ Memory) ⊎ (IsRangeMistake word range refused
    × ((condition : Condition) → SpellsAfter subject 58 range condition → ⊥))
no_range word subject range refused unequal means =
    inr (inl means, λ condition after. unequal (two_ends subject range condition after))

pub too_long : (word : Bor (List ℕ)) (range : List ℕ) (ends : ℕ) (refused : Refused)
    → ends ≡ length (parts_by 124 range) → ends ≢ 2
    → ends ≢ 1 → refused ≡ Wrong word NotTwoEnds → IsCountMistake word.now range refused
too_long word range ends refused are not_two not_one is =
    let some : 1 ≤ length (parts_by 124 range) = some_part 124 range in
    subst (λ (r : Refused). IsCountMistake word.now range r) (sym is) (refl, omega arith)
