-- Texts that readers have left, one after the other.
use Rattle.std.proofs.Common.{◌≡◌, ◌∙◌, sym, ap, refl, subst, ℕ, ◌<◌, Option, Some, List, [], ◌∷◌, map, length, get_or}
use Rattle.std.proofs.Common.{arith}
use Rattle.std.specs.List.{remove}
use Rattle.report_merge.specs.declared.refused.Refused.{Refused}
use Rattle.report_merge.specs.declared.refused.Refused.TheVariants.{Memory}
use Rattle.report_merge.specs.Lawful.{PartialReportsAreOfOnePart}
use Rattle.report_merge.specs.Mergeable.{CanAdd, CanMerge, IsOutside}
use Rattle.report_merge.proofs.Refusing.{add_whole}
use Rattle.report_merge.specs.Merging.{AddsPart, IsMerged, IsPartialReport, MergesTexts, Part}

module _ {R : Type 0} (left : R → Option (List ℕ)) where
  first_text : (reader : R) (readers : List R) (text : List ℕ) (texts : List (List ℕ))
      → map left (reader ∷ readers) ≡ map Some (text ∷ texts) → left reader ≡ Some text
  first_text reader readers text texts e = cc

  other_texts : (reader : R) (readers : List R) (text : List ℕ) (texts : List (List ℕ))
      → map left (reader ∷ readers) ≡ map Some (text ∷ texts)
      → map left readers ≡ map Some texts
  other_texts reader readers text texts e = cc

  -- of no reader nothing is merged in
  pub no_more : (start : Part) (readers : List R) (texts : List (List ℕ)) → length readers ≡ 0
      → map left readers ≡ map Some texts → MergesTexts start texts start
  no_more start [] [] none e = refl
  no_more start [] (text ∷ texts) none e = absurd (cc)
  no_more start (reader ∷ readers) texts none e = absurd (omega (arith, none))

  -- the text of the first reader, and then those of the others
  pub first_more : (start next whole : Part) (readers rest : List R) (first : R) (texts : List (List ℕ))
      → 0 < length readers → first ≡ get_or readers 0 first
      → rest ≡ remove readers 0 → ((text : List ℕ) → left first ≡ Some text → AddsPart start text next)
      → ((others : List (List ℕ)) → map left rest ≡ map Some others → MergesTexts next others whole)
      → map left readers ≡ map Some texts → MergesTexts start texts whole
  first_more start next whole [] rest first texts some is rest_is adds merges e = absurd (omega (arith, some))
  first_more start next whole (reader ∷ readers) rest first [] some is rest_is adds merges e = absurd (cc)
  first_more start next whole (reader ∷ readers) rest first (text ∷ texts) some is rest_is adds merges e = (
    next,
    adds text (ap left is ∙ first_text reader readers text texts e),
    merges texts (ap (map left) rest_is ∙ other_texts reader readers text texts e),
  )

  pub all_merged : (start whole : Part) (readers rest : List R) (first : R) (texts : List (List ℕ)) → 0 < length readers
      → first ≡ get_or readers 0 first
      → rest ≡ remove readers 0 → ((text : List ℕ) → left first ≡ Some text → IsPartialReport text start)
      → ((others : List (List ℕ)) → map left rest ≡ map Some others → MergesTexts start others whole)
      → map left readers ≡ map Some texts → IsMerged texts whole
  all_merged start whole [] rest first texts some is rest_is report merges e = absurd (omega (arith, some))
  all_merged start whole (reader ∷ readers) rest first [] some is rest_is report merges e = absurd (cc)
  all_merged start whole (reader ∷ readers) rest first (text ∷ texts) some is rest_is report merges e = (
    start,
    report text (ap left is ∙ first_text reader readers text texts e),
    merges texts (ap (map left) rest_is ∙ other_texts reader readers text texts e),
  )

  -- the text of the first reader, and those of the others
  pub record IsSplit (first : R) (rest : List R) (texts : List (List ℕ)) : Type 0 where
    pub text : List ℕ
    pub others : List (List ℕ)
    pub are : texts ≡ text ∷ others
    pub one : left first ≡ Some text
    pub more : map left rest ≡ map Some others

  pub split : (readers rest : List R) (first : R) (texts : List (List ℕ)) → 0 < length readers
      → first ≡ get_or readers 0 first → rest ≡ remove readers 0
      → map left readers ≡ map Some texts → IsSplit first rest texts
  split [] rest first texts some is rest_is e = absurd (omega (arith, some))
  split (reader ∷ readers) rest first [] some is rest_is e = absurd (cc)
  split (reader ∷ readers) rest first (text ∷ texts) some is rest_is e = record {
    text = text;
    others = texts;
    are = refl;
    one = ap left is ∙ first_text reader readers text texts e;
    more = ap (map left) rest_is ∙ other_texts reader readers text texts e;
  }

  -- no reader has no text
  pub no_texts : (readers : List R) (texts : List (List ℕ)) → length readers ≡ 0 → map left readers ≡ map Some texts
      → CanMerge texts → ⊥
  no_texts [] [] none e can = can
  no_texts [] (text ∷ texts) none e can = cc
  no_texts (reader ∷ readers) texts none e can = absurd (omega (arith, none))

-- the first text can be merged, and then the others
pub can_first : PartialReportsAreOfOnePart → (text : List ℕ) (others texts : List (List ℕ)) (merge : Part)
    → texts ≡ text ∷ others → CanMerge texts → IsPartialReport text merge
    → CanAdd merge others
can_first one text others texts merge are can report =
    let all : CanMerge (text ∷ others) = subst CanMerge are can in
    subst (λ (part : Part). CanAdd part others) (one text all.0 merge all.1 report) all.2

pub can_next : PartialReportsAreOfOnePart → (text : List ℕ) (others texts : List (List ℕ)) (start next : Part)
    → texts ≡ text ∷ others → CanAdd start texts → AddsPart start text next
    → CanAdd next others
can_next one text others texts start next are can adds =
    let all : CanAdd start (text ∷ others) = subst (CanAdd start) are can in
    all.4 next (add_whole one start all.0 next text adds all.1)

-- what is refused for memory is from outside
pub outside : (refused : Refused) → refused ≡ Memory → IsOutside refused
outside refused e = subst IsOutside (sym e) tt
