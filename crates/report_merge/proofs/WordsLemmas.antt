-- Words as they were given, taken one after the other.
use Rattle.std.proofs.Common.{◌≡◌, ◌≢◌, ◌∙◌, sym, ap, refl, subst, ℕ, Option, Some, None, List, [], ◌∷◌, ◌++◌, map}
use Rattle.std.specs.Str.{IsUtf8}
use Rattle.cube_model.specs.declared.query.Query.{Query}
use Rattle.partial_reports.specs.declared.words.Word.{Word}
use Rattle.partial_reports.specs.declared.words.WordKind.{WordKind}
use Rattle.partial_reports.specs.declared.words.WordKind.TheVariants.{Q, Set, By, Agg, If}
use Rattle.partial_reports.specs.Head.{word_if_any}
use Rattle.query_words.specs.Words.{Words}
use Rattle.report_merge.specs.Given.{AreConditions, AreUtf8, BeginsOtherwise, IsNextGiven}
use Rattle.report_merge.specs.Merging.{SpellsWords}

abbrev conditions_given : List (List ℕ) → List Word
conditions_given texts = map (λ text. record { kind = If; text = text }) texts

-- what is given after each kind of words
abbrev pub after_agg : Words → List Word
after_agg words = conditions_given words.conditions

abbrev pub after_by : Words → List Word
after_by words = word_if_any Agg words.agg ++ after_agg words

abbrev pub after_set : Words → List Word
after_set words = word_if_any By words.by ++ after_by words

abbrev pub after_q : Words → List Word
after_q words = word_if_any Set words.set ++ after_set words

begins : (kind other : WordKind) (text : Option (List ℕ)) (rest : List Word) → other ≢ kind → BeginsOtherwise kind rest
    → BeginsOtherwise kind (word_if_any other text ++ rest)
begins kind other None rest apart is = is
begins kind other (Some text) rest apart is = apart

begins_if : (kind : WordKind) (texts : List (List ℕ)) → If ≢ kind → BeginsOtherwise kind (conditions_given texts)
begins_if kind [] apart = tt
begins_if kind (text ∷ texts) apart = apart

left_utf8 : (kind : WordKind) (text : Option (List ℕ)) (rest : List Word) → AreUtf8 (word_if_any kind text ++ rest)
    → AreUtf8 rest
left_utf8 kind None rest all = all
left_utf8 kind (Some text) rest all = all.1

-- UTF-8 words, and those that are left of them
pub both_utf8 : (kind : WordKind) (text : Option (List ℕ)) (words rest : List Word)
    → words ≡ word_if_any kind text ++ rest → AreUtf8 words → AreUtf8 rest
both_utf8 kind text words rest are all = left_utf8 kind text rest (subst AreUtf8 are all)

module _ (given : List Word) (query : Query) (spells : SpellsWords given query) where
  abbrev words : Words
  words = spells.words

  pub next_q : IsNextGiven Q given words.q (after_q words)
  next_q = record {
    utf8 = spells.utf8;
    are = spells.are;
    apart =
        let no_if = begins_if Q words.conditions (λ e. cc) in
        let no_agg = begins Q Agg words.agg (after_agg words) (λ e. cc) no_if in
        let no_by = begins Q By words.by (after_by words) (λ e. cc) no_agg in
        begins Q Set words.set (after_set words) (λ e. cc) no_by;
  }

  pub next_set : (left : List Word) → left ≡ after_q words → IsNextGiven Set left words.set (after_set words)
  next_set left is = record {
    utf8 = subst AreUtf8 (sym is) (both_utf8 Q words.q given (after_q words) spells.are spells.utf8);
    are = is;
    apart = begins Set By words.by (after_by words) (λ e. cc)
        (begins Set Agg words.agg (after_agg words) (λ e. cc) (begins_if Set words.conditions (λ e. cc)));
  }

  pub next_by : (left : List Word) → left ≡ after_set words → IsNextGiven By left words.by (after_by words)
  next_by left is = record {
    utf8 = subst AreUtf8 (sym is)
        (both_utf8 Set words.set (after_q words) (after_set words) refl
        (both_utf8 Q words.q given (after_q words) spells.are spells.utf8));
    are = is;
    apart = begins By Agg words.agg (after_agg words) (λ e. cc) (begins_if By words.conditions (λ e. cc));
  }

  pub next_agg : (left : List Word) → left ≡ after_by words → IsNextGiven Agg left words.agg (after_agg words)
  next_agg left is = record {
    utf8 =
        let of_q = both_utf8 Q words.q given (after_q words) spells.are spells.utf8 in
        let of_set = both_utf8 Set words.set (after_q words) (after_set words) refl of_q in
        subst AreUtf8 (sym is) (both_utf8 By words.by (after_set words) (after_by words) refl of_set);
    are = is;
    apart = begins_if Agg words.conditions (λ e. cc);
  }

  conditions_utf8 : (texts : List (List ℕ)) → AreUtf8 (conditions_given texts) → AreConditions (conditions_given texts)
  conditions_utf8 [] all = tt
  conditions_utf8 (text ∷ texts) all = ((refl, all.0), conditions_utf8 texts all.1)

  pub last_given : (left : List Word) → left ≡ after_agg words → AreConditions left
  last_given left is =
      let of_q = both_utf8 Q words.q given (after_q words) spells.are spells.utf8 in
      let of_set = both_utf8 Set words.set (after_q words) (after_set words) refl of_q in
      let of_by = both_utf8 By words.by (after_set words) (after_by words) refl of_set in
      let of_agg = both_utf8 Agg words.agg (after_by words) (after_agg words) refl of_by in
      subst AreConditions (sym is) (conditions_utf8 words.conditions of_agg)

-- words that were taken are UTF-8, where those left of them are
pub first_utf8 : (kind : WordKind) (word : Word) (words : List Word) → IsUtf8 word.text → AreUtf8 words
    → AreUtf8 (word ∷ words)
first_utf8 kind word others one all = (one, all)

-- a word of a kind is taken
pub taken_one : (kind : WordKind) (word : Word) (left : List Word) (text : Option (List ℕ)) (others : List Word)
    → word.kind ≡ kind → IsNextGiven kind (word ∷ left) text others
    → (Some word.text ≡ text) × (left ≡ others)
taken_one kind word left text others is next = by text next.are
  where
    by : (text : Option (List ℕ)) → word ∷ left ≡ word_if_any kind text ++ others → (Some word.text ≡ text)
        × (left ≡ others)
    by None are = absurd (apart others are next.apart)
      where
        apart : (others : List Word) → word ∷ left ≡ others → BeginsOtherwise kind others → ⊥
        apart [] e begin = cc
        apart (other ∷ rest) e begin = let same : word ≡ other = cc in begin (ap (λ (w : Word). w.kind) (sym same) ∙ is)
    by (Some own) are =
        let one : word ≡ record { kind = kind; text = own } = cc in
        let rest : left ≡ others = cc in
        (ap (λ (w : Word). Some w.text) one, rest)

-- none is
pub taken_none : (kind : WordKind) (words : List Word) (text : Option (List ℕ)) (others : List Word)
    → BeginsOtherwise kind words → IsNextGiven kind words text others
    → (None ≡ text) × (words ≡ others)
taken_none kind words text others begin next = by text next.are
  where
    by : (text : Option (List ℕ)) → words ≡ word_if_any kind text ++ others → (None ≡ text) × (words ≡ others)
    by None are = (refl, are)
    by (Some own) are = absurd ((subst (BeginsOtherwise kind) are begin) refl)

-- the first word of those that are UTF-8 is so
pub first_is_utf8 : (word : Word) (words : List Word) → AreUtf8 (word ∷ words) → IsUtf8 word.text
first_is_utf8 word others all = all.0
