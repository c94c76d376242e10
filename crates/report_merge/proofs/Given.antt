-- Words as they were given tell what they say, so that they spell one query.
use Rattle.std.proofs.Common.{◌≡◌, ◌∙◌, sym, ap, refl, subst, ℕ, Result, Ok, Err, IfOk, Bool, true, false, cond, Option}
use Rattle.std.proofs.Common.{Some, None, List, [], ◌∷◌, ◌++◌, map, append-nil}
use Rattle.cube_model.specs.declared.query.Query.{Query}
use Rattle.partial_reports.specs.declared.words.Word.{Word}
use Rattle.partial_reports.specs.declared.words.WordKind.{WordKind}
use Rattle.partial_reports.specs.declared.words.WordKind.TheVariants.{Q, Set, By, Agg, If}
use Rattle.partial_reports.specs.Head.{word_if_any, words_given}
use Rattle.mode_queries.specs.declared.query.ModeQuery.{ModeQuery}
use Rattle.mode_queries.specs.Lawful.{without_modes}
use Rattle.mode_queries.specs.Proper.{IsProperByModes}
use Rattle.query_words.specs.Laws.{SpellOneQuery}
use Rattle.query_words.specs.Words.{SpellsProper, SpellsQuery, Words}
use Rattle.report_merge.specs.Given.{AreUtf8}
use Rattle.report_merge.specs.Merging.{SpellsWords}

abbrev is_kind : WordKind → WordKind → Bool
is_kind Q Q = true
is_kind Set Set = true
is_kind By By = true
is_kind Agg Agg = true
is_kind If If = true
is_kind _ _ = false

-- the texts of the words of a kind
abbrev texts_of : WordKind → List Word → List (List ℕ)
texts_of kind [] = []
texts_of kind (word ∷ words) = cond (is_kind kind word.kind) (word.text ∷ texts_of kind words) (texts_of kind words)

abbrev listed : Option (List ℕ) → List (List ℕ)
listed None = []
listed (Some text) = text ∷ []

abbrev conditions_given : List (List ℕ) → List Word
conditions_given texts = map (λ text. record { kind = If; text = text }) texts

passed : (kind other : WordKind) (word : Option (List ℕ)) (rest : List Word) → is_kind kind other ≡ false
    → texts_of kind (word_if_any other word ++ rest) ≡ texts_of kind rest
passed kind other None rest e = refl
passed kind other (Some text) rest e = ap (λ b. cond b (text ∷ texts_of kind rest) (texts_of kind rest)) e

taken : (kind : WordKind) (word : Option (List ℕ)) (rest : List Word) → is_kind kind kind ≡ true
    → texts_of kind (word_if_any kind word ++ rest) ≡ listed word ++ texts_of kind rest
taken kind None rest e = refl
taken kind (Some text) rest e = ap (λ b. cond b (text ∷ texts_of kind rest) (texts_of kind rest)) e

no_condition : (kind : WordKind) (texts : List (List ℕ)) → is_kind kind If ≡ false
    → texts_of kind (conditions_given texts) ≡ []
no_condition kind [] e = refl
no_condition kind (text ∷ texts) e =
    ap (λ b. cond b (text ∷ texts_of kind (conditions_given texts)) (texts_of kind (conditions_given texts))) e
    ∙ no_condition kind texts e

all_conditions : (texts : List (List ℕ)) → texts_of If (conditions_given texts) ≡ texts
all_conditions [] = refl
all_conditions (text ∷ texts) = ap (λ rest. text ∷ rest) (all_conditions texts)

listed_alike : (one other : Option (List ℕ)) → listed one ≡ listed other → one ≡ other
listed_alike None None e = refl
listed_alike None (Some text) e = cc
listed_alike (Some text) None e = cc
listed_alike (Some text) (Some other) e = cc

module _ (words : Words) where
  abbrev if_given : List Word
  if_given = conditions_given words.conditions

  abbrev agg_given : List Word
  agg_given = word_if_any Agg words.agg ++ if_given

  abbrev by_given : List Word
  by_given = word_if_any By words.by ++ agg_given

  abbrev set_given : List Word
  set_given = word_if_any Set words.set ++ by_given

  abbrev given : List Word
  given = word_if_any Q words.q ++ set_given

  q_of : texts_of Q given ≡ listed words.q
  q_of =
      taken Q words.q set_given refl
      ∙ ap (λ rest. listed words.q ++ rest) (passed Q Set words.set by_given refl ∙ passed Q By words.by agg_given refl
      ∙ passed Q Agg words.agg if_given refl
      ∙ no_condition Q words.conditions refl)
      ∙ append-nil (listed words.q)

  set_of : texts_of Set given ≡ listed words.set
  set_of =
      passed Set Q words.q set_given refl ∙ taken Set words.set by_given refl
      ∙ ap (λ rest. listed words.set ++ rest)
      (passed Set By words.by agg_given refl ∙ passed Set Agg words.agg if_given refl
      ∙ no_condition Set words.conditions refl)
      ∙ append-nil (listed words.set)

  by_of : texts_of By given ≡ listed words.by
  by_of =
      passed By Q words.q set_given refl ∙ passed By Set words.set by_given refl ∙ taken By words.by agg_given refl
      ∙ ap (λ rest. listed words.by ++ rest)
      (passed By Agg words.agg if_given refl ∙ no_condition By words.conditions refl)
      ∙ append-nil (listed words.by)

  agg_of : texts_of Agg given ≡ listed words.agg
  agg_of =
      passed Agg Q words.q set_given refl ∙ passed Agg Set words.set by_given refl
      ∙ passed Agg By words.by agg_given refl ∙ taken Agg words.agg if_given refl
      ∙ ap (λ rest. listed words.agg ++ rest) (no_condition Agg words.conditions refl)
      ∙ append-nil (listed words.agg)

  if_of : texts_of If given ≡ words.conditions
  if_of =
      passed If Q words.q set_given refl ∙ passed If Set words.set by_given refl ∙ passed If By words.by agg_given refl
      ∙ passed If Agg words.agg if_given refl
      ∙ all_conditions words.conditions

-- words that were given alike are the same
pub same_words : (one other : Words) → words_given one.q one.set one.by one.agg one.conditions
    ≡ words_given other.q other.set other.by other.agg other.conditions
    → one ≡ other
same_words one other e =
    let q : one.q ≡ other.q = listed_alike one.q other.q (sym (q_of one) ∙ ap (texts_of Q) e ∙ q_of other) in
    let set : one.set ≡ other.set =
    listed_alike one.set other.set (sym (set_of one) ∙ ap (texts_of Set) e ∙ set_of other) in
    let by : one.by ≡ other.by = listed_alike one.by other.by (sym (by_of one) ∙ ap (texts_of By) e ∙ by_of other) in
    let agg : one.agg ≡ other.agg =
    listed_alike one.agg other.agg (sym (agg_of one) ∙ ap (texts_of Agg) e ∙ agg_of other) in
    let conditions : one.conditions ≡ other.conditions = sym (if_of one) ∙ ap (texts_of If) e ∙ if_of other in
    λ i. record { q = q i; set = set i; by = by i; agg = agg i; conditions = conditions i }

-- words that were given spell one query
pub one_query : SpellOneQuery → (list : List Word) (one other : Query) → SpellsWords list one → SpellsWords list other
    → one ≡ other
one_query law list one other first second =
    let same : first.words ≡ second.words = same_words first.words second.words (sym first.are ∙ second.are) in
    ap (λ (asked : ModeQuery). asked.query)
    (law first.words (without_modes one) (without_modes other) first.spelled
    (subst (λ words. SpellsQuery words (without_modes other)) (sym same) second.spelled))

pub spelled_by : (list : List Word) (words : Words) (other : Query)
    → list ≡ words_given words.q words.set words.by words.agg words.conditions
    → SpellsWords list other → SpellsQuery words (without_modes other)
spelled_by list words other are spells =
    subst (λ (w : Words). SpellsQuery w (without_modes other)) (same_words spells.words words (sym spells.are ∙ are))
    spells.spelled

-- what words spell, where it does not look at ship modes
pub spelled_if : {E : Type 0} (found : Result Query E) (list : List Word) (words : Words) (asked : ModeQuery)
    → list ≡ words_given words.q words.set words.by words.agg words.conditions → AreUtf8 list
    → SpellsProper words asked → IfOk found (λ query. asked ≡ without_modes query) → IfOk found (SpellsWords list)
spelled_if (Ok query) list words asked are utf8 spelled plain =
    let proper : IsProperByModes (without_modes query) = subst IsProperByModes plain spelled.1 in
    record {
      words = words;
      utf8 = utf8;
      are = are;
      spelled = subst (SpellsQuery words) plain spelled.0;
      asked = proper.without;
    }
spelled_if (Err refused) list words asked are utf8 spelled plain = tt
