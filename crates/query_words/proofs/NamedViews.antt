-- Words that name views one by one.
use Rattle.std.proofs.Common.{◌≡◌, ⊎_elim, inl, inr, ℕ, zero, suc, ◌+◌, ◌<◌, List, [], ◌∷◌, ◌++◌, length, map, take}
use Rattle.std.proofs.Common.{get_or, refl, sym, ◌∙◌, ap, subst, add-one, arith, Option, None, Some, Bor, Bool, IsTrue}
use Rattle.std.proofs.Common.{◌↔◌}
use Rattle.std.specs.List.{AllZip, Contains}
use Rattle.std.specs.Option.{MatchOption}
use Rattle.std.proofs.lemmas.List.{length-map, length-take-le, get_or-take, get_or-map, get_or_default}
use Rattle.std.proofs.lemmas.List.Quantifiers.{all_pairs_push}
use Rattle.lattice.specs.declared.view.View.{View}
use Rattle.lattice.specs.Names.{mode_name}
use Rattle.lattice.specs.Views.{index_of}
use Rattle.query_words.specs.ViewWords.{ViewsAreNamed, IsNumber, IsTwiceAt, NameLevels, Names, level_names, comma_parts}

zip_next : {A X : Type 0} (Spells : List ℕ → A → Type 0) (text : X → List ℕ) (parts : List X) (i : ℕ) (d : X)
    (value : A) (values : List A) → i < length parts → AllZip Spells (map text (take i parts)) values
    → Spells (text (get_or parts i d)) value → AllZip Spells (map text (take (suc i) parts)) (values ++ value ∷ [])
zip_next Spells text [] i d value values below all is = absurd (omega arith)
zip_next Spells text (first ∷ parts) zero d value [] below all is = (is, tt)
zip_next Spells text (first ∷ parts) zero d value (other ∷ values) below all is = absurd all
zip_next Spells text (first ∷ parts) (suc i) d value [] below all is = absurd all
zip_next Spells text (first ∷ parts) (suc i) d value (other ∷ values) below all is =
    (all.0, zip_next Spells text parts i d value values (omega arith) all.1 is)

-- one more value
pub zip_more : {A X : Type 0} (Spells : List ℕ → A → Type 0) (text : X → List ℕ) (parts : List X) (i : ℕ) (d : X)
    (value : A) (values : List A) → i < length parts → AllZip Spells (map text (take i parts)) values
    → Spells (text (get_or parts i d)) value → AllZip Spells (map text (take (i + 1) parts)) (values ++ value ∷ [])
zip_more Spells text parts i d value values below all is =
    rw (add-one) (zip_next Spells text parts i d value values below all is)

-- there are as many values as words
pub zip_length : {A B : Type 0} (R : A → B → Type 0) (words : List A) (values : List B) → AllZip R words values
    → length values ≡ length words
zip_length R [] [] all = refl
zip_length R [] (value ∷ values) all = absurd all
zip_length R (word ∷ words) [] all = absurd all
zip_length R (word ∷ words) (value ∷ values) all = ap suc (zip_length R words values all.1)

-- each value is spelled by the word at its place
pub zip_at : {A B : Type 0} (R : A → B → Type 0) (words : List A) (values : List B) (k : ℕ) (d : A) (e : B)
    → AllZip R words values → k < length values → R (get_or words k d) (get_or values k e)
zip_at R [] [] k d e all below = absurd (omega arith)
zip_at R [] (value ∷ values) k d e all below = absurd all
zip_at R (word ∷ words) [] k d e all below = absurd all
zip_at R (word ∷ words) (value ∷ values) zero d e all below = all.0
zip_at R (word ∷ words) (value ∷ values) (suc k) d e all below = zip_at R words values k d e all.1 (omega arith)

-- a word that is the number of no view names a view by its levels, or none
pub by_levels : (word : List ℕ) (found : Option View) → ((view : View) → IsNumber word (index_of view) → ⊥)
    → MatchOption found ((view : View) → NameLevels (comma_parts word) view → ⊥)
    (λ view. NameLevels (comma_parts word) view)
    → MatchOption found ((view : View) → Names word view → ⊥) (λ view. Names word view)
by_levels word None other none = λ view names. ⊎_elim (other view) (none view) names
by_levels word (Some view) other some = inr some

-- the texts of words
abbrev texts : List (Bor (List ℕ)) → List (List ℕ)
texts words = map (λ word. word.now) words

word_at : (words : List (Bor (List ℕ))) (k : ℕ) (d : Bor (List ℕ)) → k < length words
    → get_or (texts words) k [] ≡ (get_or words k d).now
word_at words k d below = get_or-map (λ (word : Bor (List ℕ)). word.now) words k d [] below

-- a view that is named again
pub named_twice : (words : List (Bor (List ℕ))) (views : List View) (place : ℕ) (view : View) (d : Bor (List ℕ))
    → place < length words → AllZip Names (texts (take place words)) views → Contains views view
    → Names (get_or words place d).now view → IsTwiceAt (texts words) place
named_twice words views place view d below all among names =
    let many : length views ≡ place = zip_length Names (texts (take place words)) views all
    ∙ length-map (take place words) (λ (word : Bor (List ℕ)). word.now)
    ∙ length-take-le place words (omega arith) in
    let k : ℕ = among.0 in
    let low : k < place = subst (λ n. k < n) many among.1 in
    let at : get_or (texts (take place words)) k [] ≡ get_or (texts words) k [] =
    word_at (take place words) k d (subst (λ n. k < n) (sym (length-take-le place words (omega arith))) low)
    ∙ ap (λ (word : Bor (List ℕ)). word.now) (get_or-take place words k d low)
    ∙ sym (word_at words k d (omega arith)) in
    record {
      within = subst (λ n. place < n) (sym (length-map words (λ (word : Bor (List ℕ)). word.now))) below;
      before = k;
      order = low;
      view = view;
      named = subst (λ (word : List ℕ). Names word view) (sym (word_at words place d below)) names;
      earlier = subst (λ (word : List ℕ). Names word view) at
          (subst (λ (one : View). Names (get_or (texts (take place words)) k []) one) among.2
          (zip_at Names (texts (take place words)) views k [] view all among.1));
    }

-- one more view, which is none of those before
pub named_more : (words : List (Bor (List ℕ))) (views : List View) (place : ℕ) (view : View) (d : Bor (List ℕ))
    → place < length words → ViewsAreNamed (texts (take place words)) views → (Contains views view → ⊥)
    → Names (get_or words place d).now view → ViewsAreNamed (texts (take (place + 1) words)) (views ++ view ∷ [])
named_more words views place view d below before new names = record {
  named = zip_more Names (λ (word : Bor (List ℕ)). word.now) words place d view views below before.named names;
  distinct = all_pairs_push (λ one other. one ≡ other → ⊥) views view before.distinct
      (λ k e lt same. new (k, lt, get_or_default views k view e lt ∙ same));
}

five_texts : (parts : List (Bor (List ℕ))) (d : Bor (List ℕ)) → length parts ≡ 5
    → texts parts ≡ (get_or parts 0 d).now ∷ (get_or parts 1 d).now ∷ (get_or parts 2 d).now ∷ (get_or parts 3 d).now
    ∷ (get_or parts 4 d).now ∷ []
five_texts (p ∷ q ∷ r ∷ s ∷ t ∷ []) d len = refl
five_texts [] d len = absurd (omega arith)
five_texts (p ∷ []) d len = absurd (omega arith)
five_texts (p ∷ q ∷ []) d len = absurd (omega arith)
five_texts (p ∷ q ∷ r ∷ []) d len = absurd (omega arith)
five_texts (p ∷ q ∷ r ∷ s ∷ []) d len = absurd (omega arith)
five_texts (p ∷ q ∷ r ∷ s ∷ t ∷ u ∷ more) d len = absurd (omega arith)

-- five words, of which the last is that of ship mode, name the levels of a view exactly where the first four do
pub five_decide : (parts : List (Bor (List ℕ))) (view : View) (r : Bool) (d : Bor (List ℕ)) → length parts ≡ 5
    → (get_or parts 4 d).now ≡ mode_name view.ship_mode → IsTrue r
    ↔ ((get_or parts 0 d).now ∷ (get_or parts 1 d).now ∷ (get_or parts 2 d).now ∷ (get_or parts 3 d).now ∷ []
    ≡ level_names view) → IsTrue r ↔ NameLevels (texts parts) view
five_decide parts view r d len mode four =
    let all = five_texts parts d len in (
      λ yes. let same = four.0 yes in inl (all ∙ cc),
      λ named. ⊎_elim (λ five. let whole = sym all ∙ five in four.1 (cc))
          (λ less. absurd (omega (arith, ap length (sym all ∙ less.1)))) named,
    )
