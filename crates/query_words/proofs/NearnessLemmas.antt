-- The least number of edits over the first of some names.
use Rattle.std.proofs.Common.{◌≡◌, refl, sym, ap, subst, ◌∙◌, ◌⊎◌, inl, inr, ℕ, ◌+◌, ◌≤◌, ◌<◌, ◌/◌, List, length, map}
use Rattle.std.proofs.Common.{Bor, Option, None, Some, slice_index_or, arith}
use Rattle.std.specs.Prelude.{Contains, MatchOption}
use Rattle.std.proofs.lemmas.List.{get_or_default, get_or-map, length-map}
use Rattle.std.proofs.lemmas.List.Elements.{All-map}
use Rattle.std.proofs.lemmas.Bool.{cases_lt}
use Rattle.query_words.specs.Near.{edits, most_edits, AreFar, IsNearest}

-- a name reached with so many edits
pub record IsReached (word : List ℕ) (names : List (Bor (List ℕ))) (least : ℕ) (name : Bor (List ℕ)) : Type 0 where
  pub is_one : Contains names name
  pub same : edits word name.now ≡ least
  pub near : least ≤ most_edits word

-- the least number of edits over so many names, and a name that is reached with it
pub record IsLeast (word : List ℕ) (names : List (Bor (List ℕ))) (count least : ℕ)
    (found : Option (Bor (List ℕ))) : Type 0 where
  pub bounded : least ≤ most_edits word + 1
  pub all : (k : ℕ) (d : Bor (List ℕ)) → k < count → least ≤ edits word (slice_index_or names k d).now
  pub which : MatchOption found (least ≡ most_edits word + 1) (IsReached word names least)

-- one more name that is no nearer
pub keeps : (word : List ℕ) (names : List (Bor (List ℕ))) (count least : ℕ) (found : Option (Bor (List ℕ)))
    (e : Bor (List ℕ)) → count < length names → least ≤ edits word (slice_index_or names count e).now
    → IsLeast word names count least found → IsLeast word names (count + 1) least found
keeps word names count least found e within no_nearer before = record {
  bounded = before.bounded;
  all = λ k d below. elim (cases_lt k count) as (λ _. least ≤ edits word (slice_index_or names k d).now) [
    | inl earlier ↦ before.all k d earlier
    | inr later ↦
        let same : k ≡ count = omega arith in
        let this : slice_index_or names count e ≡ slice_index_or names k d = get_or_default names count e d within
        ∙ ap (λ (i : ℕ). slice_index_or names i d) (sym same) in
        subst (λ (name : Bor (List ℕ)). least ≤ edits word name.now) this no_nearer
  ];
  which = before.which;
}

-- one more name that is nearer
pub takes : (word : List ℕ) (names : List (Bor (List ℕ))) (count least : ℕ) (found : Option (Bor (List ℕ)))
    (e : Bor (List ℕ)) → count < length names → edits word (slice_index_or names count e).now < least
    → IsLeast word names count least found
    → IsLeast word names (count + 1) (edits word (slice_index_or names count e).now)
    (Some (slice_index_or names count e))
takes word names count least found e within nearer before =
    let this : (d : Bor (List ℕ)) → slice_index_or names count e ≡ slice_index_or names count d =
    λ d. get_or_default names count e d within in
    let bounded : least ≤ most_edits word + 1 = before.bounded in
    record {
      bounded = omega arith;
      all = λ k d below. elim (cases_lt k count) as
          (λ _. edits word (slice_index_or names count e).now ≤ edits word (slice_index_or names k d).now) [
            | inl earlier ↦ let far : least ≤ edits word (slice_index_or names k d).now = before.all k d earlier in
                omega arith
            | inr later ↦
                let same : k ≡ count = omega arith in
                let equal : edits word (slice_index_or names count e).now ≡ edits word (slice_index_or names k d).now =
                ap (λ (name : Bor (List ℕ)). edits word name.now)
                (this d ∙ ap (λ (i : ℕ). slice_index_or names i d) (sym same)) in
                omega arith
          ];
      which = record {
        is_one = (count, within, sym (this (slice_index_or names count e)));
        same = refl;
        near = omega arith;
      };
    }

-- a name is one of their texts
its_text : (names : List (Bor (List ℕ))) (name : Bor (List ℕ)) → Contains names name
    → Contains (map (λ name. name.now) names) name.now
its_text names name (k, below, is) =
    let long : length (map (λ (name : Bor (List ℕ)). name.now) names) ≡ length names =
    length-map names (λ (name : Bor (List ℕ)). name.now) in (
      k,
      omega arith,
      get_or-map (λ (name : Bor (List ℕ)). name.now) names k name name.now below
          ∙ ap (λ (name : Bor (List ℕ)). name.now) is,
    )

-- over all names it is the nearest one, or none is near
pub ends : (word : List ℕ) (names : List (Bor (List ℕ))) (count least : ℕ) (found : Option (Bor (List ℕ)))
    → length names ≤ count → IsLeast word names count least found
    → MatchOption found (AreFar word (map (λ name. name.now) names))
    (λ name. IsNearest word (map (λ name. name.now) names) name.now)
ends word names count least None over found =
    All-map (λ (name : List ℕ). most_edits word < edits word name) (λ (name : Bor (List ℕ)). name.now) names
    (λ k d below. let far : least ≤ edits word (slice_index_or names k d).now = found.all k d (omega arith) in
    let is : least ≡ most_edits word + 1 = found.which in omega arith)
ends word names count least (Some name) over found =
    let same : edits word name.now ≡ least = found.which.same in
    let near : least ≤ most_edits word = found.which.near in
    record {
      is_one = its_text names name found.which.is_one;
      near = omega arith;
      least = All-map (λ (other : List ℕ). edits word name.now ≤ edits word other) (λ (name : Bor (List ℕ)). name.now)
          names (λ k d below. let far : least ≤ edits word (slice_index_or names k d).now =
          found.all k d (omega arith) in omega arith);
    }

-- before the first name the bound itself is the least
pub begins : (word : List ℕ) (names : List (Bor (List ℕ))) (least : ℕ) → least ≡ length word / 3 + 2
    → IsLeast word names 0 least None
begins word names least is =
    let most : most_edits word ≡ length word / 3 + 1 = refl in
    record { bounded = omega arith; all = λ k d below. absurd (omega arith); which = omega arith }

-- one more name, by what its edits make of the least
pub steps : (word : List ℕ) (names : List (Bor (List ℕ))) (count least : ℕ) (found : Option (Bor (List ℕ)))
    (e : Bor (List ℕ)) (this : ℕ) → count < length names → this ≡ edits word (slice_index_or names count e).now
    → IsLeast word names count least found
    → (least' : ℕ) (found' : Option (Bor (List ℕ)))
    → ((this < least) × (least' ≡ this) × (found' ≡ Some (slice_index_or names count e)))
    ⊎ ((least ≤ this) × (least' ≡ least) × (found' ≡ found))
    → IsLeast word names (count + 1) least' found'
steps word names count least found e this within is before least' found' (inl (nearer, least_is, found_is)) =
    let closer : edits word (slice_index_or names count e).now < least = omega arith in
    let same : edits word (slice_index_or names count e).now ≡ least' = omega arith in
    subst (λ (n : ℕ). IsLeast word names (count + 1) n found') same
    (subst (λ (f : Option (Bor (List ℕ))). IsLeast word names (count + 1)
    (edits word (slice_index_or names count e).now) f) (sym found_is)
    (takes word names count least found e within closer before))
steps word names count least found e this within is before least' found' (inr (further, least_is, found_is)) =
    let no_closer : least ≤ edits word (slice_index_or names count e).now = omega arith in
    subst (λ (n : ℕ). IsLeast word names (count + 1) n found') (sym least_is)
    (subst (λ (f : Option (Bor (List ℕ))). IsLeast word names (count + 1) least f) (sym found_is)
    (keeps word names count least found e within no_closer before))
