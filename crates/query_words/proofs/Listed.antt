-- What the words of a list spell, one after the other.
use Rattle.std.proofs.Common.{◌≡◌, inl, inr, sym, subst, ◌∙◌, Result, Ok, Err, ℕ, zero, suc, ◌+◌, ◌<◌, List, [], ◌∷◌}
use Rattle.std.proofs.Common.{◌++◌, length, map, take, get_or, add-one, arith}
use Rattle.std.specs.List.{AllZip}
use Rattle.std.specs.Result.{IsErrAnd}
use Rattle.query_words.specs.declared.refused.Refused.{Refused}
use Rattle.query_words.specs.Mistakes.{IsMistakeAmong}
use Rattle.query_words.specs.Reading.{Reads}
use Rattle.query_words.proofs.Refusals.{has_text}

-- where no value has the name at a place, no values have the names
pub names_none : {A X : Type 0} (name : A → List ℕ) (text : X → List ℕ) (parts : List X) (i : ℕ) (d : X)
    → i < length parts → ((value : A)
    → text (get_or parts i d) ≡ name value → ⊥) → (values : List A) → map name values ≡ map text parts → ⊥
names_none name text [] i d below none values e = absurd (omega arith)
names_none name text (first ∷ parts) i d below none [] e = cc
names_none name text (first ∷ parts) zero d below none (value ∷ values) e = none value (cc)
names_none name text (first ∷ parts) (suc i) d below none (value ∷ values) e =
    names_none name text parts i d (omega arith) none values (cc)

-- where no value is spelled at a place, no values are spelled
pub zip_none : {A X : Type 0} (Spells : List ℕ → A → Type 0) (text : X → List ℕ) (parts : List X) (i : ℕ) (d : X)
    → i < length parts
    → ((value : A) → Spells (text (get_or parts i d)) value → ⊥) → (values : List A)
    → AllZip Spells (map text parts) values → ⊥
zip_none Spells text [] i d below none values all = absurd (omega arith)
zip_none Spells text (first ∷ parts) i d below none [] all = all
zip_none Spells text (first ∷ parts) zero d below none (value ∷ values) all = none value all.0
zip_none Spells text (first ∷ parts) (suc i) d below none (value ∷ values) all = zip_none Spells text parts i d
    (omega arith) none values all.1

zip_next : {A X : Type 0} (Spells : List ℕ → A → Type 0) (text : X → List ℕ) (parts : List X) (i : ℕ) (d : X)
    (value : A)
    (values : List A) → i < length parts → AllZip Spells (map text (take i parts)) values
    → Spells (text (get_or parts i d)) value
    → AllZip Spells (map text (take (suc i) parts)) (values ++ value ∷ [])
zip_next Spells text [] i d value values below all is = absurd (omega arith)
zip_next Spells text (first ∷ parts) zero d value [] below all is = (is, tt)
zip_next Spells text (first ∷ parts) zero d value (other ∷ values) below all is = absurd all
zip_next Spells text (first ∷ parts) (suc i) d value [] below all is = absurd all
zip_next Spells text (first ∷ parts) (suc i) d value (other ∷ values) below all is = (
  all.0,
  zip_next Spells text parts i d value values
      (omega arith) all.1 is,
)

-- one more value
pub zip_more : {A X : Type 0} (Spells : List ℕ → A → Type 0) (text : X → List ℕ) (parts : List X) (i : ℕ) (d : X)
    (value : A)
    (values : List A) → i < length parts → AllZip Spells (map text (take i parts)) values
    → Spells (text (get_or parts i d)) value
    → AllZip Spells (map text (take (i + 1) parts)) (values ++ value ∷ [])
zip_more Spells text parts i d value values below all is =
    rw (add-one) (zip_next Spells text parts i d value values below all is)

-- the first refusal is that of them all
pub zip_stops : {A X : Type 0} (Spells : List ℕ → A → Type 0) (IsMistake : List ℕ → Refused → Type 0)
    (text : X → List ℕ) (parts : List X)
    (i : ℕ) (d : X) (refused : Refused) (result : Result (List A) Refused) → i < length parts
    → IsErrAnd result (λ y. y ≡ refused) → Reads
    (Spells (text (get_or parts i d))) (IsMistake (text (get_or parts i d))) (Err refused)
    → Reads (AllZip Spells (map text parts))
    (IsMistakeAmong IsMistake (map text parts)) result
zip_stops Spells IsMistake text parts i d refused (Ok values) below stop read = absurd stop
zip_stops Spells IsMistake text parts i d refused (Err y) below stop (inl memory) = inl (stop ∙ memory)
zip_stops Spells IsMistake text parts i d refused (Err y) below stop (inr read) = inr (
  (
    text (get_or parts i d),
    has_text text parts i d below,
    subst (IsMistake (text (get_or parts i d))) (sym stop)
        read.0,
  ),
  zip_none Spells text parts i d below read.1,
)
