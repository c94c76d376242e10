-- The limits of a query.
use Rattle.std.proofs.Common.{◌≡◌, inl, inr, ℕ, zero, suc, ◌+◌, ◌<◌, List, [], ◌∷◌, ◌++◌, length, map, take, drop}
use Rattle.std.proofs.Common.{get_or, Bool, refl, sym, ap, subst, ◌∙◌, arith, rules}
use Rattle.std.proofs.lemmas.Bool.{false≢true}
use Rattle.std.specs.Prelude.{Contains}
use Rattle.std.specs.Bool.{Decides}
use Rattle.std.specs.List.{IsAnyAnswer}
use Rattle.std.proofs.lemmas.List.{take-append-drop, take_more}
use Rattle.std.proofs.Math.Seq.{drop-cons}
use Rattle.std.proofs.lemmas.List.Elements.{Contains-append_cases, Contains-append_right, Decides-contains}
use Rattle.std.proofs.lemmas.List.Elements.{contains_decides}
use Rattle.cube_model.specs.contracts.attr.AttrPartialEq.TheImpl.{ghosts as attrs}
use Rattle.cube_model.specs.declared.attr.Attr.{Attr}
use Rattle.query_words.specs.contracts.known.ColumnPartialEq.TheImpl.{ghosts}
use Rattle.query_words.specs.declared.known.Column.{Column}
use Rattle.query_words.specs.declared.known.Column.TheVariants.{Attribute, ShipMode}
use Rattle.query_words.specs.Known.{column_name}
use Rattle.query_words.specs.Limits.{AreDistinct, OccursTwice}

-- whether columns are equal is decided by their comparison
same_column : (one other : Column) → Decides (ghosts.eq one other) (one ≡ other)
same_column (Attribute one) (Attribute other) =
    let same : Decides (attrs.eq one other) (one ≡ other) = search rules in (
      λ equal. ap (λ (attr : Attr). Attribute attr) (same.0 equal),
      λ equal. same.1 (cc),
    )
same_column (Attribute one) ShipMode = (λ equal. absurd (false≢true equal), λ equal. cc)
same_column ShipMode (Attribute other) = (λ equal. absurd (false≢true equal), λ equal. cc)
same_column ShipMode ShipMode = (λ equal. refl, λ equal. refl)

pub has_same : (columns : List Column) (column : Column) (found : Bool)
    → IsAnyAnswer (λ other t. ghosts.eq other column ≡ t) columns found → Decides found (Contains columns column)
has_same columns column found cases =
    Decides-contains columns column found (contains_decides ghosts.eq same_column columns column found cases)

lone : (column other : Column) → Contains (column ∷ []) other → column ≡ other
lone column other (zero, below, is) = is
lone column other (suc k, below, is) = absurd (omega arith)

pub here : {A : Type 0} (column : A) (columns : List A) → Contains (column ∷ columns) column
here column columns = (0, omega arith, refl)

pub further : {A : Type 0} (column other : A) (columns : List A) → Contains columns other
    → Contains (column ∷ columns) other
further column other columns (k, below, is) = (suc k, omega arith, is)

-- one more column that does not occur before
pub free_more : (columns : List Column) (column : Column) → AreDistinct columns → (Contains columns column → ⊥)
    → AreDistinct
    (columns ++ column ∷ [])
free_more [] column free new = (λ (k, below, is). absurd (omega arith), tt)
free_more (first ∷ columns) column free new = (
  λ again. elim (Contains-append_cases columns (column ∷ []) first again) as (λ _. ⊥) [
    | inl before ↦ free.0 before
    | inr last ↦ let same : column ≡ first = lone column first last in
        new (subst (λ (c : Column). Contains (first ∷ columns) c) (sym same)
        (here first columns))
  ],
  free_more columns column free.1 (λ before. new (further first column columns before)),
)

pub free_next : (columns : List Column) (place : ℕ) (d : Column) → place < length columns
    → AreDistinct (take place columns) → (Contains
    (take place columns) (get_or columns place d) → ⊥) → AreDistinct (take (place + 1) columns)
free_next columns place d below free new =
    subst AreDistinct (sym (take_more columns place d below)) (free_more (take place columns)
    (get_or columns place d) free new)

split_at : (columns : List Column) (place : ℕ) (d : Column) → place < length columns
    → columns ≡ take place columns ++ get_or columns place d ∷ drop (suc place) columns
split_at columns place d below = sym (take-append-drop place columns)
    ∙ ap (λ (rest : List Column). take place columns ++ rest)
    (drop-cons columns place d below)

-- a column at a place occurs before
pub occurs_twice : (columns : List Column) (place : ℕ) (d : Column) → place < length columns
    → Contains (take place columns) (get_or columns place d) → OccursTwice columns (get_or columns place d)
occurs_twice columns place d below again =
    (take place columns, drop (suc place) columns, split_at columns place d below, again)

-- columns of which one occurs twice are not free of repeats
not_free : (front : List Column) (column : Column) (rest : List Column) → Contains front column
    → AreDistinct (front ++ column ∷ rest) → ⊥
not_free [] column rest (k, below, is) free = absurd (omega arith)
not_free (first ∷ front) column rest (zero, below, is) free =
    free.0 (Contains-append_right front (column ∷ rest) first (subst (λ
    (c : Column). Contains (column ∷ rest) c) (sym is) (here column rest)))
not_free (first ∷ front) column rest (suc k, below, is) free = not_free front column rest (k, omega arith, is) free.1

pub twice_not_free : (columns : List Column) (column : Column) → OccursTwice columns column → AreDistinct columns → ⊥
twice_not_free columns column (front, rest, whole, again) free =
    not_free front column rest again (subst AreDistinct whole free)

-- and so do their names
map_seam : (front : List Column) (column : Column) (rest : List Column)
    → map column_name (front ++ column ∷ rest) ≡ map column_name front ++
    column_name column ∷ map column_name rest
map_seam [] column rest = refl
map_seam (first ∷ front) column rest = let after = map_seam front column rest in cc

its_name : (columns : List Column) (column : Column) → Contains columns column
    → Contains (map column_name columns) (column_name column)
its_name [] column (k, below, is) = absurd (omega arith)
its_name (first ∷ columns) column (zero, below, is) = (0, omega arith, ap column_name is)
its_name (first ∷ columns) column (suc k, below, is) = let inner = its_name columns column (k, omega arith, is) in (
  suc inner.0,
  omega
      (arith, inner.1),
  inner.2,
)

pub names_twice : (columns : List Column) (column : Column) → OccursTwice columns column
    → OccursTwice (map column_name columns)
    (column_name column)
names_twice columns column (front, rest, whole, again) = (
  map column_name front,
  map column_name rest,
  ap
      (map column_name) whole ∙ map_seam front column rest,
  its_name front column again,
)
