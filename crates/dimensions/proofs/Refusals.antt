-- The causes of a row, by the tests of the rules, and the same causes of rows of another type.
use Rattle.std.proofs.Common.{◌≡◌, ◌+◌, ◌∙◌, sym, ap, refl, not, Bool, true, false, ◌||◌, ◌&&◌, nat_lt, ◌==◌, List, []}
use Rattle.std.proofs.Common.{◌∷◌, ◌++◌, map, length, Some, None, codes}
use Rattle.std.specs.Str.{bytes_eq}
use Rattle.std.specs.List.{list_any}
use Rattle.std.proofs.lemmas.List.{map-append, length-map}
use Rattle.cube_model.specs.declared.fault.Fault.TheVariants.{DuplicateKey, ReservedMember, TooManyMembers}
use Rattle.cube_model.specs.declared.fault.Fault.TheVariants.{HierarchyBroken, TooManyRows}
use Rattle.cube_model.specs.declared.fault.MemberPlace.TheVariants.{InDimension}
use Rattle.cube_model.specs.Causes.{first_cause, cause_if}
use Rattle.cube_model.specs.Validity.{members_of, Rules, repeats_key, names_all, overflows, breaks_link, row_cause}
use Rattle.cube_model.specs.Validity.{rows_cause, dimension_cause}

module _ {Row : Type 0} (rules_of : Rules Row) (earlier : List Row) (row : Row) where
  pub no_cause : repeats_key rules_of earlier row ≡ false → names_all rules_of row ≡ false
      → overflows rules_of earlier row ≡ false → breaks_link rules_of earlier row ≡ false
      → row_cause rules_of earlier row ≡ None
  no_cause a b c d = λ i. first_cause (
      cause_if (a i) (DuplicateKey rules_of.axis (length earlier + 1))
      ∷ cause_if (b i) (ReservedMember (InDimension rules_of.axis (length earlier + 1)))
      ∷ cause_if (c i) (TooManyMembers (InDimension rules_of.axis (length earlier + 1)))
      ∷ cause_if (d i) (HierarchyBroken rules_of.axis (length earlier + 1)) ∷ [])

  pub cause_repeats : repeats_key rules_of earlier row ≡ true
      → row_cause rules_of earlier row ≡ Some (DuplicateKey rules_of.axis (length earlier + 1))
  cause_repeats a = λ i. first_cause (
      cause_if (a i) (DuplicateKey rules_of.axis (length earlier + 1))
      ∷ cause_if (names_all rules_of row) (ReservedMember (InDimension rules_of.axis (length earlier + 1)))
      ∷ cause_if (overflows rules_of earlier row) (TooManyMembers (InDimension rules_of.axis (length earlier + 1)))
      ∷ cause_if (breaks_link rules_of earlier row) (HierarchyBroken rules_of.axis (length earlier + 1)) ∷ [])

  pub cause_names : repeats_key rules_of earlier row ≡ false → names_all rules_of row ≡ true
      → row_cause rules_of earlier row ≡ Some (ReservedMember (InDimension rules_of.axis (length earlier + 1)))
  cause_names a b = λ i. first_cause (
      cause_if (a i) (DuplicateKey rules_of.axis (length earlier + 1))
      ∷ cause_if (b i) (ReservedMember (InDimension rules_of.axis (length earlier + 1)))
      ∷ cause_if (overflows rules_of earlier row) (TooManyMembers (InDimension rules_of.axis (length earlier + 1)))
      ∷ cause_if (breaks_link rules_of earlier row) (HierarchyBroken rules_of.axis (length earlier + 1)) ∷ [])

  pub cause_overflows : repeats_key rules_of earlier row ≡ false → names_all rules_of row ≡ false
      → overflows rules_of earlier row ≡ true
      → row_cause rules_of earlier row ≡ Some (TooManyMembers (InDimension rules_of.axis (length earlier + 1)))
  cause_overflows a b c = λ i. first_cause (
      cause_if (a i) (DuplicateKey rules_of.axis (length earlier + 1))
      ∷ cause_if (b i) (ReservedMember (InDimension rules_of.axis (length earlier + 1)))
      ∷ cause_if (c i) (TooManyMembers (InDimension rules_of.axis (length earlier + 1)))
      ∷ cause_if (breaks_link rules_of earlier row) (HierarchyBroken rules_of.axis (length earlier + 1)) ∷ [])

  pub cause_breaks : repeats_key rules_of earlier row ≡ false → names_all rules_of row ≡ false
      → overflows rules_of earlier row ≡ false → breaks_link rules_of earlier row ≡ true
      → row_cause rules_of earlier row ≡ Some (HierarchyBroken rules_of.axis (length earlier + 1))
  cause_breaks a b c d = λ i. first_cause (
      cause_if (a i) (DuplicateKey rules_of.axis (length earlier + 1))
      ∷ cause_if (b i) (ReservedMember (InDimension rules_of.axis (length earlier + 1)))
      ∷ cause_if (c i) (TooManyMembers (InDimension rules_of.axis (length earlier + 1)))
      ∷ cause_if (d i) (HierarchyBroken rules_of.axis (length earlier + 1)) ∷ [])

list_any-map : {A B : Type 0} (p : B → Bool) (f : A → B) (xs : List A)
    → list_any p (map f xs) ≡ list_any (λ x. p (f x)) xs
list_any-map p f [] = refl
list_any-map p f (x ∷ xs) = ap (λ b. p (f x) || b) (list_any-map p f xs)

list_any-same : {A : Type 0} (p q : A → Bool) (xs : List A) → ((x : A) → p x ≡ q x) → list_any p xs ≡ list_any q xs
list_any-same p q [] same = refl
list_any-same p q (x ∷ xs) same = λ i. same x i || list_any-same p q xs same i

map-map : {A B C : Type 0} (g : B → C) (f : A → B) (xs : List A) → map g (map f xs) ≡ map (λ x. g (f x)) xs
map-map g f [] = refl
map-map g f (x ∷ xs) = ap (λ l. g (f x) ∷ l) (map-map g f xs)

-- the rules of rows seen through a function
abbrev pub rules_through : {A B : Type 0} → Rules B → (A → B) → Rules A
rules_through to f = record {
  axis = to.axis;
  row_limit = to.row_limit;
  key = λ a. to.key (f a);
  texts = map (λ text a. text (f a)) to.texts;
  links = map (λ link. ((λ a. link.0 (f a)), (λ a. link.1 (f a)))) to.links;
}

module _ {A B : Type 0} (to : Rules B) (f : A → B) where
  repeats-through : (earlier : List A) (row : A)
      → repeats_key (rules_through to f) earlier row ≡ repeats_key to (map f earlier) (f row)
  repeats-through earlier row = sym (list_any-map (λ other. to.key other == to.key (f row)) f earlier)

  names-through : (row : A) → names_all (rules_through to f) row ≡ names_all to (f row)
  names-through row = list_any-map (λ text. bytes_eq (codes "ALL") (text row)) (λ text a. text (f a)) to.texts

  overflows-through : (earlier : List A) (row : A)
      → overflows (rules_through to f) earlier row ≡ overflows to (map f earlier) (f row)
  overflows-through earlier row =
      list_any-map (λ text. nat_lt 65535 (length (members_of (map text (earlier ++ row ∷ []))))) (λ text a. text (f a))
      to.texts
      ∙ list_any-same _ _ to.texts
      (λ text. ap (λ l. nat_lt 65535 (length (members_of l))) (sym (map-map text f (earlier ++ row ∷ []))
      ∙ ap (map text) (map-append f earlier (row ∷ []))))

  breaks-through : (earlier : List A) (row : A)
      → breaks_link (rules_through to f) earlier row ≡ breaks_link to (map f earlier) (f row)
  breaks-through earlier row =
      list_any-map
      (λ link. list_any
      (λ other. bytes_eq (link.0 other) (link.0 row) && not (bytes_eq (link.1 other) (link.1 row))) earlier)
      (λ link. ((λ a. link.0 (f a)), (λ a. link.1 (f a)))) to.links
      ∙ list_any-same _ _ to.links
      (λ link. sym
      (list_any-map
      (λ other. bytes_eq (link.0 other) (link.0 (f row)) && not (bytes_eq (link.1 other) (link.1 (f row)))) f
      earlier))

  row_cause-through : (earlier : List A) (row : A)
      → row_cause (rules_through to f) earlier row ≡ row_cause to (map f earlier) (f row)
  row_cause-through earlier row = λ i. first_cause (
      cause_if (repeats-through earlier row i) (DuplicateKey to.axis (sym (length-map earlier f) i + 1))
      ∷ cause_if (names-through row i) (ReservedMember (InDimension to.axis (sym (length-map earlier f) i + 1)))
      ∷ cause_if (overflows-through earlier row i)
      (TooManyMembers (InDimension to.axis (sym (length-map earlier f) i + 1)))
      ∷ cause_if (breaks-through earlier row i) (HierarchyBroken to.axis (sym (length-map earlier f) i + 1)) ∷ [])

  pub rows_cause-through : (earlier rows : List A)
      → rows_cause (rules_through to f) earlier rows ≡ rows_cause to (map f earlier) (map f rows)
  rows_cause-through earlier [] = refl
  rows_cause-through earlier (row ∷ rows) =
      (λ i. first_cause (row_cause-through earlier row i ∷ rows_cause-through (earlier ++ row ∷ []) rows i ∷ []))
      ∙ ap (λ l. first_cause (row_cause to (map f earlier) (f row) ∷ rows_cause to l (map f rows) ∷ []))
      (map-append f earlier (row ∷ []))

  pub dimension_cause-through : (rows : List A)
      → dimension_cause (rules_through to f) rows ≡ dimension_cause to (map f rows)
  dimension_cause-through rows =
      λ i. first_cause (cause_if (nat_lt to.row_limit (sym (length-map rows f) i)) TooManyRows
      ∷ rows_cause-through [] rows i ∷ [])
