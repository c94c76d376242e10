-- Lemmas of `fields`, by subject.
use Rattle.std.proofs.Common.{◌≡◌, ℕ, List, Option, None, Some, option_map, ◌<◌, length, map, min, get_or, ap, arith}
use Rattle.std.proofs.Common.{◌∙◌}
use Rattle.std.specs.Prelude.{IfNone, IfSome}
use Rattle.cube_model.specs.declared.answer.Member.{Member}
use Rattle.cube_model.specs.declared.answer.Member.TheVariants.{All, Text}
use Rattle.mode_queries.specs.Joining.{member_of}
use Rattle.std.proofs.lemmas.List.{get_or-map, length-map}
use Rattle.std.proofs.lemmas.Slice.Zip.{get_or-zip, length-zip}
use Rattle.std.specs.List.{zip}

-- ==== The member that was found in a column.

pub member_found : {R : Type 0} (now : R → List ℕ) (found : Option R) (member : Member)
    → IfSome found (λ text. member ≡ Text (now text))
    → IfNone found (member ≡ All) → member ≡ member_of (option_map now found)
member_found now None member text all = all
member_found now (Some one) member text all = text

-- ==== What is made of each two items at the same place.

pub length-paired : {A B C : Type 0} (f : A × B → C) (xs : List A) (ys : List B)
    → length (map f (zip xs ys)) ≡ min (length xs) (length ys)
length-paired f xs ys = length-map (zip xs ys) f ∙ length-zip xs ys

pub get_or-paired : {A B C : Type 0} (f : A × B → C) (xs : List A) (ys : List B) (i : ℕ) (x : A) (y : B) (d : C)
    → i < length xs → i < length ys
    → get_or (map f (zip xs ys)) i d ≡ f (get_or xs i x, get_or ys i y)
get_or-paired f xs ys i x y d in_xs in_ys =
    let within : i < length (zip xs ys) = rw (length-zip xs ys) (omega (arith, in_xs, in_ys)) in
    get_or-map f (zip xs ys) i (x, y) d within ∙ ap f (get_or-zip xs ys i (x, y) in_xs in_ys)

-- a place of pairs is one of both lists
pub in_first : {A B C : Type 0} (f : A × B → C) (xs : List A) (ys : List B) (i : ℕ) → i < length (map f (zip xs ys))
    → i < length xs
in_first f xs ys i within =
    let both : i < min (length xs) (length ys) = rw (length-paired f xs ys) at within in
    omega (arith, both)

pub in_second : {A B C : Type 0} (f : A × B → C) (xs : List A) (ys : List B) (i : ℕ) → i < length (map f (zip xs ys))
    → i < length ys
in_second f xs ys i within =
    let both : i < min (length xs) (length ys) = rw (length-paired f xs ys) at within in
    omega (arith, both)
