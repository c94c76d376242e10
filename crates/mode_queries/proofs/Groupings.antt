-- The grouping sets of one column more: it is put at a place of those without it.
use Rattle.std.proofs.Common.{◌≡◌, ◌∙◌, sym, ap, refl, ℕ, zero, suc, ◌≤◌, Bool, true, false, List, [], ◌∷◌, ◌++◌}
use Rattle.std.proofs.Common.{map, length, take, drop, arith, ◌||◌, ◌&&◌, not}
use Rattle.std.proofs.Math.ListN.{replicate}
use Rattle.std.specs.List.{AllByRecursion, insert, list_all, list_any}
use Rattle.std.proofs.lemmas.List.Folds.{list_any-append}
use Rattle.cube_model.specs.declared.attr.Attr.{Attr}
use Rattle.cube_model.specs.declared.query.Kind.{Kind}
use Rattle.cube_model.specs.declared.query.Kind.TheVariants.{Plain, Rollup, Cube}
use Rattle.cube_model.specs.Keys.{GroupingSet, beginnings, grouping_sets, subsets}
use Rattle.mode_queries.specs.Groupings.{beginnings_of, all_choices, grouping_sets_of}
use Rattle.mode_queries.proofs.Tests.{any_map, any_none, or_false, or_swap}

-- ---- by the number of columns
none_of : (columns : List Attr) → map (λ _. false) columns ≡ replicate (length columns) false
none_of [] = refl
none_of (column ∷ columns) = ap (λ rest. false ∷ rest) (none_of columns)

all_of : (columns : List Attr) → map (λ _. true) columns ≡ replicate (length columns) true
all_of [] = refl
all_of (column ∷ columns) = ap (λ rest. true ∷ rest) (all_of columns)

beginnings-of : (columns : List Attr) → beginnings columns ≡ beginnings_of (length columns)
beginnings-of [] = refl
beginnings-of (column ∷ columns) =
    λ i. (false ∷ none_of columns i) ∷ map (λ grouping. true ∷ grouping) (beginnings-of columns i)

choices-of : (columns : List Attr) → subsets columns ≡ all_choices (length columns)
choices-of [] = refl
choices-of (column ∷ columns) =
    λ i. map (λ grouping. true ∷ grouping) (choices-of columns i)
    ++ map (λ grouping. false ∷ grouping) (choices-of columns i)

pub by_number : (kind : Kind) (columns : List Attr) → grouping_sets kind columns
    ≡ grouping_sets_of kind (length columns)
by_number Plain columns = λ i. all_of columns i ∷ []
by_number Rollup columns = beginnings-of columns
by_number Cube columns = choices-of columns

-- ---- their lengths
abbrev HaveLength : ℕ → List GroupingSet → Type 0
HaveLength n groupings = AllByRecursion (λ grouping. length grouping ≡ n) groupings

longer : (b : Bool) (n : ℕ) (groupings : List GroupingSet) → HaveLength n groupings
    → HaveLength (suc n) (map (λ grouping. b ∷ grouping) groupings)
longer b n [] all = tt
longer b n (grouping ∷ groupings) all = (ap suc all.0, longer b n groupings all.1)

both : (n : ℕ) (some others : List GroupingSet) → HaveLength n some → HaveLength n others
    → HaveLength n (some ++ others)
both n [] others first second = second
both n (grouping ∷ some) others first second = (first.0, both n some others first.1 second)

replicate-length : (n : ℕ) (b : Bool) → length (replicate n b) ≡ n
replicate-length zero b = refl
replicate-length (suc n) b = ap suc (replicate-length n b)

pub have_length : (kind : Kind) (n : ℕ) → AllByRecursion (λ grouping. length grouping ≡ n) (grouping_sets_of kind n)
have_length Plain n = (replicate-length n true, tt)
have_length Rollup zero = (refl, tt)
have_length Rollup (suc n) = (replicate-length (suc n) false, longer true n (beginnings_of n) (have_length Rollup n))
have_length Cube zero = (refl, tt)
have_length Cube (suc n) =
    both (suc n) (map (λ grouping. true ∷ grouping) (all_choices n))
    (map (λ grouping. false ∷ grouping) (all_choices n))
    (longer true n (all_choices n) (have_length Cube n)) (longer false n (all_choices n) (have_length Cube n))

-- ---- with one column more
-- a grouping set of the others is one of all with the column grouped, or with it not grouped
abbrev pub grows : Kind → ℕ → Bool → GroupingSet → Bool
grows Plain place is_grouped grouping = is_grouped
grows Rollup place true grouping = list_all (λ b. b) (take place grouping)
grows Rollup place false grouping = list_all not (drop place grouping)
grows Cube place is_grouped grouping = true

-- some grouping set passes a test once the column is put at its place
abbrev pub any_grown : Kind → ℕ → Bool → (GroupingSet → Bool) → List GroupingSet → Bool
any_grown kind place is_grouped p groupings =
    list_any (λ grouping. grows kind place is_grouped grouping && p (insert grouping place is_grouped)) groupings

insert-all : (n place : ℕ) (b : Bool) → place ≤ n → insert (replicate n b) place b ≡ replicate (suc n) b
insert-all n zero b le = refl
insert-all zero (suc place) b le = absurd (omega (arith, le))
insert-all (suc n) (suc place) b le = ap (λ rest. b ∷ rest) (insert-all n place b (omega (arith, le)))

none_left : (n place : ℕ) → list_all not (drop place (replicate n false)) ≡ true
none_left n zero = none n
  where
    none : (n : ℕ) → list_all not (replicate n false) ≡ true
    none zero = refl
    none (suc n) = none n
none_left zero (suc place) = refl
none_left (suc n) (suc place) = none_left n place

one_none : (n : ℕ) (p : GroupingSet → Bool)
    → list_any (λ grouping. list_all not grouping && p (false ∷ grouping)) (beginnings_of n)
    ≡ p (replicate (suc n) false)
one_none zero p = or_false (p (false ∷ []))
one_none (suc n) p =
    (λ i. (none_left (suc n) zero i && p (false ∷ replicate (suc n) false))
    || (any_map (λ grouping. list_all not grouping && p (false ∷ grouping)) (λ grouping. true ∷ grouping)
    (beginnings_of n)
    ∙ any_none (beginnings_of n)) i)
    ∙ or_false (p (replicate (suc (suc n)) false))

rollup_grows : (n place : ℕ) (p : GroupingSet → Bool) → place ≤ n
    → list_any p (beginnings_of (suc n))
    ≡ (any_grown Rollup place true p (beginnings_of n) || any_grown Rollup place false p (beginnings_of n))
rollup_grows n zero p le =
    ap (λ b. p (replicate (suc n) false) || b) (any_map p (λ grouping. true ∷ grouping) (beginnings_of n))
    ∙ turned (p (replicate (suc n) false)) (list_any (λ grouping. p (true ∷ grouping)) (beginnings_of n))
    ∙ ap (λ b. list_any (λ grouping. p (true ∷ grouping)) (beginnings_of n) || b) (sym (one_none n p))
  where
    turned : (a b : Bool) → (a || b) ≡ (b || a)
    turned true true = refl
    turned true false = refl
    turned false true = refl
    turned false false = refl
rollup_grows zero (suc place) p le = absurd (omega (arith, le))
rollup_grows (suc n) (suc place) p le =
    let q : GroupingSet → Bool = λ grouping. p (true ∷ grouping) in
    let first = p (replicate (suc (suc n)) false) in
    let fit : place ≤ n = omega (arith, le) in
    let grouped : any_grown Rollup (suc place) true p (beginnings_of (suc n))
    ≡ any_grown Rollup place true q (beginnings_of n) =
    any_map (λ grouping. grows Rollup (suc place) true grouping && p (insert grouping (suc place) true))
    (λ grouping. true ∷ grouping) (beginnings_of n) in
    let others : any_grown Rollup (suc place) false p (beginnings_of (suc n))
    ≡ (first || any_grown Rollup place false q (beginnings_of n)) =
    (λ i. (none_left n place i && p (false ∷ insert-all n place false fit i))
    || any_map (λ grouping. grows Rollup (suc place) false grouping && p (insert grouping (suc place) false))
    (λ grouping. true ∷ grouping) (beginnings_of n) i) in
    ap (λ b. first || b) (any_map p (λ grouping. true ∷ grouping) (beginnings_of (suc n))
    ∙ rollup_grows n place q fit)
    ∙ middle first (any_grown Rollup place true q (beginnings_of n)) (any_grown Rollup place false q (beginnings_of n))
    ∙ (λ i. sym grouped i || sym others i)
  where
    middle : (a b c : Bool) → (a || (b || c)) ≡ (b || (a || c))
    middle true true c = refl
    middle true false c = refl
    middle false b c = refl

cube_grows : (n place : ℕ) (p : GroupingSet → Bool) → place ≤ n
    → list_any p (all_choices (suc n))
    ≡ (any_grown Cube place true p (all_choices n) || any_grown Cube place false p (all_choices n))
cube_grows n zero p le =
    list_any-append p (map (λ grouping. true ∷ grouping) (all_choices n))
    (map (λ grouping. false ∷ grouping) (all_choices n))
    ∙ (λ i. any_map p (λ grouping. true ∷ grouping) (all_choices n) i
    || any_map p (λ grouping. false ∷ grouping) (all_choices n) i)
cube_grows zero (suc place) p le = absurd (omega (arith, le))
cube_grows (suc n) (suc place) p le =
    let half : Bool → Bool → Bool = λ own b. list_any (λ grouping. p (own ∷ insert grouping place b)) (all_choices n) in
    let fit : place ≤ n = omega (arith, le) in
    let split : (b : Bool) → any_grown Cube (suc place) b p (all_choices (suc n)) ≡ (half true b || half false b) = λ b.
    list_any-append (λ grouping. p (insert grouping (suc place) b)) (map (λ grouping. true ∷ grouping) (all_choices n))
    (map (λ grouping. false ∷ grouping) (all_choices n))
    ∙ (λ i. any_map (λ grouping. p (insert grouping (suc place) b)) (λ grouping. true ∷ grouping) (all_choices n) i
    || any_map (λ grouping. p (insert grouping (suc place) b)) (λ grouping. false ∷ grouping) (all_choices n) i) in
    list_any-append p (map (λ grouping. true ∷ grouping) (all_choices (suc n)))
    (map (λ grouping. false ∷ grouping) (all_choices (suc n)))
    ∙ (λ i. (any_map p (λ grouping. true ∷ grouping) (all_choices (suc n))
    ∙ cube_grows n place (λ grouping. p (true ∷ grouping)) fit) i
    || (any_map p (λ grouping. false ∷ grouping) (all_choices (suc n))
    ∙ cube_grows n place (λ grouping. p (false ∷ grouping)) fit) i)
    ∙ or_swap (half true true) (half true false) (half false true) (half false false)
    ∙ (λ i. sym (split true) i || sym (split false) i)

plain_grows : (n place : ℕ) (p : GroupingSet → Bool) → place ≤ n
    → list_any p (grouping_sets_of Plain (suc n))
    ≡ (any_grown Plain place true p (grouping_sets_of Plain n)
    || any_grown Plain place false p (grouping_sets_of Plain n))
plain_grows n place p le =
    ap (λ grouping. p grouping || false) (sym (insert-all n place true le))
    ∙ sym (or_false (p (insert (replicate n true) place true) || false))

-- the grouping sets of one column more pass a test as those of the others do with the column at its place
pub sets_grow : (kind : Kind) (n place : ℕ) (p : GroupingSet → Bool) → place ≤ n
    → list_any p (grouping_sets_of kind (suc n))
    ≡ (any_grown kind place true p (grouping_sets_of kind n) || any_grown kind place false p (grouping_sets_of kind n))
sets_grow Plain n place p le = plain_grows n place p le
sets_grow Rollup n place p le = rollup_grows n place p le
sets_grow Cube n place p le = cube_grows n place p le
