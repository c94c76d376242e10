-- What bytes begin with: one part at most.
use Rattle.std.proofs.Common.{◌≡◌, ◌<◌, ◌+◌, ◌*◌, ◌^◌, ◌∙◌, suc, sym, ap, refl, arith, ℕ, List, [], ◌∷◌, ◌++◌, length}
use Rattle.std.proofs.Common.{codes, append_assoc, length-append}
use Rattle.std.specs.List.{AllByRecursion, flat_map}
use Rattle.std.proofs.lemmas.List.{append_cancel_left}
use Rattle.cube_model.specs.declared.attr.Axis.{Axis}
use Rattle.wire.specs.Spelling.{spelling}
use Rattle.wire.proofs.CallerLemmas.{length-spelling, spelling-one}
use Rattle.dictionary.specs.Columns.{codes_spelling}
use Rattle.dimension_objects.specs.Spelled.{axis_number, codes_in_order, dimension_header}

-- ---- numbers of the same width

pub length-numbers : (width : ℕ) (xs : List ℕ) → length (flat_map (spelling width) xs) ≡ width * length xs
length-numbers width [] = omega arith
length-numbers width (x ∷ xs) =
    let rest = length-numbers width xs in
    let more : width * suc (length xs) ≡ width + width * length xs = omega arith in
    omega (arith, length-append (spelling width x) (flat_map (spelling width) xs), length-spelling width x, rest, more)

-- bytes begin with one list of so many numbers at most
pub numbers-one : (width : ℕ) (xs ys : List ℕ) (rest other : List ℕ) → AllByRecursion (λ x. x < 256 ^ width) xs
    → AllByRecursion (λ y. y < 256 ^ width) ys → length xs ≡ length ys
    → flat_map (spelling width) xs ++ rest ≡ flat_map (spelling width) ys ++ other → (xs ≡ ys) × (rest ≡ other)
numbers-one width [] [] rest other fit fit' many same = (refl, same)
numbers-one width [] (y ∷ ys) rest other fit fit' many same = absurd (omega arith)
numbers-one width (x ∷ xs) [] rest other fit fit' many same = absurd (omega arith)
numbers-one width (x ∷ xs) (y ∷ ys) rest other fit fit' many same =
    let parts = sym (append_assoc (spelling width x) (flat_map (spelling width) xs) rest) ∙ same
    ∙ append_assoc (spelling width y) (flat_map (spelling width) ys) other in
    let first = spelling-one width x y (flat_map (spelling width) xs ++ rest) (flat_map (spelling width) ys ++ other)
    fit.0 fit'.0 parts in
    let next = numbers-one width xs ys rest other fit.1 fit'.1 (omega arith) first.1 in
    ((λ i. first.0 i ∷ next.0 i), next.1)

-- ---- a header

header_of-append : (axis : Axis) (rows : ℕ) (rest : List ℕ) → dimension_header axis rows ++ rest ≡ codes "DIM1"
    ++ (spelling 4 (axis_number axis) ++ (spelling 4 rows ++ rest))
header_of-append axis rows rest =
    append_assoc (codes "DIM1") (spelling 4 (axis_number axis) ++ spelling 4 rows) rest
    ∙ ap (λ (part : List ℕ). codes "DIM1" ++ part) (append_assoc (spelling 4 (axis_number axis)) (spelling 4 rows) rest)

pub header_parts : (axis : Axis) (rows : ℕ) (bytes rest : List ℕ) → bytes ≡ dimension_header axis rows ++ rest
    → bytes ≡ codes "DIM1" ++ (spelling 4 (axis_number axis) ++ (spelling 4 rows ++ rest))
header_parts axis rows bytes rest is = is ∙ header_of-append axis rows rest

pub header_whole : (axis : Axis) (rows : ℕ) (bytes rest : List ℕ)
    → bytes ≡ codes "DIM1" ++ (spelling 4 (axis_number axis) ++ (spelling 4 rows ++ rest))
    → bytes ≡ dimension_header axis rows ++ rest
header_whole axis rows bytes rest is = is ∙ sym (header_of-append axis rows rest)

-- bytes begin with one header at most
pub header_of-one : (axis : Axis) (rows others : ℕ) (xs ys : List ℕ) → rows < 2 ^ 32 → others < 2 ^ 32
    → dimension_header axis rows ++ xs ≡ dimension_header axis others ++ ys → (rows ≡ others) × (xs ≡ ys)
header_of-one axis rows others xs ys fit fit' same =
    let parts = sym (header_of-append axis rows xs) ∙ same ∙ header_of-append axis others ys in
    let numbers = append_cancel_left (codes "DIM1") (spelling 4 (axis_number axis) ++ (spelling 4 rows ++ xs))
    (spelling 4 (axis_number axis) ++ (spelling 4 others ++ ys)) parts in
    let counts = append_cancel_left (spelling 4 (axis_number axis)) (spelling 4 rows ++ xs) (spelling 4 others ++ ys)
    numbers in
    spelling-one 4 rows others xs ys fit fit' counts

-- ---- parts of columns, in an order

module _ {X : Type 0} (spelled : X → List ℕ) (Fit : ℕ → X → Type 0)
    (one : (column : ℕ) (x y : X) (xs ys : List ℕ) → Fit column x → Fit column y → spelled x ++ xs ≡ spelled y ++ ys
    → (x ≡ y) × (xs ≡ ys)) where
  pub in_order-one : (f g : ℕ → X) (order : List ℕ) (xs ys : List ℕ)
      → AllByRecursion (λ column. Fit column (f column)) order → AllByRecursion (λ column. Fit column (g column)) order
      → flat_map (λ column. spelled (f column)) order ++ xs ≡ flat_map (λ column. spelled (g column)) order ++ ys
      → AllByRecursion (λ column. f column ≡ g column) order × (xs ≡ ys)
  in_order-one f g [] xs ys fit fit' same = (tt, same)
  in_order-one f g (column ∷ order) xs ys fit fit' same =
      let parts = sym (append_assoc (spelled (f column)) (flat_map (λ c. spelled (f c)) order) xs) ∙ same
      ∙ append_assoc (spelled (g column)) (flat_map (λ c. spelled (g c)) order) ys in
      let first =
      one column (f column) (g column) (flat_map (λ c. spelled (f c)) order ++ xs)
      (flat_map (λ c. spelled (g c)) order ++ ys) fit.0 fit'.0 parts in
      let rest = in_order-one f g order xs ys fit.1 fit'.1 first.1 in
      ((first.0, rest.0), rest.1)

-- the same parts have the same bytes
pub in_order-same : {X : Type 0} (spelled : X → List ℕ) (f g : ℕ → X) (order : List ℕ)
    → AllByRecursion (λ column. f column ≡ g column) order
    → flat_map (λ column. spelled (f column)) order ≡ flat_map (λ column. spelled (g column)) order
in_order-same spelled f g [] same = refl
in_order-same spelled f g (column ∷ order) same = λ i. spelled (same.0 i) ++ in_order-same spelled f g order same.1 i

-- so many codes, each of which fits
abbrev pub FitCodes : (ℕ → ℕ) → ℕ → List ℕ → Type 0
FitCodes places column numbers = (length numbers ≡ places column) × AllByRecursion (λ code. code < 2 ^ 16) numbers

pub codes-one : (places : ℕ → ℕ) (column : ℕ) (x y : List ℕ) (xs ys : List ℕ) → FitCodes places column x
    → FitCodes places column y → codes_spelling x ++ xs ≡ codes_spelling y ++ ys → (x ≡ y) × (xs ≡ ys)
codes-one places column x y xs ys fit fit' same = numbers-one 2 x y xs ys fit.1 fit'.1 (fit.0 ∙ sym fit'.0) same

-- how many codes columns have
abbrev pub total_of : (ℕ → ℕ) → List ℕ → ℕ
total_of places [] = 0
total_of places (column ∷ order) = places column + total_of places order

pub length-codes : (places : ℕ → ℕ) (numbers : ℕ → List ℕ) (order : List ℕ)
    → AllByRecursion (λ column. length (numbers column) ≡ places column) order
    → length (codes_in_order numbers order) ≡ 2 * total_of places order
length-codes places numbers [] many = refl
length-codes places numbers (column ∷ order) many =
    omega (
      arith,
      length-append (codes_spelling (numbers column)) (codes_in_order numbers order),
      length-numbers 2 (numbers column),
      many.0,
      length-codes places numbers order many.1,
    )

pub total-append : (places : ℕ → ℕ) (front after : List ℕ)
    → total_of places (front ++ after) ≡ total_of places front + total_of places after
total-append places [] after = omega arith
total-append places (column ∷ front) after = omega (arith, total-append places front after)
