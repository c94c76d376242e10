-- Each text has one rank, and each member is that of a row.
use Rattle.std.proofs.Common.{◌≡◌, ◌∙◌, sym, ap, subst, refl, ℕ, zero, suc, ◌+◌, ◌<◌, ◌≢◌, Bool, true, false, cond}
use Rattle.std.proofs.Common.{List, [], ◌∷◌, length, get_or, arith, ◌⊎◌, inl, inr}
use Rattle.std.specs.Prelude.{count_by, ◌||◌, not}
use Rattle.std.specs.Fmt.{decimal}
use Rattle.std.specs.List.{AllByRecursion, list_any, position_or_len}
use Rattle.std.specs.Ordering.{nat_cmp, is_eq}
use Rattle.std.specs.Str.{bytes_eq}
use Rattle.std.specs.declared.cmp.Ordering.{Ordering}
use Rattle.std.specs.declared.cmp.Ordering.TheVariants.{Less}
use Rattle.std.specs.Cmp.Lexicographic.{slice_cmp, texts_ties, nat_list_cmp_total}
use Rattle.std.specs.FinMap.{nat_cmp-IsAntisymmetric, slice_cmp-IsAntisymmetric}
use Rattle.std.proofs.lemmas.List.{length-map}
use Rattle.std.proofs.lemmas.List.Sums.{sum_by-cons}
use Rattle.cube_model.specs.declared.attr.Attr.{Attr}
use Rattle.cube_model.specs.declared.attr.Attr.TheVariants.{CustomerCity, CustomerNation, CustomerRegion, SupplierCity}
use Rattle.cube_model.specs.declared.attr.Attr.TheVariants.{SupplierNation, SupplierRegion, PartBrand1, PartCategory}
use Rattle.cube_model.specs.declared.attr.Attr.TheVariants.{PartMfgr, DateKey, DateYearmonthnum, DateYear}
use Rattle.cube_model.specs.declared.attr.Attr.TheVariants.{DateYearmonth, DateWeeknuminyear}
use Rattle.cube_model.specs.declared.rows.DimRows.{DimRows}
use Rattle.cube_model.specs.Ascending.{IsAscending}
use Rattle.cube_model.proofs.Ascending.{IsAscending-ascending}
use Rattle.cube_model.specs.Attributes.{axis_of}
use Rattle.cube_model.specs.Places.{attr_members, row_count_of, texts_of}
use Rattle.dimensions.proofs.CallerLemmas.{bytes_eq-refl, bytes_eq-symm, has-members_of}
use Rattle.table_texts.specs.Members.{uppers_of}

all_at : {X : Type 0} (P : X → Type 0) (xs : List X) (k : ℕ) (d : X) → AllByRecursion P xs → k < length xs
    → P (get_or xs k d)
all_at P [] k d all lt = absurd (omega (arith, lt))
all_at P (x ∷ xs) zero d all lt = all.0
all_at P (x ∷ xs) (suc k) d all lt = all_at P xs k d all.1 (omega (arith, lt))

ascending_at : {K : Type 0} (R : K → K → Ordering) (xs : List K) (i j : ℕ) (d : K) → IsAscending R xs → i < j
    → j < length xs → R (get_or xs i d) (get_or xs j d) ≡ Less
ascending_at R [] i j d sorted below lt = absurd (omega (arith, lt))
ascending_at R (x ∷ xs) zero zero d sorted below lt = absurd (omega (arith, below))
ascending_at R (x ∷ xs) zero (suc j) d sorted below lt =
    all_at (λ other. R x other ≡ Less) xs j d sorted.0 (omega (arith, lt))
ascending_at R (x ∷ xs) (suc i) zero d sorted below lt = absurd (omega (arith, below))
ascending_at R (x ∷ xs) (suc i) (suc j) d sorted below lt =
    ascending_at R xs i j d sorted.1 (omega (arith, below)) (omega (arith, lt))

any_at : (test : List ℕ → Bool) (texts : List (List ℕ)) (k : ℕ) → k < length texts → test (get_or texts k []) ≡ true
    → list_any test texts ≡ true
any_at test [] k lt is = absurd (omega arith)
any_at test (text ∷ texts) zero lt is = ap (λ b. b || list_any test texts) is
any_at test (text ∷ texts) (suc k) lt is = ap (λ b. test text || b) (any_at test texts k (omega arith) is)
    ∙ or-true (test text)
  where
    or-true : (b : Bool) → (b || true) ≡ true
    or-true true = refl
    or-true false = refl

-- a text that is there is counted, and is at a place
some-count : (test : List ℕ → Bool) (texts : List (List ℕ)) → list_any test texts ≡ true → 0 < count_by test texts
some-count test [] some = absurd (cc)
some-count test (text ∷ texts) some =
    subst (λ n. 0 < n) (sym (sum_by-cons (λ one. cond (test one) 1 0) text texts))
    (more (test text) (list_any test texts) (count_by test texts) some (some-count test texts))
  where
    more : (b any : Bool) (n : ℕ) → (b || any) ≡ true → (any ≡ true → 0 < n) → 0 < cond b 1 0 + n
    more true any n is rest = omega arith
    more false any n is rest = omega (arith, rest is)

some-place : (test : List ℕ → Bool) (texts : List (List ℕ)) → list_any test texts ≡ true
    → position_or_len test texts < length texts
some-place test [] some = absurd (cc)
some-place test (text ∷ texts) some = more (test text) (list_any test texts) (position_or_len test texts) (length texts)
    some (some-place test texts)
  where
    more : (b any : Bool) (n m : ℕ) → (b || any) ≡ true → (any ≡ true → n < m) → cond (not b) (1 + n) 0 < suc m
    more true any n m is rest = omega arith
    more false any n m is rest = omega (arith, rest is)

module _ (rows : DimRows) (attr : Attr) where
  abbrev members : List (List ℕ)
  members = attr_members rows attr

  rising : (i j : ℕ) → i < j → j < length members → bytes_eq (get_or members i []) (get_or members j []) ≡ false
  rising i j below lt =
      let sorted =
      IsAscending-ascending (slice_cmp nat_cmp) nat_list_cmp_total
      (slice_cmp-IsAntisymmetric nat_cmp-IsAntisymmetric) (texts_of rows attr) in
      texts_ties (get_or members i []) (get_or members j [])
      ∙ ap is_eq (ascending_at (slice_cmp nat_cmp) members i j [] sorted below lt)

  -- members of two ranks are two texts
  pub apart : (i j : ℕ) → i ≢ j → i < length members → j < length members
      → bytes_eq (get_or members i []) (get_or members j []) ≡ false
  apart i j differ first second = by_order (order i j differ)
    where
      order : (i j : ℕ) → i ≢ j → (i < j) ⊎ (j < i)
      order i j differ = grind arith

      by_order : (i < j) ⊎ (j < i) → bytes_eq (get_or members i []) (get_or members j []) ≡ false
      by_order (inl below) = rising i j below second
      by_order (inr above) = bytes_eq-symm (get_or members i []) (get_or members j []) ∙ rising j i above first

  is_there : (rank : ℕ) → rank < length members → list_any (bytes_eq (get_or members rank [])) (texts_of rows attr)
      ≡ true
  is_there rank lt =
      sym (has-members_of (get_or members rank []) (texts_of rows attr))
      ∙ any_at (bytes_eq (get_or members rank [])) members rank lt (bytes_eq-refl (get_or members rank []))

  pub is_counted : (rank : ℕ) → rank < length members
      → 0 < count_by (bytes_eq (get_or members rank [])) (texts_of rows attr)
  is_counted rank lt = some-count (bytes_eq (get_or members rank [])) (texts_of rows attr) (is_there rank lt)

  pub is_placed : (rank : ℕ) → rank < length members
      → position_or_len (bytes_eq (get_or members rank [])) (texts_of rows attr) < length (texts_of rows attr)
  is_placed rank lt = some-place (bytes_eq (get_or members rank [])) (texts_of rows attr) (is_there rank lt)

-- an attribute is that of each row
pub length-texts : (rows : DimRows) (attr : Attr) → length (texts_of rows attr) ≡ row_count_of rows (axis_of attr)
length-texts rows CustomerCity = length-map rows.customers (λ row. row.city)
length-texts rows CustomerNation = length-map rows.customers (λ row. row.nation)
length-texts rows CustomerRegion = length-map rows.customers (λ row. row.region)
length-texts rows SupplierCity = length-map rows.suppliers (λ row. row.city)
length-texts rows SupplierNation = length-map rows.suppliers (λ row. row.nation)
length-texts rows SupplierRegion = length-map rows.suppliers (λ row. row.region)
length-texts rows PartBrand1 = length-map rows.parts (λ row. row.brand1)
length-texts rows PartCategory = length-map rows.parts (λ row. row.category)
length-texts rows PartMfgr = length-map rows.parts (λ row. row.mfgr)
length-texts rows DateKey = length-map rows.dates (λ row. decimal row.key)
length-texts rows DateYearmonthnum = length-map rows.dates (λ row. row.yearmonthnum)
length-texts rows DateYear = length-map rows.dates (λ row. row.year)
length-texts rows DateYearmonth = length-map rows.dates (λ row. row.yearmonth)
length-texts rows DateWeeknuminyear = length-map rows.dates (λ row. row.weeknuminyear)

-- an upper attribute is of the same dimension
pub upper-axis : (attr : Attr) → AllByRecursion (λ upper. axis_of upper ≡ axis_of attr) (uppers_of attr)
upper-axis CustomerCity = (refl, (refl, tt))
upper-axis CustomerNation = (refl, tt)
upper-axis CustomerRegion = tt
upper-axis SupplierCity = (refl, (refl, tt))
upper-axis SupplierNation = (refl, tt)
upper-axis SupplierRegion = tt
upper-axis PartBrand1 = (refl, (refl, tt))
upper-axis PartCategory = (refl, tt)
upper-axis PartMfgr = tt
upper-axis DateKey = (refl, (refl, tt))
upper-axis DateYearmonthnum = (refl, tt)
upper-axis DateYear = tt
upper-axis DateYearmonth = tt
upper-axis DateWeeknuminyear = tt

pub axes : (attr : Attr) (uppers : List Attr) → uppers ≡ uppers_of attr
    → AllByRecursion (λ upper. axis_of upper ≡ axis_of attr) uppers
axes attr uppers are = subst (AllByRecursion (λ upper. axis_of upper ≡ axis_of attr)) (sym are) (upper-axis attr)
