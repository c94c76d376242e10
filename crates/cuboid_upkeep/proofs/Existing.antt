-- Fact rows have cells, and further rows leave no fewer.
use Rattle.std.proofs.Common.{◌≡◌, ◌∙◌, sym, ap, refl, ℕ, ◌+◌, ◌==◌, ◌<◌, ◌≤◌, Bool, true, false, cond, ltb, eqb}
use Rattle.std.proofs.Common.{nat_eq, List, [], ◌∷◌, ◌++◌, All, map, length, Option, Some, None, ◌||◌, arith, inl, inr}
use Rattle.std.proofs.Common.{◌⊎◌}
use Rattle.std.specs.Bool.{Decides}
use Rattle.std.specs.Cmp.{IsEquivalence}
use Rattle.std.specs.List.{IsDistinct, filter, list_any}
use Rattle.std.specs.Option.{is_some}
use Rattle.std.proofs.lemmas.Bool.Decides.{Decides-eqb}
use Rattle.std.proofs.lemmas.List.{get_or-map, length-map}
use Rattle.std.proofs.lemmas.List.Elements.{filter-append}
use Rattle.std.proofs.lemmas.Map.Made.{IsDistinct-from_AllPairs, length-le_from_is_member}
use Rattle.std.proofs.lemmas.Bool.{cases_lt, cases_eq, lt-ltb, le-ltb, eq-eqb, ne_eqb}
use Rattle.std.proofs.lemmas.Bool.Decides.{nat_tests}
use Rattle.std.proofs.lemmas.List.Elements.{All-cons, All-head, All-nil, All-tail}
use Rattle.std.proofs.lemmas.List.Kept.{AllPairs-cons}
use Rattle.cube_model.specs.declared.rows.DimRows.{DimRows}
use Rattle.cube_model.specs.declared.rows.LineOrder.{LineOrder}
use Rattle.lattice.specs.declared.view.View.{View}
use Rattle.cuboid_cells.specs.declared.cell.Cell.{Cell}
use Rattle.cuboid_cells.specs.Cells.{AreAscending, cell_at, key_as_number}
use Rattle.cuboid_cells.specs.Merges.{merged, merged_if_any}
use Rattle.cuboid_upkeep.specs.Grouping.{Group, HasMembers, RepresentRows, cell_over, key_of, rows_of_number}
use Rattle.cuboid_upkeep.specs.Grouping.{summaries_over}
use Rattle.cuboid_upkeep.proofs.Added.{both_represent}
use Rattle.cuboid_upkeep.proofs.Found.{flipped, none_else, other_key}
use Rattle.cuboid_upkeep.proofs.Sorted.{key_number}

-- each key is above those before it, and none is below `low`
abbrev pub Climbs : ℕ → List Cell → Type 0
Climbs low [] = Unit {0}
Climbs low (cell ∷ cells) = (low ≤ key_number cell) × Climbs (key_number cell + 1) cells

lower : (low at : ℕ) (cells : List Cell) → low ≤ at → Climbs at cells → Climbs low cells
lower low at [] below climbs = tt
lower low at (cell ∷ cells) below climbs = (omega (arith, below, climbs.0), climbs.1)

pub none_at : (low key : ℕ) (cells : List Cell) → Climbs low cells → key < low → cell_at key cells ≡ None
none_at low key [] climbs below = refl
none_at low key (cell ∷ cells) climbs below =
    ap (λ (is : Bool). cond is (Some cell) (cell_at key cells))
    (other_key (key_number cell) key (λ same. omega (arith, same, below, climbs.0)))
    ∙ none_at (key_number cell + 1) key cells climbs.1 (omega (arith, below, climbs.0))

all_from : (low : ℕ) (cells : List Cell) → Climbs low cells → All (λ cell. low ≤ key_number cell) cells
all_from low [] climbs = All-nil (λ cell. low ≤ key_number cell)
all_from low (cell ∷ cells) climbs =
    let after = all_from (key_number cell + 1) cells climbs.1 in
    All-cons (λ one. low ≤ key_number one) cell cells climbs.0
    (λ k d within. omega (arith, after k d within, climbs.0))

pub ascends : (low : ℕ) (cells : List Cell) → Climbs low cells → AreAscending cells
ascends low [] climbs = λ i j d before within. absurd (omega (arith, within))
ascends low (cell ∷ cells) climbs =
    let after = all_from (key_number cell + 1) cells climbs.1 in
    AllPairs-cons (λ one other. key_number one < key_number other) cell cells
    (λ k d within. omega (arith, after k d within)) (ascends (key_number cell + 1) cells climbs.1)

-- a cell merged in
abbrev pub insert : Cell → List Cell → List Cell
insert cell [] = cell ∷ []
insert cell (first ∷ cells) =
    cond (ltb (key_number cell) (key_number first)) (cell ∷ first ∷ cells)
    (cond (eqb (key_number cell) (key_number first)) (merged cell first ∷ cells) (first ∷ insert cell cells))

-- which of the three
pub inserted : (P : List Cell → Type 0) (cell first : Cell) (cells : List Cell)
    → (key_number cell < key_number first → P (cell ∷ first ∷ cells))
    → (key_number cell ≡ key_number first → P (merged cell first ∷ cells))
    → (key_number first < key_number cell → P (first ∷ insert cell cells))
    → P (insert cell (first ∷ cells))
inserted P cell first cells before same after =
    by (cases_lt (key_number cell) (key_number first)) (cases_eq (key_number cell) (key_number first))
  where
    by : (key_number cell < key_number first) ⊎ (key_number first ≤ key_number cell)
        → (key_number cell ≡ key_number first) ⊎ (key_number cell ≡ key_number first → ⊥)
        → P (insert cell (first ∷ cells))
    by (inl lt) q = rw (lt-ltb (key_number cell) (key_number first) lt) (before lt)
    by (inr le) (inl e) =
        rw (le-ltb (key_number cell) (key_number first) le, eq-eqb (key_number cell) (key_number first) e) (same e)
    by (inr le) (inr ne) =
        rw (le-ltb (key_number cell) (key_number first) le, ne_eqb (key_number cell) (key_number first) ne)
        (after (omega (arith, le, ne)))

pub climbs_insert : (low : ℕ) (cell : Cell) (cells : List Cell) → low ≤ key_number cell → Climbs low cells
    → Climbs low (insert cell cells)
climbs_insert low cell [] above climbs = (above, tt)
climbs_insert low cell (first ∷ cells) above climbs =
    inserted (Climbs low) cell first cells
    (λ lt. (above, (omega (arith, lt), climbs.1)))
    (λ e. (above, lower (key_number cell + 1) (key_number first + 1) cells (omega (arith, e)) climbs.1))
    (λ gt. (climbs.0, climbs_insert (key_number first + 1) cell cells (omega (arith, gt)) climbs.1))

one_by : (cell : Cell) (b : Option Cell) (is : Bool) → (is ≡ true → b ≡ None)
    → cond is (Some cell) b ≡ merged_if_any (cond is (Some cell) None) b
one_by cell b true none = sym (ap (merged_if_any (Some cell)) (none refl))
one_by cell b false none = refl

both_by : (cell first : Cell) (b : Option Cell) (is : Bool)
    → cond is (Some (merged cell first)) b ≡ merged_if_any (cond is (Some cell) None) (cond is (Some first) b)
both_by cell first b true = refl
both_by cell first b false = refl

after_by : (cell first : Cell) (b c : Option Cell) (is own : Bool) → (is ≡ true → own ≡ false)
    → c ≡ merged_if_any (cond own (Some cell) None) b
    → cond is (Some first) c ≡ merged_if_any (cond own (Some cell) None) (cond is (Some first) b)
after_by cell first b c true own other rest =
    sym (ap (λ (o : Bool). merged_if_any (cond o (Some cell) None) (Some first)) (other refl))
after_by cell first b c false own other rest = rest

pub at_insert : (low key : ℕ) (cell : Cell) (cells : List Cell) → Climbs low cells
    → cell_at key (insert cell cells) ≡ merged_if_any (cell_at key (cell ∷ [])) (cell_at key cells)
at_insert low key cell [] climbs = sym (none_else (cell_at key (cell ∷ [])))
at_insert low key cell (first ∷ cells) climbs =
    inserted (λ (l : List Cell). cell_at key l ≡ merged_if_any (cell_at key (cell ∷ [])) (cell_at key (first ∷ cells)))
    cell first cells
    (λ lt. one_by cell (cell_at key (first ∷ cells)) (key_number cell == key)
    (λ yes. none_at (key_number first) key (first ∷ cells) (omega arith, climbs.1)
    (let own : key_number cell ≡ key = grind (arith, nat_tests, yes) in omega (arith, own, lt))))
    (λ e. both_by cell first (cell_at key cells) (key_number cell == key)
    ∙ ap (λ (n : ℕ). merged_if_any (cond (key_number cell == key) (Some cell) None)
    (cond (n == key) (Some first) (cell_at key cells))) e)
    (λ gt. after_by cell first (cell_at key cells) (cell_at key (insert cell cells)) (key_number first == key)
    (key_number cell == key)
    (λ yes. let own : key_number first ≡ key = grind (arith, nat_tests, yes) in other_key (key_number cell) key
    (λ same. omega (arith, own, same, gt)))
    (at_insert (key_number first + 1) key cell cells climbs.1))

module _ (dimensions : DimRows) (modes : List (List ℕ)) (view : View) where
  -- the cell of a row
  abbrev cell_of : LineOrder → Cell
  cell_of row = record { key = key_of dimensions modes view row; count = 1; measures = summaries_over (row ∷ []) }

  one_group : (row : LineOrder) → Group dimensions modes view (row ∷ []) (cell_of row ∷ [])
  one_group row number =
      (elim (key_number (cell_of row) == number) as
      (λ b. cond b (Some (cell_of row)) None ≡ cell_over dimensions modes view (cond b (row ∷ []) [])) [
        | true ↦ refl
        | false ↦ refl
      ])

  abbrev pub cells_of : List LineOrder → List Cell
  cells_of [] = []
  cells_of (row ∷ rows) = insert (cell_of row) (cells_of rows)

  climb : (rows : List LineOrder) → Climbs 0 (cells_of rows)
  climb [] = tt
  climb (row ∷ rows) = climbs_insert 0 (cell_of row) (cells_of rows) (omega arith) (climb rows)

  pub they_represent : (rows : List LineOrder) → All (HasMembers dimensions modes view) rows
      → RepresentRows dimensions modes rows (record { view = view; cells = cells_of rows })
  they_represent [] known = record { known = known; ascending = ascends 0 [] tt; group = λ number. refl }
  they_represent (row ∷ rows) known =
      both_represent dimensions modes (row ∷ []) rows (record { view = view; cells = cell_of row ∷ [] })
      (record { view = view; cells = cells_of rows })
      (record { view = view; cells = insert (cell_of row) (cells_of rows) }) refl
      (record {
        known = All-cons (HasMembers dimensions modes view) row []
            (All-head (HasMembers dimensions modes view) row rows known) (All-nil (HasMembers dimensions modes view));
        ascending = ascends 0 (cell_of row ∷ []) (omega arith, tt);
        group = one_group row;
      })
      (they_represent rows (All-tail (HasMembers dimensions modes view) row rows known))
      (record {
        view = refl;
        cells = record {
          ascending =
              ascends 0 (insert (cell_of row) (cells_of rows))
              (climbs_insert 0 (cell_of row) (cells_of rows) (omega arith) (climb rows));
          by_key = λ key. at_insert 0 key (cell_of row) (cells_of rows) (climb rows);
        };
      })

-- ---- further rows

any_at : (key : ℕ) (cells : List Cell) → list_any (nat_eq key) (map key_number cells) ≡ is_some (cell_at key cells)
any_at key [] = refl
any_at key (cell ∷ cells) =
    (elim (key_number cell == key) as (λ b. (key_number cell == key) ≡ b
    → list_any (nat_eq key) (map key_number (cell ∷ cells)) ≡ is_some (cond b (Some cell) (cell_at key cells))) [
      | true ↦ λ e. ap (λ (b : Bool). b || list_any (nat_eq key) (map key_number cells))
          (flipped key (key_number cell) ∙ e)
      | false ↦ λ e. ap (λ (b : Bool). b || list_any (nat_eq key) (map key_number cells))
          (flipped key (key_number cell) ∙ e) ∙ any_at key cells
    ]) refl

once : (cells : List Cell) → AreAscending cells → IsDistinct nat_eq (map key_number cells)
once cells up = IsDistinct-from_AllPairs nat_eq_decides (map key_number cells) (λ i j d before within same.
    let many : length (map key_number cells) ≡ length cells = length-map cells key_number in
    let cell = cell_there cells j (omega (arith, within, many)) in
    let at_i = get_or-map key_number cells i cell d (omega (arith, before, within, many)) in
    let at_j = get_or-map key_number cells j cell d (omega (arith, within, many)) in
    let less = up i j cell before (omega (arith, within, many)) in
    omega (arith, less, at_i, at_j, same))
  where
    cell_there : (cells : List Cell) (j : ℕ) → j < length cells → Cell
    cell_there [] j within = absurd (omega (arith, within))
    cell_there (cell ∷ cells) j within = cell

    nat_eq_decides : (a b : ℕ) → Decides (nat_eq a b) (a ≡ b)
    nat_eq_decides a b = Decides-eqb a b

nat_eq_laws : IsEquivalence nat_eq
nat_eq_laws = record {
  refl = λ a. grind (arith, nat_tests);
  symm = λ a b. grind (arith, nat_tests);
  congr = λ a b c same. grind (arith, nat_tests, same);
}

module _ (dimensions : DimRows) (modes : List (List ℕ)) (view : View) where
  abbrev over : List LineOrder → Option Cell
  over rows = cell_over dimensions modes view rows

  some_amid : (before rows after : List LineOrder) → is_some (over rows) ≡ true
      → is_some (over (before ++ (rows ++ after))) ≡ true
  some_amid [] [] after some = absurd (cc some)
  some_amid [] (row ∷ rows) after some = refl
  some_amid (first ∷ before) rows after some = refl

  pub no_fewer : (before rows after : List LineOrder) (one other : List Cell)
      → RepresentRows dimensions modes rows (record { view = view; cells = one })
      → RepresentRows dimensions modes (before ++ (rows ++ after)) (record { view = view; cells = other })
      → length one ≤ length other
  no_fewer before rows after one other first second =
      let most = length-le_from_is_member nat_eq_laws (map key_number one) (map key_number other)
      (once one first.ascending) (λ key there.
      any_at key other ∙ ap is_some (second.group key)
      ∙ ap (λ (l : List LineOrder). is_some (over l)) (rows_amid key)
      ∙ some_amid (rows_of_number dimensions modes view key before) (rows_of_number dimensions modes view key rows)
      (rows_of_number dimensions modes view key after)
      (ap is_some (sym (first.group key)) ∙ sym (any_at key one) ∙ there)) in
      omega (arith, most, length-map one key_number, length-map other key_number)
    where
      rows_amid : (key : ℕ) → rows_of_number dimensions modes view key (before ++ (rows ++ after))
          ≡ rows_of_number dimensions modes view key before
          ++ (rows_of_number dimensions modes view key rows ++ rows_of_number dimensions modes view key after)
      rows_amid key =
          let p : LineOrder → Bool = λ row. key_as_number (key_of dimensions modes view row) == key in
          filter-append p before (rows ++ after)
          ∙ ap (λ (l : List LineOrder). filter p before ++ l) (filter-append p rows after)
