-- Cells in place of the fact rows that they represent: the tallies of a slot's cells are those of its rows.
use Rattle.std.proofs.Common.{◌≡◌, ◌∙◌, sym, ap, refl, subst, ℕ, ◌≤◌, pos, ◌+ℤ◌, Bool, true, false, cond, not, List, []}
use Rattle.std.proofs.Common.{◌∷◌, ◌++◌, map, length, length-append, append-nil, append_assoc, Option, Some, None}
use Rattle.std.proofs.Common.{arith}
use Rattle.std.specs.Prelude.{◌==◌, ◌&&◌, ◌||◌, nat_abs}
use Rattle.std.specs.Int.{int_min, int_max}
use Rattle.std.specs.List.{filter, fold, sum_by}
use Rattle.std.proofs.lemmas.Bool.Decides.{nat_tests}
use Rattle.std.proofs.lemmas.List.{length-map, map-append}
use Rattle.std.proofs.lemmas.List.Sums.{sum_by-append, sum_by-cons}
use Rattle.cube_model.specs.declared.measure.Agg.{Agg}
use Rattle.cube_model.specs.declared.measure.Agg.TheVariants.{Count, Sum, Min, Max, Avg}
use Rattle.cube_model.specs.declared.measure.Measure.{Measure}
use Rattle.cube_model.specs.declared.measure.Measure.TheVariants.{Quantity, ExtendedPrice, Revenue, SupplyCost}
use Rattle.cube_model.specs.declared.measure.Measure.TheVariants.{Discounted, Profit}
use Rattle.cube_model.specs.declared.rows.DimRows.{DimRows}
use Rattle.cube_model.specs.declared.rows.LineOrder.{LineOrder}
use Rattle.cube_model.specs.Measures.{measure_of}
use Rattle.lattice.specs.declared.view.View.{View}
use Rattle.cuboid_cells.specs.declared.cell.Cell.{Cell}
use Rattle.cuboid_cells.specs.Cells.{cell_at, key_as_number}
use Rattle.cuboid_upkeep.specs.Grouping.{Group, cell_over, key_of, rows_of_number, summaries_over, summary_over}
use Rattle.cube_query.specs.CellTallies.{after_cells, cell_tally, counted, summary_in}
use Rattle.group_tallies.specs.Columns.{aggregate_size, slotted}
use Rattle.group_tallies.specs.Tallies.{merged_tally, aggregated, tally_of}
use Rattle.group_tallies.specs.declared.tally.Tally.{Tally}
use Rattle.group_tallies.proofs.MergeLaws.{SameRows, SameRows-after, SameRows-refl, SameRows-split, SameRows-trans}
use Rattle.group_tallies.proofs.MergeLaws.{tally_of-append}
use Rattle.group_tallies.proofs.Sums.{nat_abs-total}

-- the tally over fact rows
abbrev pub tally_over : Agg → List LineOrder → Tally
tally_over agg rows = tally_of (map (aggregated agg) rows)

-- ---- one cell
noughts_sum : (rows : List LineOrder) → fold (λ so_far number. so_far +ℤ number) (pos 0) (map (λ _. pos 0) rows) ≡ pos 0
noughts_sum [] = refl
noughts_sum (row ∷ rows) = noughts_sum rows

noughts_least : (rows : List LineOrder) → fold int_min (pos 0) (map (λ _. pos 0) rows) ≡ pos 0
noughts_least [] = refl
noughts_least (row ∷ rows) = noughts_least rows

noughts_greatest : (rows : List LineOrder) → fold int_max (pos 0) (map (λ _. pos 0) rows) ≡ pos 0
noughts_greatest [] = refl
noughts_greatest (row ∷ rows) = noughts_greatest rows

summary_is : (measure : Measure) (rows : List LineOrder)
    → summary_in (summaries_over rows) measure ≡ summary_over measure rows
summary_is Quantity rows = refl
summary_is ExtendedPrice rows = refl
summary_is Revenue rows = refl
summary_is SupplyCost rows = refl
summary_is Discounted rows = refl
summary_is Profit rows = refl

by_measure : (measure : Measure) (rows : List LineOrder)
    → counted (length rows) (summary_in (summaries_over rows) measure) ≡ tally_of (map (measure_of measure) rows)
by_measure measure rows = ap (counted (length rows)) (summary_is measure rows)
    ∙ (λ i. counted (sym (length-map rows (measure_of measure)) i) (summary_over measure rows))

of_rows : (dimensions : DimRows) (modes : List (List ℕ)) (view : View) (agg : Agg) (row : LineOrder)
    (rows : List LineOrder)
    → cell_tally agg
    (record {
      key = key_of dimensions modes view row;
      count = length (row ∷ rows);
      measures =
          summaries_over (row ∷ rows);
    }) ≡ tally_over agg (row ∷ rows)
of_rows dimensions modes view Count row rows =
    λ i. record {
      count = sym (length-map (row ∷ rows) (λ _. pos 0)) i;
      sum = sym (noughts_sum rows) i;
      least = sym (noughts_least rows) i;
      greatest = sym (noughts_greatest rows) i;
    }
of_rows dimensions modes view (Sum measure) row rows = by_measure measure (row ∷ rows)
of_rows dimensions modes view (Min measure) row rows = by_measure measure (row ∷ rows)
of_rows dimensions modes view (Max measure) row rows = by_measure measure (row ∷ rows)
of_rows dimensions modes view (Avg measure) row rows = by_measure measure (row ∷ rows)

-- the tally of a cell is that of its rows
pub cell_is : (dimensions : DimRows) (modes : List (List ℕ)) (view : View) (agg : Agg) (rows : List LineOrder)
    (cell : Cell) → cell_over dimensions modes view rows ≡ Some cell
    → (cell_tally agg cell ≡ tally_over agg rows) × (cell.count ≡ length rows)
cell_is dimensions modes view agg [] cell is = absurd (cc is)
cell_is dimensions modes view agg (row ∷ rows) cell is =
    let made : Cell =
    record {
      key = key_of dimensions modes view row;
      count = length (row ∷ rows);
      measures =
          summaries_over (row ∷ rows);
    } in
    let same : made ≡ cell = cc is in
    subst (λ (c : Cell). (cell_tally agg c ≡ tally_over agg (row ∷ rows)) × (c.count ≡ length (row ∷ rows))) same
    (of_rows dimensions modes view agg row rows, refl)

-- ---- the slot of each key
abbrev pub slot_by : List Cell → List (Option ℕ) → ℕ → Option ℕ
slot_by [] group_slots number = None
slot_by (cell ∷ cells) [] number = None
slot_by (cell ∷ cells) (group_slot ∷ group_slots) number =
    cond (key_as_number cell.key == number) group_slot (slot_by cells group_slots number)

-- a slot is that one
abbrev pub is_slot : ℕ → Option ℕ → Bool
is_slot slot None = false
is_slot slot (Some other) = other == slot

module _ (slot : ℕ) (f : LineOrder → Option ℕ) where
  pub slotted-filter : (rows : List LineOrder)
      → slotted slot rows (map f rows) ≡ filter (λ row. is_slot slot (f row)) rows
  slotted-filter [] = refl
  slotted-filter (row ∷ rows) =
      elim (f row) as
      (λ o. slotted slot (row ∷ rows) (o ∷ map f rows)
      ≡ cond (is_slot slot o) (row ∷ filter (λ row. is_slot slot (f row)) rows)
      (filter (λ row. is_slot slot (f row)) rows)) [
        | None ↦ slotted-filter rows
        | Some other ↦ λ i. cond (other == slot) (row ∷ slotted-filter rows i) (slotted-filter rows i)
      ]

-- ---- rows by a test
both_tests : {X : Type 0} (p q : X → Bool) (xs : List X) → filter q (filter p xs) ≡ filter (λ x. p x && q x) xs
both_tests {X} p q [] = refl
both_tests {X} p q (x ∷ xs) =
    elim (p x) as
    (λ b. filter q (cond b (x ∷ filter p xs) (filter p xs)) ≡ cond (b && q x) (x ∷ filter (λ x. p x && q x) xs)
    (filter (λ x. p x && q x) xs)) [
      | true ↦ ap (λ (rest : List X). cond (q x) (x ∷ rest) rest) (both_tests p q xs)
      | false ↦ both_tests p q xs
    ]

same_tests : {X : Type 0} (p q : X → Bool) → ((x : X) → p x ≡ q x) → (xs : List X) → filter p xs ≡ filter q xs
same_tests p q same xs = λ i. filter (λ x. same x i) xs

-- whole is the one test or the other
parted : (p : LineOrder → Bool) (rows : List LineOrder)
    → SameRows rows (filter p rows ++ filter (λ row. not (p row)) rows)
parted p rows =
    SameRows-trans rows (filter (λ row. p row || not (p row)) rows) (filter p rows ++ filter (λ row. not (p row)) rows)
    (subst (SameRows rows) (sym (all_pass rows)) (SameRows-refl rows))
    (SameRows-split p (λ row. not (p row)) (λ row. never (p row)) rows)
  where
    never : (b : Bool) → (b && not b) ≡ false
    never true = refl
    never false = refl

    always : (b : Bool) → (b || not b) ≡ true
    always true = refl
    always false = refl

    all_true : (rows : List LineOrder) → filter (λ _. true) rows ≡ rows
    all_true [] = refl
    all_true (row ∷ rows) = ap (λ (rest : List LineOrder). row ∷ rest) (all_true rows)

    all_pass : (rows : List LineOrder) → filter (λ row. p row || not (p row)) rows ≡ rows
    all_pass rows = same_tests (λ row. p row || not (p row)) (λ _. true) (λ row. always (p row)) rows ∙ all_true rows

-- ---- all cells

-- no two cells have one key
abbrev pub AreApart : List Cell → Type 0
AreApart [] = Unit {0}
AreApart (cell ∷ cells) = (cell_at (key_as_number cell.key) cells ≡ None) × AreApart cells

module _ (dimensions : DimRows) (modes : List (List ℕ)) (view : View) where
  abbrev pub number_in : LineOrder → ℕ
  number_in row = key_as_number (key_of dimensions modes view row)

  -- the rows of the other keys
  abbrev pub others_of : ℕ → List LineOrder → List LineOrder
  others_of number rows = filter (λ row. not (number_in row == number)) rows

  -- rows of no key are none
  no_rows : (rows : List LineOrder) → Group dimensions modes view rows [] → rows ≡ []
  no_rows [] group = refl
  no_rows (row ∷ rows) group =
      let number = number_in row in
      let own : (number == number) ≡ true = grind (arith, nat_tests) in
      let is : cell_over dimensions modes view
      (cond (number == number) (row ∷ rows_of_number dimensions modes view number rows)
      (rows_of_number dimensions modes view number rows)) ≡ None = sym (group number) in
      let some : cell_over dimensions modes view (row ∷ rows_of_number dimensions modes view number rows) ≡ None =
      sym (ap (λ (b : Bool). cell_over dimensions modes view
      (cond b (row ∷ rows_of_number dimensions modes view number rows)
      (rows_of_number dimensions modes view number rows))) own)
      ∙ is in
      absurd (cc some)

  module _ (rows : List LineOrder) (cell : Cell) (cells : List Cell)
      (group : Group dimensions modes view rows (cell ∷ cells)) (apart : AreApart (cell ∷ cells)) where
    abbrev pub own_rows : List LineOrder
    own_rows = rows_of_number dimensions modes view (key_as_number cell.key) rows

    abbrev pub other_rows : List LineOrder
    other_rows = others_of (key_as_number cell.key) rows

    pub own_cell : cell_over dimensions modes view own_rows ≡ Some cell
    own_cell =
        let number = key_as_number cell.key in
        let own : (number == number) ≡ true = grind (arith, nat_tests) in
        sym (group number) ∙ ap (λ (b : Bool). cond b (Some cell) (cell_at number cells)) own

    pub others_group : Group dimensions modes view other_rows cells
    others_group number =
        let mine = key_as_number cell.key in
        (elim (mine == number) as
        (λ b. (mine == number) ≡ b
        → cell_at number cells
        ≡ cell_over dimensions modes view (rows_of_number dimensions modes view number other_rows)) [
          | true ↦ λ e.
              (let same : mine ≡ number = grind (arith, nat_tests) in
              ap (λ (n : ℕ). cell_at n cells) (sym same) ∙ apart.0
              ∙ sym (ap (cell_over dimensions modes view)
              (both_tests (λ row. not (number_in row == mine)) (λ row. number_in row == number) rows
              ∙ same_tests (λ row. not (number_in row == mine) && (number_in row == number)) (λ _. false)
              (λ row. never mine number (number_in row) same) rows ∙ none_pass rows)))
          | false ↦ λ e.
              (sym (ap (λ (b : Bool). cond b (Some cell) (cell_at number cells)) e) ∙ group number
              ∙ sym (ap (cell_over dimensions modes view)
              (both_tests (λ row. not (number_in row == mine)) (λ row. number_in row == number) rows
              ∙ same_tests (λ row. not (number_in row == mine) && (number_in row == number))
              (λ row. number_in row == number) (λ row. still mine number (number_in row) e) rows)))
        ]) refl
      where
        none_pass : (rows : List LineOrder) → filter (λ _. false) rows ≡ []
        none_pass [] = refl
        none_pass (row ∷ rows) = none_pass rows

        never : (mine number n : ℕ) → mine ≡ number → (not (n == mine) && (n == number)) ≡ false
        never mine number n same =
            (elim (n == mine) as (λ b. (n == mine) ≡ b → (not b && (n == number)) ≡ false) [
              | true ↦ λ e. refl
              | false ↦ λ e. ap (λ (m : ℕ). n == m) (sym same) ∙ e
            ]) refl

        still : (mine number n : ℕ) → (mine == number) ≡ false → (not (n == mine) && (n == number)) ≡ (n == number)
        still mine number n e =
            (elim (n == mine) as (λ b. (n == mine) ≡ b → (not b && (n == number)) ≡ (n == number)) [
              | true ↦ λ is.
                  (let there : n ≡ mine = grind (arith, nat_tests) in
                  let not_there : (n == number) ≡ false = ap (λ (m : ℕ). m == number) there ∙ e in
                  sym not_there)
              | false ↦ λ is. refl
            ]) refl

    pub all_rows : SameRows rows (own_rows ++ other_rows)
    all_rows = parted (λ row. number_in row == key_as_number cell.key) rows

  -- ---- the sums of all cells
  pub counts-rows : (cells : List Cell) (rows : List LineOrder) → Group dimensions modes view rows cells
      → AreApart cells → sum_by (λ cell. cell.count) cells ≤ length rows
  counts-rows [] rows group apart = omega arith
  counts-rows (cell ∷ cells) rows group apart =
      let own = own_rows rows cell cells group apart in
      let others = other_rows rows cell cells group apart in
      let rest = counts-rows cells others (others_group rows cell cells group apart) apart.1 in
      let is = (cell_is dimensions modes view Count own cell (own_cell rows cell cells group apart)).1 in
      omega (
        arith,
        rest,
        is,
        (all_rows rows cell cells group apart).lengths,
        length-append own others,
        sum_by-cons (λ (own : Cell). own.count) cell cells,
      )

  pub sizes-rows : (agg : Agg) (cells : List Cell) (rows : List LineOrder) → Group dimensions modes view rows cells
      → AreApart cells → sum_by (λ cell. nat_abs (cell_tally agg cell).sum) cells ≤ aggregate_size agg rows
  sizes-rows agg [] rows group apart = omega arith
  sizes-rows agg (cell ∷ cells) rows group apart =
      let size = λ (row : LineOrder). nat_abs (aggregated agg row) in
      let own = own_rows rows cell cells group apart in
      let others = other_rows rows cell cells group apart in
      let rest = sizes-rows agg cells others (others_group rows cell cells group apart) apart.1 in
      let is = (cell_is dimensions modes view agg own cell (own_cell rows cell cells group apart)).0 in
      let sizes = sum_by-cons (λ (own : Cell). nat_abs (cell_tally agg own).sum) cell cells in
      omega (
        arith,
        rest,
        ap (λ (t : Tally). nat_abs t.sum) is,
        nat_abs-total (aggregated agg) own,
        (all_rows rows cell cells group apart).sums size,
        sum_by-append size own others,
        sizes,
      )

  -- ---- the cells of a slot
  pub cells_are_rows : (agg : Agg) (slot : ℕ) (cells : List Cell) (group_slots : List (Option ℕ))
      (rows before : List LineOrder) → length group_slots ≡ length cells
      → Group dimensions modes view rows cells → AreApart cells
      → after_cells agg slot cells group_slots (tally_over agg before)
      ≡ tally_over agg (before ++ filter (λ row. is_slot slot (slot_by cells group_slots (number_in row))) rows)
  cells_are_rows agg slot [] group_slots rows before same group apart =
      sym (ap (tally_over agg)
      (ap (λ (own : List LineOrder). before ++ filter (λ row. is_slot slot (slot_by [] group_slots (number_in row)))
      own) (no_rows rows group) ∙ append-nil before))
  cells_are_rows agg slot (cell ∷ cells) [] rows before same group apart = absurd (omega (arith, same))
  cells_are_rows agg slot (cell ∷ cells) (group_slot ∷ group_slots) rows before same group apart =
      let mine = key_as_number cell.key in
      let own = own_rows rows cell cells group apart in
      let others = other_rows rows cell cells group apart in
      let wanted =
      λ (row : LineOrder). is_slot slot (slot_by (cell ∷ cells) (group_slot ∷ group_slots) (number_in row)) in
      let later = λ (row : LineOrder). is_slot slot (slot_by cells group_slots (number_in row)) in
      let rest = λ (front : List LineOrder). cells_are_rows agg slot cells group_slots others front
      (omega (arith, same)) (others_group rows cell cells group apart) apart.1 in
      let after : filter wanted others ≡ filter later others =
      both_tests (λ row. not (number_in row == mine)) wanted rows
      ∙ same_tests (λ row. not (number_in row == mine) && wanted row) (λ row. not (number_in row == mine) && later row)
      (λ row. passed mine (number_in row) group_slot (slot_by cells group_slots (number_in row))) rows
      ∙ sym (both_tests (λ row. not (number_in row == mine)) later rows) in
      let parts : SameRows (filter wanted rows) (filter wanted own ++ filter later others) =
      subst (λ (last : List LineOrder). SameRows (filter wanted rows) (filter wanted own ++ last)) after
      (filter-parted wanted mine rows) in
      let held : filter wanted own ≡ cond (is_slot slot group_slot) own [] = kept_whole mine group_slot rows in
      let tallies =
      (SameRows-after before (filter wanted rows) (filter wanted own ++ filter later others) parts).tallies
      (aggregated agg) in
      let mine_is = (cell_is dimensions modes view agg own cell (own_cell rows cell cells group apart)).0 in
      first group_slot own (filter later others) rest mine_is
      ∙ sym (tallies
      ∙ ap (tally_over agg) (ap (λ (front : List LineOrder). before ++ (front ++ filter later others)) held))
    where
      passed : (mine n : ℕ) (g later : Option ℕ) → (not (n == mine) && is_slot slot (cond (mine == n) g later))
          ≡ (not (n == mine) && is_slot slot later)
      passed mine n g later =
          (elim (n == mine) as
          (λ b. (n == mine) ≡ b → (not b && is_slot slot (cond (mine == n) g later))
          ≡ (not b && is_slot slot later)) [
            | true ↦ λ e. refl
            | false ↦ λ e.
                (let apart : (mine == n) ≡ false = grind (arith, nat_tests) in
                ap (λ (b : Bool). is_slot slot (cond b g later)) apart)
          ]) refl

      filter-parted : (p : LineOrder → Bool) (mine : ℕ) (rows : List LineOrder)
          → SameRows (filter p rows)
          (filter p (rows_of_number dimensions modes view mine rows) ++ filter p (others_of mine rows))
      filter-parted p mine rows =
          let q = λ (row : LineOrder). number_in row == mine in
          let parts = parted q (filter p rows) in
          let turned = λ (r : LineOrder → Bool). both_tests p r rows
          ∙ same_tests (λ row. p row && r row) (λ row. r row && p row) (λ row. and_turned (p row) (r row)) rows
          ∙ sym (both_tests r p rows) in
          subst (SameRows (filter p rows)) (λ i. turned q i ++ turned (λ row. not (q row)) i) parts
        where
          and_turned : (a b : Bool) → (a && b) ≡ (b && a)
          and_turned true true = refl
          and_turned true false = refl
          and_turned false true = refl
          and_turned false false = refl

      kept_whole : (mine : ℕ) (g : Option ℕ) (rows : List LineOrder)
          → filter (λ row. is_slot slot (cond (mine == number_in row) g (slot_by cells group_slots (number_in row))))
          (rows_of_number dimensions modes view mine rows)
          ≡ cond (is_slot slot g) (rows_of_number dimensions modes view mine rows) []
      kept_whole mine g rows =
          both_tests (λ row. number_in row == mine)
          (λ row. is_slot slot (cond (mine == number_in row) g (slot_by cells group_slots (number_in row)))) rows
          ∙ same_tests
          (λ row. (number_in row == mine) && is_slot slot
          (cond (mine == number_in row) g (slot_by cells group_slots (number_in row))))
          (λ row. (number_in row == mine) && is_slot slot g)
          (λ row. one_test mine (number_in row) g (slot_by cells group_slots (number_in row))) rows
          ∙ by_flag (is_slot slot g) (λ row. number_in row == mine) rows
        where
          one_test : (mine n : ℕ) (g later : Option ℕ) → ((n == mine) && is_slot slot (cond (mine == n) g later))
              ≡ ((n == mine) && is_slot slot g)
          one_test mine n g later =
              (elim (n == mine) as
              (λ b. (n == mine) ≡ b → (b && is_slot slot (cond (mine == n) g later)) ≡ (b && is_slot slot g)) [
                | true ↦ λ e.
                    (let there : (mine == n) ≡ true = grind (arith, nat_tests) in
                    ap (λ (b : Bool). is_slot slot (cond b g later)) there)
                | false ↦ λ e. refl
              ]) refl

          by_flag : (b : Bool) (p : LineOrder → Bool) (rows : List LineOrder)
              → filter (λ row. p row && b) rows ≡ cond b (filter p rows) []
          by_flag true p rows = same_tests (λ row. p row && true) p (λ row. and_true (p row)) rows
            where
              and_true : (a : Bool) → (a && true) ≡ a
              and_true true = refl
              and_true false = refl
          by_flag false p rows = same_tests (λ row. p row && false) (λ _. false) (λ row. and_false (p row)) rows
              ∙ none_pass rows
            where
              and_false : (a : Bool) → (a && false) ≡ false
              and_false true = refl
              and_false false = refl

              none_pass : (rows : List LineOrder) → filter (λ _. false) rows ≡ []
              none_pass [] = refl
              none_pass (row ∷ rows) = none_pass rows

      first : (g : Option ℕ) (own later : List LineOrder)
          → ((front : List LineOrder) → after_cells agg slot cells group_slots (tally_over agg front)
          ≡ tally_over agg (front ++ later))
          → cell_tally agg cell ≡ tally_over agg own
          → after_cells agg slot (cell ∷ cells) (g ∷ group_slots) (tally_over agg before)
          ≡ tally_over agg (before ++ (cond (is_slot slot g) own [] ++ later))
      first None own later rest is = rest before
      first (Some other) own later rest is =
          elim (other == slot) as
          (λ b. after_cells agg slot cells group_slots
          (cond b (merged_tally (tally_over agg before) (cell_tally agg cell)) (tally_over agg before))
          ≡ tally_over agg (before ++ (cond b own [] ++ later))) [
            | true ↦
                ap (after_cells agg slot cells group_slots)
                (ap (merged_tally (tally_over agg before)) is
                ∙ sym (tally_of-append (map (aggregated agg) before) (map (aggregated agg) own))
                ∙ ap tally_of (sym (map-append (aggregated agg) before own)))
                ∙ rest (before ++ own) ∙ ap (tally_over agg) (append_assoc before own later)
            | false ↦ rest before
          ]
