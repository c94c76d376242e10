-- Lemmas of `grouping`, by subject.
use Rattle.std.proofs.Common.{◌≡◌, ◌∙◌, sym, ap, refl, subst, inr, ℕ, ◌<◌, ◌≤◌, ◌+◌, Bool, cond, nat_eq, List, [], ◌∷◌}
use Rattle.std.proofs.Common.{◌++◌, length, take, drop, Some, None, arith, All, ◌==◌, true, false, map, get_or}
use Rattle.std.proofs.Common.{slice_set, Option, length-set, if◌then◌else◌}
use Rattle.std.specs.List.{IsDistinct, position_or_len}
use Rattle.std.proofs.lemmas.List.{length_push, take_all}
use Rattle.std.proofs.lemmas.List.Elements.{All-append, All-cons, All-nil, All-set}
use Rattle.cube_model.specs.declared.rows.DimRows.{DimRows}
use Rattle.cube_model.specs.declared.rows.LineOrder.{LineOrder}
use Rattle.group_numbers.specs.Rows.{row_at}
use Rattle.lattice.specs.declared.view.View.{View}
use Rattle.cuboid_cells.specs.declared.cell.Cell.{Cell}
use Rattle.cuboid_cells.specs.Cells.{cell_at, key_as_number, KeyFits, CellFits}
use Rattle.cuboid_cells.specs.Merges.{merged, merged_if_any}
use Rattle.cuboid_upkeep.specs.Grouping.{Group, HasMembers}
use Rattle.cuboid_upkeep.specs.Steps.{AreGrouped, AreKeyed, AreUnfit, IsCellOfRow, IsGood, Overflows, TakesIn, MergesAt}
use Rattle.cuboid_upkeep.specs.Steps.{OverflowsAt}
use Rattle.cuboid_upkeep.proofs.Found.{own_key, at_none, at_place, found_key, has_key, none_else, place_is, same_key}
use Rattle.cuboid_upkeep.proofs.Sorted.{found_in}
use Rattle.cuboid_upkeep.proofs.Merged.{both_group, over_append}
use Rattle.cuboid_upkeep.proofs.Rows.{one_row_more, row_alone, whole}
use Rattle.std.specs.Option.{option_or}
use Rattle.std.proofs.lemmas.List.Folds.{find-append, find-set, find_past}
use Rattle.std.proofs.lemmas.List.Sums.{passes_at_first}
use Rattle.std.proofs.lemmas.Map.Keys.{any_passes_from_place}
use Rattle.std.proofs.lemmas.Option.{slice_get-get_or}
use Rattle.indexmap.specs.IndexSet.{insert_key}
use Rattle.std.proofs.Math.Seq.{map-set_same}

-- ==== One fact row more is grouped.

-- the rows before a place were grouped
pub record Grouping (dimensions : DimRows) (modes : List (List ℕ)) (view : View) (rows : List LineOrder) (keys : List ℕ)
    (cells : List Cell) : Type 0 where
  pub keyed : AreKeyed keys cells
  pub few : length cells ≤ length rows
  pub known : All (HasMembers dimensions modes view) rows
  pub good : All (IsGood view) cells
  pub group : Group dimensions modes view rows cells

module _ (dimensions : DimRows) (modes : List (List ℕ)) (view : View) where
  pub none_yet : (keys : List ℕ) → keys ≡ [] → IsDistinct nat_eq keys → (cells : List Cell) → cells ≡ []
      → Grouping dimensions modes view [] keys cells
  none_yet keys keys_are once cells cells_are = subst (Grouping dimensions modes view [] keys) (sym cells_are) (record {
    keyed = record { keys_are = keys_are; once = once };
    few = omega arith;
    known = All-nil (HasMembers dimensions modes view);
    good = All-nil (IsGood view);
    group = λ number. refl;
  })

  module _ (rows : List LineOrder) (place : ℕ) (within : place < length rows) where
    abbrev row : LineOrder
    row = row_at rows place

    pub one_more : (keys new_keys : List ℕ) (cells new : List Cell) (cell : Cell)
        → Grouping dimensions modes view (take place rows) keys cells
        → IsCellOfRow dimensions modes view row cell → AreKeyed new_keys new → TakesIn cells cell new
        → Grouping dimensions modes view (take (place + 1) rows) new_keys new
    one_more keys new_keys cells new cell so_far is keyed takes =
        subst (λ (l : List LineOrder). Grouping dimensions modes view l new_keys new)
        (sym (one_row_more dimensions modes view rows place within)) (record {
          keyed = keyed;
          few = omega (arith, takes.longer, so_far.few, length_more);
          known = All-append (HasMembers dimensions modes view) (take place rows) (row ∷ []) so_far.known
              (All-cons (HasMembers dimensions modes view) row [] is.members
              (All-nil (HasMembers dimensions modes view)));
          good = takes.good view so_far.good is.good;
          group = both_group dimensions modes view (take place rows) (row ∷ []) cells (cell ∷ []) new so_far.group
              (row_alone dimensions modes view row cell is) takes.by_key;
        })
      where
        length_more : length (take place rows ++ row ∷ []) ≡ length (take place rows) + 1
        length_more = length_push (take place rows) row

    -- a row whose cell cannot be taken in
    pub row_overflows : (keys : List ℕ) (cells : List Cell) (cell : Cell)
        → Grouping dimensions modes view (take place rows) keys cells
        → IsCellOfRow dimensions modes view row cell → Overflows cells cell → AreUnfit dimensions modes view rows
    row_overflows keys cells cell so_far is over =
        let there = found_in (key_as_number cell.key) cells over.before over.is in
        let key : KeyFits over.before.key =
        subst (λ (c : Cell). KeyFits c.key) there.2 (so_far.good there.0 over.before there.1).fits.key in
        let alone : cell_at (key_as_number cell.key) (cell ∷ []) ≡ Some cell =
        ap (λ (b : Bool). cond b (Some cell) None) (own_key (key_as_number cell.key) (key_as_number cell.key) refl) in
        inr (record {
          before = [];
          part = take place rows ++ row ∷ [];
          after = drop (place + 1) rows;
          number = key_as_number cell.key;
          cell = merged over.before cell;
          parts = sym (whole dimensions modes view rows place within);
          is =
              over_append dimensions modes view (key_as_number cell.key) (take place rows) (row ∷ [])
              ∙ (λ i. merged_if_any (sym (so_far.group (key_as_number cell.key)) i)
              (sym (row_alone dimensions modes view row cell is (key_as_number cell.key)) i))
              ∙ (λ i. merged_if_any (over.is i) (alone i));
          passes = λ numbers. over.passes (record { key = key; count = numbers.count; measures = numbers.measures });
        })

  -- all rows were grouped
  pub are_grouped : (rows : List LineOrder) (place : ℕ) → length rows ≤ place → (keys : List ℕ) (cells : List Cell)
      → Grouping dimensions modes view (take place rows) keys cells → AreGrouped dimensions modes view rows cells
  are_grouped rows place all keys cells so_far =
      let whole = subst (λ (l : List LineOrder). Grouping dimensions modes view l keys cells) (take_all place rows all)
      so_far in record {
        few = whole.few;
        known = whole.known;
        once = subst (IsDistinct nat_eq) whole.keyed.keys_are whole.keyed.once;
        good = whole.good;
        group = whole.group;
      }

-- ==== Taking a cell in.

-- the keys stay where one is among them
pub keys_stay : (keys : List ℕ) (number place : ℕ) → place ≡ position_or_len (nat_eq number) keys → place < length keys
    → insert_key nat_eq keys number ≡ keys
keys_stay keys number place is within =
    let first : position_or_len (nat_eq number) keys < length keys = omega (arith, is, within) in
    ap (λ (b : Bool). if b then keys else keys ++ number ∷ [])
    (any_passes_from_place (nat_eq number) keys (position_or_len (nat_eq number) keys)
    (get_or keys (position_or_len (nat_eq number) keys) 0)
    (slice_get-get_or keys (position_or_len (nat_eq number) keys) 0 first)
    (passes_at_first (nat_eq number) keys 0 first))

-- one cell after others, or merged with none
put_after : (cell : Cell) (a : Option Cell) (is : Bool) → (is ≡ true → a ≡ None)
    → option_or a (cond is (Some cell) None) ≡ merged_if_any a (cond is (Some cell) None)
put_after cell a true none = rw (none refl) refl
put_after cell None false none = refl
put_after cell (Some other) false none = refl

good_after : (view : View) (cells : List Cell) (cell : Cell) → All (IsGood view) cells → IsGood view cell
    → All (IsGood view) (cells ++ cell ∷ [])
good_after view cells cell good is =
    All-append (IsGood view) cells (cell ∷ []) good (All-cons (IsGood view) cell [] is (All-nil (IsGood view)))

module _ (cells : List Cell) (cell : Cell) (place : ℕ)
    (is : place ≡ position_or_len (nat_eq (key_as_number cell.key)) (map (λ (c : Cell). key_as_number c.key) cells))
  where
    place_at : place ≡ position_or_len (has_key (key_as_number cell.key)) cells
    place_at = is ∙ place_is (key_as_number cell.key) cells

    -- a new key
    pub taken_after : length cells ≤ place → (new : List Cell) → new ≡ cells ++ cell ∷ [] → TakesIn cells cell new
    taken_after past new new_is = subst (TakesIn cells cell) (sym new_is) (record {
      longer = omega (arith, length_push cells cell);
      good = λ view good own. good_after view cells cell good own;
      by_key = λ number.
          find-append (has_key number) cells (cell ∷ [])
          ∙ put_after cell (cell_at number cells) (key_as_number cell.key == number)
          (λ e. ap (λ (n : ℕ). cell_at n cells) (sym (same_key (key_as_number cell.key) number e))
          ∙ at_none (key_as_number cell.key) cells place place_at past);
    })

    module _ (within : place < length cells) (before : Cell) (before_is : before ≡ get_or cells place before) where
      pub found_before : cell_at (key_as_number cell.key) cells ≡ Some before
      found_before = at_place (key_as_number cell.key) cells place before place_at within ∙ ap Some (sym before_is)

      key_before : key_as_number before.key ≡ key_as_number cell.key
      key_before = found_key (key_as_number cell.key) cells before found_before

      pub overflows : (CellFits (merged before cell) → ⊥) → Overflows cells cell
      overflows passes = record { before = before; is = found_before; passes = passes }

      module _ (both : Cell) (both_is : both ≡ merged before cell) where
        key_both : key_as_number both.key ≡ key_as_number cell.key
        key_both = ap (λ (c : Cell). key_as_number c.key) both_is ∙ key_before

        pub same_keys : map (λ (c : Cell). key_as_number c.key) (slice_set cells place both)
            ≡ map (λ (c : Cell). key_as_number c.key) cells
        same_keys =
            map-set_same (λ (c : Cell). key_as_number c.key) cells place both before
            (key_both ∙ sym key_before ∙ ap (λ (c : Cell). key_as_number c.key) before_is)

        pub keyed_still : (keys new : List ℕ) → keys ≡ map (λ (c : Cell). key_as_number c.key) cells → new ≡ keys
            → IsDistinct nat_eq new → AreKeyed new (slice_set cells place both)
        keyed_still keys new keys_are new_is once = record { keys_are = new_is ∙ keys_are ∙ sym same_keys; once = once }

        good_both : (view : View) → All (IsGood view) cells → CellFits both → IsGood view both
        good_both view good fits =
            let here : IsGood view before = subst (IsGood view) (sym before_is) (good place before within) in
            subst (IsGood view) (sym both_is) (record {
              is_cell = record { key = here.is_cell.key; count = omega (arith, here.is_cell.count) };
              fits = subst CellFits both_is fits;
            })

        pub taken_over : CellFits both → TakesIn cells cell (slice_set cells place both)
        taken_over fits = record {
          longer = omega (arith, length-set cells place both);
          good = λ view good own. All-set (IsGood view) cells place both (good_both view good fits) good;
          by_key = λ number.
              (elim (key_as_number cell.key == number) as (λ b. (key_as_number cell.key == number) ≡ b
              → cell_at number (slice_set cells place both)
              ≡ merged_if_any (cell_at number cells) (cond b (Some cell) None)) [
                | true ↦ λ e.
                    let same : key_as_number cell.key ≡ number = same_key (key_as_number cell.key) number e in
                    ap (λ (n : ℕ). cell_at n (slice_set cells place both)) (sym same)
                    ∙ find-set (has_key (key_as_number cell.key)) cells place both place_at within
                    (own_key (key_as_number both.key) (key_as_number cell.key) key_both)
                    ∙ ap Some both_is
                    ∙ ap (λ (o : Option Cell). merged_if_any o (Some cell)) (sym found_before)
                    ∙ ap (λ (n : ℕ). merged_if_any (cell_at n cells) (Some cell)) same
                | false ↦ λ e.
                    let apart : (key_as_number before.key == number) ≡ false = ap (λ (n : ℕ). n == number) key_before
                    ∙ e in
                    let apart_both : (key_as_number both.key == number) ≡ false = ap (λ (n : ℕ). n == number) key_both
                    ∙ e in
                    find_past (has_key number) cells place both before (ap (has_key number) (sym before_is) ∙ apart)
                    apart_both
                    ∙ sym (none_else (cell_at number cells))
              ]) refl;
        }

    module _ (within : place < length cells) (new : List Cell) (m : MergesAt cells place cell new) where
      pub merged_taken : TakesIn cells cell new
      merged_taken =
          subst (TakesIn cells cell) (sym m.is)
          (taken_over within m.before m.before_is (merged m.before cell) refl m.fits)

      pub merged_keyed : (keys new_keys : List ℕ) → keys ≡ map (λ (c : Cell). key_as_number c.key) cells
          → new_keys ≡ keys
          → IsDistinct nat_eq new_keys → AreKeyed new_keys new
      merged_keyed keys new_keys keys_are same once =
          subst (AreKeyed new_keys) (sym m.is)
          (keyed_still within m.before m.before_is (merged m.before cell) refl keys new_keys keys_are same once)

    pub merge_overflows : place < length cells → OverflowsAt cells place cell → Overflows cells cell
    merge_overflows within over = overflows within over.before over.before_is over.passes
