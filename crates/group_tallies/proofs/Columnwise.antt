-- Rows that are counted in column by column.
use Rattle.std.proofs.Common.{◌≡◌, ◌≢◌, ◌∙◌, sym, ap, refl, subst, ℕ, zero, suc, ◌+◌, ◌<◌, ◌≤◌, List, [], ◌∷◌, ◌++◌}
use Rattle.std.proofs.Common.{map, length, arith, get_or, take, slice_set, length-set, get_or-set_same}
use Rattle.std.proofs.Common.{get_or-set_other, below_more}
use Rattle.std.specs.Prelude.{Option}
use Rattle.std.specs.List.{AllByRecursion}
use Rattle.std.specs.declared.alloc.Global.{Global}
use Rattle.std.specs.declared.vec.Vec.{Vec}
use Rattle.std.proofs.lemmas.List.{length-map, map-append, take_more}
use Rattle.cube_model.specs.declared.measure.Agg.{Agg}
use Rattle.cube_model.specs.declared.measure.Agg.TheVariants.{Count}
use Rattle.cube_model.specs.declared.rows.LineOrder.{LineOrder}
use Rattle.group_tallies.specs.Columns.{no_tally, tally_at, tallies_at, slotted, HasRoom}
use Rattle.group_tallies.specs.FoldInvariant.{HaveRoom}
use Rattle.group_tallies.specs.Coarser.{AddsIn, AddIn}
use Rattle.group_tallies.specs.Tallies.{aggregated, tally_of, tallies_of}
use Rattle.group_tallies.specs.declared.tally.Tally.{Tally}

-- in the columns below a place rows are counted in, some at each slot, and the others are as they were
pub record AreAddedBelow (n : ℕ) (aggs : List Agg) (added : ℕ → List LineOrder)
    (old new : List (Vec Tally Global)) : Type 0 where
  pub same_length : length new ≡ length old
  pub counted : (k : ℕ) → k < n → (agg : Agg) (column : Vec Tally Global)
      → AddsIn (get_or aggs k agg) added (get_or old k column).items (get_or new k column).items
  pub kept : (k : ℕ) → n ≤ k → (column : Vec Tally Global) → get_or new k column ≡ get_or old k column

-- those of slotted rows
abbrev pub AreCountedBelow : ℕ → List Agg → List LineOrder → List (Option ℕ) → List (Vec Tally Global)
    → List (Vec Tally Global) → Type 0
AreCountedBelow n aggs rows group_slots old new = AreAddedBelow n aggs (λ slot. slotted slot rows group_slots) old new

pub All-at : {X : Type 0} (P : X → Type 0) (xs : List X) → AllByRecursion P xs → (k : ℕ) → k < length xs → (x : X)
    → P (get_or xs k x)
All-at P [] all k h x = absurd (omega (arith, h))
All-at P (first ∷ xs) all zero h x = all.0
All-at P (first ∷ xs) all (suc k) h x = All-at P xs all.1 k (omega (arith, h)) x

pub All-set : {X : Type 0} (P : X → Type 0) (xs : List X) (k : ℕ) (x : X) → AllByRecursion P xs → P x
    → AllByRecursion P (slice_set xs k x)
All-set P [] k x all here = tt
All-set P (first ∷ xs) zero x all here = (here, all.1)
All-set P (first ∷ xs) (suc k) x all here = (all.0, All-set P xs k x all.1 here)

-- columns that have the same tallies are as many
pub as_many_columns : (columns others : List (Vec Tally Global))
    → ((slot : ℕ) → tallies_at columns slot ≡ tallies_at others slot) → length columns ≡ length others
as_many_columns columns others same =
    sym (length-map columns (λ (column : Vec Tally Global). tally_at column.items 0)) ∙ ap length (same 0)
    ∙ length-map others (λ (column : Vec Tally Global). tally_at column.items 0)

pub tallies-length : (aggs : List Agg) (columns : List (Vec Tally Global)) (slot : ℕ) (rows : List LineOrder)
    → tallies_at columns slot ≡ tallies_of aggs rows → length columns ≡ length aggs
tallies-length aggs columns slot rows same =
    sym (length-map columns (λ (column : Vec Tally Global). tally_at column.items slot)) ∙ ap length same
    ∙ length-map aggs (λ agg. tally_of (map (aggregated agg) rows))

pub tallies-one : (aggs : List Agg) (columns : List (Vec Tally Global)) (slot : ℕ) (rows : List LineOrder)
    → tallies_at columns slot ≡ tallies_of aggs rows
    → (k : ℕ) → k < length aggs → (agg : Agg) (column : Vec Tally Global)
    → tally_at (get_or columns k column).items slot ≡ tally_of (map (aggregated (get_or aggs k agg)) rows)
tallies-one [] columns slot rows same k h agg column = absurd (omega (arith, h))
tallies-one (first ∷ aggs) [] slot rows same k h agg column = absurd (cc same)
tallies-one (first ∷ aggs) (one ∷ columns) slot rows same zero h agg column = cc same
tallies-one (first ∷ aggs) (one ∷ columns) slot rows same (suc k) h agg column =
    let rest : tallies_at columns slot ≡ tallies_of aggs rows = cc same in
    tallies-one aggs columns slot rows rest k (omega (arith, h)) agg column

tallies-each : (aggs : List Agg) (columns : List (Vec Tally Global)) (slot : ℕ) (rows : List LineOrder)
    → length columns ≡ length aggs
    → ((k : ℕ) → k < length aggs → (agg : Agg) (column : Vec Tally Global)
    → tally_at (get_or columns k column).items slot ≡ tally_of (map (aggregated (get_or aggs k agg)) rows))
    → tallies_at columns slot ≡ tallies_of aggs rows
tallies-each [] [] slot rows same each = refl
tallies-each [] (one ∷ columns) slot rows same each = absurd (omega (arith, same))
tallies-each (first ∷ aggs) [] slot rows same each = absurd (omega (arith, same))
tallies-each (first ∷ aggs) (one ∷ columns) slot rows same each =
    let here = each 0 (omega arith) first one in
    let rest = tallies-each aggs columns slot rows (omega (arith, same))
    (λ k h agg column. each (suc k) (omega (arith, h)) agg column) in
    λ i. here i ∷ rest i

module _ (aggs : List Agg) (rows : List LineOrder) (group_slots : List (Option ℕ)) where
  pub HasRoom-at : (old now : List (Vec Tally Global)) (n : ℕ) → length old ≡ length aggs → n < length aggs
      → HaveRoom aggs old rows group_slots → AreCountedBelow n aggs rows group_slots old now
      → (agg : Agg) (column : Vec Tally Global)
      → HasRoom (get_or aggs n agg) (get_or now n column).items rows group_slots
  HasRoom-at old now n same h room below agg column =
      subst (λ (c : Vec Tally Global). HasRoom (get_or aggs n agg) c.items rows group_slots)
      (sym (below.kept n (omega arith) column))
      (room n h agg column)

module _ (aggs : List Agg) (added : ℕ → List LineOrder) where
  pub AreAddedBelow-set : (old now : List (Vec Tally Global)) (n : ℕ) (column : Vec Tally Global)
      → length old ≡ length aggs → n < length aggs → AreAddedBelow n aggs added old now
      → ((agg : Agg) (first : Vec Tally Global)
      → AddsIn (get_or aggs n agg) added (get_or now n first).items column.items)
      → AreAddedBelow (n + 1) aggs added old (slice_set now n column)
  AreAddedBelow-set old now n column same h before here =
      let in_now : n < length now = omega (arith, before.same_length, same, h) in
      record {
        same_length = length-set now n column ∙ before.same_length;
        counted = below_more _ _
            (λ k below agg first. let other : k ≢ n = omega (arith, below) in
            subst (λ (c : Vec Tally Global). AddsIn (get_or aggs k agg) added (get_or old k first).items c.items)
            (sym (get_or-set_other now n k column first other)) (before.counted k below agg first))
            (λ agg first.
            subst (λ (c : Vec Tally Global). AddsIn (get_or aggs n agg) added (get_or old n first).items c.items)
            (sym (get_or-set_same now n column first in_now))
            (subst (λ (c : Vec Tally Global). AddsIn (get_or aggs n agg) added c.items column.items)
            (before.kept n (omega arith) first) (here agg first)));
        kept = λ k above first. let other : k ≢ n = omega (arith, above) in get_or-set_other now n k column first other
            ∙ before.kept k (omega (arith, above)) first;
      }

  pub AddIn-whole : (old new : List (Vec Tally Global)) (n : ℕ) → length old ≡ length aggs → length aggs ≤ n
      → AreAddedBelow n aggs added old new → AddIn aggs added old new
  AddIn-whole old new n same h done = λ slot before reads.
      tallies-each aggs new slot (before ++ added slot) (done.same_length ∙ same)
      (λ k below agg column. done.counted k (omega (arith, below, h)) agg column slot before
      (tallies-one aggs old slot before reads k below agg column))

-- one column more that has no tally
pub no_columns-next : (aggs : List Agg) (columns : List (Vec Tally Global)) (column : Vec Tally Global) (n slot : ℕ)
    → n < length aggs → column.items ≡ [] → tallies_at columns slot ≡ tallies_of (take n aggs) []
    → tallies_at (columns ++ column ∷ []) slot ≡ tallies_of (take (n + 1) aggs) []
no_columns-next aggs columns column n slot h none before =
    map-append (λ (column : Vec Tally Global). tally_at column.items slot) columns (column ∷ [])
    ∙ ap (λ items. tallies_at columns slot ++ tally_at items slot ∷ []) none
    ∙ ap (λ tallies. tallies ++ no_tally ∷ []) before
    ∙ sym (map-append (λ agg. tally_of (map (aggregated agg) [])) (take n aggs) (get_or aggs n Count ∷ []))
    ∙ ap (λ more. tallies_of more []) (sym (take_more aggs n Count h))
