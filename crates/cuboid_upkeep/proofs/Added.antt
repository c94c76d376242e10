-- Cells of fact rows put end to end.
use Rattle.std.proofs.Common.{◌≡◌, ◌∙◌, sym, ap, refl, subst, inl, inr, ◌⊎◌, ℕ, List, [], ◌∷◌, ◌++◌, Some, All}
use Rattle.std.proofs.Common.{append_assoc, append-nil, Ok, Err}
use Rattle.std.specs.Prelude.{IfErr, OnOk, Result}
use Rattle.std.proofs.lemmas.List.Elements.{All-append, All-tail}
use Rattle.cube_model.specs.declared.fault.Fault.{Fault}
use Rattle.cube_model.specs.declared.rows.DimRows.{DimRows}
use Rattle.cube_model.specs.declared.rows.LineOrder.{LineOrder}
use Rattle.lattice.specs.declared.view.View.{View}
use Rattle.cuboid_cells.specs.declared.cell.Cell.{Cell}
use Rattle.cuboid_cells.specs.Cells.{AreAscending, CellFits, KeyFits, PlainCells, cell_at, key_as_number}
use Rattle.cuboid_cells.specs.Merges.{IsMergeFault, IsMergeOf, PassesType, merged, merged_if_any}
use Rattle.cuboid_upkeep.specs.Grouping.{Group, HasMembers, PassType, RepresentRows}
use Rattle.cuboid_upkeep.specs.Lawful.{MergesRepresentBoth}
use Rattle.cuboid_upkeep.specs.Steps.{AreUnfit, IsAddFault}
use Rattle.cuboid_upkeep.proofs.Merged.{both_group, over_append}
use Rattle.cuboid_upkeep.proofs.Sorted.{ascending_apart, only_one}

-- what follows in a result
pub ok_through : {A : Type 0} (r : Result A Fault) (P Q : Type 0) → (P → Q) → OnOk r P → OnOk r Q
ok_through (Ok a) P Q f p = f p
ok_through (Err fault) P Q f p = p

pub err_through : {A : Type 0} (r : Result A Fault) (P Q : Fault → Type 0) → ((fault : Fault) → P fault → Q fault)
    → IfErr r P → IfErr r Q
err_through (Ok a) P Q f p = p
err_through (Err fault) P Q f p = f fault p

pub both_represent : MergesRepresentBoth
both_represent dimensions modes rows others one other new same first second merge =
    let to_new : one.view ≡ new.view = sym merge.view in
    let from_other : other.view ≡ new.view = sym same ∙ sym merge.view in record {
      known = All-append (HasMembers dimensions modes new.view) rows others
          (subst (λ (view : View). All (HasMembers dimensions modes view) rows) to_new first.known)
          (subst (λ (view : View). All (HasMembers dimensions modes view) others) from_other second.known);
      ascending = merge.cells.ascending;
      group = both_group dimensions modes new.view rows others one.cells other.cells new.cells
          (subst (λ (view : View). Group dimensions modes view rows one.cells) to_new first.group)
          (subst (λ (view : View). Group dimensions modes view others other.cells) from_other second.group)
          merge.cells.by_key;
    }

-- no cell merged with others
pub merge_of_none : (one other : PlainCells) → one.cells ≡ [] → one.view ≡ other.view → AreAscending other.cells
    → IsMergeOf one other other
merge_of_none one other none same ascending = record {
  view = sym same;
  cells = record {
    ascending = ascending;
    by_key = λ key. ap (λ (cells : List Cell). merged_if_any (cell_at key cells) (cell_at key other.cells)) (sym none);
  };
}

all_after : (P : LineOrder → Type 0) (rows others : List LineOrder) → All P (rows ++ others) → All P others
all_after P [] others all = all
all_after P (row ∷ rows) others all = all_after P rows others (All-tail P row (rows ++ others) all)

module _ (dimensions : DimRows) (modes : List (List ℕ)) (view : View) (so_far rows : List LineOrder) where
  -- rows that are unfit by themselves are so after others
  pub unfit_after : AreUnfit dimensions modes view rows → AreUnfit dimensions modes view (so_far ++ rows)
  unfit_after (inl none) = inl (λ all. none (all_after (HasMembers dimensions modes view) so_far rows all))
  unfit_after (inr past) = inr (record {
    before = so_far ++ past.before;
    part = past.part;
    after = past.after;
    number = past.number;
    cell = past.cell;
    parts = ap (λ (l : List LineOrder). so_far ++ l) past.parts
        ∙ sym (append_assoc so_far past.before (past.part ++ past.after));
    is = past.is;
    passes = past.passes;
  })

  pub batch_refused : (fault : Fault) → (fault ≡ Fault.Memory)
      ⊎ ((fault ≡ Fault.BadLayout) × AreUnfit dimensions modes view rows)
      → IsAddFault dimensions modes view (so_far ++ rows) fault
  batch_refused fault (inl memory) = inl memory
  batch_refused fault (inr bad) = inr (inl (bad.0, unfit_after bad.1))

  module _ (one other : List Cell) (fit : All CellFits one)
      (first : RepresentRows dimensions modes so_far (record { view = view; cells = one }))
      (second : RepresentRows dimensions modes rows (record { view = view; cells = other })) where
    passed : PassesType one other → PassType dimensions modes view (so_far ++ rows)
    passed p =
        let number : ℕ = key_as_number p.left.key in
        let left_key : KeyFits p.left.key =
        subst (λ (c : Cell). KeyFits c.key) p.in_one.2 (fit p.in_one.0 p.left p.in_one.1).key in
        let at_left : cell_at number one ≡ Some p.left =
        only_one one p.left (ascending_apart one first.ascending) p.in_one in
        let at_right : cell_at number other ≡ Some p.right =
        ap (λ (n : ℕ). cell_at n other) p.key
        ∙ only_one other p.right (ascending_apart other second.ascending) p.in_other in record {
          before = [];
          part = so_far ++ rows;
          after = [];
          number = number;
          cell = merged p.left p.right;
          parts = sym (append-nil (so_far ++ rows));
          is =
              over_append dimensions modes view number so_far rows
              ∙ (λ i. merged_if_any (sym (first.group number) i) (sym (second.group number) i))
              ∙ (λ i. merged_if_any (at_left i) (at_right i));
          passes = λ numbers. p.passes (record { key = left_key; count = numbers.count; measures = numbers.measures });
        }

    pub merge_refused : (fault : Fault)
        → IsMergeFault (record { view = view; cells = one }) (record { view = view; cells = other }) fault
        → IsAddFault dimensions modes view (so_far ++ rows) fault
    merge_refused fault (inl memory) = inl memory
    merge_refused fault (inr (inl bad)) = inr (inl (bad.0, inr (passed bad.1)))
    merge_refused fault (inr (inr many)) = inr (inr (
      many.0,
      record {
        cells = many.1.cells;
        represent = both_represent dimensions modes so_far rows (record { view = view; cells = one })
            (record { view = view; cells = other })
            (record { view = view; cells = many.1.cells }) refl first second
            (record { view = refl; cells = many.1.are });
        many = many.1.many;
      },
    ))
