-- Lemmas of `root`, by subject.
use Rattle.std.proofs.Common.{ℕ, arith, ◌≡◌, ◌<◌, ◌==◌, if◌then◌else◌, true, false, List, length, get_or, refl, ap, ◌∙◌}
use Rattle.warehouse_root.specs.declared.cuboid.StoredCuboid.{StoredCuboid}
use Rattle.warehouse_root.specs.declared.layout.Layout.{Layout}
use Rattle.warehouse_root.specs.declared.layout.Layout.TheVariants.{First, Second}
use Rattle.warehouse_root.specs.Root.{IsProperRoot, IsProperCuboid, PlainRoot, root_in_second, ViewsAscend}
use Rattle.warehouse_root.specs.Root.{put_stored_cuboid, with_cuboid}
use Rattle.std.proofs.lemmas.Bool.Decides.{nat_tests}
use Rattle.std.proofs.lemmas.List.{get_or-map, length-map}
use Rattle.std.proofs.lemmas.List.Elements.{All-map}

-- ==== A root keeps the rules in the second layout, which has more views.

cuboid_stays : (layout : Layout) (batches : ℕ) (cuboid : StoredCuboid) → IsProperCuboid layout batches cuboid
    → IsProperCuboid Second batches cuboid
cuboid_stays First batches cuboid own = record {
  view = omega (arith, own.view);
  mark = own.mark;
  no_run = own.no_run;
  most_runs = own.most_runs;
  most_cells = own.most_cells;
}
cuboid_stays Second batches cuboid own = own

pub moved : (root : PlainRoot) → IsProperRoot root → IsProperRoot (root_in_second root)
moved root proper = record {
  most_batches = proper.most_batches;
  rows = proper.rows;
  target = proper.target;
  additions = proper.additions;
  totals = proper.totals;
  most_cuboids = proper.most_cuboids;
  each = λ k d within. cuboid_stays root.layout _ _ (proper.each k d within);
  ascending = proper.ascending;
}

-- ==== A root with a cuboid in the place of that of its view keeps the rules.

module _ (cuboid : StoredCuboid) where
  abbrev placed_at : StoredCuboid → StoredCuboid
  placed_at other = if other.view == cuboid.view then cuboid else other

  placed_view : (other : StoredCuboid) → (placed_at other).view ≡ other.view
  placed_view other =
      (elim (other.view == cuboid.view) as (λ b. (other.view == cuboid.view) ≡ b
      → (if b then cuboid else other).view ≡ other.view) [
        | true ↦ λ e. (let same : cuboid.view ≡ other.view = grind (arith, nat_tests, e) in same)
        | false ↦ λ e. refl
      ]) refl

  placed_has : (P : StoredCuboid → Type 0) (other : StoredCuboid) → P cuboid → P other → P (placed_at other)
  placed_has P other own has = elim (other.view == cuboid.view) as (λ b. P (if b then cuboid else other)) [
    | true ↦ own
    | false ↦ has
  ]

  placed_ascend : (cuboids : List StoredCuboid) → ViewsAscend cuboids → ViewsAscend (put_stored_cuboid cuboid cuboids)
  placed_ascend cuboids up i j d before within =
      let there : j < length cuboids = omega (arith, within, length-map cuboids placed_at) in
      let less = up i j d before there in
      let at_i = ap (λ (c : StoredCuboid). c.view) (get_or-map placed_at cuboids i d d (omega (arith, before, there)))
      ∙ placed_view (get_or cuboids i d) in
      let at_j = ap (λ (c : StoredCuboid). c.view) (get_or-map placed_at cuboids j d d there)
      ∙ placed_view (get_or cuboids j d) in
      omega (arith, less, at_i, at_j)

  pub placed : (root : PlainRoot) → IsProperRoot root → IsProperCuboid root.layout (length root.batches) cuboid
      → IsProperRoot (with_cuboid cuboid root)
  placed root proper own = record {
    most_batches = proper.most_batches;
    rows = proper.rows;
    target = proper.target;
    additions = proper.additions;
    totals = proper.totals;
    most_cuboids = omega (arith, proper.most_cuboids, length-map root.cuboids placed_at);
    each =
        All-map (IsProperCuboid root.layout (length root.batches)) placed_at root.cuboids
        (λ k d within. placed_has (IsProperCuboid root.layout (length root.batches)) (get_or root.cuboids k d) own
        (proper.each k d within));
    ascending = placed_ascend root.cuboids proper.ascending;
  }
