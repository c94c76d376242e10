-- A cuboid that is brought on, as objects and in the root.
use Rattle.std.proofs.Common.{◌≡◌, ◌≢◌, ◌⊎◌, inl, inr, ℕ, zero, suc, ◌+◌, ◌-◌, ◌*◌, ◌/◌, ◌%◌, ◌<◌, ◌≤◌, ◌==◌, nat_lt}
use Rattle.std.proofs.Common.{if◌then◌else◌, Bool, true, false, Option, Some, None, List, [], ◌∷◌, ◌++◌, map, length}
use Rattle.std.proofs.Common.{get_or, slice_get, All, refl, sym, ◌∙◌, ap, subst, arith}
use Rattle.std.specs.List.{range_with_len}
use Rattle.std.specs.Option.{option_map}
use Rattle.std.proofs.Math.Nat.{div-add-mod, mod-lt}
use Rattle.std.proofs.lemmas.Bool.{cases_lt}
use Rattle.std.proofs.lemmas.Bool.Decides.{nat_tests}
use Rattle.std.proofs.lemmas.List.{get_or-map, length-map}
use Rattle.std.proofs.lemmas.List.Elements.{All-cons, All-head, All-nil, All-tail}
use Rattle.std.proofs.lemmas.Option.{slice_get_past}
use Rattle.cube_model.specs.declared.attr.Axis.TheVariants.{Customer, Supplier, Part, Date}
use Rattle.object_store.specs.Content.{Content}
use Rattle.object_store.specs.Commit.{among, committed, without}
use Rattle.object_store.proofs.CallerLemmas.{bytes_after, layout_after, once_after, root_after}
use Rattle.column_segment.specs.Segment.{segment_of}
use Rattle.lattice.specs.declared.view.View.{View}
use Rattle.lattice.specs.Views.{index_of}
use Rattle.warehouse_root.specs.declared.cuboid.StoredCuboid.{StoredCuboid}
use Rattle.warehouse_root.specs.Layouts.{layout_number, view_count}
use Rattle.warehouse_root.specs.Objects.{run_id}
use Rattle.warehouse_root.specs.Root as roots
use Rattle.warehouse_root.specs.Root.{ViewsAscend, IsProperCuboid}
use Rattle.warehouse_objects.specs.Warehouse.{Cuboid, StoredRun, Warehouse, cuboid_at, kept, ship_modes_of, put_cuboid}
use Rattle.warehouse_objects.specs.Represents.{Follow, HoldsGroupings, Represents, dimension_of, object_of, root_of}
use Rattle.warehouse_objects.specs.Represents.{modes_object, run_after, run_bytes, run_in, said_of}
use Rattle.warehouse_objects.specs.Lawful.{MayReplace, later_runs, run_put}
use Rattle.warehouse_objects.proofs.Batches.{AreProperCuboids, root_proper, slice_get_snoc}
use Rattle.warehouse_objects.proofs.Contents.{objects_high, objects_low}

-- ---- lists of ids

pub without_none : (drops : List ℕ) (id : ℕ) → without drops id None ≡ None
without_none [] id = refl
without_none (drop ∷ drops) id = grind (arith, nat_tests, without_none drops id)

pub without_range : (a n id : ℕ) (was : Option (List ℕ))
    → without (range_with_len a n) id was ≡ (if nat_lt id a then was else (if nat_lt id (a + n) then None else was))
without_range a zero id was = grind (arith, nat_tests)
without_range a (suc n) id was =
    grind (
      arith,
      nat_tests,
      without_range (a + 1) n id was,
      without_range (a + 1) n id None,
      without_none (range_with_len (a + 1) n) id,
    )

-- ---- the cuboid of a view

abbrev number_of_view : Cuboid → ℕ
number_of_view cuboid = index_of cuboid.view

put_same : (new : Cuboid) (view : ℕ) (cuboids : List Cuboid) (old : Cuboid) → number_of_view new ≡ view
    → cuboid_at view cuboids ≡ Some old → cuboid_at view (put_cuboid new cuboids) ≡ Some new
put_same new view [] old same is = absurd cc
put_same new view (c ∷ cs) old same is =
    put_first new c (number_of_view new) (number_of_view c) view refl refl cs (put_same new view cs old same) same is
  where
    put_first : (new c : Cuboid) (n m view : ℕ) → number_of_view new ≡ n → number_of_view c ≡ m → (cs : List Cuboid)
        → (cuboid_at view cs ≡ Some old → cuboid_at view (put_cuboid new cs) ≡ Some new) → n ≡ view
        → (if m == view then Some c else cuboid_at view cs) ≡ Some old
        → cuboid_at view ((if m == n then new else c) ∷ put_cuboid new cs) ≡ Some new
    put_first new c n m view n_is m_is cs rest same is =
        (elim (m == view) as (λ t. (m == view) ≡ t → (if t then Some c else cuboid_at view cs) ≡ Some old
        → cuboid_at view ((if m == n then new else c) ∷ put_cuboid new cs) ≡ Some new) [
          | true ↦ λ e found.
              (let own : (m == n) ≡ true = ap (λ (k : ℕ). m == k) same ∙ e in
              let here : (number_of_view new == view) ≡ true = let k : number_of_view new ≡ view = n_is ∙ same in
              grind (arith, nat_tests, k) in
              ap (λ (b : Bool). cuboid_at view ((if b then new else c) ∷ put_cuboid new cs)) own
              ∙ ap (λ (b : Bool). if b then Some new else cuboid_at view (put_cuboid new cs)) here)
          | false ↦ λ e found.
              (let other : (m == n) ≡ false = ap (λ (k : ℕ). m == k) same ∙ e in
              let there : (number_of_view c == view) ≡ false = ap (λ (k : ℕ). k == view) m_is ∙ e in
              ap (λ (b : Bool). cuboid_at view ((if b then new else c) ∷ put_cuboid new cs)) other
              ∙ ap (λ (b : Bool). if b then Some c else cuboid_at view (put_cuboid new cs)) there ∙ rest found)
        ]) refl is

put_other : (new : Cuboid) (view : ℕ) (cuboids : List Cuboid) → number_of_view new ≢ view
    → cuboid_at view (put_cuboid new cuboids) ≡ cuboid_at view cuboids
put_other new view [] other = refl
put_other new view (c ∷ cs) other =
    put_first (number_of_view new) (number_of_view c) refl refl (put_other new view cs other)
  where
    put_first : (n m : ℕ) → number_of_view new ≡ n → number_of_view c ≡ m
        → cuboid_at view (put_cuboid new cs) ≡ cuboid_at view cs
        → cuboid_at view ((if m == n then new else c) ∷ put_cuboid new cs)
        ≡ (if m == view then Some c else cuboid_at view cs)
    put_first n m n_is m_is rest =
        (elim (m == n) as (λ t. (m == n) ≡ t → cuboid_at view ((if t then new else c) ∷ put_cuboid new cs)
        ≡ (if m == view then Some c else cuboid_at view cs)) [
          | true ↦ λ e.
              (let same : m ≡ n = grind (arith, nat_tests, e) in
              let new_not : (number_of_view new == view) ≡ false = grind (arith, nat_tests, other) in
              let c_not : (m == view) ≡ false = ap (λ (k : ℕ). k == view) (same ∙ sym n_is) ∙ new_not in
              ap (λ (b : Bool). if b then Some new else cuboid_at view (put_cuboid new cs)) new_not ∙ rest
              ∙ ap (λ (b : Bool). if b then Some c else cuboid_at view cs) (sym c_not))
          | false ↦ λ e.
              ap (λ (k : ℕ). if k == view then Some c else cuboid_at view (put_cuboid new cs)) m_is
              ∙ ap (λ (o : Option Cuboid). if m == view then Some c else o) rest
        ]) refl

-- ---- its objects

module _ (cuboids : List Cuboid) (old new : Cuboid) (run : StoredRun) (id : ℕ)
    (is : cuboid_at (index_of old.view) cuboids ≡ Some old) (same : new.view ≡ old.view) (from : 131072 ≤ id) where
  abbrev v : ℕ
  v = index_of old.view

  abbrev q : ℕ
  q = (id - 131072) / 16

  abbrev m : ℕ
  m = (id - 131072) % 16

  parts : 16 * q + m ≡ id - 131072
  parts = div-add-mod (id - 131072) 16

  low : m < 16
  low = mod-lt (id - 131072) (omega arith)

  here_old : q ≡ v → run_after (id - 131072) cuboids ≡ option_map (run_bytes old) (slice_get old.runs m)
  here_old e = ap (λ (k : ℕ). run_in (cuboid_at k cuboids) m) e ∙ ap (λ (o : Option Cuboid). run_in o m) is

  here_new : q ≡ v → run_after (id - 131072) (put_cuboid new cuboids)
      ≡ option_map (run_bytes new) (slice_get new.runs m)
  here_new e = ap (λ (k : ℕ). run_in (cuboid_at k (put_cuboid new cuboids)) m) e
      ∙ ap (λ (o : Option Cuboid). run_in o m) (put_same new v cuboids old (ap index_of same) is)

  -- runs are spelled by their view
  spelled : run_bytes new ≡ run_bytes old
  spelled = ap {B = StoredRun → List ℕ}
      (λ (view : View). run_bytes (record { view = view; mark = new.mark; runs = new.runs })) same

  elsewhere : q ≢ v → run_after (id - 131072) (put_cuboid new cuboids) ≡ run_after (id - 131072) cuboids
  elsewhere ne = ap (λ (o : Option Cuboid). run_in o m) (put_other new q cuboids (λ e. ne (sym e ∙ ap index_of same)))

  pub appended : new.runs ≡ old.runs ++ run ∷ [] → length old.runs < 16
      → among ((run_id (index_of new.view) (length old.runs), run_bytes new run) ∷ []) id
      (run_after (id - 131072) cuboids) ≡ run_after (id - 131072) (put_cuboid new cuboids)
  appended more few =
      ap (λ (view : View). if run_id (index_of view) (length old.runs) == id then Some (run_bytes new run) else
      run_after (id - 131072) cuboids) same ∙
      ((elim (q == v) as
      (λ t. (q == v) ≡ t
      → (if run_id v (length old.runs) == id then Some (run_bytes new run) else run_after (id - 131072) cuboids)
      ≡ run_after (id - 131072) (put_cuboid new cuboids)) [
        | true ↦ λ e.
            (let own : q ≡ v = grind (arith, nat_tests, e) in
            let snoc : slice_get new.runs m ≡ (if length old.runs == m then Some run else slice_get old.runs m) =
            ap (λ (l : List StoredRun). slice_get l m) more ∙ slice_get_snoc old.runs run m in
            let put : (run_id v (length old.runs) == id) ≡ (length old.runs == m) =
            grind (arith, nat_tests, own, parts, from, low) in
            ap (λ (o : Option (List ℕ)). if run_id v (length old.runs) == id then Some (run_bytes new run) else o)
            (here_old own ∙ ap (λ (f : StoredRun → List ℕ). option_map f (slice_get old.runs m)) (sym spelled))
            ∙ ap (λ (b : Bool). if b then Some (run_bytes new run) else option_map (run_bytes new)
            (slice_get old.runs m)) put
            ∙ (elim (length old.runs == m) as
            (λ b. (if b then Some (run_bytes new run) else option_map (run_bytes new) (slice_get old.runs m))
            ≡ option_map (run_bytes new) (if b then Some run else slice_get old.runs m)) [
              | true ↦ refl
              | false ↦ refl
            ])
            ∙ ap (option_map (run_bytes new)) (sym snoc)
            ∙ sym (here_new own))
        | false ↦ λ e.
            (let ne : q ≢ v = λ x. grind (arith, nat_tests, e, x) in
            let put : (run_id v (length old.runs) == id) ≡ false =
            grind (arith, nat_tests, ne, parts, from, low, few) in
            ap (λ (b : Bool). if b then Some (run_bytes new run) else run_after (id - 131072) cuboids) put
            ∙ sym (elsewhere ne))
      ]) refl)

  pub merged_in : new.runs ≡ run ∷ [] → length old.runs ≤ 16
      → among ((run_id (index_of new.view) 0, run_bytes new run) ∷ []) id
      (without (range_with_len (run_id v 1) (length old.runs - 1)) id (run_after (id - 131072) cuboids))
      ≡ run_after (id - 131072) (put_cuboid new cuboids)
  merged_in one few =
      ap (λ (view : View). if run_id (index_of view) 0 == id then Some (run_bytes new run) else without
      (range_with_len (run_id v 1) (length old.runs - 1)) id (run_after (id - 131072) cuboids)) same
      ∙ ap (λ (o : Option (List ℕ)). if run_id v 0 == id then Some (run_bytes new run) else o)
      (without_range (run_id v 1) (length old.runs - 1) id (run_after (id - 131072) cuboids))
      ∙ ((elim (q == v) as
      (λ t. (q == v) ≡ t
      → (if run_id v 0 == id then Some (run_bytes new run) else
      (if nat_lt id (run_id v 1) then run_after (id - 131072) cuboids else
      (if nat_lt id (run_id v 1 + (length old.runs - 1)) then None else run_after (id - 131072) cuboids)))
      ≡ run_after (id - 131072) (put_cuboid new cuboids)) [
        | true ↦ λ e.
            (let own : q ≡ v = grind (arith, nat_tests, e) in
            let put : (run_id v 0 == id) ≡ (0 == m) = grind (arith, nat_tests, own, parts, from, low) in
            let before : nat_lt id (run_id v 1) ≡ (0 == m) = grind (arith, nat_tests, own, parts, from, low) in
            let within : nat_lt id (run_id v 1 + (length old.runs - 1)) ≡ nat_lt m (1 + (length old.runs - 1)) =
            grind (arith, nat_tests, own, parts, from, low) in
            let single : slice_get new.runs m ≡ slice_get (run ∷ []) m =
            ap (λ (l : List StoredRun). slice_get l m) one in
            in_view (run_after (id - 131072) cuboids) (run_after (id - 131072) (put_cuboid new cuboids)) put before
            within
            (here_old own ∙ ap (λ (f : StoredRun → List ℕ). option_map f (slice_get old.runs m)) (sym spelled))
            (here_new own ∙ ap (option_map (run_bytes new)) single))
        | false ↦ λ e.
            (let ne : q ≢ v = λ x. grind (arith, nat_tests, e, x) in
            let put : (run_id v 0 == id) ≡ false = grind (arith, nat_tests, ne, parts, from, low) in
            ap (λ (b : Bool). if b then Some (run_bytes new run) else
            (if nat_lt id (run_id v 1) then run_after (id - 131072) cuboids else
            (if nat_lt id (run_id v 1 + (length old.runs - 1)) then None else run_after (id - 131072) cuboids)))
            put
            ∙ outside (run_after (id - 131072) cuboids) ne ∙ sym (elsewhere ne))
      ]) refl)
    where
      outside : (o : Option (List ℕ)) → q ≢ v
          → (if nat_lt id (run_id v 1) then o else (if nat_lt id (run_id v 1 + (length old.runs - 1)) then None else o))
          ≡ o
      outside o ne = grind (arith, nat_tests, ne, parts, from, low, few)

      past : (k : ℕ) (o p : Option (List ℕ)) → o ≡ option_map (run_bytes new) (slice_get old.runs k) → p ≡ None
          → (if nat_lt k (1 + (length old.runs - 1)) then None else o) ≡ p
      past k o p o_is p_is =
          (elim (nat_lt k (1 + (length old.runs - 1))) as (λ b. nat_lt k (1 + (length old.runs - 1)) ≡ b
          → (if b then None else o) ≡ p) [
            | true ↦ λ e. sym p_is
            | false ↦ λ e.
                (let beyond : slice_get old.runs k ≡ None = slice_get_past old.runs k (grind (arith, nat_tests, e)) in
                o_is ∙ ap (option_map (run_bytes new)) beyond ∙ sym p_is)
          ]) refl

      inner : (k : ℕ) (o p : Option (List ℕ)) → o ≡ option_map (run_bytes new) (slice_get old.runs k)
          → p ≡ option_map (run_bytes new) (slice_get (run ∷ []) k)
          → (if 0 == k then Some (run_bytes new run) else
          (if 0 == k then o else (if nat_lt k (1 + (length old.runs - 1)) then None else o))) ≡ p
      inner zero o p o_is p_is = sym p_is
      inner (suc k) o p o_is p_is = let none : (0 == suc k) ≡ false = grind (arith, nat_tests) in
          rw none (past (suc k) o p o_is p_is)

      in_view : (o p : Option (List ℕ)) → (run_id v 0 == id) ≡ (0 == m) → nat_lt id (run_id v 1) ≡ (0 == m)
          → nat_lt id (run_id v 1 + (length old.runs - 1)) ≡ nat_lt m (1 + (length old.runs - 1))
          → o ≡ option_map (run_bytes new) (slice_get old.runs m)
          → p ≡ option_map (run_bytes new) (slice_get (run ∷ []) m)
          → (if run_id v 0 == id then Some (run_bytes new run) else
          (if nat_lt id (run_id v 1) then o else
          (if nat_lt id (run_id v 1 + (length old.runs - 1)) then None else o))) ≡ p
      in_view o p put before within o_is p_is = rw (put, before, within) (inner m o p o_is p_is)

-- ---- in the root

view_put : (new : Cuboid) (cuboids : List Cuboid) (k : ℕ) (d : Cuboid)
    → index_of (get_or (put_cuboid new cuboids) k d).view ≡ index_of (get_or cuboids k d).view
view_put new [] k d = refl
view_put new (c ∷ cs) zero d = first (index_of c.view) refl
  where
    first : (n : ℕ) → index_of c.view ≡ n → index_of (if n == index_of new.view then new else c).view ≡ n
    first n is =
        (elim (n == index_of new.view) as (λ t. (n == index_of new.view) ≡ t
        → index_of (if t then new else c).view ≡ n) [
          | true ↦ λ e. (let own : n ≡ index_of new.view = grind (arith, nat_tests, e) in sym own)
          | false ↦ λ e. is
        ]) refl
view_put new (c ∷ cs) (suc k) d = view_put new cs k d

-- each is the new one, or was there
one_of : (P : Cuboid → Type 0) (new : Cuboid) (cuboids : List Cuboid) → P new → All P cuboids
    → All P (put_cuboid new cuboids)
one_of P new [] own all = All-nil P
one_of P new (c ∷ cs) own all =
    All-cons P (if index_of c.view == index_of new.view then new else c) (put_cuboid new cs)
    (elim (index_of c.view == index_of new.view) as (λ t. P (if t then new else c)) [
      | true ↦ own
      | false ↦ All-head P c cs all
    ])
    (one_of P new cs own (All-tail P c cs all))

not_put : (v n id : ℕ) (o : Option (List ℕ)) (bytes : List ℕ) → id < 131072
    → (if run_id v n == id then Some bytes else o) ≡ o
not_put v n id o bytes lt = grind (arith, nat_tests, lt)

module _ (c : Content) (w : Warehouse) (old new : Cuboid) (represents : Represents c w) (may : MayReplace w old new)
  where
    abbrev root_bytes : List ℕ
    root_bytes = roots.root_spelling (root_of (kept w new))

    many : length (map said_of (put_cuboid new w.cuboids)) ≡ length (map said_of w.cuboids)
    many = length-map (put_cuboid new w.cuboids) said_of
        ∙ length-map w.cuboids (λ other. if index_of other.view == index_of new.view then new else other)
        ∙ sym (length-map w.cuboids said_of)

    abbrev Proper : StoredCuboid → Type 0
    Proper = IsProperCuboid w.layout (length (map length w.batches))

    proper_old : All (λ cuboid. Proper (said_of cuboid)) w.cuboids
    proper_old = λ k d within.
        subst Proper (get_or-map said_of w.cuboids k d (said_of d) within)
        (represents.root.proper.each k (said_of d) (omega (arith, within, length-map w.cuboids said_of)))

    proper_new : Proper (said_of new)
    proper_new = record {
      view = subst (λ (n : ℕ). n < view_count w.layout) (ap index_of (sym may.view)) old_view;
      mark = omega (arith, may.within, length-map w.batches length);
      no_run = (λ none. absurd (no_runs none), λ none. absurd (omega (arith, may.some, none)));
      most_runs = may.few;
      most_cells = may.cells;
    }
      where
        found_in : (cs : List Cuboid) → All (λ cuboid. Proper (said_of cuboid)) cs
            → cuboid_at (index_of old.view) cs ≡ Some old → Proper (said_of old)
        found_in [] all is = absurd cc
        found_in (x ∷ xs) all is =
            (elim (index_of x.view == index_of old.view) as
            (λ t. (if t then Some x else cuboid_at (index_of old.view) xs) ≡ Some old → Proper (said_of old)) [
              | true ↦ λ e.
                  (let same : x ≡ old = cc e in subst (λ (y : Cuboid). Proper (said_of y)) same
                  (All-head (λ cuboid. Proper (said_of cuboid)) x xs all))
              | false ↦ λ e. found_in xs (All-tail (λ cuboid. Proper (said_of cuboid)) x xs all) e
            ]) is

        old_view : index_of old.view < view_count w.layout
        old_view = (found_in w.cuboids proper_old may.stored).view

        no_runs : length new.runs ≡ 0 → ⊥
        no_runs none = at_none new.runs none may.holds.laid.follow
          where
            at_none : (runs : List StoredRun) → length runs ≡ 0 → Follow 0 runs new.mark → ⊥
            at_none [] e follow = absurd (omega (arith, may.some, follow))
            at_none (r ∷ runs) e follow = absurd (omega (arith, e))

    proper_after : AreProperCuboids (kept w new)
    proper_after = record {
      most = omega (arith, many, represents.root.proper.most_cuboids);
      each = λ k d within.
          let inside : k < length (put_cuboid new w.cuboids) =
          omega (arith, within, length-map (put_cuboid new w.cuboids) said_of) in
          subst Proper (sym (get_or-map said_of (put_cuboid new w.cuboids) k new d inside))
          (one_of (λ cuboid. Proper (said_of cuboid)) new w.cuboids proper_new proper_old k new inside);
      ascending = λ i j d before within.
          let inside : j < length (put_cuboid new w.cuboids) =
          omega (arith, within, length-map (put_cuboid new w.cuboids) said_of) in
          let was : j < length w.cuboids =
          omega (
            arith,
            inside,
            length-map w.cuboids (λ other. if index_of other.view == index_of new.view then new else other),
          ) in
          let up = represents.root.proper.ascending i j d before (omega (arith, within, many)) in
          let at_i = ap (λ (s : StoredCuboid). s.view)
          (get_or-map said_of (put_cuboid new w.cuboids) i new d (omega (arith, before, inside)))
          ∙ view_put new w.cuboids i new
          ∙ ap (λ (s : StoredCuboid). s.view)
          (sym (get_or-map said_of w.cuboids i new d (omega (arith, before, was)))) in
          let at_j = ap (λ (s : StoredCuboid). s.view) (get_or-map said_of (put_cuboid new w.cuboids) j new d inside)
          ∙ view_put new w.cuboids j new
          ∙ ap (λ (s : StoredCuboid). s.view) (sym (get_or-map said_of w.cuboids j new d was)) in
          omega (arith, up, at_i, at_j);
    }

    hold_after : All (HoldsGroupings (kept w new)) (put_cuboid new w.cuboids)
    hold_after =
        one_of (HoldsGroupings (kept w new)) new w.cuboids (still new may.holds)
        (λ k d within. still (get_or w.cuboids k d) (represents.cuboids k d within))
      where
        still : (cuboid : Cuboid) → HoldsGroupings w cuboid → HoldsGroupings (kept w new) cuboid
        still cuboid holds = record {
          laid = record { follow = holds.laid.follow; spans = holds.laid.spans; proper = holds.laid.proper };
          groupings = holds.groupings;
        }

    -- of any commit that makes the runs of the cuboid so
    represents_kept : (puts : List (ℕ × List ℕ)) (drops : List ℕ)
        → ((id : ℕ) → among puts id (without drops id (object_of w id)) ≡ object_of (kept w new) id)
        → Represents (committed puts drops root_bytes (layout_number w.layout) c) (kept w new)
    represents_kept puts drops objects = record {
      objects = λ id. bytes_after puts drops root_bytes (layout_number w.layout) c id
          ∙ ap (λ (o : Option (List ℕ)). among puts id (without drops id o)) (represents.objects id) ∙ objects id;
      once = once_after puts drops root_bytes (layout_number w.layout) c represents.once;
      layout = layout_after puts drops root_bytes (layout_number w.layout) c;
      root = record {
        spelled = root_after puts drops root_bytes (layout_number w.layout) c;
        proper = root_proper (kept w new) represents.batches
            (omega (arith, represents.root.proper.target, length-map w.batches length)) represents.root.proper.additions
            proper_after;
      };
      rows = represents.rows;
      batches = represents.batches;
      modes = represents.modes;
      cuboids = hold_after;
    }

    -- objects before the runs stay, and the runs are as is shown of them
    object_kept : (puts : List (ℕ × List ℕ)) (drops : List ℕ)
        → ((id : ℕ) (o : Option (List ℕ)) → id < 131072 → among puts id (without drops id o) ≡ o)
        → ((id : ℕ) → 131072 ≤ id → among puts id (without drops id (run_after (id - 131072) w.cuboids))
        ≡ run_after (id - 131072) (put_cuboid new w.cuboids))
        → (id : ℕ) → among puts id (without drops id (object_of w id)) ≡ object_of (kept w new) id
    object_kept puts drops before after id = by (cases_lt id 131072)
      where
        by : (id < 131072) ⊎ (131072 ≤ id) → among puts id (without drops id (object_of w id))
            ≡ object_of (kept w new) id
        by (inl lt) = before id (object_of w id) lt
            ∙ sym (objects_low (dimension_of w.rows Customer) (dimension_of w.rows Supplier) (dimension_of w.rows Part)
            (dimension_of w.rows Date) (modes_object w.layout (ship_modes_of w)) segment_of
            (λ place. run_after place w.cuboids) (λ place. run_after place (put_cuboid new w.cuboids)) w.batches id
            (object_of w id) lt refl)
        by (inr le) =
            ap (λ (o : Option (List ℕ)). among puts id (without drops id o))
            (objects_high (dimension_of w.rows Customer) (dimension_of w.rows Supplier) (dimension_of w.rows Part)
            (dimension_of w.rows Date) (modes_object w.layout (ship_modes_of w)) segment_of
            (λ place. run_after place w.cuboids) w.batches id le)
            ∙ after id le
            ∙ sym (objects_high (dimension_of w.rows Customer) (dimension_of w.rows Supplier) (dimension_of w.rows Part)
            (dimension_of w.rows Date) (modes_object w.layout (ship_modes_of w)) segment_of
            (λ place. run_after place (put_cuboid new w.cuboids)) w.batches id le)

    old_few : length old.runs ≤ 8
    old_few = omega (arith, (found w.cuboids proper_old may.stored).most_runs)
      where
        found : (cs : List Cuboid) → All (λ cuboid. Proper (said_of cuboid)) cs
            → cuboid_at (index_of old.view) cs ≡ Some old → Proper (said_of old)
        found [] all is = absurd cc
        found (x ∷ xs) all is =
            (elim (index_of x.view == index_of old.view) as
            (λ t. (if t then Some x else cuboid_at (index_of old.view) xs) ≡ Some old → Proper (said_of old)) [
              | true ↦ λ e.
                  (let same : x ≡ old = cc e in subst (λ (y : Cuboid). Proper (said_of y)) same
                  (All-head (λ cuboid. Proper (said_of cuboid)) x xs all))
              | false ↦ λ e. found xs (All-tail (λ cuboid. Proper (said_of cuboid)) x xs all) e
            ]) is

    pub represents_appended : (run : StoredRun) → new.runs ≡ old.runs ++ run ∷ []
        → Represents (committed (run_put new (length old.runs) run) [] root_bytes (layout_number w.layout) c)
        (kept w new)
    represents_appended run more =
        represents_kept (run_put new (length old.runs) run) []
        (object_kept (run_put new (length old.runs) run) []
        (λ id o lt. not_put (index_of new.view) (length old.runs) id o (run_bytes new run) lt)
        (λ id le. appended w.cuboids old new run id may.stored may.view le more (omega (arith, old_few))))

    pub represents_merged : (run : StoredRun) → new.runs ≡ run ∷ []
        → Represents (committed (run_put new 0 run) (later_runs old) root_bytes (layout_number w.layout) c) (kept w new)
    represents_merged run one =
        represents_kept (run_put new 0 run) (later_runs old)
        (object_kept (run_put new 0 run) (later_runs old)
        (λ id o lt. not_put (index_of new.view) 0 id (without (later_runs old) id o) (run_bytes new run) lt
        ∙ without_range (run_id (index_of old.view) 1) (length old.runs - 1) id o
        ∙ not_dropped (index_of old.view) (length old.runs - 1) id o lt)
        (λ id le. merged_in w.cuboids old new run id may.stored may.view le one (omega (arith, old_few))))
      where
        not_dropped : (v n id : ℕ) (o : Option (List ℕ)) → id < 131072
            → (if nat_lt id (run_id v 1) then o else (if nat_lt id (run_id v 1 + n) then None else o)) ≡ o
        not_dropped v n id o lt = grind (arith, nat_tests, lt)
