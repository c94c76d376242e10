-- Tallies of sources that are merged into those of their targets.
use Rattle.std.proofs.Common.{◌≡◌, ◌≢◌, ◌∙◌, sym, ap, refl, subst, ℕ, suc, ◌+◌, ◌<◌, ◌≤◌, ◌^◌, ◌+ℤ◌, true, false, cond}
use Rattle.std.proofs.Common.{List, [], ◌∷◌, ◌++◌, map, length, length-append, append-nil, append_assoc, take, drop}
use Rattle.std.proofs.Common.{get_or, Some, arith, FitsSigned, w64, slice_set, get_or-set_same, get_or-set_other}
use Rattle.std.specs.Prelude.{◌==◌, nat_abs, slice_get}
use Rattle.std.proofs.lemmas.Bool.Decides.{nat_tests}
use Rattle.std.proofs.lemmas.List.{map-append, take_more, take-append-drop, length-take-le, length-map}
use Rattle.std.proofs.lemmas.List.Sums.{sum_by-append}
use Rattle.std.proofs.lemmas.Option.{slice_get-get_or}
use Rattle.cube_model.specs.Aggregates.{total}
use Rattle.cube_model.specs.declared.measure.Agg.{Agg}
use Rattle.cube_model.specs.declared.rows.LineOrder.{LineOrder}
use Rattle.group_tallies.specs.Coarser.{gathered, AddsIn, CanMergeTallies, CanMergeAll, HasMergeRoom, HaveMergeRoom}
use Rattle.group_tallies.specs.Coarser.{LieWithin}
use Rattle.group_tallies.specs.Columns.{no_tally, tally_at, IsCountable}
use Rattle.group_tallies.specs.Tallies.{merged_tally, aggregated, tally_of}
use Rattle.group_tallies.specs.declared.tally.Tally.{Tally}
use Rattle.std.specs.declared.alloc.Global.{Global}
use Rattle.std.specs.declared.vec.Vec.{Vec}
use Rattle.group_tallies.proofs.Columnwise.{All-at, AreAddedBelow, tallies-one}
use Rattle.group_tallies.proofs.Counting.{IsCountable-front}
use Rattle.group_tallies.proofs.MergeLaws.{tally_of-append}
use Rattle.group_tallies.proofs.Sums.{FitsSigned-small, nat_abs-+ℤ, nat_abs-total}

module _ (slot : ℕ) (part : ℕ × ℕ → List LineOrder) where
  gathered-append : (sources others : List (ℕ × ℕ)) (targets more : List ℕ) → length sources ≡ length targets
      → gathered slot part (sources ++ others) (targets ++ more) ≡ gathered slot part sources targets
      ++ gathered slot part others more
  gathered-append [] others [] more same = refl
  gathered-append [] others (target ∷ targets) more same = absurd (omega (arith, same))
  gathered-append (source ∷ sources) others [] more same = absurd (omega (arith, same))
  gathered-append (source ∷ sources) others (target ∷ targets) more same =
      let rest = gathered-append sources others targets more (omega (arith, same)) in
      elim (target == slot) as
      (λ b. cond b (part source ++ gathered slot part (sources ++ others) (targets ++ more))
      (gathered slot part (sources ++ others) (targets ++ more))
      ≡ cond b (part source ++ gathered slot part sources targets) (gathered slot part sources targets)
      ++ gathered slot part others more) [
        | true ↦ ap (λ rows. part source ++ rows) rest
            ∙ sym (append_assoc (part source) (gathered slot part sources targets) (gathered slot part others more))
        | false ↦ rest
      ]

  -- nothing comes to what is no target
  pub gathered-none : (sources : List (ℕ × ℕ)) (targets : List ℕ)
      → ((other target : ℕ) → slice_get targets other ≡ Some target → (target == slot) ≡ false)
      → gathered slot part sources targets ≡ []
  gathered-none [] targets apart = refl
  gathered-none (source ∷ sources) [] apart = refl
  gathered-none (source ∷ sources) (target ∷ targets) apart =
      ap (λ b. cond b (part source ++ gathered slot part sources targets) (gathered slot part sources targets))
      (apart 0 target refl)
      ∙ gathered-none sources targets (λ other one at. apart (suc other) one at)

  module _ (sources : List (ℕ × ℕ)) (targets : List ℕ) (same : length targets ≡ length sources) where
    gathered-parts : (n : ℕ) → n ≤ length sources
        → gathered slot part sources targets ≡ gathered slot part (take n sources) (take n targets)
        ++ gathered slot part (drop n sources) (drop n targets)
    gathered-parts n h =
        (λ i. gathered slot part (sym (take-append-drop n sources) i) (sym (take-append-drop n targets) i))
        ∙ gathered-append (take n sources) (drop n sources) (take n targets) (drop n targets)
        (length-take-le n sources h ∙ sym (length-take-le n targets (omega (arith, same, h))))

    pub gathered-next : (n : ℕ) → n < length sources → gathered slot part (take (n + 1) sources) (take (n + 1) targets)
        ≡ gathered slot part (take n sources) (take n targets) ++ gathered slot part (get_or sources n (0, 0) ∷ [])
        (get_or targets n 0 ∷ [])
    gathered-next n h =
        (λ i. gathered slot part (take_more sources n (0, 0) h i) (take_more targets n 0 (omega (arith, same, h)) i))
        ∙ gathered-append (take n sources) (get_or sources n (0, 0) ∷ []) (take n targets) (get_or targets n 0 ∷ [])
        (length-take-le n sources (omega (arith, h)) ∙ sym (length-take-le n targets (omega (arith, same, h))))

left_none : {X : Type 0} (xs ys : List X) → [] ≡ xs ++ ys → xs ≡ []
left_none [] ys e = refl
left_none (x ∷ xs) ys e = cc e

-- the slots of a source and of its target lie in the column
pub source_in : (sources : List (ℕ × ℕ)) (targets : List ℕ) (len : ℕ) → LieWithin sources targets len → (n : ℕ)
    → n < length sources → (get_or sources n (0, 0)).1 < len
source_in sources targets len lie n h = lie.from n (get_or sources n (0, 0)) (slice_get-get_or sources n (0, 0) h)

pub target_in_column : (sources : List (ℕ × ℕ)) (targets : List ℕ) (len : ℕ) → LieWithin sources targets len → (n : ℕ)
    → n < length targets → get_or targets n 0 < len
target_in_column sources targets len lie n h = lie.to n (get_or targets n 0) (slice_get-get_or targets n 0 h)

module _ (agg : Agg) (part : ℕ × ℕ → List LineOrder) (sources : List (ℕ × ℕ)) (targets : List ℕ)
    (same : length targets ≡ length sources) (old now : List Tally) (long : length now ≡ length old)
    (can : CanMergeTallies agg old sources targets part) (n : ℕ) (h : n < length sources)
    (added : AddsIn agg (λ slot. gathered slot part (take n sources) (take n targets)) old now) where
  abbrev source : ℕ × ℕ
  source = get_or sources n (0, 0)

  abbrev target : ℕ
  target = get_or targets n 0

  abbrev tally_rows : List LineOrder → Tally
  tally_rows rows = tally_of (map (aggregated agg) rows)

  here : slice_get sources n ≡ Some source
  here = slice_get-get_or sources n (0, 0) h

  there : slice_get targets n ≡ Some target
  there = slice_get-get_or targets n 0 (omega (arith, same, h))

  target_in : target < length now
  target_in = omega (arith, can.within n target there, long)

  -- a source has still what it had
  source_tally : tally_at now source.1 ≡ tally_rows (part source)
  source_tally =
      let none : gathered source.1 part sources targets ≡ [] =
      gathered-none source.1 part sources targets (λ other one at. can.apart n other source one here at) in
      let front : gathered source.1 part (take n sources) (take n targets) ≡ [] =
      left_none (gathered source.1 part (take n sources) (take n targets))
      (gathered source.1 part (drop n sources) (drop n targets))
      (sym none ∙ gathered-parts source.1 part sources targets same n (omega (arith, h))) in
      added source.1 (part source) (can.parts n source here).1 ∙ ap (λ rows. tally_rows (part source ++ rows)) front
      ∙ ap tally_rows (append-nil (part source))

  one_here : (slot : ℕ) → (target == slot) ≡ true → gathered slot part (source ∷ []) (target ∷ []) ≡ part source
  one_here slot is = ap (λ b. cond b (part source ++ []) []) is ∙ append-nil (part source)

  module _ (room : HasMergeRoom agg old sources targets part) where
    abbrev before : List LineOrder
    before = (room n target there).0 ++ gathered target part (take n sources) (take n targets)

    target_tally : tally_at now target ≡ tally_rows before
    target_tally = added target (room n target there).0 (room n target there).1

    countable : IsCountable agg (before ++ part source)
    countable =
        let base = (room n target there).0 in
        let so_far = gathered target part (take n sources) (take n targets) in
        let all = gathered target part sources targets in
        let next = gathered target part (take (n + 1) sources) (take (n + 1) targets) in
        let left = gathered target part (drop (n + 1) sources) (drop (n + 1) targets) in
        let is : (target == target) ≡ true = grind (arith, nat_tests) in
        let next_is : next ≡ so_far ++ part source = gathered-next target part sources targets same n h
        ∙ ap (λ rows. so_far ++ rows) (one_here target is) in
        let whole : base ++ all ≡ (before ++ part source) ++ left =
        ap (λ rows. base ++ rows) (gathered-parts target part sources targets same (n + 1) (omega (arith, h))
        ∙ ap (λ rows. rows ++ left) next_is)
        ∙ sym (append_assoc base (so_far ++ part source) left)
        ∙ ap (λ rows. rows ++ left) (sym (append_assoc base so_far (part source))) in
        IsCountable-front agg (before ++ part source) left (subst (IsCountable agg) whole (room n target there).2)

    pub count_room : (tally_at now target).count + (tally_at now source.1).count < 2 ^ 63
    count_room =
        rw (target_tally, source_tally)
        (omega (
          arith,
          countable.few,
          length-append before (part source),
          length-map before (aggregated agg),
          length-map (part source) (aggregated agg),
        ))

    pub sum_room : FitsSigned w64 ((tally_at now target).sum +ℤ (tally_at now source.1).sum)
    sum_room = rw (target_tally, source_tally) (FitsSigned-small _ (omega (
      arith,
      nat_abs-+ℤ (total (map (aggregated agg) before)) (total (map (aggregated agg) (part source))),
      nat_abs-total (aggregated agg) before,
      nat_abs-total (aggregated agg) (part source),
      sum_by-append (λ row. nat_abs (aggregated agg row)) before (part source),
      countable.small,
    )))

  pub added-next : AddsIn agg (λ slot. gathered slot part (take (n + 1) sources) (take (n + 1) targets)) old
      (slice_set now target (merged_tally (tally_at now target) (tally_at now source.1)))
  added-next slot rows reads =
      let new = merged_tally (tally_at now target) (tally_at now source.1) in
      let so_far = gathered slot part (take n sources) (take n targets) in
      let next = gathered-next slot part sources targets same n h in
      elim (target == slot) as
      (λ b. (target == slot) ≡ b
      → tally_at (slice_set now target new) slot
      ≡ tally_rows (rows ++ gathered slot part (take (n + 1) sources) (take (n + 1) targets))) [
        | true ↦ λ e.
            let same_slot : slot ≡ target = grind (arith, nat_tests) in
            ap (tally_at (slice_set now target new)) same_slot ∙ get_or-set_same now target new no_tally target_in
            ∙ (λ i. merged_tally ((ap (tally_at now) (sym same_slot) ∙ added slot rows reads) i) (source_tally i))
            ∙ sym (tally_of-append (map (aggregated agg) (rows ++ so_far)) (map (aggregated agg) (part source)))
            ∙ ap tally_of (sym (map-append (aggregated agg) (rows ++ so_far) (part source)))
            ∙ ap tally_rows
            (append_assoc rows so_far (part source)
            ∙ ap (λ more. rows ++ more) (sym (next ∙ ap (λ more. so_far ++ more) (one_here slot e))))
        | false ↦ λ e.
            let apart : slot ≢ target = grind (arith, nat_tests) in
            let none : gathered slot part (source ∷ []) (target ∷ []) ≡ [] =
            ap (λ b. cond b (part source ++ []) []) e in
            get_or-set_other now target slot new no_tally apart ∙ added slot rows reads
            ∙ ap tally_rows
            (ap (λ more. rows ++ more) (sym (next ∙ ap (λ more. so_far ++ more) none ∙ append-nil so_far)))
      ] refl

-- ---- all columns
pub CanMerge-at : (aggs : List Agg) (sources : List (ℕ × ℕ)) (targets : List ℕ) (part : ℕ × ℕ → List LineOrder)
    (old now : List (Vec Tally Global)) (n : ℕ) → n < length aggs
    → CanMergeAll aggs old sources targets part
    → AreAddedBelow n aggs (λ slot. gathered slot part sources targets) old now
    → (agg : Agg) (column : Vec Tally Global)
    → CanMergeTallies (get_or aggs n agg) (get_or now n column).items sources targets part
CanMerge-at aggs sources targets part old now n h can below agg column =
    subst (λ (c : Vec Tally Global). CanMergeTallies (get_or aggs n agg) c.items sources targets part)
    (sym (below.kept n (omega arith) column)) (record {
      parts = λ place source at. let given = can.parts place source at in (
        All-at (λ (column : Vec Tally Global). source.1 < length column.items) old given.0 n
            (omega (arith, can.count, h)) column,
        tallies-one aggs old source.1 (part source) given.1 n h agg column,
      );
      apart = can.apart;
      within = λ place target at. All-at (λ (column : Vec Tally Global). target < length column.items) old
          (can.within place target at) n (omega (arith, can.count, h)) column;
    })

pub HasMergeRoom-at : (aggs : List Agg) (sources : List (ℕ × ℕ)) (targets : List ℕ) (part : ℕ × ℕ → List LineOrder)
    (old now : List (Vec Tally Global)) (n : ℕ) → n < length aggs
    → HaveMergeRoom aggs old sources targets part
    → AreAddedBelow n aggs (λ slot. gathered slot part sources targets) old now
    → (agg : Agg) (column : Vec Tally Global)
    → HasMergeRoom (get_or aggs n agg) (get_or now n column).items sources targets part
HasMergeRoom-at aggs sources targets part old now n h room below agg column =
    subst (λ (c : Vec Tally Global). HasMergeRoom (get_or aggs n agg) c.items sources targets part)
    (sym (below.kept n (omega arith) column))
    (λ place target at. let given = room place target at in
    (given.0, tallies-one aggs old target given.0 given.1 n h agg column, given.2 (get_or aggs n agg)))
