-- A row for each member of an attribute, found in one pass over a row of each kind.
use Rattle.std.proofs.Common.{◌≡◌, ◌∙◌, sym, ap, subst, ℕ, ◌+◌, ◌<◌, true, List, [], arith, length, get_or, set, inl}
use Rattle.std.proofs.Common.{inr}
use Rattle.std.specs.Str.{bytes_eq}
use Rattle.std.specs.List.{list_any, position_or_len}
use Rattle.std.proofs.lemmas.Bool.{cases_lt}
use Rattle.std.proofs.lemmas.List.{get_or-set_same, get_or-set_other, length-set}
use Rattle.std.proofs.lemmas.List.Folds.{list_any_at}
use Rattle.std.proofs.lemmas.List.Sums.{passes_at_first}
use Rattle.cube_model.specs.declared.attr.Attr.{Attr}
use Rattle.cube_model.specs.declared.rows.DimRows.{DimRows}
use Rattle.cube_model.specs.Attributes.{axis_of}
use Rattle.cube_model.specs.Places.{attr_members, row_count_of, texts_of, text_at}
use Rattle.dimensions.proofs.CallerLemmas.{bytes_eq-same, bytes_eq-refl, has-members_of}
use Rattle.group_numbers.specs.Kinds.{HasEachKind, kind_at}
use Rattle.group_numbers.specs.MemberRows.{HasMember, HaveMembers}
use Rattle.group_numbers.proofs.Members.{rank_is}
use Rattle.group_numbers.proofs.Numbers.{first_within, text_count}
use Rattle.group_numbers.proofs.OneKind.{one_text}
use Rattle.dimensions.specs.Shown.{AreStorable}

module _ (dimensions : DimRows) (attr : Attr) (rows : List ℕ) where
  -- the place of each member that one of the first of some rows has is that of such a row
  pub record HaveSoFar (count : ℕ) (places : List ℕ) : Type 0 where
    pub counted : length places ≡ length (attr_members dimensions attr)
    pub each : (rank i : ℕ) → rank < length places → i < count
        → text_at dimensions attr (get_or rows i 0) ≡ get_or (attr_members dimensions attr) rank []
        → HasMember dimensions attr rank (get_or places rank 0)

  -- one row more
  pub so_far_more : (count rank : ℕ) (places : List ℕ) → HaveSoFar count places
      → get_or rows count 0 < row_count_of dimensions (axis_of attr)
      → rank < length (attr_members dimensions attr)
      → get_or (attr_members dimensions attr) rank [] ≡ text_at dimensions attr (get_or rows count 0)
      → HaveSoFar (count + 1) (set places rank (get_or rows count 0))
  so_far_more count rank places before within lt text = record {
    counted = length-set places rank row ∙ before.counted;
    each = λ other i below earlier is. elim (cases_lt i count) [
      | inl early ↦
          decide other (omega (arith, below, length-set places rank row))
          (λ apart. before.each other i (omega (arith, below, length-set places rank row)) early is)
      | inr late ↦
          let here : i ≡ count = omega (arith, earlier, late) in
          let same : other ≡ rank =
          sym (rank_is dimensions attr row other (omega (arith, below, length-set places rank row, before.counted))
          (sym is ∙ ap (λ (n : ℕ). text_at dimensions attr (get_or rows n 0)) here))
          ∙ rank_is dimensions attr row rank lt text in
          at_rank other (omega (arith, same))
    ];
  }
    where
      row : ℕ
      row = get_or rows count 0

      at_rank : (other : ℕ) → other ≡ rank → HasMember dimensions attr other (get_or (set places rank row) other 0)
      at_rank other same =
          subst (λ r. HasMember dimensions attr r (get_or (set places rank row) r 0)) (sym same)
          (subst (HasMember dimensions attr rank)
          (sym (get_or-set_same places rank row 0 (omega (arith, lt, before.counted))))
          (record { within = within; text = sym text }))

      decide : (other : ℕ) → other < length places
          → ((other ≡ rank → ⊥) → HasMember dimensions attr other (get_or places other 0))
          → HasMember dimensions attr other (get_or (set places rank row) other 0)
      decide other below kept = elim (cases_lt other rank) [
        | inl less ↦
            let apart : other ≡ rank → ⊥ = λ e. omega (arith, e, less) in
            subst (HasMember dimensions attr other) (sym (get_or-set_other places rank other row 0 apart)) (kept apart)
        | inr at_least ↦ elim (cases_lt rank other) [
          | inl more ↦
              let apart : other ≡ rank → ⊥ = λ e. omega (arith, e, more) in
              subst (HasMember dimensions attr other) (sym (get_or-set_other places rank other row 0 apart))
              (kept apart)
          | inr at_most ↦ at_rank other (omega (arith, at_least, at_most))
        ]
      ]

  -- each member is the text of some row
  row_of : (rank : ℕ) → rank < length (attr_members dimensions attr)
      → (place : ℕ)
      × ((place < row_count_of dimensions (axis_of attr))
      × (text_at dimensions attr place ≡ get_or (attr_members dimensions attr) rank []))
  row_of rank lt =
      let text = get_or (attr_members dimensions attr) rank [] in
      let texts = texts_of dimensions attr in
      let there : list_any (bytes_eq text) texts ≡ true =
      sym (has-members_of text texts)
      ∙ list_any_at (bytes_eq text) (attr_members dimensions attr) rank [] lt (bytes_eq-refl text) in
      let within : position_or_len (bytes_eq text) texts < length texts = first_within (bytes_eq text) texts there in (
        position_or_len (bytes_eq text) texts,
        (
          omega (arith, within, text_count dimensions attr),
          sym (bytes_eq-same text _ (passes_at_first (bytes_eq text) texts [] within)),
        ),
      )

  -- a row of each kind
  pub so_far_all : AreStorable dimensions → HasEachKind dimensions (axis_of attr) rows
      → (places : List ℕ) → HaveSoFar (length rows) places → HaveMembers dimensions attr places
  so_far_all storable hold places all = record {
    counted = all.counted;
    each = λ rank below.
        let found = row_of rank (omega (arith, below, all.counted)) in
        let kind = kind_at dimensions (axis_of attr) found.0 in
        let low : kind < length rows = hold.all found.0 found.1.0 in
        let same : text_at dimensions attr (get_or rows kind 0) ≡ text_at dimensions attr found.0 =
        one_text dimensions storable (get_or rows kind 0) found.0 attr (hold.within kind low) found.1.0
        (hold.own kind low) in
        all.each rank kind below low (same ∙ found.1.1);
  }
