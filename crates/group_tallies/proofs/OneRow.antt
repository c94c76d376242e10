-- One fact row more, in the words of the definitions.
use Rattle.std.proofs.Common.{◌≡◌, ◌∙◌, ap, refl, ℤ, pos, ◌+ℤ◌, Bool, true, false, cond, List, [], ◌∷◌, ◌++◌, map}
use Rattle.std.proofs.Common.{length-append, ◌||◌}
use Rattle.std.specs.List.{filter, list_any}
use Rattle.std.specs.Int.{int_min, int_max}
use Rattle.std.specs.Ordering.{eq_by_cmp}
use Rattle.std.proofs.lemmas.List.Sums.{fold_push}
use Rattle.std.proofs.lemmas.List.Elements.{filter-append}
use Rattle.cube_model.specs.declared.answer.Member.{Member}
use Rattle.cube_model.specs.declared.query.Query.{Query}
use Rattle.cube_model.specs.declared.query.Kind.TheVariants.{Plain}
use Rattle.cube_model.specs.declared.rows.LineOrder.{LineOrder}
use Rattle.cube_model.specs.declared.rows.DimRows.{DimRows}
use Rattle.cube_model.specs.Keys.{key_cmp, key_under, keys_of, grouping_sets}
use Rattle.cube_model.specs.Selection.{selected, is_selected}
use Rattle.group_tallies.specs.Groups.{rows_at}
use Rattle.group_tallies.specs.Tallies.{tally_of, tally_with}

pub tally_of-push : (x : ℤ) (xs : List ℤ) (y : ℤ) → tally_of ((x ∷ xs) ++ y ∷ []) ≡ tally_with (tally_of (x ∷ xs)) y
tally_of-push x xs y =
    let count = length-append (x ∷ xs) (y ∷ []) in
    let sum = fold_push (λ so_far number. so_far +ℤ number) (pos 0) (x ∷ xs) y in
    let least = fold_push int_min x xs y in
    let greatest = fold_push int_max x xs y in
    λ i. record { count = count i; sum = sum i; least = least i; greatest = greatest i }

or-false : (b : Bool) → (b || false) ≡ b
or-false true = refl
or-false false = refl

module _ (dimensions : DimRows) (query : Query) where
  abbrev chosen_of : List LineOrder → List LineOrder
  chosen_of rows = selected dimensions query.conditions rows

  abbrev is_of : List Member → LineOrder → Bool
  is_of key row = list_any (eq_by_cmp key_cmp key) (keys_of dimensions query row)

  abbrev pub plain_key : LineOrder → List Member
  plain_key row = key_under dimensions row query.columns (map (λ _. true) query.columns)

  pub rows_at-append : (key : List Member) (rows others : List LineOrder)
      → rows_at dimensions query key (rows ++ others) ≡ rows_at dimensions query key rows
      ++ rows_at dimensions query key others
  rows_at-append key rows others =
      ap (filter (is_of key)) (filter-append (is_selected dimensions query.conditions) rows others)
      ∙ filter-append (is_of key) (chosen_of rows) (chosen_of others)

  pub rows_at-skip : (key : List Member) (row : LineOrder) (rows : List LineOrder)
      → is_selected dimensions query.conditions row ≡ false
      → rows_at dimensions query key (row ∷ rows) ≡ rows_at dimensions query key rows
  rows_at-skip key row rows out = ap (λ b. filter (is_of key) (cond b (row ∷ chosen_of rows) (chosen_of rows))) out

  pub rows_at-take : query.kind ≡ Plain → (key : List Member) (row : LineOrder) (rows : List LineOrder)
      → is_selected dimensions query.conditions row ≡ true
      → rows_at dimensions query key (row ∷ rows) ≡ cond (eq_by_cmp key_cmp key (plain_key row))
      (row ∷ rows_at dimensions query key rows) (rows_at dimensions query key rows)
  rows_at-take plain key row rows chosen =
      let one : is_of key row ≡ eq_by_cmp key_cmp key (plain_key row) =
      ap (λ kind. list_any (eq_by_cmp key_cmp key)
      (map (key_under dimensions row query.columns) (grouping_sets kind query.columns))) plain
      ∙ or-false (eq_by_cmp key_cmp key (plain_key row)) in
      ap (λ b. filter (is_of key) (cond b (row ∷ chosen_of rows) (chosen_of rows))) chosen
      ∙ ap (λ b. cond b (row ∷ rows_at dimensions query key rows) (rows_at dimensions query key rows)) one
