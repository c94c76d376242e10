-- Lines that were gathered by their keys are those of the answer.
use Rattle.std.proofs.Common.{◌≡◌, ◌∙◌, sym, ap, refl, subst, ℕ, zero, suc, ◌<◌, Bool, true, false, cond, List, [], ◌∷◌}
use Rattle.std.proofs.Common.{◌++◌}
use Rattle.std.proofs.Common.{map, length, get_or, arith, ◌||◌, Some, None, append-nil}
use Rattle.std.specs.Prelude.{IfSome, is_none, is_some}
use Rattle.std.specs.List.{flat_map}
use Rattle.std.specs.Ordering.{eq_by_cmp}
use Rattle.std.specs.BTreeMap.{BTreeMap, IsOrdered}
use Rattle.cube_model.specs.declared.answer.Answer.{Answer}
use Rattle.cube_model.specs.declared.answer.Member.{Member}
use Rattle.cube_model.specs.declared.answer.Value.{Value}
use Rattle.cube_model.specs.declared.query.Kind.{Kind}
use Rattle.cube_model.specs.declared.query.Query.{Query}
use Rattle.cube_model.specs.declared.rows.DimRows.{DimRows}
use Rattle.cube_model.specs.declared.rows.LineOrder.{LineOrder}
use Rattle.cube_model.specs.Answers.{answer}
use Rattle.cube_model.specs.Ascending.{ascending}
use Rattle.cube_model.specs.Keys.{key_cmp}
use Rattle.cube_model.proofs.KeyOrder.{key_cmp_total, key_cmp-IsAntisymmetric}
use Rattle.cube_model.specs.Orders.{in_order}
use Rattle.cube_model.proofs.Entries.{entries_are}
use Rattle.cube_query.specs.Groups.{FoldState, RepresentsRows}
use Rattle.group_tallies.specs.Limits.{AreFoldable}
use Rattle.mode_folds.specs.Joining.{FoldParts, HasValues, lines_of_entries}
use Rattle.mode_folds.specs.Parts.{HaveQuery, RepresentByMode}
use Rattle.mode_folds.specs.States.{RepresentsModeRows, fold_of, rows_by_mode, rows_if, rows_together}
use Rattle.mode_folds.proofs.Foldables.{foldable_filter}
use Rattle.mode_queries.specs.Answers.{moded_answer, moded_keys_among, moded_line_of}
use Rattle.mode_queries.specs.Joining.{HaveValues, has_coarser, have_modes, joined_keys, joined_lines, keys_by_mode}
use Rattle.mode_queries.specs.Joining.{keys_of_all, lines_of_all, of_mode, passing}
use Rattle.mode_queries.specs.Keys.{moded_keys_of}
use Rattle.mode_queries.specs.Proper.{IsProperByModes}
use Rattle.mode_queries.specs.Selection.{chosen, passes_modes}
use Rattle.mode_queries.specs.declared.query.ModeQuery.{ModeQuery}
use Rattle.mode_queries.proofs.CallerLemmas.{answers_join, any_ascending}

-- the values of the lines of an answer, by their keys
abbrev pub values_of : DimRows → ModeQuery → List LineOrder → List Member → List Value
values_of dimensions asked rows key = (moded_line_of dimensions asked (chosen dimensions asked rows) key).values

entries-lines : (dimensions : DimRows) (asked : ModeQuery) (rows : List LineOrder) (keys : List (List Member))
    → lines_of_entries (map (λ key. (key, values_of dimensions asked rows key)) keys)
    ≡ map (moded_line_of dimensions asked (chosen dimensions asked rows)) keys
entries-lines dimensions asked rows [] = refl
entries-lines dimensions asked rows (key ∷ keys) =
    ap (λ rest. moded_line_of dimensions asked (chosen dimensions asked rows) key ∷ rest)
    (entries-lines dimensions asked rows keys)

-- with the lines of each ship mode, and those of all rows where they are asked for
pub gathered : (dimensions : DimRows) (asked : ModeQuery) (place : ℕ) (rows : List LineOrder)
    (modes : List (List ℕ)) (lines : BTreeMap (List Member) (List Value)) → IsProperByModes asked
    → asked.place ≡ Some place → have_modes modes (passing asked.conditions rows) ≡ true → IsOrdered key_cmp lines
    → HasValues (values_of dimensions asked rows)
    (keys_by_mode dimensions asked.query place (passing asked.conditions rows)
    modes ++ keys_of_all (has_coarser asked.query.kind) dimensions asked.query place (passing asked.conditions rows))
    lines
    → record { lines = lines_of_entries lines.entries } ≡ moded_answer asked dimensions rows
gathered dimensions asked place rows modes lines proper is known ordered holds =
    let of_all = chosen dimensions asked rows in
    let value = values_of dimensions asked rows in
    let keys = flat_map (moded_keys_of dimensions asked) of_all in
    let join = answers_join dimensions asked place rows modes proper is known in
    let by_key : asked.query.order ≡ None =
    subst (λ p. IfSome p (λ at. asked.query.order ≡ None)) is proper.by_key in
    let entries : lines.entries ≡ map (λ key. (key, value key)) (ascending key_cmp keys) =
    entries_are key_cmp key_cmp_total key_cmp-IsAntisymmetric lines.entries ordered keys value
    (λ q. holds q
    ∙ ap (λ b. cond b (Some (value q)) None)
    (join.keys q ∙ any_ascending (eq_by_cmp key_cmp q) keys)) in
    ap (λ l. record { lines = l })
    (ap lines_of_entries entries
    ∙ entries-lines dimensions asked rows (ascending key_cmp keys)
    ∙ ap (λ order. in_order order
    (map (moded_line_of dimensions asked of_all) (moded_keys_among dimensions asked of_all)))
    (sym by_key))

-- ---- the parts of a fold
pub query_at : (query : Query) (folds : List FoldState) (i : ℕ) (d : FoldState) → HaveQuery query folds
    → i < length folds
    → (get_or folds i d).query ≡ query
query_at query [] i d all lt = absurd (omega (arith, lt))
query_at query (fold ∷ folds) zero d all lt = all.0
query_at query (fold ∷ folds) (suc i) d all lt = query_at query folds i d all.1 (omega (arith, lt))

-- where a column is the ship mode the folds of ship modes represent their parts of the rows that pass
parts_by_mode : (dimensions : DimRows) (asked : ModeQuery) (together : FoldState) (modes : List (List ℕ))
    (folds : List FoldState) (rows : List LineOrder) → is_some asked.place ≡ true → HaveQuery asked.query folds
    → RepresentsModeRows dimensions (fold_of asked together modes folds) rows
    → FoldParts dimensions asked.query (passing asked.conditions rows) modes folds
parts_by_mode dimensions asked together modes folds rows is queries represents =
    let own : rows_by_mode asked rows ≡ passing asked.conditions rows =
    ap (λ b. rows_if b (passing asked.conditions rows)) is in
    record {
      counted = represents.counted;
      each = λ i mode fold lt. (
        query_at asked.query folds i fold queries (omega (arith, lt, represents.counted)),
        subst (λ some. RepresentsRows dimensions (get_or folds i fold) (of_mode (get_or modes i mode) some)) own
            (represents.each i mode fold lt),
      );
    }

known_by_mode : (dimensions : DimRows) (asked : ModeQuery) (together : FoldState) (modes : List (List ℕ))
    (folds : List FoldState) (rows : List LineOrder) → is_some asked.place ≡ true
    → RepresentsModeRows dimensions (fold_of asked together modes folds) rows
    → have_modes modes (passing asked.conditions rows) ≡ true
known_by_mode dimensions asked together modes folds rows is represents =
    ap (have_modes modes) (sym (ap (λ b. rows_if b (passing asked.conditions rows)) is)) ∙ represents.known

-- these, and their ship modes are those of the folds
pub represent_by_mode : (dimensions : DimRows) (asked : ModeQuery) (together : FoldState) (modes : List (List ℕ))
    (folds : List FoldState) (rows : List LineOrder) → is_some asked.place ≡ true → HaveQuery asked.query folds
    → RepresentsModeRows dimensions (fold_of asked together modes folds) rows
    → RepresentByMode dimensions asked.query (passing asked.conditions rows) modes folds
represent_by_mode dimensions asked together modes folds rows is queries represents = record {
  once = represents.once;
  known = known_by_mode dimensions asked together modes folds rows is represents;
  parts = parts_by_mode dimensions asked together modes folds rows is queries represents;
}

pub parts_of : (dimensions : DimRows) (asked : ModeQuery) (place : ℕ) (together : FoldState) (modes : List (List ℕ))
    (folds : List FoldState) (rows : List LineOrder) → asked.place ≡ Some place → HaveQuery asked.query folds
    → RepresentsModeRows dimensions (fold_of asked together modes folds) rows
    → FoldParts dimensions asked.query (passing asked.conditions rows) modes folds
parts_of dimensions asked place together modes folds rows is queries represents =
    parts_by_mode dimensions asked together modes folds rows (ap is_some is) queries represents

pub known_of : (dimensions : DimRows) (asked : ModeQuery) (place : ℕ) (together : FoldState) (modes : List (List ℕ))
    (folds : List FoldState) (rows : List LineOrder) → asked.place ≡ Some place
    → RepresentsModeRows dimensions (fold_of asked together modes folds) rows
    → have_modes modes (passing asked.conditions rows) ≡ true
known_of dimensions asked place together modes folds rows is represents =
    known_by_mode dimensions asked together modes folds rows (ap is_some is) represents

pub passing_foldable : (dimensions : DimRows) (asked : ModeQuery) (rows : List LineOrder) → AreFoldable dimensions rows
    → AreFoldable dimensions (passing asked.conditions rows)
passing_foldable dimensions asked rows can =
    foldable_filter dimensions (λ row. passes_modes asked.conditions row.shipmode) rows can

pub together-all : (asked : ModeQuery) (rows : List LineOrder) → has_coarser asked.query.kind ≡ true
    → rows_together asked rows ≡ passing asked.conditions rows
together-all asked rows coarser =
    ap (λ b. rows_if (is_none asked.place || b) (passing asked.conditions rows)) coarser
    ∙ ap (λ b. rows_if b (passing asked.conditions rows)) (or_true (is_none asked.place))
  where
    or_true : (b : Bool) → (b || true) ≡ true
    or_true true = refl
    or_true false = refl

-- ---- with the lines of all rows, where they are asked for
module _ (dimensions : DimRows) (query : Query) (place : ℕ) (rows : List LineOrder)
    (value : List Member → List Value) (keys : List (List Member)) (old : BTreeMap (List Member) (List Value)) where
  pub with_all : (new : BTreeMap (List Member) (List Value)) (kind : Kind) (found : Answer) → kind ≡ query.kind
      → found ≡ answer query dimensions rows → has_coarser query.kind ≡ true
      → HaveValues value (lines_of_all dimensions query place rows)
      → (HaveValues value (joined_lines kind place None found.lines) → HasValues value keys old
      → HasValues value (keys ++ joined_keys kind place None found.lines) new)
      → HasValues value keys old
      → HasValues value (keys ++ keys_of_all (has_coarser query.kind) dimensions query place rows) new
  with_all new kind found same is coarser values goes holds =
      let lines_are : joined_lines kind place None found.lines ≡ lines_of_all dimensions query place rows =
      (λ i. joined_lines (same i) place None (is i).lines) in
      subst (λ b. HasValues value (keys ++ keys_of_all b dimensions query place rows) new) (sym coarser)
      (subst (λ l. HasValues value (keys ++ map (λ line. line.key) l) new) lines_are
      (goes (subst (HaveValues value) (sym lines_are) values) holds))

  pub without_all : has_coarser query.kind ≡ false → HasValues value keys old
      → HasValues value (keys ++ keys_of_all (has_coarser query.kind) dimensions query place rows) old
  without_all none holds =
      subst (λ b. HasValues value (keys ++ keys_of_all b dimensions query place rows) old) (sym none)
      (subst (λ l. HasValues value l old) (sym (append-nil keys)) holds)
