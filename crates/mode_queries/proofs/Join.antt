-- The answer to a query with a column of ship modes is made of answers to the query without it.
use Rattle.std.proofs.Common.{◌≡◌, ◌∙◌, sym, ap, refl, subst, ℕ, ◌≤◌, Bool, true, false, cond, List, [], ◌∷◌, ◌++◌, map}
use Rattle.std.proofs.Common.{length, ◌||◌, ◌&&◌, Option, Some, None}
use Rattle.std.specs.Prelude.{is_some}
use Rattle.std.specs.List.{AllByRecursion, filter, flat_map, insert, list_all, list_any}
use Rattle.std.specs.Ordering.{nat_cmp}
use Rattle.std.specs.Str.{bytes_eq}
use Rattle.std.specs.Cmp.Lexicographic.{nat_list_eq_equiv, texts_ties}
use Rattle.std.specs.declared.cmp.Ordering.{Ordering}
use Rattle.std.specs.declared.cmp.Ordering.TheVariants.{Less, Equal, Greater}
use Rattle.std.proofs.lemmas.List.Folds.{list_any-append}
use Rattle.std.proofs.lemmas.Slice.Eq.{bytes_eq-Decides}
use Rattle.cube_model.specs.declared.answer.Member.{Member}
use Rattle.cube_model.specs.declared.answer.Member.TheVariants.{All, Text}
use Rattle.cube_model.specs.declared.answer.Value.{Value}
use Rattle.cube_model.specs.declared.query.Query.{Query}
use Rattle.cube_model.specs.declared.rows.DimRows.{DimRows}
use Rattle.cube_model.specs.declared.rows.LineOrder.{LineOrder}
use Rattle.cube_model.specs.Aggregates.{aggregate}
use Rattle.cube_model.specs.Answers.{answer, keys_among, line_of, rows_of_key}
use Rattle.cube_model.specs.Ascending.{ascending, by_order, insert_once}
use Rattle.cube_model.specs.Keys.{key_cmp, keys_of}
use Rattle.cube_model.proofs.KeyOrder.{key_cmp-IsAntisymmetric}
use Rattle.cube_model.specs.Orders.{in_order}
use Rattle.cube_model.specs.Selection.{is_selected, selected}
use Rattle.mode_queries.specs.Answers.{moded_keys_among, moded_line_of, rows_of_moded_key}
use Rattle.mode_queries.specs.Joining.{HaveValues, JoinLines, has_coarser, have_modes, is_kept, joined_lines}
use Rattle.mode_queries.specs.Joining.{keys_by_mode}
use Rattle.mode_queries.specs.Joining.{keys_of_all, lines_of_all, lines_of_mode, member_of, of_mode, passing}
use Rattle.mode_queries.specs.Joining.{with_member}
use Rattle.mode_queries.specs.Keys.{keys_at}
use Rattle.mode_queries.specs.Lawful.{AnswersJoin}
use Rattle.mode_queries.specs.Selection.{chosen, passes_modes}
use Rattle.mode_queries.specs.declared.query.ModeCond.{ModeCond}
use Rattle.mode_queries.specs.declared.query.ModeQuery.{ModeQuery}
use Rattle.mode_queries.proofs.RowKeys.{any_key, keys_fit, makes, same_insert, same_key, same_member, some_makes}
use Rattle.mode_queries.proofs.Tests.{and_false, and_only, and_or, and_swap, any_and, any_filter, any_flat_map, any_map}
use Rattle.mode_queries.proofs.Tests.{any_none, any_or, any_same, any_same_of, any_swap, filter_filter, filter_same}
use Rattle.mode_queries.proofs.Tests.{or_false}

-- ---- keys in order
or_again : (a b : Bool) → (a || b) ≡ (a || (a || b))
or_again true b = refl
or_again false b = refl

or_swap3 : (a b c : Bool) → (a || (b || c)) ≡ (b || (a || c))
or_swap3 true true c = refl
or_swap3 true false c = refl
or_swap3 false b c = refl

any_inserted : (p : List Member → Bool) (key : List Member) (keys : List (List Member))
    → list_any p (insert_once key_cmp key keys) ≡ (p key || list_any p keys)
any_inserted p key [] = refl
any_inserted p key (first ∷ others) =
    elim (key_cmp key first) as (λ r. key_cmp key first ≡ r
    → list_any p (by_order r (key ∷ first ∷ others) (first ∷ others) (first ∷ insert_once key_cmp key others))
    ≡ (p key || (p first || list_any p others))) [
      | Less ↦ λ e. refl
      | Equal ↦ λ e. or_again (p first) (list_any p others)
          ∙ ap (λ k. p k || (p first || list_any p others)) (sym (key_cmp-IsAntisymmetric key first e))
      | Greater ↦ λ e. ap (λ b. p first || b) (any_inserted p key others)
          ∙ or_swap3 (p first) (p key) (list_any p others)
    ] refl

-- some key of a list passes a test where some one of them in order does
pub any_ascending : (p : List Member → Bool) (keys : List (List Member))
    → list_any p (ascending key_cmp keys) ≡ list_any p keys
any_ascending p [] = refl
any_ascending p (key ∷ keys) = any_inserted p key (ascending key_cmp keys)
    ∙ ap (λ b. p key || b) (any_ascending p keys)

-- ---- texts
pub same_text : (mode other : List ℕ) → same_member (Text mode) (Text other) ≡ bytes_eq mode other
same_text mode other = sym (texts_ties mode other)

bytes_eq-same : (a b : List ℕ) → bytes_eq a b ≡ true → a ≡ b
bytes_eq-same a b e = (bytes_eq-Decides a b).0 e

same_is : (key other : List Member) → same_key key other ≡ true → key ≡ other
same_is key other e = key_cmp-IsAntisymmetric key other (equal (key_cmp key other) e)
  where
    equal : (r : Ordering) → Rattle.std.specs.Ordering.is_eq r ≡ true → r ≡ Equal
    equal Less e = cc
    equal Equal e = refl
    equal Greater e = cc

module _ (dimensions : DimRows) (query : Query) (place : ℕ) (conditions : List ModeCond)
    (within : place ≤ length query.columns) (by_key : query.order ≡ None) where
  abbrev asked : ModeQuery
  asked = record { query = query; place = Some place; conditions = conditions }

  abbrev own_keys : LineOrder → List (List Member)
  own_keys row = keys_of dimensions query row

  abbrev makes_some : LineOrder → Bool → Member → List Member → Bool
  makes_some row is_grouped member key = some_makes dimensions row query place within is_grouped member key

  abbrev is_fit : LineOrder → Bool
  is_fit row = is_selected dimensions query.conditions row

  abbrev passes : LineOrder → Bool
  passes row = passes_modes conditions row.shipmode

  -- ---- the keys of a row that make one with a member
  made : (row : LineOrder) (is_grouped : Bool) (member other : Member) (key : List Member)
      → is_kept query.kind place is_grouped key ≡ true
      → makes_some row is_grouped other (insert key place member)
      ≡ (same_member member other && list_any (same_key key) (own_keys row))
  made row is_grouped member other key kept =
      any_same_of (λ own. place ≤ length own)
      (makes dimensions row query place within is_grouped other (insert key place member))
      (λ own. same_member member other && same_key key own)
      (λ own fits.
      ap (λ b. is_kept query.kind place is_grouped own && b) (same_insert place key own member other fits)
      ∙ and_swap (is_kept query.kind place is_grouped own) (same_member member other) (same_key key own)
      ∙ ap (λ b. same_member member other && b)
      (and_only (is_kept query.kind place is_grouped own) (same_key key own)
      (λ e. ap (is_kept query.kind place is_grouped) (sym (same_is key own e)) ∙ kept)))
      (own_keys row) (keys_fit dimensions row query place within)
      ∙ any_and (same_member member other) (same_key key) (own_keys row)

  -- a line of a ship mode: the rows of its key
  key_of_mode : (row : LineOrder) (mode : List ℕ) (key : List Member) → is_kept query.kind place true key ≡ true
      → list_any (same_key (insert key place (Text mode))) (keys_at dimensions query (Some place) row)
      ≡ (bytes_eq mode row.shipmode && list_any (same_key key) (own_keys row))
  key_of_mode row mode key kept =
      any_key dimensions row query place within (insert key place (Text mode))
      ∙ (λ i. (made row true (Text mode) (Text row.shipmode) key kept
      ∙ ap (λ b. b && list_any (same_key key) (own_keys row)) (same_text mode row.shipmode)) i
      || (has_coarser query.kind && none i))
      ∙ ap (λ b. (bytes_eq mode row.shipmode && list_any (same_key key) (own_keys row)) || b)
      (and_false (has_coarser query.kind))
      ∙ or_false (bytes_eq mode row.shipmode && list_any (same_key key) (own_keys row))
    where
      none : makes_some row false All (insert key place (Text mode)) ≡ false
      none = any_same_of (λ own. place ≤ length own)
          (makes dimensions row query place within false All (insert key place (Text mode))) (λ own. false)
          (λ own fits. ap (λ b. is_kept query.kind place false own && b)
          (same_insert place key own (Text mode) All fits)
          ∙ and_false (is_kept query.kind place false own))
          (own_keys row) (keys_fit dimensions row query place within)
          ∙ any_none (own_keys row)

  -- a line of all rows
  key_of_all : (row : LineOrder) (key : List Member) → has_coarser query.kind ≡ true
      → is_kept query.kind place false key ≡ true
      → list_any (same_key (insert key place All)) (keys_at dimensions query (Some place) row)
      ≡ list_any (same_key key) (own_keys row)
  key_of_all row key coarser kept =
      any_key dimensions row query place within (insert key place All)
      ∙ (λ i. none i || (coarser i && made row false All All key kept i))
    where
      none : makes_some row true (Text row.shipmode) (insert key place All) ≡ false
      none = any_same_of (λ own. place ≤ length own)
          (makes dimensions row query place within true (Text row.shipmode) (insert key place All)) (λ own. false)
          (λ own fits. ap (λ b. is_kept query.kind place true own && b)
          (same_insert place key own All (Text row.shipmode) fits)
          ∙ and_false (is_kept query.kind place true own))
          (own_keys row) (keys_fit dimensions row query place within)
          ∙ any_none (own_keys row)

  -- ---- the rows of a key
  module _ (all : List LineOrder) where
    abbrev rows : List LineOrder
    rows = passing conditions all

    abbrev value : List Member → List Value
    value key = (moded_line_of dimensions asked (chosen dimensions asked all) key).values

    reorder : (q m s a : Bool) → (q && (m && (s && a))) ≡ ((s && q) && (m && a))
    reorder true true true a = refl
    reorder true true false a = refl
    reorder true false true a = refl
    reorder true false false a = refl
    reorder false m true a = refl
    reorder false m false a = refl

    reorder_all : (q s a : Bool) → (q && (s && a)) ≡ ((s && q) && a)
    reorder_all true true a = refl
    reorder_all true false a = refl
    reorder_all false true a = refl
    reorder_all false false a = refl

    rows_of_mode : (mode : List ℕ) (key : List Member) → is_kept query.kind place true key ≡ true
        → rows_of_key dimensions query key (selected dimensions query.conditions (of_mode mode rows))
        ≡ rows_of_moded_key dimensions asked (insert key place (Text mode)) (chosen dimensions asked all)
    rows_of_mode mode key kept =
        let has : LineOrder → Bool = λ row. list_any (same_key key) (own_keys row) in
        let is_mode : LineOrder → Bool = λ row. bytes_eq mode row.shipmode in
        let has_moded : LineOrder → Bool =
        λ row. list_any (same_key (insert key place (Text mode))) (keys_at dimensions query (Some place) row) in
        filter_filter has is_fit (of_mode mode rows)
        ∙ filter_filter (λ row. is_fit row && has row) is_mode rows
        ∙ filter_filter (λ row. is_mode row && (is_fit row && has row)) passes all
        ∙ filter_same (λ row. passes row && (is_mode row && (is_fit row && has row)))
        (λ row. (is_fit row && passes row) && has_moded row)
        (λ row. reorder (passes row) (is_mode row) (is_fit row) (has row)
        ∙ ap (λ b. (is_fit row && passes row) && b) (sym (key_of_mode row mode key kept))) all
        ∙ sym (filter_filter has_moded (λ row. is_fit row && passes row) all)

    rows_of_all : (key : List Member) → has_coarser query.kind ≡ true → is_kept query.kind place false key ≡ true
        → rows_of_key dimensions query key (selected dimensions query.conditions rows)
        ≡ rows_of_moded_key dimensions asked (insert key place All) (chosen dimensions asked all)
    rows_of_all key coarser kept =
        let has : LineOrder → Bool = λ row. list_any (same_key key) (own_keys row) in
        let has_moded : LineOrder → Bool =
        λ row. list_any (same_key (insert key place All)) (keys_at dimensions query (Some place) row) in
        filter_filter has is_fit rows
        ∙ filter_filter (λ row. is_fit row && has row) passes all
        ∙ filter_same (λ row. passes row && (is_fit row && has row))
        (λ row. (is_fit row && passes row) && has_moded row)
        (λ row. reorder_all (passes row) (is_fit row) (has row)
        ∙ ap (λ b. (is_fit row && passes row) && b) (sym (key_of_all row key coarser kept))) all
        ∙ sym (filter_filter has_moded (λ row. is_fit row && passes row) all)

    -- ---- values
    plain_lines : (some : List LineOrder) → (answer query dimensions some).lines
        ≡ map (line_of dimensions query (selected dimensions query.conditions some))
        (keys_among dimensions query (selected dimensions query.conditions some))
    plain_lines some = ap (λ order. in_order order
        (map (line_of dimensions query (selected dimensions query.conditions some))
        (keys_among dimensions query (selected dimensions query.conditions some)))) by_key

    values_of_keys : (mode : Option (List ℕ)) (some : List LineOrder)
        → ((key : List Member) → is_kept query.kind place (is_some mode) key ≡ true
        → (line_of dimensions query some key).values ≡ value (insert key place (member_of mode)))
        → (keys : List (List Member))
        → HaveValues value (joined_lines query.kind place mode (map (line_of dimensions query some) keys))
    values_of_keys mode some each [] = tt
    values_of_keys mode some each (key ∷ keys) =
        let others = filter (λ line. is_kept query.kind place (is_some mode) line.key)
        (map (line_of dimensions query some) keys) in
        elim (is_kept query.kind place (is_some mode) key) as
        (λ b. is_kept query.kind place (is_some mode) key ≡ b
        → HaveValues value (map (with_member place mode)
        (cond b (line_of dimensions query some key ∷ others) others))) [
          | true ↦ λ e. (each key e, values_of_keys mode some each keys)
          | false ↦ λ e. values_of_keys mode some each keys
        ] refl

    values_by_mode : (mode : List ℕ) → HaveValues value (lines_of_mode dimensions query place rows mode)
    values_by_mode mode =
        let some = selected dimensions query.conditions (of_mode mode rows) in
        subst (λ lines. HaveValues value (joined_lines query.kind place (Some mode) lines))
        (sym (plain_lines (of_mode mode rows)))
        (values_of_keys (Some mode) some
        (λ key kept. ap (λ own. map (λ agg. aggregate agg own) query.aggregates) (rows_of_mode mode key kept))
        (keys_among dimensions query some))

    values_of_all : has_coarser query.kind ≡ true → HaveValues value (lines_of_all dimensions query place rows)
    values_of_all coarser =
        let some = selected dimensions query.conditions rows in
        subst (λ lines. HaveValues value (joined_lines query.kind place None lines)) (sym (plain_lines rows))
        (values_of_keys None some
        (λ key kept. ap (λ own. map (λ agg. aggregate agg own) query.aggregates) (rows_of_all key coarser kept))
        (keys_among dimensions query some))

    values_each : (modes : List (List ℕ))
        → AllByRecursion (λ mode. HaveValues value (lines_of_mode dimensions query place rows mode)) modes
    values_each [] = tt
    values_each (mode ∷ modes) = (values_by_mode mode, values_each modes)

    -- ---- keys
    any_joined : (mode : Option (List ℕ)) (some : List LineOrder) (key : List Member)
        → list_any (same_key key) (map (λ line. line.key)
        (joined_lines query.kind place mode (answer query dimensions some).lines))
        ≡ list_any (λ row. is_fit row && makes_some row (is_some mode) (member_of mode) key) some
    any_joined mode some key =
        let fit = selected dimensions query.conditions some in
        let test : List Member → Bool = λ own. is_kept query.kind place (is_some mode) own
        && same_key key (insert own place (member_of mode)) in
        any_map (same_key key) (λ line. line.key)
        (joined_lines query.kind place mode (answer query dimensions some).lines)
        ∙ any_map (λ line. same_key key line.key) (with_member place mode)
        (filter (λ line. is_kept query.kind place (is_some mode) line.key) (answer query dimensions some).lines)
        ∙ any_filter (λ line. same_key key (insert line.key place (member_of mode)))
        (λ line. is_kept query.kind place (is_some mode) line.key) (answer query dimensions some).lines
        ∙ ap (list_any (λ line. test line.key)) (plain_lines some)
        ∙ any_map (λ line. test line.key) (line_of dimensions query fit) (keys_among dimensions query fit)
        ∙ any_ascending test (flat_map own_keys fit)
        ∙ any_flat_map test own_keys fit
        ∙ any_filter (λ row. list_any test (own_keys row)) is_fit some

    -- of rows that have one of some ship modes, one passes with its own
    by_own : (f : List ℕ → LineOrder → Bool) (modes : List (List ℕ)) (row : LineOrder)
        → list_any (bytes_eq row.shipmode) modes ≡ true
        → list_any (λ mode. bytes_eq mode row.shipmode && f mode row) modes ≡ f row.shipmode row
    by_own f modes row known =
        any_same (λ mode. bytes_eq mode row.shipmode && f mode row)
        (λ mode. f row.shipmode row && bytes_eq row.shipmode mode)
        (λ mode. own mode) modes
        ∙ any_and (f row.shipmode row) (bytes_eq row.shipmode) modes
        ∙ ap (λ b. f row.shipmode row && b) known
        ∙ and_true (f row.shipmode row)
      where
        and_true : (b : Bool) → (b && true) ≡ b
        and_true true = refl
        and_true false = refl

        own : (mode : List ℕ) → (bytes_eq mode row.shipmode && f mode row)
            ≡ (f row.shipmode row && bytes_eq row.shipmode mode)
        own mode = (elim (bytes_eq mode row.shipmode) as (λ b. bytes_eq mode row.shipmode ≡ b → (b && f mode row)
            ≡ (f row.shipmode row && bytes_eq row.shipmode mode)) [
              | true ↦ λ e. ap (λ m. f m row) (bytes_eq-same mode row.shipmode e)
                  ∙ sym (and_true (f row.shipmode row))
                  ∙ ap (λ b. f row.shipmode row && b) (sym (nat_list_eq_equiv.symm row.shipmode mode ∙ e))
              | false ↦ λ e. sym (and_false (f row.shipmode row))
                  ∙ ap (λ b. f row.shipmode row && b) (sym (nat_list_eq_equiv.symm row.shipmode mode ∙ e))
            ]) refl

    each_own : (f : List ℕ → LineOrder → Bool) (modes : List (List ℕ)) (some : List LineOrder)
        → have_modes modes some ≡ true
        → list_any (λ row. list_any (λ mode. bytes_eq mode row.shipmode && f mode row) modes) some
        ≡ list_any (λ row. f row.shipmode row) some
    each_own f modes [] known = refl
    each_own f modes (row ∷ some) known =
        λ i. by_own f modes row (first (list_any (bytes_eq row.shipmode) modes) (have_modes modes some) known) i
        || each_own f modes some
        (second (list_any (bytes_eq row.shipmode) modes) (have_modes modes some) known) i
      where
        first : (a b : Bool) → (a && b) ≡ true → a ≡ true
        first true b e = refl
        first false b e = e

        second : (a b : Bool) → (a && b) ≡ true → b ≡ true
        second true b e = e
        second false b e = cc

    any_by_mode : (modes : List (List ℕ)) → have_modes modes rows ≡ true → (key : List Member)
        → list_any (same_key key) (keys_by_mode dimensions query place rows modes)
        ≡ list_any (λ row. is_fit row && makes_some row true (Text row.shipmode) key) rows
    any_by_mode modes known key =
        let f : List ℕ → LineOrder → Bool = λ mode row. is_fit row && makes_some row true (Text mode) key in
        any_flat_map (same_key key)
        (λ mode. map (λ line. line.key) (lines_of_mode dimensions query place rows mode)) modes
        ∙ any_same
        (λ mode. list_any (same_key key) (map (λ line. line.key) (lines_of_mode dimensions query place rows mode)))
        (λ mode. list_any (λ row. bytes_eq mode row.shipmode && f mode row) rows)
        (λ mode. any_joined (Some mode) (of_mode mode rows) key
        ∙ any_filter (λ row. f mode row) (λ row. bytes_eq mode row.shipmode) rows) modes
        ∙ any_swap (λ mode row. bytes_eq mode row.shipmode && f mode row) modes rows
        ∙ each_own f modes rows known

    any_of_all : (key : List Member) (b : Bool)
        → list_any (same_key key) (keys_of_all b dimensions query place rows)
        ≡ list_any (λ row. is_fit row && (b && makes_some row false All key)) rows
    any_of_all key true = any_joined None rows key
    any_of_all key false =
        sym (any_same (λ row. is_fit row && false) (λ row. false) (λ row. and_false (is_fit row)) rows
        ∙ any_none rows)

    keys_join : (modes : List (List ℕ)) → have_modes modes rows ≡ true → (key : List Member)
        → list_any (same_key key) (keys_by_mode dimensions query place rows modes
        ++ keys_of_all (has_coarser query.kind) dimensions query place rows)
        ≡ list_any (same_key key) (moded_keys_among dimensions asked (chosen dimensions asked all))
    keys_join modes known key =
        let w : LineOrder → Bool = λ row. makes_some row true (Text row.shipmode) key in
        let v : LineOrder → Bool = λ row. has_coarser query.kind && makes_some row false All key in
        let k : LineOrder → Bool = λ row. list_any (same_key key) (keys_at dimensions query (Some place) row) in
        list_any-append (same_key key) (keys_by_mode dimensions query place rows modes)
        (keys_of_all (has_coarser query.kind) dimensions query place rows)
        ∙ (λ i. any_by_mode modes known key i || any_of_all key (has_coarser query.kind) i)
        ∙ sym (any_or (λ row. is_fit row && w row) (λ row. is_fit row && v row) rows)
        ∙ any_same (λ row. (is_fit row && w row) || (is_fit row && v row)) (λ row. is_fit row && k row)
        (λ row. sym (and_or (is_fit row) (w row) (v row))
        ∙ ap (λ b. is_fit row && b) (sym (any_key dimensions row query place within key))) rows
        ∙ any_filter (λ row. is_fit row && k row) passes all
        ∙ any_same (λ row. passes row && (is_fit row && k row)) (λ row. (is_fit row && passes row) && k row)
        (λ row. reorder_all (passes row) (is_fit row) (k row)) all
        ∙ sym (any_filter k (λ row. is_fit row && passes row) all)
        ∙ sym (any_flat_map (same_key key) (keys_at dimensions query (Some place)) (chosen dimensions asked all))
        ∙ sym (any_ascending (same_key key)
        (flat_map (keys_at dimensions query (Some place)) (chosen dimensions asked all)))

    pub join_lines : (modes : List (List ℕ)) → have_modes modes rows ≡ true
        → JoinLines dimensions asked place all modes
    join_lines modes known = record {
      by_mode = values_each modes;
      of_all = values_of_all;
      keys = keys_join modes known;
    }

pub answers_join : AnswersJoin
answers_join dimensions ask place rows modes proper is known =
    subst (λ whole. JoinLines dimensions whole place rows modes)
    (λ i. record { query = ask.query; place = sym is i; conditions = ask.conditions })
    (join_lines dimensions ask.query place ask.conditions
    (subst (λ p. Rattle.std.specs.Prelude.IfSome p (λ at. at ≤ length ask.query.columns)) is proper.within)
    (subst (λ p. Rattle.std.specs.Prelude.IfSome p (λ at. ask.query.order ≡ None)) is proper.by_key) rows modes known)
