-- The keys of a fact row with the column of ship modes, by those without it.
use Rattle.std.proofs.Common.{◌≡◌, ◌∙◌, sym, ap, refl, subst, ℕ, zero, suc, ◌≤◌, ◌+◌, Bool, true, false, List, [], ◌∷◌}
use Rattle.std.proofs.Common.{map, length, take, drop, arith, ◌||◌, ◌&&◌, not, Some, slice_index_or}
use Rattle.std.specs.List.{AllByRecursion, insert, list_all, list_any, remove}
use Rattle.std.specs.Ordering.{eq_by_cmp, is_eq, ordering_then}
use Rattle.std.specs.declared.cmp.Ordering.TheVariants.{Less, Equal, Greater}
use Rattle.cube_model.specs.declared.answer.Member.{Member}
use Rattle.cube_model.specs.declared.answer.Member.TheVariants.{All, Text}
use Rattle.cube_model.specs.declared.attr.Attr.{Attr}
use Rattle.cube_model.specs.declared.query.Kind.{Kind}
use Rattle.cube_model.specs.declared.query.Kind.TheVariants.{Plain, Rollup, Cube}
use Rattle.cube_model.specs.declared.query.Query.{Query}
use Rattle.cube_model.specs.declared.rows.DimRows.{DimRows}
use Rattle.cube_model.specs.declared.rows.LineOrder.{LineOrder}
use Rattle.cube_model.specs.Keys.{GroupingSet, grouping_sets, key_cmp, key_under, keys_of, member_cmp}
use Rattle.mode_queries.specs.Groupings.{grouping_sets_of}
use Rattle.mode_queries.specs.Joining.{has_coarser, is_kept, is_text}
use Rattle.mode_queries.specs.Keys.{keys_at, mode_member, moded_key}
use Rattle.mode_queries.proofs.Groupings.{by_number, grows, have_length, sets_grow}
use Rattle.mode_queries.proofs.Tests.{and_assoc, and_false, and_swap, any_and, any_map, any_same_of}

abbrev pub same_key : List Member → List Member → Bool
same_key = eq_by_cmp key_cmp

abbrev pub same_member : Member → Member → Bool
same_member = eq_by_cmp member_cmp

-- ---- keys that are the same
same_cons : (x y : Member) (xs ys : List Member)
    → same_key (x ∷ xs) (y ∷ ys) ≡ (same_member x y && same_key xs ys)
same_cons x y xs ys = elim (member_cmp x y) as
    (λ r. is_eq (ordering_then r (key_cmp xs ys)) ≡ (is_eq r && is_eq (key_cmp xs ys))) [
      | Less ↦ refl
      | Equal ↦ refl
      | Greater ↦ refl
    ]

none_same : (place : ℕ) (key : List Member) (x : Member) → same_key [] (insert key place x) ≡ false
none_same zero key x = refl
none_same (suc place) [] x = refl
none_same (suc place) (y ∷ key) x = refl

-- with a member more at a place
pub same_insert : (place : ℕ) (key other : List Member) (x y : Member) → place ≤ length other
    → same_key (insert key place x) (insert other place y) ≡ (same_member x y && same_key key other)
same_insert zero key other x y le = same_cons x y key other
same_insert (suc place) key [] x y le = absurd (omega (arith, le))
same_insert (suc place) [] (b ∷ other) x y le =
    same_cons x b [] (insert other place y)
    ∙ ap (λ t. same_member x b && t) (none_same place other y)
    ∙ and_false (same_member x b) ∙ sym (and_false (same_member x y))
same_insert (suc place) (a ∷ key) (b ∷ other) x y le =
    same_cons a b (insert key place x) (insert other place y)
    ∙ ap (λ t. same_member a b && t) (same_insert place key other x y (omega (arith, le)))
    ∙ and_swap (same_member a b) (same_member x y) (same_key key other)
    ∙ ap (λ t. same_member x y && t) (sym (same_cons a b key other))

-- ---- a grouping set with a column more
removed : (place : ℕ) (grouping : GroupingSet) (b : Bool) → place ≤ length grouping
    → remove (insert grouping place b) place ≡ grouping
removed zero grouping b le = refl
removed (suc place) [] b le = absurd (omega (arith, le))
removed (suc place) (first ∷ grouping) b le = ap (λ rest. first ∷ rest) (removed place grouping b (omega (arith, le)))

put : (place : ℕ) (grouping : GroupingSet) (b : Bool) → place ≤ length grouping
    → slice_index_or (insert grouping place b) place false ≡ b
put zero grouping b le = refl
put (suc place) [] b le = absurd (omega (arith, le))
put (suc place) (first ∷ grouping) b le = put place grouping b (omega (arith, le))

module _ (dimensions : DimRows) (row : LineOrder) where
  abbrev key_by : List Attr → GroupingSet → List Member
  key_by columns grouping = key_under dimensions row columns grouping

  key_length : (columns : List Attr) (grouping : GroupingSet) → length grouping ≡ length columns
      → length (key_by columns grouping) ≡ length columns
  key_length [] grouping same = refl
  key_length (column ∷ columns) [] same = absurd (omega (arith, same))
  key_length (column ∷ columns) (true ∷ grouping) same = ap suc (key_length columns grouping (omega (arith, same)))
  key_length (column ∷ columns) (false ∷ grouping) same = ap suc (key_length columns grouping (omega (arith, same)))

  texts_first : (place : ℕ) (columns : List Attr) (grouping : GroupingSet) → length grouping ≡ length columns
      → list_all is_text (take place (key_by columns grouping)) ≡ list_all (λ b. b) (take place grouping)
  texts_first zero columns grouping same = refl
  texts_first (suc place) [] [] same = refl
  texts_first (suc place) [] (b ∷ grouping) same = absurd (omega (arith, same))
  texts_first (suc place) (column ∷ columns) [] same = absurd (omega (arith, same))
  texts_first (suc place) (column ∷ columns) (true ∷ grouping) same =
      texts_first place columns grouping (omega (arith, same))
  texts_first (suc place) (column ∷ columns) (false ∷ grouping) same = refl

  all_last : (columns : List Attr) (grouping : GroupingSet) → length grouping ≡ length columns
      → list_all (λ member. not (is_text member)) (key_by columns grouping) ≡ list_all not grouping
  all_last [] [] same = refl
  all_last [] (b ∷ grouping) same = absurd (omega (arith, same))
  all_last (column ∷ columns) [] same = absurd (omega (arith, same))
  all_last (column ∷ columns) (true ∷ grouping) same = refl
  all_last (column ∷ columns) (false ∷ grouping) same = all_last columns grouping (omega (arith, same))

  all_after : (place : ℕ) (columns : List Attr) (grouping : GroupingSet) → length grouping ≡ length columns
      → list_all (λ member. not (is_text member)) (drop place (key_by columns grouping))
      ≡ list_all not (drop place grouping)
  all_after zero columns grouping same = all_last columns grouping same
  all_after (suc place) [] [] same = refl
  all_after (suc place) [] (b ∷ grouping) same = absurd (omega (arith, same))
  all_after (suc place) (column ∷ columns) [] same = absurd (omega (arith, same))
  all_after (suc place) (column ∷ columns) (true ∷ grouping) same =
      all_after place columns grouping (omega (arith, same))
  all_after (suc place) (column ∷ columns) (false ∷ grouping) same =
      all_after place columns grouping (omega (arith, same))

  kept_grouped : (kind : Kind) (place : ℕ) (columns : List Attr) (grouping : GroupingSet)
      → length grouping ≡ length columns
      → grows kind place true grouping ≡ is_kept kind place true (key_by columns grouping)
  kept_grouped Plain place columns grouping same = refl
  kept_grouped Rollup place columns grouping same = sym (texts_first place columns grouping same)
  kept_grouped Cube place columns grouping same = refl

  kept_other : (kind : Kind) (place : ℕ) (columns : List Attr) (grouping : GroupingSet)
      → length grouping ≡ length columns
      → grows kind place false grouping ≡ (has_coarser kind && is_kept kind place false (key_by columns grouping))
  kept_other Plain place columns grouping same = refl
  kept_other Rollup place columns grouping same = sym (all_after place columns grouping same)
  kept_other Cube place columns grouping same = refl

  key_of_grown : (place : ℕ) (columns : List Attr) (grouping : GroupingSet) (b : Bool) → place ≤ length grouping
      → moded_key dimensions row columns place (insert grouping place b)
      ≡ insert (key_by columns grouping) place (mode_member b row)
  key_of_grown place columns grouping b le =
      λ i. insert (key_by columns (removed place grouping b le i)) place (mode_member (put place grouping b le i) row)

  module _ (query : Query) (place : ℕ) (within : place ≤ length query.columns) where
    abbrev sets : List GroupingSet
    sets = grouping_sets_of query.kind (length query.columns)

    -- the keys of a fact row without the column are as many members long as there are columns
    pub keys_fit : AllByRecursion (λ key. place ≤ length key) (keys_of dimensions query row)
    keys_fit = fit (grouping_sets query.kind query.columns)
        (subst (AllByRecursion (λ grouping. length grouping ≡ length query.columns))
        (sym (by_number query.kind query.columns)) (have_length query.kind (length query.columns)))
      where
        fit : (groupings : List GroupingSet)
            → AllByRecursion (λ grouping. length grouping ≡ length query.columns) groupings
            → AllByRecursion (λ key. place ≤ length key) (map (key_by query.columns) groupings)
        fit [] all = tt
        fit (grouping ∷ groupings) all =
            (omega (arith, within, key_length query.columns grouping all.0), fit groupings all.1)

    -- a key without the column makes this one with a member in it
    abbrev pub makes : Bool → Member → List Member → List Member → Bool
    makes is_grouped member key other =
        is_kept query.kind place is_grouped other && same_key key (insert other place member)

    abbrev pub some_makes : Bool → Member → List Member → Bool
    some_makes is_grouped member key = list_any (makes is_grouped member key) (keys_of dimensions query row)

    by_sets : (is_grouped : Bool) (member : Member) (key : List Member)
        → some_makes is_grouped member key
        ≡ list_any (λ grouping. makes is_grouped member key (key_by query.columns grouping)) sets
    by_sets is_grouped member key =
        any_map (makes is_grouped member key) (key_by query.columns) (grouping_sets query.kind query.columns)
        ∙ ap (list_any (λ grouping. makes is_grouped member key (key_by query.columns grouping)))
        (by_number query.kind query.columns)

    -- a key is that of a fact row: one of the row's keys without the column makes it, grouped or not
    pub any_key : (key : List Member)
        → list_any (same_key key) (keys_at dimensions query (Some place) row)
        ≡ (some_makes true (Text row.shipmode) key || (has_coarser query.kind && some_makes false All key))
    any_key key =
        let test : GroupingSet → Bool =
        λ grouping. same_key key (moded_key dimensions row query.columns place grouping) in
        let lengths = have_length query.kind (length query.columns) in
        any_map (same_key key) (moded_key dimensions row query.columns place)
        (grouping_sets_of query.kind (length query.columns + 1))
        ∙ ap (λ n. list_any test (grouping_sets_of query.kind n)) (omega arith)
        ∙ sets_grow query.kind (length query.columns) place test within
        ∙ (λ i. (any_same_of (λ grouping. length grouping ≡ length query.columns)
        (λ grouping. grows query.kind place true grouping && test (insert grouping place true))
        (λ grouping. makes true (Text row.shipmode) key (key_by query.columns grouping))
        (λ grouping same j. kept_grouped query.kind place query.columns grouping same j
        && same_key key (key_of_grown place query.columns grouping true (omega (arith, same, within)) j))
        sets lengths ∙ sym (by_sets true (Text row.shipmode) key)) i
        || (any_same_of (λ grouping. length grouping ≡ length query.columns)
        (λ grouping. grows query.kind place false grouping && test (insert grouping place false))
        (λ grouping. has_coarser query.kind && makes false All key (key_by query.columns grouping))
        (λ grouping same.
        (λ j. kept_other query.kind place query.columns grouping same j
        && same_key key (key_of_grown place query.columns grouping false (omega (arith, same, within)) j))
        ∙ and_assoc (has_coarser query.kind) (is_kept query.kind place false (key_by query.columns grouping))
        (same_key key (insert (key_by query.columns grouping) place All)))
        sets lengths
        ∙ any_and (has_coarser query.kind) (λ grouping. makes false All key (key_by query.columns grouping)) sets
        ∙ ap (λ b. has_coarser query.kind && b) (sym (by_sets false All key))) i)
