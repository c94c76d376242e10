-- Lemmas of `joining`, by subject.
use Rattle.std.proofs.Common.{◌≡◌, ◌∙◌, sym, ap, refl, subst, ℕ, Bool, true, false, cond, List, [], ◌∷◌, ◌++◌, map}
use Rattle.std.proofs.Common.{◌||◌, Option, Some, None, append-nil, zero, suc, ◌+◌, ◌<◌, take, length, get_or, arith}
use Rattle.std.specs.Prelude.{is_some}
use Rattle.std.specs.List.{filter, insert, list_any, AllByRecursion}
use Rattle.std.specs.Option.{option_map}
use Rattle.std.specs.Ordering.{eq_by_cmp, is_eq}
use Rattle.std.specs.BTreeMap.{BTreeMap, Updates, get}
use Rattle.std.specs.declared.cmp.Ordering.{Ordering}
use Rattle.std.specs.declared.cmp.Ordering.TheVariants.{Less, Equal, Greater}
use Rattle.std.proofs.lemmas.List.{append_assoc, map-append}
use Rattle.std.proofs.lemmas.List.Elements.{filter-append}
use Rattle.std.proofs.lemmas.List.Folds.{list_any-append}
use Rattle.cube_model.specs.declared.answer.Line.{Line}
use Rattle.cube_model.specs.declared.answer.Member.{Member}
use Rattle.cube_model.specs.declared.answer.Value.{Value}
use Rattle.cube_model.specs.declared.query.Kind.{Kind}
use Rattle.cube_model.specs.Keys.{key_cmp}
use Rattle.cube_model.proofs.KeyOrder.{key_cmp-IsAntisymmetric}
use Rattle.mode_folds.specs.Joining.{HasValues, FoldParts}
use Rattle.mode_queries.specs.Joining.{HaveValues, is_kept, joined_keys, joined_lines, member_of, with_member}
use Rattle.mode_queries.specs.Joining.{keys_by_mode, lines_of_mode, of_mode}
use Rattle.std.specs.Str.{bytes_eq}
use Rattle.std.proofs.lemmas.Grind.{flat_map-append}
use Rattle.cube_model.specs.declared.answer.Answer.{Answer}
use Rattle.cube_model.specs.declared.query.Query.{Query}
use Rattle.cube_model.specs.declared.rows.DimRows.{DimRows}
use Rattle.cube_model.specs.declared.rows.LineOrder.{LineOrder}
use Rattle.cube_model.specs.Answers.{answer}
use Rattle.cube_query.specs.Groups.{FoldState, IsFoldable, RepresentsRows}
use Rattle.group_tallies.specs.Limits.{AreFoldable}
use Rattle.mode_folds.proofs.Foldables.{foldable_filter}

-- ==== Lines that are gathered by their keys, one line more.

pub is_some-map : {X Y : Type 0} (f : X → Y) (o : Option X) → is_some (option_map f o) ≡ is_some o
is_some-map f None = refl
is_some-map f (Some x) = refl

abbrev same : List Member → List Member → Bool
same = eq_by_cmp key_cmp

same_is : (key other : List Member) → same key other ≡ true → key ≡ other
same_is key other e = key_cmp-IsAntisymmetric key other (equal (key_cmp key other) e)
  where
    equal : (r : Ordering) → is_eq r ≡ true → r ≡ Equal
    equal Less e = cc
    equal Equal e = refl
    equal Greater e = cc

last_of : (p : List Member → Bool) (keys : List (List Member)) (key : List Member)
    → list_any p (keys ++ key ∷ []) ≡ (list_any p keys || p key)
last_of p keys key = list_any-append p keys (key ∷ []) ∙ ap (λ b. list_any p keys || b) (or_false (p key))
  where
    or_false : (b : Bool) → (b || false) ≡ b
    or_false true = refl
    or_false false = refl

-- with the value of one key more
pub holds_more : (value : List Member → List Value) (keys : List (List Member)) (key : List Member)
    (values : List Value) (old new : BTreeMap (List Member) (List Value)) → HasValues value keys old
    → values ≡ value key → Updates key_cmp old new key (Some values) → HasValues value (keys ++ key ∷ []) new
holds_more value keys key values old new holds is updates q =
    updates.0 q
    ∙ (elim (same key q) as (λ b. same key q ≡ b → cond b (Some values) (get key_cmp old q)
    ≡ cond (list_any (same q) (keys ++ key ∷ [])) (Some (value q)) None) [
      | true ↦ λ e.
          let one : key ≡ q = same_is key q e in
          ap Some (is ∙ ap value one)
          ∙ ap (λ b. cond b (Some (value q)) None) (sym (last_of (same q) keys key
          ∙ ap (λ b. list_any (same q) keys || b) (ap (λ k. same k key) (sym one)
          ∙ ap (λ k. same key k) one ∙ e) ∙ or_true (list_any (same q) keys)))
      | false ↦ λ e. holds q
          ∙ ap (λ b. cond b (Some (value q)) None) (sym (last_of (same q) keys key
          ∙ ap (λ b. list_any (same q) keys || b) (apart q e) ∙ or_false (list_any (same q) keys)))
    ]) refl
  where
    or_true : (b : Bool) → (b || true) ≡ true
    or_true true = refl
    or_true false = refl

    or_false : (b : Bool) → (b || false) ≡ b
    or_false true = refl
    or_false false = refl

    apart : (q : List Member) → same key q ≡ false → same q key ≡ false
    apart q e = (elim (same q key) as (λ b. same q key ≡ b → b ≡ false) [
      | true ↦ λ f. sym (ap (λ k. same key k) (same_is q key f) ∙ ap (λ k. same k key) (sym (same_is q key f)) ∙ f) ∙ e
      | false ↦ λ f. refl
    ]) refl

-- ---- lines with the column
module _ (kind : Kind) (place : ℕ) (mode : Option (List ℕ)) where
  joined-last : (yielded : List Line) (line : Line) (b : Bool) → is_kept kind place (is_some mode) line.key ≡ b
      → joined_lines kind place mode (yielded ++ line ∷ [])
      ≡ joined_lines kind place mode yielded ++ cond b (with_member place mode line ∷ []) []
  joined-last yielded line b e =
      ap (map (with_member place mode)) (filter-append (λ l. is_kept kind place (is_some mode) l.key) yielded
      (line ∷ []))
      ∙ map-append (with_member place mode) (filter (λ l. is_kept kind place (is_some mode) l.key) yielded)
      (cond (is_kept kind place (is_some mode) line.key) (line ∷ []) [])
      ∙ ap (λ t. joined_lines kind place mode yielded ++ map (with_member place mode) (cond t (line ∷ []) [])) e
      ∙ ap (λ l. joined_lines kind place mode yielded ++ l) (by b)
    where
      by : (b : Bool) → map (with_member place mode) (cond b (line ∷ []) [])
          ≡ cond b (with_member place mode line ∷ []) []
      by true = refl
      by false = refl

  first_values : (value : List Member → List Value) (some others : List Line) → HaveValues value (some ++ others)
      → HaveValues value some
  first_values value [] others have = tt
  first_values value (line ∷ some) others have = (have.0, first_values value some others have.1)

  last_values : (value : List Member → List Value) (some others : List Line) → HaveValues value (some ++ others)
      → HaveValues value others
  last_values value [] others have = have
  last_values value (line ∷ some) others have = last_values value some others have.1

  -- what is kept of the lines so far
  abbrev pub Gathers : BTreeMap (List Member) (List Value) → List Line → BTreeMap (List Member) (List Value) → Type 0
  Gathers initial yielded lines = (value : List Member → List Value) (keys : List (List Member))
      → HaveValues value (joined_lines kind place mode yielded) → HasValues value keys initial
      → HasValues value (keys ++ joined_keys kind place mode yielded) lines

  pub gathers_kept : (initial old new : BTreeMap (List Member) (List Value)) (yielded : List Line) (line : Line)
      (key : List Member) → Gathers initial yielded old → is_kept kind place (is_some mode) line.key ≡ true
      → key ≡ insert line.key place (member_of mode) → Updates key_cmp old new key (Some line.values)
      → Gathers initial (yielded ++ line ∷ []) new
  gathers_kept initial old new yielded line key before kept is updates value keys have holds =
      let some = joined_lines kind place mode yielded in
      let whole = joined-last yielded line true kept in
      let all : HaveValues value (some ++ with_member place mode line ∷ []) = subst (HaveValues value) whole have in
      subst (λ l. HasValues value (keys ++ map (λ one. one.key) l) new) (sym whole)
      (subst (λ l. HasValues value (keys ++ l) new)
      (sym (map-append (λ one. one.key) some (with_member place mode line ∷ [])))
      (subst (λ l. HasValues value l new)
      (append_assoc keys (map (λ one. one.key) some) ((with_member place mode line).key
      ∷ []))
      (holds_more value (keys ++ map (λ one. one.key) some) (with_member place mode line).key line.values old new
      (before value keys (first_values value some _ all) holds) (last_values value some _ all).0
      (subst (λ k. Updates key_cmp old new k (Some line.values)) is updates))))

  pub gathers_other : (initial old : BTreeMap (List Member) (List Value)) (yielded : List Line) (line : Line)
      → Gathers initial yielded old → is_kept kind place (is_some mode) line.key ≡ false
      → Gathers initial (yielded ++ line ∷ []) old
  gathers_other initial old yielded line before kept value keys have holds =
      let some = joined_lines kind place mode yielded in
      let whole : joined_lines kind place mode (yielded ++ line ∷ []) ≡ some =
      joined-last yielded line false kept ∙ append-nil some in
      subst (λ l. HasValues value (keys ++ map (λ one. one.key) l) old) (sym whole)
      (before value keys (subst (HaveValues value) whole have) holds)

-- ==== The fold of a ship mode among those of all.

take_next : {X : Type 0} (xs : List X) (i : ℕ) (d : X) → i < length xs → take (i + 1) xs ≡ take i xs ++ get_or xs i d
    ∷ []
take_next [] i d lt = absurd (omega (arith, lt))
take_next (x ∷ xs) zero d lt = refl
take_next (x ∷ xs) (suc i) d lt =
    let next : suc i + 1 ≡ suc (i + 1) = omega arith in
    ap (λ n. take n (x ∷ xs)) next ∙ ap (λ rest. x ∷ rest) (take_next xs i d (omega (arith, lt)))

all_at : (P : List ℕ → Type 0) (modes : List (List ℕ)) (i : ℕ) (d : List ℕ) → AllByRecursion P modes
    → i < length modes → P (get_or modes i d)
all_at P [] i d all lt = absurd (omega (arith, lt))
all_at P (mode ∷ modes) zero d all lt = all.0
all_at P (mode ∷ modes) (suc i) d all lt = all_at P modes i d all.1 (omega (arith, lt))

module _ (dimensions : DimRows) (query : Query) (rows : List LineOrder) (modes : List (List ℕ))
    (folds : List FoldState) (parts : FoldParts dimensions query rows modes folds) (code : ℕ) (lt : code < length modes)
    (fold : FoldState) (is : get_or folds code fold ≡ fold) where
  fold_represents : RepresentsRows dimensions fold (of_mode (get_or modes code []) rows)
  fold_represents = subst (λ f. RepresentsRows dimensions f (of_mode (get_or modes code []) rows)) is
      (parts.each code [] fold lt).1

  pub part_foldable : AreFoldable dimensions rows → IsFoldable dimensions fold
  part_foldable can = (
    of_mode (get_or modes code []) rows,
    (
      fold_represents,
      foldable_filter dimensions (λ row. bytes_eq (get_or modes code []) row.shipmode) rows can,
    ),
  )

  -- the lines of the next ship mode
  module _ (kind : Kind) (same : kind ≡ query.kind) (place : ℕ) (mode : List ℕ) (mode_is : mode ≡ get_or modes code [])
      (found : Answer)
      (answers : (some : List LineOrder) → RepresentsRows dimensions fold some
      → found ≡ answer fold.query dimensions some) where
    lines_are : joined_lines kind place (Some mode) found.lines ≡ lines_of_mode dimensions query place rows
        (get_or modes code [])
    lines_are =
        (λ i. joined_lines (same i) place (Some (mode_is i)) found.lines)
        ∙ ap (λ a. joined_lines query.kind place (Some (get_or modes code [])) a.lines)
        (answers (of_mode (get_or modes code []) rows) fold_represents
        ∙ ap (λ q. answer q dimensions (of_mode (get_or modes code []) rows))
        (ap (λ f. f.query) (sym is) ∙ (parts.each code [] fold lt).0))

    pub next_lines : (value : List Member → List Value) (keys : List (List Member))
        (old new : BTreeMap (List Member) (List Value))
        → AllByRecursion (λ m. HaveValues value (lines_of_mode dimensions query place rows m)) modes
        → ((have : HaveValues value (joined_lines kind place (Some mode) found.lines))
        → HasValues value (keys ++ keys_by_mode dimensions query place rows (take code modes)) old
        → HasValues value ((keys ++ keys_by_mode dimensions query place rows (take code modes))
        ++ joined_keys kind place (Some mode) found.lines) new)
        → HasValues value (keys ++ keys_by_mode dimensions query place rows (take code modes)) old
        → HasValues value (keys ++ keys_by_mode dimensions query place rows (take (code + 1) modes)) new
    next_lines value keys old new values goes holds =
        let done = keys_by_mode dimensions query place rows (take code modes) in
        let own = get_or modes code [] in
        let have : HaveValues value (joined_lines kind place (Some mode) found.lines) =
        subst (HaveValues value) (sym lines_are)
        (all_at (λ m. HaveValues value (lines_of_mode dimensions query place rows m)) modes code [] values lt) in
        let last : keys_by_mode dimensions query place rows (take (code + 1) modes)
        ≡ done ++ joined_keys kind place (Some mode) found.lines =
        ap (keys_by_mode dimensions query place rows) (take_next modes code [] lt)
        ∙ flat_map-append (λ m. map (λ line. line.key) (lines_of_mode dimensions query place rows m)) (take code modes)
        (own ∷ [])
        ∙ ap (λ l. done ++ l) (append-nil (map (λ line. line.key) (lines_of_mode dimensions query place rows own))
        ∙ ap (map (λ line. line.key)) (sym lines_are)) in
        subst (λ l. HasValues value (keys ++ l) new) (sym last)
        (subst (λ l. HasValues value l new) (append_assoc keys done (joined_keys kind place (Some mode) found.lines))
        (goes have holds))
