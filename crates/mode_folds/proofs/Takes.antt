-- A fold that took rows represents them after those that it represented.
use Rattle.std.proofs.Common.{◌≡◌, ◌∙◌, sym, ap, refl, subst, ℕ, zero, suc, ◌+◌, ◌-◌, ◌<◌, ◌≤◌, Bool, true, false, List}
use Rattle.std.proofs.Common.{[], ◌∷◌, ◌++◌}
use Rattle.std.proofs.Common.{length, get_or, arith, ◌||◌, ◌&&◌, true≢false, None, length-append, inl}
use Rattle.std.proofs.Common.{inr}
use Rattle.std.specs.Prelude.{is_some}
use Rattle.std.specs.List.{AllByRecursion, list_any}
use Rattle.std.specs.Str.{bytes_eq}
use Rattle.std.specs.declared.alloc.Global.{Global}
use Rattle.std.specs.declared.vec.Vec.{Vec}
use Rattle.std.proofs.lemmas.List.{get_or-append_right, get_or-map, get_or_append_left, length-map}
use Rattle.std.proofs.lemmas.List.Elements.{filter-append}
use Rattle.std.proofs.lemmas.List.Folds.{list_all-append}
use Rattle.std.proofs.lemmas.Bool.{cases_order}
use Rattle.cube_model.specs.declared.query.Query.{Query}
use Rattle.cube_model.specs.declared.rows.DimRows.{DimRows}
use Rattle.cube_model.specs.declared.rows.LineOrder.{LineOrder}
use Rattle.cube_query.specs.Groups.{Begins, CanTake, FoldState, RepresentsRows, Takes}
use Rattle.dictionary.proofs.CallerLemmas.{bytes_eq-symm, list_any_here}
use Rattle.dictionary.specs.Dictionary.{EachOnce}
use Rattle.mode_folds.specs.Divided.{AreDivided, AreWithMore}
use Rattle.group_tallies.specs.Limits.{AreFoldable}
use Rattle.mode_folds.specs.Parts.{AreGrown, CanTakeEach, HaveQuery, RepresentByMode, TakeByMode, TakeEach}
use Rattle.mode_folds.specs.States.{TakesByModes, fold_of, folds_together, rows_by_mode}
use Rattle.mode_folds.specs.States.{TakesTogether, rows_if, rows_together}
use Rattle.mode_queries.specs.Joining.{have_modes, of_mode, passing}
use Rattle.mode_queries.specs.Selection.{passes_modes}
use Rattle.mode_queries.specs.declared.query.ModeQuery.{ModeQuery}
use Rattle.mode_folds.proofs.Divides.{have_more, none_of}
use Rattle.mode_folds.proofs.Finish.{represent_by_mode}
use Rattle.mode_folds.proofs.Foldables.{foldable_filter}

pub passing-append : (asked : ModeQuery) (rows others : List LineOrder)
    → passing asked.conditions (rows ++ others) ≡ passing asked.conditions rows ++ passing asked.conditions others
passing-append asked rows others = filter-append (λ row. passes_modes asked.conditions row.shipmode) rows others

if-append : (b : Bool) (rows others : List LineOrder) → rows_if b (rows ++ others) ≡ rows_if b rows ++ rows_if b others
if-append true rows others = refl
if-append false rows others = refl

pub together-append : (asked : ModeQuery) (rows others : List LineOrder)
    → rows_together asked (rows ++ others) ≡ rows_together asked rows ++ rows_together asked others
together-append asked rows others =
    ap (rows_if (folds_together asked)) (passing-append asked rows others)
    ∙ if-append (folds_together asked) (passing asked.conditions rows) (passing asked.conditions others)

pub by_mode-append : (asked : ModeQuery) (rows others : List LineOrder)
    → rows_by_mode asked (rows ++ others) ≡ rows_by_mode asked rows ++ rows_by_mode asked others
by_mode-append asked rows others =
    ap (rows_if (is_some asked.place)) (passing-append asked rows others)
    ∙ if-append (is_some asked.place) (passing asked.conditions rows) (passing asked.conditions others)

pub together_takes : (dimensions : DimRows) (asked : ModeQuery) (old : FoldState) (rows : List LineOrder)
    (new : FoldState) → folds_together asked ≡ true → Takes dimensions old (passing asked.conditions rows) new
    → TakesTogether dimensions asked old rows new
together_takes dimensions asked old rows new is takes so_far represents =
    subst (RepresentsRows dimensions new)
    (sym (together-append asked so_far rows
    ∙ ap (λ b. rows_together asked so_far ++ rows_if b (passing asked.conditions rows)) is))
    (takes.represents (rows_together asked so_far) represents)

pub nothing_together : (dimensions : DimRows) (asked : ModeQuery) (fold : FoldState) (rows : List LineOrder)
    → folds_together asked ≡ false → TakesTogether dimensions asked fold rows fold
nothing_together dimensions asked fold rows is so_far represents =
    subst (RepresentsRows dimensions fold)
    (ap (λ b. rows_if b (passing asked.conditions so_far)) is
    ∙ sym (ap (λ b. rows_if b (passing asked.conditions (so_far ++ rows))) is)) represents

-- no column is the ship mode
pub takes_plain : (dimensions : DimRows) (asked : ModeQuery) (old new : FoldState) (modes : List (List ℕ))
    (folds : List FoldState) (rows : List LineOrder) → asked.place ≡ None
    → TakesTogether dimensions asked old rows new
    → TakesByModes dimensions (fold_of asked old modes folds) rows (fold_of asked new modes folds)
takes_plain dimensions asked old new modes folds rows none takes =
    let empty : (some : List LineOrder) → rows_by_mode asked some ≡ [] =
    λ some. ap (λ place. rows_if (is_some place) (passing asked.conditions some)) none in
    record {
      query = refl;
      represents = λ so_far represents. record {
        together = takes so_far represents.together;
        counted = represents.counted;
        once = represents.once;
        known = ap (have_modes modes) (empty (so_far ++ rows));
        each = λ i mode part lt. subst (λ some. RepresentsRows dimensions (get_or folds i part)
            (of_mode (get_or modes i mode) some)) (empty so_far ∙ sym (empty (so_far ++ rows)))
            (represents.each i mode part lt);
      };
    }

-- ---- each ship mode
apart : (modes more : List (List ℕ)) (i : ℕ) (mode : List ℕ) → EachOnce (modes ++ more) → length modes ≤ i
    → i < length (modes ++ more) → list_any (bytes_eq (get_or (modes ++ more) i mode)) modes ≡ false
apart [] more i mode once le lt = refl
apart (first ∷ modes) more zero mode once le lt = absurd (omega (arith, le))
apart (first ∷ modes) more (suc i) mode once le lt =
    let own = get_or (modes ++ more) i mode in
    λ j. (bytes_eq-symm own first ∙ differs first (modes ++ more) i mode once.0 (omega (arith, lt))) j
    || apart modes more i mode once.1 (omega (arith, le)) (omega (arith, lt)) j
  where
    differs : (first : List ℕ) (others : List (List ℕ)) (i : ℕ) (d : List ℕ)
        → list_any (bytes_eq first) others ≡ false → i < length others → bytes_eq first (get_or others i d) ≡ false
    differs first others i d none lt =
        (elim (bytes_eq first (get_or others i d)) as (λ b. bytes_eq first (get_or others i d) ≡ b → b ≡ false) [
          | true ↦ λ e. absurd (true≢false (sym (list_any_here (bytes_eq first) others i d lt e) ∙ none))
          | false ↦ λ e. refl
        ]) refl

begins_at : (dimensions : DimRows) (query : Query) (folds : List FoldState) (i : ℕ) (d : FoldState)
    → AllByRecursion (Begins dimensions query) folds → i < length folds → Begins dimensions query (get_or folds i d)
begins_at dimensions query [] i d all lt = absurd (omega (arith, lt))
begins_at dimensions query (fold ∷ folds) zero d all lt = all.0
begins_at dimensions query (fold ∷ folds) (suc i) d all lt =
    begins_at dimensions query folds i d all.1 (omega (arith, lt))

-- folds that represent rows by their ship modes, with those of new ship modes after them
module _ (dimensions : DimRows) (query : Query) (modes all : List (List ℕ)) (folds grown : List FoldState)
    (rows : List LineOrder) (more : AreWithMore modes all rows)
    (grow : AreGrown dimensions query (length all) folds grown) (some : List LineOrder)
    (before : RepresentByMode dimensions query some modes folds) where
  abbrev Represents : FoldState → List ℕ → Type 0
  Represents fold mode = (fold.query ≡ query) × RepresentsRows dimensions fold (of_mode mode some)

  more_modes : length all ≡ length modes + length more.more
  more_modes = ap length more.after ∙ length-append modes more.more

  pub grown_many : length grown ≡ length all
  grown_many = grow.counted (omega (arith, before.parts.counted, more_modes))

  earlier : (i : ℕ) (mode : List ℕ) (part : FoldState) → i < length modes
      → Represents (get_or grown i part) (get_or all i mode)
  earlier i mode part lt =
      let fold_is : get_or grown i part ≡ get_or folds i part =
      ap (λ l. get_or l i part) grow.after
      ∙ get_or_append_left folds grow.more part i (omega (arith, lt, before.parts.counted)) in
      let mode_is : get_or all i mode ≡ get_or modes i mode =
      ap (λ l. get_or l i mode) more.after ∙ get_or_append_left modes more.more mode i lt in
      subst (λ fold. Represents fold (get_or all i mode)) (sym fold_is)
      (subst (λ m. Represents (get_or folds i part) m) (sym mode_is) (before.parts.each i mode part lt))

  later : (i : ℕ) (mode : List ℕ) (part : FoldState) → i < length all → length modes ≤ i
      → Represents (get_or grown i part) (get_or all i mode)
  later i mode part lt le =
      let more_folds : length grown ≡ length folds + length grow.more =
      ap length grow.after ∙ length-append folds grow.more in
      let fold_is : get_or grown i part ≡ get_or grow.more (i - length folds) part =
      ap (λ l. get_or l i part) grow.after
      ∙ get_or-append_right folds grow.more (length folds) i part refl (omega (arith, le, before.parts.counted)) in
      let empty : of_mode (get_or all i mode) some ≡ [] =
      none_of (get_or all i mode) modes some before.known
      (subst (λ l. EachOnce l → i < length l → list_any (bytes_eq (get_or l i mode)) modes ≡ false)
      (sym more.after) (λ each lt. apart modes more.more i mode each le lt) more.once lt) in
      let begins = begins_at dimensions query grow.more (i - length folds) part grow.begin
      (omega (arith, lt, le, grown_many, more_folds, before.parts.counted)) in
      subst (λ fold. Represents fold (get_or all i mode)) (sym fold_is) (
        begins.query_is,
        subst (RepresentsRows dimensions (get_or grow.more (i - length folds) part)) (sym empty) begins.represents,
      )

  pub grown_represents : (i : ℕ) (mode : List ℕ) (part : FoldState) → i < length all
      → Represents (get_or grown i part) (get_or all i mode)
  grown_represents i mode part lt = elim (cases_order i (length modes)) [
    | inl same ↦ later i mode part lt (omega (arith, same))
    | inr (inl below) ↦ earlier i mode part below
    | inr (inr above) ↦ later i mode part lt (omega (arith, above))
  ]

  all_known : have_modes all (some ++ rows) ≡ true
  all_known =
      list_all-append (λ row. list_any (bytes_eq row.shipmode) all) some rows
      ∙ (λ i. (ap (λ m. have_modes m some) more.after ∙ have_more modes more.more some before.known) i && more.known i)

  -- each took the rows of its ship mode
  pub all_represent : (taken : List FoldState) → length taken ≡ length grown
      → ((i : ℕ) (mode : List ℕ) (fold : FoldState) → i < length all
      → Takes dimensions (get_or grown i fold) (of_mode (get_or all i mode) rows) (get_or taken i fold))
      → RepresentByMode dimensions query (some ++ rows) all taken
  all_represent taken counted each = record {
    once = more.once;
    known = all_known;
    parts = record {
      counted = counted ∙ grown_many;
      each = λ i mode part lt.
          let takes = each i mode part lt in
          let old = grown_represents i mode part lt in (
            takes.query ∙ old.0,
            subst (RepresentsRows dimensions (get_or taken i part))
                (sym (filter-append (λ row. bytes_eq (get_or all i mode) row.shipmode) some rows))
                (takes.represents (of_mode (get_or all i mode) some) old.1),
          );
    };
  }

  -- each can take them where all rows may be folded
  pub can_take : AreFoldable dimensions (some ++ rows) → (i : ℕ) (mode : List ℕ) (fold : FoldState) → i < length all
      → CanTake dimensions (get_or grown i fold) (of_mode (get_or all i mode) rows)
  can_take can i mode fold lt = (
    of_mode (get_or all i mode) some,
    (
      (grown_represents i mode fold lt).1,
      subst (AreFoldable dimensions) (filter-append (λ row. bytes_eq (get_or all i mode) row.shipmode) some rows)
          (foldable_filter dimensions (λ row. bytes_eq (get_or all i mode) row.shipmode) (some ++ rows) can),
    ),
  )

-- rows that were divided
module _ (dimensions : DimRows) (query : Query) (modes all : List (List ℕ)) (folds grown : List FoldState)
    (rows : List LineOrder) (parts : List (Vec LineOrder Global)) (none : Vec LineOrder Global)
    (divided : EachOnce modes → AreDivided modes all rows parts)
    (grow : AreGrown dimensions query (length parts) folds grown) where
  many : AreDivided modes all rows parts → length parts ≡ length all
  many divided = sym (length-map parts (λ part. part.items)) ∙ ap length divided.parts_are
      ∙ length-map all (λ mode. of_mode mode rows)

  part_is : AreDivided modes all rows parts → (i : ℕ) (mode : List ℕ) (part : Vec LineOrder Global) → i < length all
      → (get_or parts i part).items ≡ of_mode (get_or all i mode) rows
  part_is divided i mode part lt =
      sym (get_or-map (λ p. p.items) parts i part [] (omega (arith, many divided, lt)))
      ∙ ap (λ lists. get_or lists i []) divided.parts_are
      ∙ get_or-map (λ m. of_mode m rows) all i mode [] lt

  grow_all : AreDivided modes all rows parts → AreGrown dimensions query (length all) folds grown
  grow_all divided = subst (λ n. AreGrown dimensions query n folds grown) (many divided) grow

  pub divided_take : (taken : List FoldState) → TakeEach dimensions grown parts taken
      → TakeByMode dimensions query modes folds rows all taken
  divided_take taken take some before =
      let d = divided before.once in
      all_represent dimensions query modes all folds grown rows d.modes (grow_all d) some before taken take.counted
      (λ i mode fold lt. subst (λ l. Takes dimensions (get_or grown i fold) l (get_or taken i fold))
      (part_is d i mode none lt) (take.each i fold none (omega (arith, many d, lt))))

  pub can_each : (some : List LineOrder) → RepresentByMode dimensions query some modes folds
      → AreFoldable dimensions (some ++ rows) → CanTakeEach dimensions grown parts
  can_each some before can i fold part lt =
      let d = divided before.once in
      let within : i < length all = omega (arith, many d, lt) in
      subst (CanTake dimensions (get_or grown i fold)) (sym (part_is d i [] part within))
      (can_take dimensions query modes all folds grown rows d.modes (grow_all d) some before can i [] fold within)

-- the ship mode is a column
pub takes_by_mode : (dimensions : DimRows) (asked : ModeQuery) (old new : FoldState) (modes all : List (List ℕ))
    (folds taken : List FoldState) (rows : List LineOrder) → is_some asked.place ≡ true
    → HaveQuery asked.query folds → TakesTogether dimensions asked old rows new
    → TakeByMode dimensions asked.query modes folds (passing asked.conditions rows) all taken
    → TakesByModes dimensions (fold_of asked old modes folds) rows (fold_of asked new all taken)
takes_by_mode dimensions asked old new modes all folds taken rows place queries together take = record {
  query = refl;
  represents = λ so_far represents.
      let all_rows = take (passing asked.conditions so_far)
      (represent_by_mode dimensions asked old modes folds so_far place queries represents) in
      let whole : rows_by_mode asked (so_far ++ rows)
      ≡ passing asked.conditions so_far ++ passing asked.conditions rows =
      ap (λ b. rows_if b (passing asked.conditions (so_far ++ rows))) place ∙ passing-append asked so_far rows in
      record {
        together = together so_far represents.together;
        counted = all_rows.parts.counted;
        once = all_rows.once;
        known = ap (have_modes all) whole ∙ all_rows.known;
        each = λ i mode part lt.
            subst (λ l. RepresentsRows dimensions (get_or taken i part) (of_mode (get_or all i mode) l)) (sym whole)
            (all_rows.parts.each i mode part lt).1;
      };
}
