-- Lemmas of `cell_parts`, by subject.
use Rattle.std.proofs.Common.{◌≡◌, ◌∙◌, inl, inr, sym, ap, refl, subst, ℕ, zero, suc, ◌+◌, ◌==◌, ◌<◌, ◌≤◌, Bool, true}
use Rattle.std.proofs.Common.{false, cond, List, [], ◌∷◌, ◌++◌, length, get_or, None, arith, All, append-nil}
use Rattle.std.proofs.Common.{append_assoc, ◌&&◌, length-append, slice_set, Some, ◌||◌}
use Rattle.std.specs.List.{filter, list_any}
use Rattle.std.specs.Str.{bytes_eq}
use Rattle.std.proofs.lemmas.Bool.{cases_lt, cases_eq}
use Rattle.std.proofs.lemmas.Bool.Decides.{nat_tests}
use Rattle.std.proofs.lemmas.List.Elements.{All-head, All-tail, filter-append}
use Rattle.cube_model.specs.declared.query.Query.{Query}
use Rattle.cube_model.specs.declared.rows.DimRows.{DimRows}
use Rattle.cube_model.specs.declared.rows.LineOrder.{LineOrder}
use Rattle.cube_query.specs.Groups.{FoldState, RepresentsRows, CanTake, Takes}
use Rattle.group_tallies.specs.Limits.{AreFoldable}
use Rattle.dictionary.proofs.CallerLemmas.{bytes_eq-refl, bytes_eq-same, text_at_place, EachOnce-push, bytes_eq-apart}
use Rattle.dictionary.proofs.CallerLemmas.{bytes_eq-symm, place_again, place_last, place_within}
use Rattle.dictionary.specs.Columns.{place_of}
use Rattle.lattice.specs.declared.view.View.{View}
use Rattle.cuboid_cells.specs.declared.cell.Cell.{Cell}
use Rattle.cuboid_cells.specs.Cells.{AreProperCells, PlainCells, cell_at, key_as_number}
use Rattle.cuboid_cells.specs.Steps.{cells_of}
use Rattle.cuboid_upkeep.specs.Grouping.{RepresentRows, cell_over, key_of, rows_of_number}
use Rattle.mode_folds.specs.Celling.{cells_at}
use Rattle.mode_folds.specs.Parts.{AreOfMode, RepresentByMode, TakeByMode, AreGrown}
use Rattle.mode_folds.proofs.Chosen.{filter_kept, kept_represent}
use Rattle.mode_folds.proofs.Divides.{none_of}
use Rattle.mode_folds.proofs.Foldables.{foldable_filter}
use Rattle.mode_queries.specs.Joining.{have_modes, of_mode}
use Rattle.std.proofs.Math.Seq.{get_or-append_seam}
use Rattle.std.proofs.lemmas.List.Folds.{list_any-append}
use Rattle.std.proofs.lemmas.Option.{slice_get-get_or}
use Rattle.dictionary.specs.Dictionary.{Adds, EachOnce, Texts}
use Rattle.mode_folds.specs.Divided.{AreWithMore}
use Rattle.mode_folds.proofs.Adding.{IsKept, IsNew, kept_or_new}
use Rattle.mode_folds.proofs.Counted.{set_here, set_length, set_there}
use Rattle.mode_folds.proofs.Takes.{all_represent, grown_many, grown_represents}

-- ==== Rows by the places of their ship modes among some texts.

-- the rows whose ship mode is at a place
abbrev pub rows_at : List (List ℕ) → ℕ → List LineOrder → List LineOrder
rows_at texts place rows = filter (λ row. place_of texts row.shipmode == place) rows

-- those of so many first places, one place after another
abbrev pub rows_before : List (List ℕ) → ℕ → List LineOrder → List LineOrder
rows_before texts zero rows = []
rows_before texts (suc count) rows = rows_before texts count rows ++ rows_at texts count rows

module _ (texts : List (List ℕ)) (rows : List LineOrder) where
  -- the rows of a ship mode are at its place
  of_mode-at : (mode : List ℕ) (place : ℕ) (b : Bool) → (place_of texts mode == place) ≡ b
      → of_mode mode (rows_at texts place rows) ≡ cond b (of_mode mode rows) []
  of_mode-at mode place b is =
      filter_kept (λ row. Unit {0}) (λ (row : LineOrder). bytes_eq mode row.shipmode)
      (λ row. place_of texts row.shipmode == place) b
      (λ row known same. ap (λ m. place_of texts m == place) (sym (bytes_eq-same mode row.shipmode same)) ∙ is)
      rows (λ k d lt. tt)

  mode_before : (mode : List ℕ) (count : ℕ) → count ≤ place_of texts mode
      → of_mode mode (rows_before texts count rows) ≡ []
  mode_before mode zero le = refl
  mode_before mode (suc count) le =
      let there : (place_of texts mode == count) ≡ false = grind (arith, nat_tests) in
      filter-append (λ (row : LineOrder). bytes_eq mode row.shipmode) (rows_before texts count rows)
      (rows_at texts count rows)
      ∙ (λ i. mode_before mode count (omega (arith, le)) i ++ of_mode-at mode count false there i)

  mode_after : (mode : List ℕ) (count : ℕ) → place_of texts mode < count
      → of_mode mode (rows_before texts count rows) ≡ of_mode mode rows
  mode_after mode zero lt = absurd (omega (arith, lt))
  mode_after mode (suc count) lt =
      filter-append (λ (row : LineOrder). bytes_eq mode row.shipmode) (rows_before texts count rows)
      (rows_at texts count rows)
      ∙ elim (cases_lt (place_of texts mode) count) [
        | inl below ↦
            (let there : (place_of texts mode == count) ≡ false = grind (arith, nat_tests) in
            (λ i. mode_after mode count below i ++ of_mode-at mode count false there i)
            ∙ append-nil (of_mode mode rows))
        | inr past ↦
            (let here : (place_of texts mode == count) ≡ true = grind (arith, nat_tests) in
            (λ i. mode_before mode count past i ++ of_mode-at mode count true here i))
      ]

  -- the rows at a place are those of its ship mode
  pub at_place : (place : ℕ) → place < length texts → AreOfMode (get_or texts place []) (rows_at texts place rows)
  at_place place lt = own rows
    where
      own : (rows : List LineOrder) → AreOfMode (get_or texts place []) (rows_at texts place rows)
      own [] = refl
      own (row ∷ rows) =
          (elim (place_of texts row.shipmode == place) as (λ b. (place_of texts row.shipmode == place) ≡ b
          → AreOfMode (get_or texts place []) (cond b (row ∷ rows_at texts place rows) (rows_at texts place rows))) [
            | true ↦ λ e.
                let is : place_of texts row.shipmode ≡ place = grind (arith, nat_tests) in
                let text : get_or texts place [] ≡ row.shipmode =
                ap (λ n. get_or texts n []) (sym is)
                ∙ text_at_place texts row.shipmode (omega (arith, is, lt)) in
                ap (λ b. cond b (row ∷ of_mode (get_or texts place []) (rows_at texts place rows))
                (of_mode (get_or texts place []) (rows_at texts place rows)))
                (ap (λ m. bytes_eq m row.shipmode) text ∙ bytes_eq-refl row.shipmode)
                ∙ ap (λ l. row ∷ l) (own rows)
            | false ↦ λ e. own rows
          ]) refl

  -- where each row's ship mode is one of the texts, all places have all rows
  pub all_places : All (λ (row : LineOrder). place_of texts row.shipmode < length texts) rows → (mode : List ℕ)
      → of_mode mode (rows_before texts (length texts) rows) ≡ of_mode mode rows
  all_places known mode = elim (cases_lt (place_of texts mode) (length texts)) [
    | inl below ↦ mode_after mode (length texts) below
    | inr past ↦ mode_before mode (length texts) past ∙ sym (none_past rows known past)
  ]
    where
      none_past : (rows : List LineOrder) → All (λ (row : LineOrder). place_of texts row.shipmode < length texts) rows
          → length texts ≤ place_of texts mode → of_mode mode rows ≡ []
      none_past [] known past = refl
      none_past (row ∷ rows) known past =
          (elim (bytes_eq mode row.shipmode) as (λ b. bytes_eq mode row.shipmode ≡ b
          → cond b (row ∷ of_mode mode rows) (of_mode mode rows) ≡ []) [
            | true ↦ λ e.
                let lt : place_of texts row.shipmode < length texts =
                All-head (λ (row : LineOrder). place_of texts row.shipmode < length texts) row rows known in
                let same : place_of texts mode ≡ place_of texts row.shipmode =
                ap (place_of texts) (bytes_eq-same mode row.shipmode e) in
                absurd (omega (arith, lt, same, past))
            | false ↦ λ e. none_past rows
                (All-tail (λ (row : LineOrder). place_of texts row.shipmode < length texts) row rows known) past
          ]) refl

  -- the rows at a place may be folded after those of its ship mode where all may be
  pub place_foldable : (dimensions : DimRows) (mode : List ℕ) (place : ℕ) (so_far : List LineOrder)
      → place_of texts mode ≡ place → AreOfMode mode (rows_at texts place rows)
      → AreFoldable dimensions (so_far ++ rows)
      → AreFoldable dimensions (of_mode mode (so_far ++ rows_before texts place rows) ++ rows_at texts place rows)
  place_foldable dimensions mode place so_far is own can =
      let here : (place_of texts mode == place) ≡ true = grind (arith, nat_tests) in
      let front : of_mode mode (so_far ++ rows_before texts place rows) ≡ of_mode mode so_far =
      filter-append (λ (row : LineOrder). bytes_eq mode row.shipmode) so_far (rows_before texts place rows)
      ∙ ap (λ l. of_mode mode so_far ++ l) (mode_before mode place (omega (arith, is)))
      ∙ append-nil (of_mode mode so_far) in
      let last : rows_at texts place rows ≡ of_mode mode rows = sym own ∙ of_mode-at mode place true here in
      subst (AreFoldable dimensions)
      (filter-append (λ (row : LineOrder). bytes_eq mode row.shipmode) so_far rows
      ∙ (λ i. sym front i ++ sym last i))
      (foldable_filter dimensions (λ row. bytes_eq mode row.shipmode) (so_far ++ rows) can)

-- ---- rows that have the same rows of each ship mode
have_all : (modes : List (List ℕ)) (rows : List LineOrder)
    → ((mode : List ℕ) → list_any (bytes_eq mode) modes ≡ false → of_mode mode rows ≡ []) → have_modes modes rows ≡ true
have_all modes [] none = refl
have_all modes (row ∷ rows) none =
    (elim (list_any (bytes_eq row.shipmode) modes) as (λ b. list_any (bytes_eq row.shipmode) modes ≡ b
    → (b && have_modes modes rows) ≡ true) [
      | true ↦ λ e. have_all modes rows (λ mode unseen. tail mode (none mode unseen))
      | false ↦ λ e.
          let there : cond true (row ∷ of_mode row.shipmode rows) (of_mode row.shipmode rows) ≡ [] =
          ap (λ b. cond b (row ∷ of_mode row.shipmode rows) (of_mode row.shipmode rows))
          (sym (bytes_eq-refl row.shipmode)) ∙ none row.shipmode e in
          absurd (cc there)
    ]) refl
  where
    tail : (mode : List ℕ) → of_mode mode (row ∷ rows) ≡ [] → of_mode mode rows ≡ []
    tail mode = elim (bytes_eq mode row.shipmode) as
        (λ b. cond b (row ∷ of_mode mode rows) (of_mode mode rows) ≡ [] → of_mode mode rows ≡ []) [
          | true ↦ λ is. absurd (cc is)
          | false ↦ λ is. is
        ]

pub represent_alike : (dimensions : DimRows) (query : Query) (modes : List (List ℕ)) (folds : List FoldState)
    (rows others : List LineOrder) → ((mode : List ℕ) → of_mode mode rows ≡ of_mode mode others)
    → RepresentByMode dimensions query rows modes folds → RepresentByMode dimensions query others modes folds
represent_alike dimensions query modes folds rows others same represent = record {
  once = represent.once;
  known = have_all modes others (λ mode unseen. sym (same mode) ∙ none_of mode modes rows represent.known unseen);
  parts = record {
    counted = represent.parts.counted;
    each = λ i mode fold lt.
        let part = represent.parts.each i mode fold lt in (
          part.0,
          subst (RepresentsRows dimensions (get_or folds i fold)) (same (get_or modes i mode)) part.1,
        );
  };
}

-- ---- the cells of a view
module _ (dimensions : DimRows) (texts : List (List ℕ)) (view : View) (rows : List LineOrder) (cells : List Cell) where
  -- no cell represents no row
  pub no_rows : cells ≡ [] → RepresentRows dimensions texts rows (cells_of view cells) → rows ≡ []
  no_rows none represent =
      by rows (λ number. sym (ap (λ (l : List Cell). cell_at number l) none)
      ∙ represent.group number)
    where
      by : (rows : List LineOrder)
          → ((number : ℕ) → None ≡ cell_over dimensions texts view (rows_of_number dimensions texts view number rows))
          → rows ≡ []
      by [] group = refl
      by (row ∷ rows) group =
          let number = key_as_number (key_of dimensions texts view row) in
          let own : (number == number) ≡ true = grind (arith, nat_tests) in
          let there = group number
          ∙ ap (λ b. cell_over dimensions texts view (cond b (row ∷ rows_of_number dimensions texts view number rows)
          (rows_of_number dimensions texts view number rows))) own in
          absurd (cc there)

-- the part of one place
module _ (dimensions : DimRows) (texts : List (List ℕ)) (plain : PlainCells) (grouped : plain.view.ship_mode ≡ true)
    (proper : AreProperCells plain) (rows : List LineOrder) (represent : RepresentRows dimensions texts rows plain)
  where
    pub part_represents : (place : ℕ) (part : PlainCells) → part ≡ cells_of plain.view (cells_at place plain.cells)
        → RepresentRows dimensions texts (rows_at texts place rows) part
    part_represents place part is =
        subst (RepresentRows dimensions texts (rows_at texts place rows)) (sym is)
        (kept_represent dimensions texts plain.view grouped (λ text. place_of texts text == place)
        (λ code. code == place)
        (λ text mode. refl) rows plain.cells proper.fit represent)

    pub all_represented : (mode : List ℕ) → of_mode mode (rows_before texts (length texts) rows) ≡ of_mode mode rows
    all_represented = all_places texts rows (λ k d lt. ((represent.known k d lt).ship_mode grouped).among)

pub own_part : (texts : List (List ℕ)) (rows : List LineOrder) (place : ℕ) (mode : List ℕ) → place < length texts
    → mode ≡ get_or texts place [] → AreOfMode mode (rows_at texts place rows)
own_part texts rows place mode lt is =
    subst (λ m. AreOfMode m (rows_at texts place rows)) (sym is) (at_place texts rows place lt)

-- the rows of one place more were taken
pub one_place_more : (dimensions : DimRows) (query : Query) (texts modes all : List (List ℕ))
    (folds taken : List FoldState) (so_far rows : List LineOrder) (place : ℕ)
    → TakeByMode dimensions query modes folds (rows_at texts place rows) all taken
    → RepresentByMode dimensions query (so_far ++ rows_before texts place rows) modes folds
    → RepresentByMode dimensions query (so_far ++ rows_before texts (place + 1) rows) all taken
one_place_more dimensions query texts modes all folds taken so_far rows place take before =
    let next : suc place ≡ place + 1 = omega arith in
    subst (λ l. RepresentByMode dimensions query l all taken)
    (append_assoc so_far (rows_before texts place rows) (rows_at texts place rows)
    ∙ ap (λ n. so_far ++ rows_before texts n rows) next)
    (take (so_far ++ rows_before texts place rows) before)

-- the rows of all places were
pub all_taken : (dimensions : DimRows) (query : Query) (texts all : List (List ℕ)) (taken : List FoldState)
    (so_far rows : List LineOrder)
    → ((mode : List ℕ) → of_mode mode (rows_before texts (length texts) rows) ≡ of_mode mode rows)
    → RepresentByMode dimensions query (so_far ++ rows_before texts (length texts) rows) all taken
    → RepresentByMode dimensions query (so_far ++ rows) all taken
all_taken dimensions query texts all taken so_far rows same represent =
    represent_alike dimensions query all taken (so_far ++ rows_before texts (length texts) rows) (so_far ++ rows)
    (λ mode. filter-append (λ (row : LineOrder). bytes_eq mode row.shipmode) so_far
    (rows_before texts (length texts) rows)
    ∙ ap (λ l. of_mode mode so_far ++ l) (same mode)
    ∙ sym (filter-append (λ (row : LineOrder). bytes_eq mode row.shipmode) so_far rows)) represent

-- no row was taken
pub none_taken : (dimensions : DimRows) (query : Query) (modes : List (List ℕ)) (folds : List FoldState)
    (rows : List LineOrder) → rows ≡ [] → TakeByMode dimensions query modes folds rows modes folds
none_taken dimensions query modes folds rows none so_far before =
    subst (λ l. RepresentByMode dimensions query l modes folds)
    (sym (ap (λ l. so_far ++ l) none ∙ append-nil so_far)) before

-- ==== Rows of one ship mode are taken by its fold.

-- ---- rows of one ship mode
-- none of them is of another
of_other : (mode other : List ℕ) (rows : List LineOrder) → AreOfMode mode rows → bytes_eq other mode ≡ false
    → of_mode other rows ≡ []
of_other mode other rows own apart =
    ap (of_mode other) (sym own)
    ∙ filter_kept (λ row. Unit {0}) (λ (row : LineOrder). bytes_eq other row.shipmode)
    (λ row. bytes_eq mode row.shipmode) false
    (λ row known is. ap (bytes_eq mode) (sym (bytes_eq-same other row.shipmode is)) ∙ bytes_eq-symm mode other ∙ apart)
    rows (λ k d lt. tt)

have_own : (mode : List ℕ) (modes : List (List ℕ)) (rows : List LineOrder) → list_any (bytes_eq mode) modes ≡ true
    → have_modes modes (of_mode mode rows) ≡ true
have_own mode modes [] some = refl
have_own mode modes (row ∷ rows) some =
    (elim (bytes_eq mode row.shipmode) as (λ b. bytes_eq mode row.shipmode ≡ b
    → have_modes modes (cond b (row ∷ of_mode mode rows) (of_mode mode rows)) ≡ true) [
      | true ↦ λ e. λ i.
          (ap (λ m. list_any (bytes_eq m) modes) (sym (bytes_eq-same mode row.shipmode e)) ∙ some) i
          && have_own mode modes rows some i
      | false ↦ λ e. have_own mode modes rows some
    ]) refl

-- ---- the code of the ship mode
same_at : (texts : List (List ℕ)) (i : ℕ) (d e : List ℕ) → i < length texts → get_or texts i d ≡ get_or texts i e
same_at [] i d e lt = absurd (omega (arith, lt))
same_at (text ∷ texts) zero d e lt = refl
same_at (text ∷ texts) (suc i) d e lt = same_at texts i d e (omega (arith, lt))

record IsPlaced (old new : Texts) (mode : List ℕ) (code : ℕ) : Type 0 where
  more : (rows : List LineOrder) → EachOnce old.texts → AreOfMode mode rows → AreWithMore old.texts new.texts rows
  within : code < length new.texts
  text : get_or new.texts code [] ≡ mode
  place : place_of new.texts mode ≡ code

placed : (old new : Texts) (mode : List ℕ) (code : ℕ) → Adds old mode (Some code) new → IsPlaced old new mode code
placed old new mode code adds = elim (kept_or_new old new mode code adds) [
  | inl kept ↦ by_kept kept
  | inr fresh ↦ by_new fresh
]
  where
    by_kept : IsKept old new mode code → IsPlaced old new mode code
    by_kept kept =
        let texts_are : new.texts ≡ old.texts = ap (λ t. t.texts) kept.same in
        let within : place_of old.texts mode < length old.texts = place_within (bytes_eq mode) old.texts kept.seen in
        record {
          more = λ rows once own. record {
            more = [];
            after = texts_are ∙ sym (append-nil old.texts);
            once = subst EachOnce (sym texts_are) once;
            known = (λ i. have_modes (texts_are i) (sym own i)) ∙ have_own mode old.texts rows kept.seen;
          };
          within = omega (arith, within, kept.code_is, ap length texts_are);
          text = (λ i. get_or (texts_are i) (kept.code_is i) []) ∙ text_at_place old.texts mode within;
          place = ap (λ l. place_of l mode) texts_are ∙ sym kept.code_is;
        }

    by_new : IsNew old new mode code → IsPlaced old new mode code
    by_new fresh =
        let seen : list_any (bytes_eq mode) (old.texts ++ mode ∷ []) ≡ true =
        list_any-append (bytes_eq mode) old.texts (mode ∷ [])
        ∙ (λ i. fresh.unseen i || (bytes_eq-refl mode i || false)) in
        record {
          more = λ rows once own. record {
            more = mode ∷ [];
            after = fresh.last;
            once = subst EachOnce (sym fresh.last) (EachOnce-push old.texts mode once fresh.unseen);
            known = (λ i. have_modes (fresh.last i) (sym own i)) ∙ have_own mode (old.texts ++ mode ∷ []) rows seen;
          };
          within = omega (arith, fresh.code_is, ap length fresh.last, length-append old.texts (mode ∷ []));
          text = (λ i. get_or (fresh.last i) (fresh.code_is i) []) ∙ get_or-append_seam old.texts mode [] [];
          place = ap (λ l. place_of l mode) fresh.last
              ∙ place_last (bytes_eq mode) old.texts mode fresh.unseen (bytes_eq-refl mode) ∙ sym fresh.code_is;
        }

pub adds_within : (old new : Texts) (mode : List ℕ) (code : ℕ) → Adds old mode (Some code) new
    → code < length new.texts
adds_within old new mode code adds = (placed old new mode code adds).within

-- ---- its fold
takes_nothing : (dimensions : DimRows) (fold : FoldState) → Takes dimensions fold [] fold
takes_nothing dimensions fold = record {
  query = refl;
  represents = λ so_far represents. subst (RepresentsRows dimensions fold) (sym (append-nil so_far)) represents;
}

module _ (dimensions : DimRows) (query : Query) (old new : Texts) (mode : List ℕ) (code : ℕ)
    (folds grown : List FoldState) (adds : Adds old mode (Some code) new)
    (grow : AreGrown dimensions query (length new.texts) folds grown) (rows : List LineOrder)
    (own : AreOfMode mode rows) where
  at : IsPlaced old new mode code
  at = placed old new mode code adds

  mode_at : (d : List ℕ) → get_or new.texts code d ≡ mode
  mode_at d = same_at new.texts code d [] at.within ∙ at.text

  pub one_takes : (next : FoldState) → ((d : FoldState) → Takes dimensions (get_or grown code d) rows next)
      → TakeByMode dimensions query old.texts folds rows new.texts (slice_set grown code next)
  one_takes next takes some before =
      let more = at.more rows before.once own in
      all_represent dimensions query old.texts new.texts folds grown rows more grow some before
      (slice_set grown code next) (set_length grown code next)
      (λ i other fold lt. elim (cases_eq i code) [
        | inl same ↦
            subst (λ k. Takes dimensions (get_or grown k fold) (of_mode (get_or new.texts k other) rows)
            (get_or (slice_set grown code next) k fold)) (sym same)
            (subst (λ f. Takes dimensions (get_or grown code fold) (of_mode (get_or new.texts code other) rows) f)
            (sym (set_here grown code next fold (omega (arith, at.within, all_there some before more))))
            (subst (λ l. Takes dimensions (get_or grown code fold) l next)
            (sym own ∙ ap (λ m. of_mode m rows) (sym (mode_at other))) (takes fold)))
        | inr apart ↦
            (let differs : bytes_eq (get_or new.texts i other) mode ≡ false =
            bytes_eq-apart (get_or new.texts i other) mode (λ is. apart
            (sym (place_again new.texts i (get_or new.texts i other) more.once (slice_get-get_or new.texts i other lt))
            ∙ ap (place_of new.texts) is ∙ at.place)) in
            subst (λ f. Takes dimensions (get_or grown i fold) (of_mode (get_or new.texts i other) rows) f)
            (sym (set_there grown code i next fold (λ e. apart (sym e))))
            (subst (λ l. Takes dimensions (get_or grown i fold) l (get_or grown i fold))
            (sym (of_other mode (get_or new.texts i other) rows own differs))
            (takes_nothing dimensions (get_or grown i fold))))
      ])
    where
      all_there : (some : List LineOrder) (before : RepresentByMode dimensions query some old.texts folds)
          → AreWithMore old.texts new.texts rows → length grown ≡ length new.texts
      all_there some before more =
          grown_many dimensions query old.texts new.texts folds grown rows more grow some
          before

  -- it can, where these rows may be folded after those of the ship mode
  pub one_can : (some : List LineOrder) → RepresentByMode dimensions query some old.texts folds
      → AreFoldable dimensions (of_mode mode some ++ rows) → (d : FoldState)
      → CanTake dimensions (get_or grown code d) rows
  one_can some before can d =
      let more = at.more rows before.once own in (
        of_mode mode some,
        (
          subst (λ m. RepresentsRows dimensions (get_or grown code d) (of_mode m some)) (mode_at [])
              (grown_represents dimensions query old.texts new.texts folds grown rows more grow some before code [] d
              at.within).1,
          can,
        ),
      )
