use Rattle.std.proofs.Common.{◌≡◌, ◌<◌, ◌≤◌, ◌+◌, ◌==◌, ◌∙◌, ◌++◌, ◌∷◌, [], ℕ, sym, ap, arith, false, length, OnOk, ◌^◌}
use Rattle.std.proofs.Common.{codes, subst}
use Rattle.std.specs.List.{position_or_len}
use Rattle.std.specs.Str.{bytes_eq}
use Rattle.std.proofs.lemmas.Result.{on_ok_weaker}
use Rattle.dictionary.proofs.CallerLemmas.{place_le}
use Rattle.dimensions.specs.declared.dimension.Dimension.{Dimension}
use Rattle.dimensions.specs.TextRows.{TextRow, text_in}
use Rattle.dimensions.proofs.DimensionLemmas.{refuses_key, refuses_name, refuses_room, refuses_link, adds_or_fails}
use Rattle.dimensions.proofs.dimension.Dimension.add.Goals as goal

pub returns-then-row_index-place : goal.returns-then-row_index-place
returns-then-row_index-place g c = λ rows is.
    let row : TextRow = g.R.DimensionRow.shown c.args.row.now in
    let at : c.row_index.result ≡ position_or_len (λ other. other == row.key) c.args.self.now.keys = c.row_index.ensures
    ∙ ap (λ k. position_or_len (λ other. other == k) c.args.self.now.keys) c.key.ensures in
    refuses_key c.args.axis rows c.args.self.now row is c.args.self.now (c.len-place.result + 1)
    (ap (λ m. m + 1) c.len-place.ensures) (omega (arith, at, c.len-place.ensures, c.if-row_index-place.true))

pub returns-then-names_all : goal.returns-then-names_all
returns-then-names_all g c = λ rows is.
    let row : TextRow = g.R.DimensionRow.shown c.args.row.now in
    let at : c.row_index.result ≡ position_or_len (λ other. other == row.key) c.args.self.now.keys = c.row_index.ensures
    ∙ ap (λ k. position_or_len (λ other. other == k) c.args.self.now.keys) c.key.ensures in
    let fresh : length c.args.self.now.keys ≤ position_or_len (λ other. other == row.key) c.args.self.now.keys =
    omega (arith, at, c.len-place.ensures, c.if-row_index-place.false) in
    let named = c.if-names_all.ensures.some in
    let lt : named.0 < length c.args.self.now.columns.items =
    omega (arith, named.1, c.len.ensures, c.args.self.now.columns.ok.0) in
    refuses_name c.args.axis rows c.args.self.now row is c.args.self.now (c.len-place.result + 1)
    (ap (λ m. m + 1) c.len-place.ensures) fresh (named.0, lt, named.2)

pub returns-then-not-number : goal.returns-then-not-number
returns-then-not-number g c = λ rows is.
    let row : TextRow = g.R.DimensionRow.shown c.args.row.now in
    let at : c.row_index.result ≡ position_or_len (λ other. other == row.key) c.args.self.now.keys = c.row_index.ensures
    ∙ ap (λ k. position_or_len (λ other. other == k) c.args.self.now.keys) c.key.ensures in
    let fresh : length c.args.self.now.keys ≤ position_or_len (λ other. other == row.key) c.args.self.now.keys =
    omega (arith, at, c.len-place.ensures, c.if-row_index-place.false) in
    let unnamed : (i : ℕ) → i < length c.args.self.now.columns.items → bytes_eq (codes "ALL") (text_in i row) ≡ false =
    λ i lt. c.if-names_all.ensures.none i (omega (arith, lt, c.len.ensures, c.args.self.now.columns.ok.0)) in
    refuses_room c.args.axis rows c.args.self.now row is c.args.self.now (c.len-place.result + 1)
    (ap (λ m. m + 1) c.len-place.ensures) fresh unnamed c.if-not-number.ensures.full

pub returns-then-not-branch : goal.returns-then-not-branch
returns-then-not-branch g c = λ rows is.
    let row : TextRow = g.R.DimensionRow.shown c.args.row.now in
    let at : c.row_index.result ≡ position_or_len (λ other. other == row.key) c.args.self.now.keys = c.row_index.ensures
    ∙ ap (λ k. position_or_len (λ other. other == k) c.args.self.now.keys) c.key.ensures in
    let fresh : length c.args.self.now.keys ≤ position_or_len (λ other. other == row.key) c.args.self.now.keys =
    omega (arith, at, c.len-place.ensures, c.if-row_index-place.false) in
    let unnamed : (i : ℕ) → i < length c.args.self.now.columns.items → bytes_eq (codes "ALL") (text_in i row) ≡ false =
    λ i lt. c.if-names_all.ensures.none i (omega (arith, lt, c.len.ensures, c.args.self.now.columns.ok.0)) in
    let bad = rw c.if-not-branch.true at c.in_ok-enter.ensures.broken in
    let lt : bad.0 < length c.args.self.now.columns.items = omega (arith, bad.1, c.args.self.now.columns.ok.0) in
    refuses_link c.args.axis rows c.args.self.now row is c.args.self.now (c.len-place.result + 1)
    (ap (λ m. m + 1) c.len-place.ensures) fresh unnamed c.number.new.codes c.if-not-number.ensures.room
    (bad.0, lt, bad.2)

pub push-requires-clause-new : goal.push-requires-clause-new
push-requires-clause-new g c =
    let row : TextRow = g.R.DimensionRow.shown c.args.row.now in
    let at : c.row_index.result ≡ position_or_len (λ other. other == row.key) c.args.self.now.keys = c.row_index.ensures
    ∙ ap (λ k. position_or_len (λ other. other == k) c.args.self.now.keys) c.key.ensures in
    let le = place_le (λ other. other == row.key) c.args.self.now.keys in
    let last : position_or_len (λ other. other == row.key) c.args.self.now.keys ≡ length c.args.self.now.keys =
    omega (arith, at, le, c.len-place.ensures, c.if-row_index-place.false) in
    ap (λ k. position_or_len (λ other. other == k) c.enter.new.self.keys) c.key-2.ensures
    ∙ ap (position_or_len (λ other. other == row.key)) c.in_ok-enter.ensures.keys ∙ last
    ∙ ap length (sym c.in_ok-enter.ensures.keys)

pub returns : goal.returns
returns g c = λ rows is.
    let row : TextRow = g.R.DimensionRow.shown c.args.row.now in
    let new : Dimension = record { keys = c.push.new.self; columns = c.enter.new.self.columns } in
    let at : c.row_index.result ≡ position_or_len (λ other. other == row.key) c.args.self.now.keys = c.row_index.ensures
    ∙ ap (λ k. position_or_len (λ other. other == k) c.args.self.now.keys) c.key.ensures in
    let fresh : length c.args.self.now.keys ≤ position_or_len (λ other. other == row.key) c.args.self.now.keys =
    omega (arith, at, c.len-place.ensures, c.if-row_index-place.false) in
    let unnamed : (i : ℕ) → i < length c.args.self.now.columns.items → bytes_eq (codes "ALL") (text_in i row) ≡ false =
    λ i lt. c.if-names_all.ensures.none i (omega (arith, lt, c.len.ensures, c.args.self.now.columns.ok.0)) in
    let enters = rw c.if-not-branch.false at c.in_ok-enter.ensures.fit in
    let keys : OnOk c.push.result (new.keys ≡ c.args.self.now.keys ++ row.key ∷ []) =
    on_ok_weaker c.push.result (λ e. e ∙ ap (λ l. l ++ c.key-2.result ∷ []) c.in_ok-enter.ensures.keys
    ∙ ap (λ k. c.args.self.now.keys ++ k ∷ []) c.key-2.ensures) c.push.ensures.ok in
    let count : length new.columns.items ≡ length c.args.self.now.columns.items =
    omega (arith, c.in_ok-enter.ensures.count, c.enter.new.self.columns.ok.0, c.args.self.now.columns.ok.0) in
    adds_or_fails c.args.axis rows c.args.self.now row is new (c.len-place.result + 1)
    (ap (λ m. m + 1) c.len-place.ensures) fresh unnamed c.number.new.codes c.if-not-number.ensures.room
    (subst (λ (k : ℕ). k < 2 ^ 32) c.key-2.ensures c.key-2.type_inv) c.push.result keys count
    (λ i lt. enters i (omega (arith, lt, c.args.self.now.columns.ok.0))) c.push.ensures.memory
