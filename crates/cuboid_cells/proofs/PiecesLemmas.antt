-- Cells of a run that are passed over: where a key is, and what it says of the others.
use Rattle.std.proofs.Common.{◌≡◌, ◌∙◌, sym, ap, refl, subst, arith, ℕ, suc, ◌+◌, ◌-◌, ◌*◌, ◌<◌, ◌≤◌, min, nat_lt, Bool}
use Rattle.std.proofs.Common.{true, false, if◌then◌else◌, pos, inl, inr, List, [], ◌++◌, length, take, drop, get_or}
use Rattle.std.proofs.Common.{length-take, All, Option, Some, None, Result, Ok, Err, append_assoc}
use Rattle.std.specs.List.{flat_map}
use Rattle.std.proofs.Math.Seq.{drop-cons, drop-length}
use Rattle.std.proofs.lemmas.Bool.{cases_lt}
use Rattle.std.proofs.lemmas.Bool.Decides.{nat_tests}
use Rattle.std.proofs.lemmas.List.{get_or-drop, get_or-take, get_or_default, length-drop, take-append-drop}
use Rattle.std.specs.Result.{IsErrAnd, MatchResult}
use Rattle.cube_model.specs.declared.fault.Fault.{Fault}
use Rattle.wire.specs.declared.source.Source.{Ghosts}
use Rattle.wire.specs.Parts.{Gives}
use Rattle.wire.specs.Runs.{HasRead, IsRefused}
use Rattle.wire.proofs.CallerLemmas.{IsRefused-later}
use Rattle.cuboid_cells.specs.declared.cell.Cell.{Cell}
use Rattle.cuboid_cells.specs.declared.skipping.Range.{Range}
use Rattle.cuboid_cells.specs.declared.summary.Summary.{Summary}
use Rattle.cuboid_cells.specs.Cells.{AreAscending, key_as_number}
use Rattle.cuboid_cells.specs.Pieces.{AreLeft, AreParted, PassesOver, RunPlace, least_after}
use Rattle.cuboid_cells.specs.Reading.{IsNumberIn, IsReadableCell}
use Rattle.cuboid_cells.specs.Spelled.{cell_bytes, cell_of, key_codes, summaries_of}
use Rattle.wire.specs.Spelling.{spelling}
use Rattle.cuboid_cells.proofs.CallerLemmas.{key-one}
use Rattle.cuboid_cells.proofs.Climbing.{all_from, climbs_ascend, climbs_from}
use Rattle.cuboid_cells.proofs.Continuing.{climbs_to, gives_later, gives_none, moved, place_on, readable, rest_at}

-- a cell, where there has to be one
abbrev nothing : Summary
nothing = record { sum = pos 0; least = pos 0; greatest = pos 0 }

abbrev pub no_cell : Cell
no_cell = record {
  key = record { customer = 0; supplier = 0; part = 0; date = 0; ship_mode = 0 };
  count = 0;
  measures = record {
    quantity = nothing;
    extendedprice = nothing;
    revenue = nothing;
    supplycost = nothing;
    discounted =
        nothing;
    profit = nothing;
  };
}

-- ---- the key at a place
pub number_is : (text : Option (List ℕ)) (run : RunPlace) (cells : List Cell) (k : ℕ) (none : Cell) (part : List ℕ)
    (number : ℕ) → AreLeft text run cells → k < length cells
    → Gives text (20 + cell_bytes run.head.view.ship_mode * (run.done + k)) part
    → IsNumberIn run.head.view.ship_mode part number → number ≡ key_as_number (get_or cells k none).key
number_is None run cells k none part number left inside gives is = absurd left.is
number_is (Some bytes) run cells k none part number left inside gives is =
    let grouped : Bool = run.head.view.ship_mode in
    let f = cell_of grouped in
    let cell : Cell = get_or cells k none in
    let later : List Cell = drop (suc k) cells in
    let few : length (take k cells) ≡ k = omega (arith, length-take k cells, inside) in
    let place : ℕ = 20 + cell_bytes grouped * (run.done + k) in
    let rest : drop place bytes ≡ f cell ++ flat_map f later =
    ap (λ (n : ℕ). drop (20 + cell_bytes grouped * (run.done + n)) bytes) (sym few)
    ∙ rest_at bytes run cells left (take k cells) (drop k cells) (sym (take-append-drop k cells))
    ∙ ap (flat_map f) (drop-cons cells k none inside) in
    let more : List ℕ = drop (length part) (drop place bytes) in
    let own : key_codes grouped is.key ++ (is.rest ++ more) ≡ drop place bytes =
    sym (append_assoc (key_codes grouped is.key) is.rest more)
    ∙ ap (λ (xs : List ℕ). xs ++ more) (sym is.reads.spelled ∙ gives)
    ∙ take-append-drop (length part) (drop place bytes) in
    let other : f cell ++ flat_map f later
    ≡ key_codes grouped cell.key ++ ((spelling 8 cell.count ++ summaries_of cell.measures) ++ flat_map f later) =
    append_assoc (key_codes grouped cell.key) (spelling 8 cell.count ++ summaries_of cell.measures)
    (flat_map f later) in
    let good : IsReadableCell grouped cell = readable bytes run cells left k none inside in
    let same = key-one grouped is.key cell.key (is.rest ++ more)
    ((spelling 8 cell.count ++ summaries_of cell.measures) ++ flat_map f later)
    is.reads.fits good.fits.key is.reads.absent good.absent (own ∙ rest ∙ other) in
    is.is ∙ ap key_as_number same.0

-- a key that is ahead
pub ahead_is : (text : Option (List ℕ)) (run : RunPlace) (cells : List Cell) (place at : ℕ) (none : Cell)
    (bytes : List ℕ) (number : ℕ) → AreLeft text run cells → run.done ≤ place → place < run.head.count
    → at ≡ cell_bytes run.head.view.ship_mode * (place - run.done) → at ≤ length run.ahead → bytes ≡ drop at run.ahead
    → IsNumberIn run.head.view.ship_mode bytes number
    → number ≡ key_as_number (get_or cells (place - run.done) none).key
ahead_is text run cells place at none bytes number left from to at_is enough bytes_is is =
    let g : Bool = run.head.view.ship_mode in
    let k : ℕ = place - run.done in
    let further : 20 + cell_bytes g * run.done + at ≡ 20 + cell_bytes g * (run.done + k) =
    ap (λ (n : ℕ). 20 + cell_bytes g * run.done + n) at_is ∙ place_on g run.done k in
    number_is text run cells k none bytes number left (omega (arith, from, to, left.many, left.done))
    (subst (Gives text (20 + cell_bytes g * (run.done + k))) (sym bytes_is)
    (subst (λ (n : ℕ). Gives text n (drop at run.ahead)) further
    (gives_later text (20 + cell_bytes g * run.done) at run.ahead enough left.ahead))) is

-- and one that was read alone
pub alone_is : (text : Option (List ℕ)) (run : RunPlace) (cells : List Cell) (place at : ℕ) (none : Cell)
    (bytes : List ℕ) (number : ℕ) → AreLeft text run cells → run.done ≤ place → place < run.head.count
    → at ≡ 20 + cell_bytes run.head.view.ship_mode * place → Gives text at bytes
    → IsNumberIn run.head.view.ship_mode bytes number
    → number ≡ key_as_number (get_or cells (place - run.done) none).key
alone_is text run cells place at none bytes number left from to at_is gives is =
    let g : Bool = run.head.view.ship_mode in
    let k : ℕ = place - run.done in
    let whole : place ≡ run.done + k = omega (arith, from) in
    number_is text run cells k none bytes number left (omega (arith, from, to, left.many, left.done))
    (subst (λ (n : ℕ). Gives text n bytes) (at_is ∙ ap (λ (n : ℕ). 20 + cell_bytes g * n) whole) gives) is

-- ---- what a key says of the others
ascends : (text : Option (List ℕ)) (run : RunPlace) (cells : List Cell) → AreLeft text run cells → AreAscending cells
ascends text run cells left = climbs_ascend run.least (least_after run.least cells) cells
    (climbs_to run.least cells left.climb)

module _ (least : ℕ) (cells : List Cell) (ascending : AreAscending cells) (none : Cell) (k : ℕ)
    (inside : k < length cells) where
  below_to : key_as_number (get_or cells k none).key < least
      → All (λ cell. key_as_number cell.key < least) (take (suc k) cells)
  below_to low = λ j d within.
      let here : j < suc k = omega (arith, within, length-take (suc k) cells) in
      let is : get_or (take (suc k) cells) j d ≡ get_or cells j d = get_or-take (suc k) cells j d here in
      let own : get_or cells k none ≡ get_or cells k d = get_or_default cells k none d inside in
      let at : key_as_number (get_or cells j d).key < least =
      elim (cases_lt j k) [
        | inl less ↦ omega (arith, ascending j k d less inside, low, ap (λ (c : Cell). key_as_number c.key) own)
        | inr last ↦ (let same : j ≡ k =
            omega (arith, here, last) in omega (
              arith,
              low,
              ap (λ (c : Cell). key_as_number c.key) own,
              ap (λ (m : ℕ). key_as_number (get_or cells m d).key) same,
            ))
      ] in
      subst (λ (c : Cell). key_as_number c.key < least) (sym is) at

  above_from : least ≤ key_as_number (get_or cells k none).key
      → All (λ cell. least ≤ key_as_number cell.key) (drop k cells)
  above_from high = λ j d within.
      let here : k + j < length cells = omega (arith, within, length-drop k cells) in
      let is : get_or (drop k cells) j d ≡ get_or cells (k + j) d = get_or-drop k cells j d in
      let own : get_or cells k none ≡ get_or cells k d = get_or_default cells k none d inside in
      let at : least ≤ key_as_number (get_or cells (k + j) d).key =
      elim (cases_lt k (k + j)) [
        | inl less ↦ omega (arith, ascending k (k + j) d less here, high, ap (λ (c : Cell). key_as_number c.key) own)
        | inr first ↦ (let same : k + j ≡ k =
            omega (arith, first) in omega (
              arith,
              high,
              ap (λ (c : Cell). key_as_number c.key) own,
              ap (λ (m : ℕ). key_as_number (get_or cells m d).key) same,
            ))
      ] in
      subst (λ (c : Cell). least ≤ key_as_number c.key) (sym is) at

-- a key at a place in a range leaves a part of the range
pub halved : (text : Option (List ℕ)) (run : RunPlace) (cells : List Cell) (least place number : ℕ) (range next : Range)
    → AreLeft text run cells → run.done ≤ range.from → range.from ≤ place → place < range.to → range.to ≤ run.head.count
    → number ≡ key_as_number (get_or cells (place - run.done) no_cell).key
    → next ≡ (if nat_lt number least then record { from = place + 1; to = range.to } else
    record { from = range.from; to = place })
    → AreParted least (range.from - run.done) (range.to - run.done) cells
    → AreParted least (next.from - run.done) (next.to - run.done) cells
halved text run cells least place number range next left from order within to is next_is parted =
    let k : ℕ = place - run.done in
    let inside : k < length cells = omega (arith, from, order, within, to, left.many, left.done) in
    let up = ascends text run cells left in
    subst (λ (r : Range). AreParted least (r.from - run.done) (r.to - run.done) cells) (sym next_is) (
    (elim (nat_lt number least) as
    (λ b. nat_lt number least ≡ b →
    (let r : Range = if b then record { from = place + 1; to = range.to } else
    record { from = range.from; to = place } in AreParted least (r.from - run.done) (r.to - run.done) cells)) [
      | true ↦ λ e.
          (let low : number < least = grind (arith, nat_tests, e) in
          let next : suc k ≡ (place + 1) - run.done = omega (arith, from, order) in
          record {
            below = subst (λ (n : ℕ). All (λ cell. key_as_number cell.key < least) (take n cells)) next
                (below_to least cells up no_cell k inside (subst (λ (n : ℕ). n < least) is low));
            above = parted.above;
          })
      | false ↦ λ e.
          (let high : least ≤ number = grind (arith, nat_tests, e) in
          record {
            below = parted.below;
            above =
                above_from least cells up no_cell k inside (subst (λ (n : ℕ). least ≤ n) is high);
          })
    ]) refl)

-- before the first key is looked at
pub not_parted : (text : Option (List ℕ)) (run : RunPlace) (cells : List Cell) (least from to : ℕ) → from ≡ run.done
    → to ≡ run.head.count → AreLeft text run cells → AreParted least (from - run.done) (to - run.done) cells
not_parted text run cells least from to first last left = record {
  below = λ k d within. absurd (omega (arith, within, length-take (from - run.done) cells, first));
  above = λ k d within. absurd (omega (arith, within, length-drop (to - run.done) cells, last, left.many, left.done));
}

-- ---- on to a place
pub passed_to : (text : Option (List ℕ)) (run next : RunPlace) (cells : List Cell) (k : ℕ) → AreLeft text run cells
    → k ≤ length cells → next.head ≡ run.head → next.done ≡ run.done + k
    → All (λ cell. next.least ≤ key_as_number cell.key) (drop k cells)
    → Gives text (20 + cell_bytes next.head.view.ship_mode * next.done) next.ahead → AreLeft text next (drop k cells)
passed_to text run next cells k left few head done above gives =
    let up = ascends text run cells left in
    let later : AreAscending (drop k cells) = λ i j d before within.
    (let there : k + j < length cells = omega (arith, within, length-drop k cells) in
    let over = ascending_at up i j d before there in over) in
    moved text run next cells (take k cells) (drop k cells) left (sym (take-append-drop k cells)) head
    (omega (arith, done, few, length-take k cells))
    (climbs_from next.least (drop k cells) later above) gives
  where
    ascending_at : AreAscending cells → (i j : ℕ) (d : Cell) → i < j → k + j < length cells
        → key_as_number (get_or (drop k cells) i d).key < key_as_number (get_or (drop k cells) j d).key
    ascending_at up i j d before there =
        let one : key_as_number (get_or (drop k cells) i d).key ≡ key_as_number (get_or cells (k + i) d).key =
        ap (λ (c : Cell). key_as_number c.key) (get_or-drop k cells i d) in
        let other : key_as_number (get_or (drop k cells) j d).key ≡ key_as_number (get_or cells (k + j) d).key =
        ap (λ (c : Cell). key_as_number c.key) (get_or-drop k cells j d) in
        omega (arith, one, other, up (k + i) (k + j) d (omega (arith, before)) there)

-- what is ahead then
pub gives_cut : (text : Option (List ℕ)) (run : RunPlace) (cells : List Cell) → AreLeft text run cells
    → (k m : ℕ) (ahead : List ℕ) → m ≡ min (cell_bytes run.head.view.ship_mode * k) (length run.ahead)
    → ahead ≡ drop m run.ahead
    → Gives text (20 + cell_bytes run.head.view.ship_mode * (run.done + k)) ahead
gives_cut text run cells left k m ahead cut is =
    let g : Bool = run.head.view.ship_mode in
    let most : ℕ = cell_bytes g * k in
    let place : ℕ = 20 + cell_bytes g * (run.done + k) in
    subst (Gives text place) (sym is) (elim (cases_lt (length run.ahead) most) [
      | inl all ↦
          (let whole : m ≡ length run.ahead = omega (arith, cut, all) in
          subst (Gives text place) (sym (ap (λ (n : ℕ). drop n run.ahead) whole ∙ drop-length run.ahead))
          (gives_none text (20 + cell_bytes g * run.done) place run.ahead left.ahead))
      | inr some ↦
          (let own : m ≡ most = omega (arith, cut, some) in
          subst (λ (n : ℕ). Gives text place (drop n run.ahead)) (sym own)
          (subst (λ (n : ℕ). Gives text n (drop most run.ahead)) (place_on g run.done k)
          (gives_later text (20 + cell_bytes g * run.done) most run.ahead some left.ahead)))
    ])

-- nothing is passed over
pub none_passed : (text : Option (List ℕ)) (run : RunPlace) (cells : List Cell) (least : ℕ) → AreLeft text run cells
    → least ≤ run.least → PassesOver text cells least run
none_passed text run cells least left low = record {
  passed = [];
  rest = cells;
  parts = refl;
  below = λ k d within. absurd (omega (arith, within));
  above = λ k d within. omega (arith, low, all_from run.least cells left.climb k d within);
  now = left;
}

-- the cells before a place are
pub all_passed : (text : Option (List ℕ)) (next : RunPlace) (cells : List Cell) (least k : ℕ)
    → AreParted least k k cells → AreLeft text next (drop k cells) → PassesOver text cells least next
all_passed text next cells least k parted left = record {
  passed = take k cells;
  rest = drop k cells;
  parts = sym (take-append-drop k cells);
  below = parted.below;
  above = parted.above;
  now = left;
}

-- ---- a read that is refused after others
pub refused_later : {S : Type 0} (g : Ghosts S) (old mid new : S) → HasRead g old mid
    → ((fault : Fault) (a b c : S) → g.reads a b → g.fails fault b c → g.fails fault a c)
    → {T : Type 0} (result : Result T Fault) (fault : Fault) → IsErrAnd result (λ own. own ≡ fault)
    → IsRefused g fault mid new → MatchResult result (λ _. HasRead g old new) (λ own. IsRefused g own old new)
refused_later g old mid new read later (Ok value) fault is stop = absurd is
refused_later g old mid new read later (Err own) fault is stop =
    subst (λ (f : Fault). IsRefused g f old new) (sym is) (IsRefused-later g later fault old mid new read stop)
