-- A run that is read piece by piece: what a piece adds, and what all of them are. For the proofs of other crates too.
use Rattle.std.proofs.Common.{◌≡◌, ℕ, ◌+◌, ◌-◌, ◌*◌, ◌<◌, ◌≤◌, ◌↔◌, ◌&&◌, Bool, true, false, Option, Some, None, Result}
use Rattle.std.proofs.Common.{Ok, Err, OnOk, min, option_map, List, [], ◌∷◌, ◌++◌, length, take, drop, get_or, All}
use Rattle.std.proofs.Common.{IsTrue, refl, sym, ap, ◌∙◌, subst, arith, append_assoc, length-append, length-take}
use Rattle.std.specs.List.{flat_map}
use Rattle.std.proofs.Math.Seq.{drop-append_seam}
use Rattle.std.proofs.lemmas.Grind.{flat_map-append}
use Rattle.std.proofs.lemmas.List.{drop-drop, drop-take, length-drop, take-append-drop}
use Rattle.std.proofs.lemmas.List.Elements.{All-append, All-cons, All-head, All-nil, All-tail}
use Rattle.wire.specs.Parts.{Gives}
use Rattle.lattice.specs.declared.view.View.{View}
use Rattle.lattice.specs.Views.{index_of}
use Rattle.lattice.proofs.Places.{one_view}
use Rattle.cuboid_cells.specs.declared.cell.Cell.{Cell}
use Rattle.cuboid_cells.specs.declared.head.RunHead.{RunHead}
use Rattle.cuboid_cells.specs.declared.reading.Header.{Header}
use Rattle.cuboid_cells.specs.Cells.{AreAscending, FollowRules, IsCellOf, KeyFits, key_as_number}
use Rattle.cuboid_cells.specs.Pieces.{AreCellsFrom, AreLeft, Climbs, IsAtFirst, IsHeadFor, IsRunOf, ReadsOn, RunPlace}
use Rattle.cuboid_cells.specs.Pieces.{bytes_of_head, least_after}
use Rattle.cuboid_cells.specs.Reading.{IsReadableCell, ReadsCells, ReadsRunHeader}
use Rattle.cuboid_cells.specs.Spelled.{cell_bytes, cell_of, run_header, name_of}
use Rattle.cuboid_cells.specs.Steps.{cells_of}
use Rattle.cuboid_cells.proofs.CallerLemmas.{are_readable, cells-one, header-one, length-cells, length-header_of}
use Rattle.cuboid_cells.proofs.CallerLemmas.{length-name_of, views_below}
use Rattle.cuboid_cells.proofs.Climbing.{ClimbsTo, all_from, climbs_ascend, climbs_from}

-- ---- cells that climb
climbs_append : (low : ℕ) (a b : List Cell) → Climbs low a → Climbs (least_after low a) b → Climbs low (a ++ b)
climbs_append low [] b one other = other
climbs_append low (cell ∷ a) b one other = (one.0, climbs_append (key_as_number cell.key + 1) a b one.1 other)

climbs_parts : (low : ℕ) (a b : List Cell) → Climbs low (a ++ b) → Climbs low a × Climbs (least_after low a) b
climbs_parts low [] b climbs = (tt, climbs)
climbs_parts low (cell ∷ a) b climbs = let rest = climbs_parts (key_as_number cell.key + 1) a b climbs.1 in
    ((climbs.0, rest.0), rest.1)

least_append : (low : ℕ) (a b : List Cell) → least_after low (a ++ b) ≡ least_after (least_after low a) b
least_append low [] b = refl
least_append low (cell ∷ a) b = least_append (key_as_number cell.key + 1) a b

pub climbs_to : (low : ℕ) (cells : List Cell) → Climbs low cells → ClimbsTo low cells (least_after low cells)
climbs_to low [] climbs = omega arith
climbs_to low (cell ∷ cells) climbs = (climbs.0, climbs_to (key_as_number cell.key + 1) cells climbs.1)

ascend : (cells : List Cell) → Climbs 0 cells → AreAscending cells
ascend cells climbs = climbs_ascend 0 (least_after 0 cells) cells (climbs_to 0 cells climbs)

pub climb : (cells : List Cell) → AreAscending cells → Climbs 0 cells
climb cells ascending = climbs_from 0 cells ascending (λ k d within. omega arith)

-- cells that climb from nothing follow the rules
pub rules_of : (view : View) (cells : List Cell) → AreCellsFrom view 0 cells → FollowRules view cells
rules_of view cells rules = (rules.0, ascend cells rules.1)

pub from_rules : (view : View) (cells : List Cell) → FollowRules view cells → AreCellsFrom view 0 cells
from_rules view cells rules = (rules.0, climb cells rules.1)

all_parts : {X : Type 0} (P : X → Type 0) (a b : List X) → All P (a ++ b) → All P a × All P b
all_parts P [] b all = (All-nil P, all)
all_parts P (x ∷ a) b all =
    let rest = all_parts P a b (All-tail P x (a ++ b) all) in
    (All-cons P x a (All-head P x (a ++ b) all) rest.0, rest.1)

cells_append : (view : View) (low : ℕ) (a b : List Cell) → AreCellsFrom view low a
    → AreCellsFrom view (least_after low a) b → AreCellsFrom view low (a ++ b)
cells_append view low a b one other =
    (All-append (IsCellOf view) a b one.0 other.0, climbs_append low a b one.1 other.1)

cells_parts : (view : View) (low : ℕ) (a b : List Cell) → AreCellsFrom view low (a ++ b) → AreCellsFrom view low a
    × AreCellsFrom view (least_after low a) b
cells_parts view low a b are =
    let each = all_parts (IsCellOf view) a b are.0 in
    let up = climbs_parts low a b are.1 in
    ((each.0, up.0), (each.1, up.1))

both : (a b : Bool) → IsTrue (a && b) → IsTrue a × IsTrue b
both true true = λ yes. (refl, refl)
both true false = λ yes. cc
both false b = λ yes. cc

of_both : (a b : Bool) → IsTrue a → IsTrue b → IsTrue (a && b)
of_both true true = λ one other. refl
of_both true false = λ one other. cc
of_both false b = λ one other. cc

-- one cell more keeps the rules where it may follow those before it
pub rules_more : (view : View) (low next : ℕ) (cells more : List Cell) (cell : Cell) (fine follows : Bool)
    → more ≡ cells ++ cell ∷ [] → next ≡ least_after low cells
    → (IsTrue fine ↔ AreCellsFrom view low cells)
    → (IsTrue follows ↔ (IsCellOf view cell × (next ≤ key_as_number cell.key)))
    → IsTrue (fine && follows) ↔ AreCellsFrom view low more
rules_more view low next cells more cell fine follows is next_is so_far one =
    subst (λ (all : List Cell). IsTrue (fine && follows) ↔ AreCellsFrom view low all) (sym is) (
      λ yes.
          let two = both fine follows yes in
          let own = one.0 two.1 in
          cells_append view low cells (cell ∷ []) (so_far.0 two.0)
          (All-cons (IsCellOf view) cell [] own.0 (All-nil (IsCellOf view)), (omega (arith, own.1, next_is), tt)),
      λ rules.
          let parts = cells_parts view low cells (cell ∷ []) rules in
          of_both fine follows (so_far.1 parts.0)
          (one.1 (All-head (IsCellOf view) cell [] parts.1.0, omega (arith, parts.1.1.0, next_is))),
    )

pub least_more : (low : ℕ) (cells more : List Cell) (cell : Cell) → more ≡ cells ++ cell ∷ []
    → key_as_number cell.key + 1 ≡ least_after low more
least_more low cells more cell is = sym (ap (least_after low) is ∙ least_append low cells (cell ∷ []))

-- ---- cells of a text
fits : (grouped : Bool) (n count left : ℕ) → cell_bytes grouped * n + left ≡ cell_bytes grouped * count → n ≤ count
fits false n count left same = omega (arith, same)
fits true n count left same = omega (arith, same)

-- cells whose bytes other cells begin with are the first of these
front : (grouped : Bool) (cells all : List Cell) (left : List ℕ) → All (IsReadableCell grouped) cells
    → All (IsReadableCell grouped) all → length cells ≤ length all
    → flat_map (cell_of grouped) cells ++ left ≡ flat_map (cell_of grouped) all → (rest : List Cell)
    × (all ≡ cells ++ rest) × (left ≡ flat_map (cell_of grouped) rest) × All (IsReadableCell grouped) rest
front grouped cells all left are also few same =
    let n : ℕ = length cells in
    let f = cell_of grouped in
    let halves = take-append-drop n all in
    let readable =
    all_parts (IsReadableCell grouped) (take n all) (drop n all)
    (subst (All (IsReadableCell grouped)) (sym halves) also) in
    let parts = cells-one grouped cells (take n all) left (flat_map f (drop n all)) are readable.0
    (omega (arith, few, length-take n all))
    (same ∙ ap (flat_map f) (sym halves) ∙ flat_map-append f (take n all) (drop n all)) in
    (drop n all, sym halves ∙ ap (λ (l : List Cell). l ++ drop n all) (sym parts.0), parts.1, readable.1)

-- places in bytes
pub place_on : (grouped : Bool) (done n : ℕ)
    → 20 + cell_bytes grouped * done + cell_bytes grouped * n ≡ 20 + cell_bytes grouped * (done + n)
place_on false done n = omega arith
place_on true done n = omega arith

-- ---- a run, of which some cells are left
module _ (bytes : List ℕ) (run : RunPlace) (cells : List Cell) (left : AreLeft (Some bytes) run cells) where
  abbrev grouped : Bool
  grouped = run.head.view.ship_mode

  abbrev f : Cell → List ℕ
  f = cell_of grouped

  abbrev whole : List Cell
  whole = left.before ++ cells

  -- the bytes from a cell on
  pub rest_at : (some rest : List Cell) → cells ≡ some ++ rest
      → drop (20 + cell_bytes grouped * (run.done + length some)) bytes ≡ flat_map f rest
  rest_at some rest parts =
      let head : List ℕ = run_header (name_of grouped) (index_of run.head.view) run.head.span.from run.head.span.to
      (length whole) in
      let done : List Cell = left.before ++ some in
      let start : List ℕ = head ++ flat_map f done in
      let split : whole ≡ done ++ rest = ap (λ (xs : List Cell). left.before ++ xs) parts
      ∙ sym (append_assoc left.before some rest) in
      let all : bytes ≡ start ++ flat_map f rest =
      left.is.spelled ∙ ap (λ (xs : List Cell). head ++ flat_map f xs) split
      ∙ ap (λ (xs : List ℕ). head ++ xs) (flat_map-append f done rest)
      ∙ sym (append_assoc head (flat_map f done) (flat_map f rest)) in
      let many : length done ≡ run.done + length some = omega (arith, length-append left.before some, left.done) in
      let size : length start ≡ 20 + cell_bytes grouped * (run.done + length some) =
      length-append head (flat_map f done)
      ∙ (λ i. length-header_of (name_of grouped) (index_of run.head.view) run.head.span.from run.head.span.to
      (length whole) (length-name_of grouped) i + length-cells grouped done i)
      ∙ ap (λ (m : ℕ). 20 + cell_bytes grouped * m) many in
      ap (λ (m : ℕ). drop m bytes) (sym size) ∙ ap (drop (length start)) all ∙ drop-append_seam start (flat_map f rest)

  rest_is : drop (20 + cell_bytes grouped * run.done) bytes ≡ flat_map f cells
  rest_is = ap (λ (m : ℕ). drop (20 + cell_bytes grouped * m) bytes) (omega arith) ∙ rest_at [] cells refl

  pub readable : All (IsReadableCell grouped) cells
  readable = (all_parts (IsReadableCell grouped) left.before cells
      (are_readable (cells_of run.head.view whole) left.is.proper)).1

  pub each : All (IsCellOf run.head.view) cells
  each = (all_parts (IsCellOf run.head.view) left.before cells left.is.proper.rules.each).1

  -- ---- a piece
  module _ (n : ℕ) (new : List ℕ) (piece : List Cell) (reads : ReadsCells grouped n run.ahead new piece)
      (few : run.done + n ≤ run.head.count) where
    abbrev later : List ℕ
    later = drop (length run.ahead) (flat_map f cells)

    left_is : flat_map f cells ≡ flat_map f piece ++ (new ++ later)
    left_is =
        sym (take-append-drop (length run.ahead) (flat_map f cells))
        ∙ ap (λ (xs : List ℕ). take (length run.ahead) xs ++ later) (sym rest_is)
        ∙ ap (λ (xs : List ℕ). xs ++ later) (sym left.ahead ∙ reads.spelled)
        ∙ append_assoc (flat_map f piece) new later

    found : (rest : List Cell) × (cells ≡ piece ++ rest) × (new ++ later ≡ flat_map f rest)
        × All (IsReadableCell grouped) rest
    found = front grouped piece cells (new ++ later) reads.readable readable
        (omega (arith, few, left.many, left.done, reads.many)) (sym left_is)

    -- its cells keep the rules
    keeps_rules : AreCellsFrom run.head.view run.least piece × Climbs (least_after run.least piece) found.0
    keeps_rules =
        let parts = climbs_parts run.least piece found.0 (subst (Climbs run.least) found.1 left.climb) in (
          (
            (all_parts (IsCellOf run.head.view) piece found.0 (subst (All (IsCellOf run.head.view)) found.1 each)).0,
            parts.0,
          ),
          parts.1,
        )

-- each of them is a cell of the view that fits, and none has a key below the least
pub cells_left : (text : Option (List ℕ)) (run : RunPlace) (cells : List Cell) → AreLeft text run cells
    → (k : ℕ) (d : Cell) → k < length cells
    → IsCellOf run.head.view (get_or cells k d) × KeyFits (get_or cells k d).key
    × (run.least ≤ key_as_number (get_or cells k d).key)
cells_left None run cells left k d within = absurd left.is
cells_left (Some bytes) run cells left k d within = (
  each bytes run cells left k d within,
  (readable bytes run cells left k d within).fits.key,
  all_from run.least cells left.climb k d within,
)

-- where all were read or passed over, none is
pub none_left : (text : Option (List ℕ)) (run : RunPlace) (cells : List Cell) → AreLeft text run cells
    → run.done ≡ run.head.count → cells ≡ []
none_left text run [] left all = refl
none_left text run (cell ∷ cells) left all = absurd (omega (arith, left.many, left.done, all))

-- ---- further on
-- bytes of a text further on
pub gives_later : (text : Option (List ℕ)) (at m : ℕ) (part : List ℕ) → m ≤ length part → Gives text at part
    → Gives text (at + m) (drop m part)
gives_later None at m part few gives = absurd gives
gives_later (Some bytes) at m part few gives =
    let rest : List ℕ = drop at bytes in
    let size : length part ≡ m + (length part - m) = omega (arith, few) in
    let many : length (drop m part) ≡ length part - m = length-drop m part in
    ap (drop m) (gives ∙ ap (λ (n : ℕ). take n rest) size)
    ∙ drop-take m (length part - m) rest
    ∙ ap (λ (n : ℕ). take n (drop m rest)) (sym many)
    ∙ ap (take (length (drop m part))) (drop-drop m at bytes)

-- no byte
pub gives_none : (text : Option (List ℕ)) (at other : ℕ) (part : List ℕ) → Gives text at part → Gives text other []
gives_none None at other part gives = absurd gives
gives_none (Some bytes) at other part gives = refl

-- fewer cells are left
pub moved : (text : Option (List ℕ)) (run next : RunPlace) (cells some rest : List Cell) → AreLeft text run cells
    → cells ≡ some ++ rest → next.head ≡ run.head → next.done ≡ run.done + length some
    → Climbs next.least rest → Gives text (20 + cell_bytes next.head.view.ship_mode * next.done) next.ahead
    → AreLeft text next rest
moved text run next cells some rest left parts head done climb ahead =
    let split : left.before ++ cells ≡ (left.before ++ some) ++ rest = ap (λ (xs : List Cell). left.before ++ xs) parts
    ∙ sym (append_assoc left.before some rest) in
    record {
      before = left.before ++ some;
      is = subst (λ (h : RunHead). IsRunOf text h ((left.before ++ some) ++ rest)) (sym head)
          (subst (IsRunOf text run.head) split left.is);
      many = omega (
        arith,
        left.many,
        ap length parts,
        length-append some rest,
        length-append left.before some,
        ap (λ (h : RunHead). h.count) head,
      );
      done = omega (arith, length-append left.before some, left.done, done);
      climb = climb;
      ahead = ahead;
    }

module _ (text : Option (List ℕ)) (run : RunPlace) (cells : List Cell) (left : AreLeft text run cells) where
  -- other bytes are ahead
  pub with_gives : (place : ℕ) (ahead : List ℕ) → place ≡ 20 + cell_bytes run.head.view.ship_mode * run.done
      → Gives text place ahead
      → AreLeft text (record { id = run.id; head = run.head; done = run.done; least = run.least; ahead = ahead }) cells
  with_gives place ahead at gives = record {
    before = left.before;
    is = left.is;
    many = left.many;
    done = left.done;
    climb = left.climb;
    ahead = subst (λ (n : ℕ). Gives text n ahead) at gives;
  }

-- the cells of a piece were read
pub more : (text : Option (List ℕ)) (run : RunPlace) (cells : List Cell) → AreLeft text run cells
    → (n : ℕ) (new : List ℕ) (piece : List Cell) → ReadsCells run.head.view.ship_mode n run.ahead new piece
    → run.done + n ≤ run.head.count
    → (next : RunPlace) → next.head ≡ run.head → next.done ≡ run.done + n → next.least ≡ least_after run.least piece
    → next.ahead ≡ drop (cell_bytes run.head.view.ship_mode * n) run.ahead → ReadsOn text cells next piece
more None run cells left n new piece reads few next head done least ahead = absurd left.is
more (Some bytes) run cells left n new piece reads few next head done least ahead =
    let part = found bytes run cells left n new piece reads few in
    let rules = keeps_rules bytes run cells left n new piece reads few in
    let size : ℕ = cell_bytes run.head.view.ship_mode in
    let enough : size * n ≤ length run.ahead = omega (arith, reads.left) in
    let place : 20 + size * run.done + size * n ≡ 20 + cell_bytes next.head.view.ship_mode * next.done =
    place_on run.head.view.ship_mode run.done n ∙ (λ i. 20 + cell_bytes (sym head i).view.ship_mode * sym done i) in
    record {
      rest = part.0;
      parts = part.1;
      now = moved (Some bytes) run next cells piece part.0 left part.1 head
          (done ∙ ap (λ (m : ℕ). run.done + m) (sym reads.many))
          (subst (λ (m : ℕ). Climbs m part.0) (sym least) rules.1)
          (subst (Gives (Some bytes) (20 + cell_bytes next.head.view.ship_mode * next.done)) (sym ahead)
          (subst (λ (m : ℕ). Gives (Some bytes) m (drop (size * n) run.ahead)) place
          (gives_later (Some bytes) (20 + size * run.done) (size * n) run.ahead enough left.ahead)));
    }

-- where they keep no rules the text is no run
pub none : (text : Option (List ℕ)) (run : RunPlace) (cells : List Cell) → AreLeft text run cells
    → (n : ℕ) (new : List ℕ) (piece : List Cell) → ReadsCells run.head.view.ship_mode n run.ahead new piece
    → run.done + n ≤ run.head.count
    → (AreCellsFrom run.head.view run.least piece → ⊥) → ⊥
none None run cells left n new piece reads few refuses = absurd left.is
none (Some bytes) run cells left n new piece reads few refuses =
    refuses (keeps_rules bytes run cells left n new piece reads few).0

-- ---- the header
pub opened : (bytes ahead rest : List ℕ) (total id : ℕ) (head : RunHead) → length bytes ≡ total
    → ahead ≡ take (length ahead) bytes → IsHeadFor total head → ahead ≡ bytes_of_head head ++ rest
    → IsAtFirst (Some bytes) (record { id = id; head = head; done = 0; least = 0; ahead = drop 20 ahead })
opened bytes ahead rest total id head many gives own spelled span plain is =
    let later : List ℕ = drop (length ahead) bytes in
    let size : length (bytes_of_head head) ≡ 20 =
    length-header_of (name_of head.view.ship_mode) (index_of head.view) head.span.from head.span.to head.count
    (length-name_of head.view.ship_mode) in
    let all : bytes ≡ bytes_of_head head ++ (rest ++ later) =
    sym (take-append-drop (length ahead) bytes) ∙ ap (λ (xs : List ℕ). xs ++ later) (sym gives ∙ spelled)
    ∙ append_assoc (bytes_of_head head) rest later in
    let p = header-one (name_of head.view.ship_mode) (name_of plain.view.ship_mode) (index_of head.view) head.span.from
    head.span.to head.count
    (index_of plain.view) span.from span.to (length plain.cells) (rest ++ later)
    (flat_map (cell_of plain.view.ship_mode) plain.cells)
    (length-name_of head.view.ship_mode) (length-name_of plain.view.ship_mode) (omega (arith, views_below head.view))
    (omega (arith, own.span.some, own.span.fits)) own.span.fits (omega (arith, own.few))
    (omega (arith, views_below plain.view)) (omega (arith, is.span.some, is.span.fits)) is.span.fits
    (omega (arith, is.proper.rules.few))
    (sym all ∙ is.spelled) in
    let view : head.view ≡ plain.view = sym (one_view plain.view head.view (sym p.1)) in
    let head_is : ◌≡◌ {A = RunHead}
    (record { view = head.view; span = record { from = head.span.from; to = head.span.to }; count = head.count })
    (record { view = plain.view; span = record { from = span.from; to = span.to }; count = length plain.cells }) =
    λ i. record { view = view i; span = record { from = p.2 i; to = p.3 i }; count = p.4 i } in (
      head_is,
      record {
        before = [];
        is = subst (λ (h : RunHead). IsRunOf (Some bytes) h plain.cells) (sym head_is) is;
        many = omega (arith, p.4);
        done = refl;
        climb = climb plain.cells is.proper.rules.ascending;
        ahead = subst (λ (n : ℕ). Gives (Some bytes) n (drop 20 ahead)) (start head.view.ship_mode)
            (gives_later (Some bytes) 0 20 ahead
            (omega (arith, ap length spelled, length-append (bytes_of_head head) rest, size)) gives);
      },
    )
  where
    start : (g : Bool) → 0 + 20 ≡ 20 + cell_bytes g * 0
    start false = refl
    start true = refl

pub opened_text : (text : Option (List ℕ)) (ahead rest : List ℕ) (total id : ℕ) (head : RunHead)
    → Some total ≡ option_map length text → Gives text 0 ahead → IsHeadFor total head
    → ahead ≡ bytes_of_head head ++ rest
    → IsAtFirst text (record { id = id; head = head; done = 0; least = 0; ahead = drop 20 ahead })
opened_text None ahead rest total id head many gives is spelled = absurd gives
opened_text (Some bytes) ahead rest total id head many gives is spelled =
    let size : total ≡ length bytes = cc many in
    opened bytes ahead rest total id head (sym size) gives is spelled

-- a header that was read from the first bytes of a text was read from the text
pub on_text : (text bytes new : List ℕ) (header : Header) → bytes ≡ take (length bytes) text
    → ReadsRunHeader bytes new header → ReadsRunHeader text (new ++ drop (length bytes) text) header
on_text text bytes new header gives reads =
    let later : List ℕ = drop (length bytes) text in
    let all : text ≡ bytes ++ later = sym (take-append-drop (length bytes) text)
    ∙ ap (λ (xs : List ℕ). xs ++ later) (sym gives) in
    record {
      fits = reads.fits;
      spelled = all ∙ ap (λ (xs : List ℕ). xs ++ later) reads.spelled
          ∙ append_assoc (run_header header.name.now header.view header.from header.to header.cells) new later;
      left = omega (arith, ap length all, length-append bytes later, length-append new later, reads.left);
    }

pub on_ok : {T E : Type 0} {A B : Type 0} (result : Result T E) → (A → B) → OnOk result A → OnOk result B
on_ok (Ok value) f a = f a
on_ok (Err e) f a = tt

pub few_more : (n a count done : ℕ) → n ≡ min a (count - done) → done ≤ count → done + n ≤ count
few_more n a count done is within = omega (arith, is, within)
