-- Lemmas of `laws`, by subject.
use Rattle.std.proofs.Common.{◌≡◌, ℕ, ◌+◌, List, [], ◌∷◌, ◌++◌, length, take, drop, map, reverse}
use Rattle.std.proofs.Common.{sym, ◌∙◌, ap, subst, arith, ◌^◌, ◌-◌, ◌<◌, refl, append_assoc, length-append}
use Rattle.std.proofs.lemmas.List.{reverse-append, take-append-drop, drop-map, length-drop, length-map, length-reverse}
use Rattle.std.proofs.lemmas.List.{take_at}
use Rattle.std.proofs.Math.Seq.{drop-append-add}
use Rattle.sector_device.specs.Memory.{content}
use Rattle.sector_device.specs.History.{FileMayHold}
use Rattle.sector_device.specs.declared.event.Event.{Event}
use Rattle.sector_device.specs.EventRuns.{sectors_in}
use Rattle.journal_device.specs.Calls.{event_of, record_of, IsWithin, journal_of, spelled_call}
use Rattle.journal_device.specs.Lawful.{PrefixIsLeft, SpellsOneList}
use Rattle.journal_device.specs.declared.call.Call.{Call}
use Rattle.std.proofs.lemmas.List.Elements.{All-head, All-tail}
use Rattle.wire.specs.Spelling.{spelling}
use Rattle.wire.proofs.CallerLemmas.{length-spelling, spelling-one}
use Rattle.journal_device.specs.declared.call.Call.TheVariants.{Write, Sync}

-- ==== What a crash leaves after some of the calls.

-- the record of the first calls is that of all without the newest
record_take : (n : ℕ) (calls : List Call) → record_of (take n calls) ≡ drop (length (drop n calls)) (record_of calls)
record_take n calls =
    let rest : List Call = reverse (drop n calls) in
    let long : length (drop n calls) ≡ length rest + 0 = omega (arith, length-reverse (drop n calls)) in
    let whole : reverse calls ≡ rest ++ reverse (take n calls) = ap reverse (sym (take-append-drop n calls))
    ∙ reverse-append (take n calls) (drop n calls) in
    let cut : drop (length (drop n calls)) (reverse calls) ≡ reverse (take n calls) =
    ap (λ (l : List Call). drop (length (drop n calls)) l) whole
    ∙ ap (λ (k : ℕ). drop k (rest ++ reverse (take n calls))) long
    ∙ drop-append-add rest (reverse (take n calls)) 0 in
    ap (map event_of) (sym cut) ∙ sym (drop-map event_of (length (drop n calls)) (reverse calls))

-- it has an event for each call
length-record : (calls : List Call) → length (record_of calls) ≡ length calls
length-record calls = length-map (reverse calls) event_of ∙ length-reverse calls

pub prefix_is_left : PrefixIsLeft
prefix_is_left image calls n left is =
    let start = content (sectors_in image) in record {
      ago = length (drop n calls);
      within = omega (arith, length-drop n calls, length-record calls);
      may = subst (λ (l : List Event). (i : ℕ) → FileMayHold start (λ i b. b ≡ start i) l i (left i))
          (record_take n calls) is;
    }

-- ==== A journal spells one list of calls.

never_empty : (call : Call) (rest : List ℕ) → [] ≡ spelled_call call ++ rest → ⊥
never_empty (Write i bytes) rest is =
    omega (
      arith,
      ap length is,
      length-append (spelling 4 i ++ bytes) rest,
      length-append (spelling 4 i) bytes,
      length-spelling 4 i,
    )
never_empty Sync rest is =
    omega (arith, ap length is, length-append (spelling 4 (2 ^ 32 - 1)) rest, length-spelling 4 (2 ^ 32 - 1))

-- bytes of one length before others
same_parts : (b e xs ys : List ℕ) → length b ≡ 512 → length e ≡ 512 → b ++ xs ≡ e ++ ys → (b ≡ e) × (xs ≡ ys)
same_parts b e xs ys many as_many is =
    let front : (z zs : List ℕ) → length z ≡ 512 → take 512 (z ++ zs) ≡ z = λ z zs long. take_at z zs 512 long in
    let back : (z zs : List ℕ) → length z ≡ 512 → drop 512 (z ++ zs) ≡ zs = λ z zs long.
    let many : 512 ≡ length z + 0 = omega (arith, long) in
    ap (λ (n : ℕ). drop n (z ++ zs)) many ∙ drop-append-add z zs 0 in (
      sym (front b xs many) ∙ ap (take 512) is ∙ front e ys as_many,
      sym (back b xs many) ∙ ap (drop 512) is
          ∙ back e ys as_many,
    )

one_call : (size : ℕ) (c d : Call) (xs ys : List ℕ) → size < 2 ^ 32 → IsWithin size c → IsWithin size d
    → spelled_call c ++ xs ≡ spelled_call d ++ ys → (c ≡ d) × (xs ≡ ys)
one_call size (Write i b) (Write j e) xs ys few c_in d_in is =
    let first =
    spelling-one 4 i j (b ++ xs) (e ++ ys) (omega (arith, few, (c_in i b refl).0))
    (omega (arith, few, (d_in j e refl).0)) (sym (append_assoc (spelling 4 i) b xs) ∙ is
    ∙ append_assoc (spelling 4 j) e ys) in
    let parts = same_parts b e xs ys (c_in i b refl).1 (d_in j e refl).1 first.1 in
    (ap (λ (k : ℕ). Write k b) first.0 ∙ ap (λ (l : List ℕ). Write j l) parts.0, parts.1)
one_call size (Write i b) Sync xs ys few c_in d_in is =
    let first = spelling-one 4 i (2 ^ 32 - 1) (b ++ xs) ys (omega (arith, few, (c_in i b refl).0)) (omega arith)
    (sym (append_assoc (spelling 4 i) b xs) ∙ is) in
    absurd (omega (arith, few, (c_in i b refl).0, first.0))
one_call size Sync (Write j e) xs ys few c_in d_in is =
    let first = spelling-one 4 (2 ^ 32 - 1) j xs (e ++ ys) (omega arith) (omega (arith, few, (d_in j e refl).0))
    (is ∙ append_assoc (spelling 4 j) e ys) in
    absurd (omega (arith, few, (d_in j e refl).0, first.0))
one_call size Sync Sync xs ys few c_in d_in is =
    (refl, (spelling-one 4 (2 ^ 32 - 1) (2 ^ 32 - 1) xs ys (omega arith) (omega arith) is).1)

pub spells_one_list : SpellsOneList
spells_one_list size [] [] few one_in other_in is = refl
spells_one_list size [] (d ∷ ds) few one_in other_in is = absurd (never_empty d (journal_of ds) is)
spells_one_list size (c ∷ cs) [] few one_in other_in is = absurd (never_empty c (journal_of cs) (sym is))
spells_one_list size (c ∷ cs) (d ∷ ds) few one_in other_in is =
    let both = one_call size c d (journal_of cs) (journal_of ds) few (All-head (IsWithin size) c cs one_in)
    (All-head (IsWithin size) d ds other_in) is in
    let others : cs ≡ ds =
    spells_one_list size cs ds few (All-tail (IsWithin size) c cs one_in) (All-tail (IsWithin size) d ds other_in)
    both.1 in
    ap (λ (x : Call). x ∷ cs) both.0 ∙ ap (λ (l : List Call). d ∷ l) others
