-- What the parts that were read say of the bytes. Our own.
use Rattle.std.proofs.Common.{◌≡◌, ◌⊎◌, ◌<◌, ◌≤◌, ◌+◌, ◌^◌, ◌∙◌, sym, ap, refl, subst, arith, cond, ℕ, true, false}
use Rattle.std.proofs.Common.{Some, None, Option, Result, Ok, Err, inl, inr, nat_lt, List, [], ◌∷◌, ◌++◌, length}
use Rattle.std.proofs.Common.{append_assoc, length-append, true≢false}
use Rattle.std.specs.Str.{bytes_eq}
use Rattle.std.specs.List.{flat_map, list_any, position_or_len}
use Rattle.std.proofs.lemmas.List.{flat_map_more}
use Rattle.std.proofs.lemmas.List.Elements.{All-head, All-nil, All-push, All-tail}
use Rattle.std.specs.Result.{IfErr, IsErrAnd}
use Rattle.cube_model.specs.declared.fault.Fault.{Fault}
use Rattle.cube_model.specs.declared.fault.Fault.TheVariants.{BadLayout, Memory}
use Rattle.wire.specs.Spelling.{spelling}
use Rattle.wire.specs.Reading.{ReadsNumber, TakesBytes}
use Rattle.wire.proofs.CallerLemmas.{length-spelling}
use Rattle.dictionary.specs.Dictionary.{Texts, Adds, EachOnce, code_of}
use Rattle.dictionary.specs.Spelling.{AreProper, AreShort, BeginsWithNone, ReadsTexts, text_spelling, texts_spelling}
use Rattle.dictionary.specs.Reading.{BeginsWithNew, BeginsWithShort, BeginsWithSome, ReadsEach, ReadsNew, ReadsShort}
use Rattle.dictionary.proofs.CallerLemmas.{EachOnce-push, absent, place_within, present}
use Rattle.dictionary.proofs.Texts.{AddsAt, IsShort, rest_after, new_after, text_spelling-one}

-- a text has a byte that says how long it is
pub no_length : (old : List ℕ) → length old < 1 → BeginsWithShort old → ⊥
no_length old short (text, rest, read) =
    absurd (omega (
      arith,
      ap length read.spelled ∙ length-append (text_spelling text) rest,
      length-append (spelling 1 (length text)) text,
      length-spelling 1 (length text),
    ))

-- and as many after it
pub no_text : (old mid : List ℕ) (count : ℕ) → ReadsNumber 1 old mid count → length mid < count → BeginsWithShort old
    → ⊥
no_text old mid count counted short (text, rest, read) =
    let back = counted.reads_back (length text) (text ++ rest) (omega (arith, read.short))
    (read.spelled ∙ append_assoc (spelling 1 (length text)) text rest) in
    absurd (omega (arith, back.0, ap length back.1 ∙ length-append text rest))

-- the length and so many bytes are a text
pub short_read : (old mid new text : List ℕ) (count : ℕ) → ReadsNumber 1 old mid count → TakesBytes count mid new text
    → ReadsShort old new text
short_read old mid new text count counted taken = record {
  short = omega (arith, counted.fits, taken.many);
  spelled = counted.spelled ∙ ap (λ (rest : List ℕ). spelling 1 count ++ rest) taken.spelled
      ∙ ap (λ (n : ℕ). spelling 1 n ++ (text ++ new)) (sym taken.many)
      ∙ sym (append_assoc (spelling 1 (length text)) text new);
}

-- a code is one of those that there are
code_within : (texts : List (List ℕ)) (text : List ℕ) (code : ℕ) → code_of texts text ≡ Some code → code < length texts
code_within texts text code is =
    let some = present texts text code is in
    let within = place_within (bytes_eq text) texts some in
    let test : nat_lt (position_or_len (bytes_eq text) texts) (length texts) ≡ true = grind arith in
    let here : Some (position_or_len (bytes_eq text) texts) ≡ Some code =
    sym (ap (λ b. cond b (Some (position_or_len (bytes_eq text) texts)) None) test) ∙ is in
    let same : position_or_len (bytes_eq text) texts ≡ code = cc in
    omega arith

-- a text that was added with the next code is new
pub new_read : (old new text : List ℕ) (before after : Texts) (code : ℕ) → ReadsShort old new text
    → Adds before text (Some code) after
    → length before.texts ≡ code → ReadsNew old new before after
new_read old new text before after code read adds next = first (code_of before.texts text) refl adds
  where
    first : (seen : Option ℕ) → code_of before.texts text ≡ seen → AddsAt before text seen (Some code) after
        → ReadsNew old new before after
    first None is adds = record { text = text; read = read; fresh = absent before.texts text is; added = adds.2 }
    first (Some c) is adds =
        let same : code ≡ c = cc adds.0 in
        let within = code_within before.texts text c is in absurd (omega arith)

-- a text that was not added with the next code is there, or there is no room
pub none_read : (old new text : List ℕ) (before after : Texts) (code : Option ℕ) → ReadsShort old new text
    → Adds before text code after
    → (code ≡ Some (length before.texts) → ⊥) → BeginsWithNew old before → ⊥
none_read old new text before after code read adds differs begins =
    let one = text_spelling-one text begins.text new begins.rest read.short begins.read.short
    (sym read.spelled ∙ begins.read.spelled) in
    let fresh : list_any (bytes_eq text) before.texts ≡ false =
    subst (λ (t : List ℕ). list_any (bytes_eq t) before.texts ≡ false) (sym one.0) begins.fresh in
    first (code_of before.texts text) refl adds fresh code refl
  where
    second : (found : Option ℕ) → code ≡ found → AddsAt before text None found after → ⊥
    second None is adds = absurd (omega (arith, adds.0, begins.room))
    second (Some c) is adds = differs (is ∙ ap (λ (n : ℕ). Some n) adds.0)

    first : (seen : Option ℕ) → code_of before.texts text ≡ seen → AddsAt before text seen code after
        → list_any (bytes_eq text) before.texts ≡ false
        → (found : Option ℕ) → code ≡ found → ⊥
    first None is adds fresh found found_is = second code refl adds
    first (Some c) is adds fresh found found_is = true≢false (sym (present before.texts text c is) ∙ fresh)

-- bytes that begin with no text begin with none that is new
pub none_new : (old : List ℕ) (before : Texts) → (BeginsWithShort old → ⊥) → BeginsWithNew old before → ⊥
none_new old before none begins = none (begins.text, begins.rest, begins.read)

-- one text more was read
pub each_more : (count : ℕ) (old mid new : List ℕ) (before between after : Texts)
    → ReadsEach count old mid before between → ReadsNew mid new between after
    → ReadsEach (count + 1) old new before after
each_more count old mid new before between after each one =
    let grown : after.texts ≡ between.texts ++ one.text ∷ [] = ap (λ (t : Texts). t.texts) one.added in
    let limit : after.limit ≡ between.limit = ap (λ (t : Texts). t.limit) one.added in
    let spelled : old ≡ flat_map text_spelling after.texts ++ new =
    each.spelled ∙ ap (λ (rest : List ℕ). flat_map text_spelling between.texts ++ rest) one.read.spelled
    ∙ sym (append_assoc (flat_map text_spelling between.texts) (text_spelling one.text) new)
    ∙ ap (λ (front : List ℕ). front ++ new) (flat_map_more text_spelling [] between.texts one.text)
    ∙ ap (λ (texts : List (List ℕ)). flat_map text_spelling texts ++ new) (sym grown) in
    record {
      limit = limit ∙ each.limit;
      many = omega (arith, ap length grown ∙ length-append between.texts (one.text ∷ []), each.many);
      each_once = subst EachOnce (sym grown) (EachOnce-push between.texts one.text each.each_once one.fresh);
      short = subst AreShort (sym grown) (All-push IsShort between.texts one.text each.short one.read.short);
      spelled = spelled;
    }

short_middle : (texts others : List (List ℕ)) (next : List ℕ) → AreShort (texts ++ next ∷ others) → IsShort next
short_middle [] others next short = All-head IsShort next others short
short_middle (text ∷ texts) others next short =
    short_middle texts others next (All-tail IsShort text (texts ++ next ∷ others) short)

-- bytes that begin with no text that is new, after so many
pub none_more : (count so_far : ℕ) (old mid : List ℕ) (before between : Texts) → ReadsEach so_far old mid before between
    → so_far < count
    → (BeginsWithNew mid between → ⊥) → BeginsWithSome count before.limit old → ⊥
none_more count so_far old mid before between each fewer none begins =
    let found = rest_after between.texts begins.texts mid begins.rest each.short begins.proper.short
    (omega (arith, each.many, begins.many)) (sym each.spelled ∙ begins.spelled) in
    let short = short_middle between.texts found.others found.next (subst AreShort found.whole begins.proper.short) in
    let many = ap length found.whole ∙ length-append between.texts (found.next ∷ found.others) in
    none (record {
      text = found.next;
      rest = flat_map text_spelling found.others ++ begins.rest;
      read = record { short = short; spelled = found.left_is };
      fresh = new_after between.texts found.others found.next (subst EachOnce found.whole begins.proper.each_once);
      room = omega (arith, many, begins.proper.most, each.limit);
    })

-- before the first text
pub each_none : (old : List ℕ) (before : Texts) → before.texts ≡ [] → ReadsEach 0 old old before before
each_none old before empty = record {
  limit = refl;
  many = ap length empty;
  each_once = subst EachOnce (sym empty) tt;
  short = subst AreShort (sym empty) (All-nil IsShort);
  spelled = sym (ap (λ (texts : List (List ℕ)). flat_map text_spelling texts ++ old) empty);
}

-- the number of texts is before them
pub no_count : (limit : ℕ) (old : List ℕ) → length old < 4 → BeginsWithNone limit old
no_count limit old short texts rest proper is =
    absurd (omega (
      arith,
      ap length is ∙ length-append (texts_spelling texts) rest,
      length-append (spelling 4 (length texts))
          (flat_map text_spelling texts),
      length-spelling 4 (length texts),
    ))

count_is : (limit count : ℕ) (old mid : List ℕ) (texts : List (List ℕ)) (rest : List ℕ) → limit < 2 ^ 32
    → ReadsNumber 4 old mid count → AreProper limit texts
    → old ≡ texts_spelling texts ++ rest → (count ≡ length texts) × (mid ≡ flat_map text_spelling texts ++ rest)
count_is limit count old mid texts rest small counted proper is =
    counted.reads_back (length texts) (flat_map text_spelling texts ++ rest) (omega (arith, proper.most))
    (is ∙ append_assoc (spelling 4 (length texts)) (flat_map text_spelling texts) rest)

pub too_many : (limit count : ℕ) (old mid : List ℕ) → limit < 2 ^ 32 → ReadsNumber 4 old mid count → limit < count
    → BeginsWithNone limit old
too_many limit count old mid small counted above texts rest proper is =
    let parts = count_is limit count old mid texts rest small counted proper is in
    absurd (omega (arith, parts.0, proper.most))

pub none_of : (limit count : ℕ) (old mid : List ℕ) → limit < 2 ^ 32 → ReadsNumber 4 old mid count
    → (BeginsWithSome count limit mid → ⊥) → BeginsWithNone limit old
none_of limit count old mid small counted none texts rest proper is =
    let parts = count_is limit count old mid texts rest small counted proper is in
    none (record { texts = texts; rest = rest; proper = proper; many = sym parts.0; spelled = parts.1 })

-- the number and so many texts are those of a dictionary
pub texts_read : (limit count : ℕ) (old mid new : List ℕ) (before after : Texts) → ReadsNumber 4 old mid count
    → count ≤ limit → ReadsEach count mid new before after
    → ReadsTexts limit old new after.texts
texts_read limit count old mid new before after counted few each = record {
  proper = record { each_once = each.each_once; short = each.short; most = omega (arith, each.many) };
  spelled = counted.spelled ∙ ap (λ (rest : List ℕ). spelling 4 count ++ rest) each.spelled
      ∙ ap (λ (n : ℕ). spelling 4 n ++ (flat_map text_spelling after.texts ++ new)) (sym each.many)
      ∙ sym (append_assoc (spelling 4 (length after.texts)) (flat_map text_spelling after.texts) new);
}

-- a refusal that is handed on
pub handed_on : {T : Type 0} (result : Result T Fault) (fault : Fault) (none more : Type 0)
    → IsErrAnd result (λ y. y ≡ fault) → (none → more)
    → (fault ≡ Memory) ⊎ ((fault ≡ BadLayout) × none) → IfErr result (λ y. (y ≡ Memory) ⊎ ((y ≡ BadLayout) × more))
handed_on (Ok value) fault none more stop so refused = absurd stop
handed_on (Err y) fault none more stop so (inl memory) = inl (stop ∙ memory)
handed_on (Err y) fault none more stop so (inr bad) = inr (stop ∙ bad.0, so bad.1)
